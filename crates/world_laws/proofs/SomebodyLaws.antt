-- An answer that comes is for somebody: under a call that waits for it runs a method, or a root waits.
use Rattle.std.proofs.Common.{◌≡◌, refl, ℕ, zero, suc, Bool, true, false, List, [], ◌∷◌, if◌then◌else◌}
use Rattle.message_model.specs.Messages.{Answer, returned, raised}
use Rattle.uno_model.specs.Entities.{Entity}
use Rattle.plan_model.specs.Frames.{Body, Frame, base, body, outgoing}
use Rattle.plan_model.specs.Leaving.{leaving_frame}
use Rattle.bridge_laws.specs.Outcomes.{nothing, for_peer, handed_down}
use Rattle.world_model.specs.Threads.{Crossing, Shape, root, local, serves, out, shape_of_body, shapes, locals, upper, lower}

-- below methods that were called from here stands the root, or a method that the other end called
unfoldable pub has_somebody : List Shape → Bool
has_somebody [] = false
has_somebody (root ∷ ss) = true
has_somebody (serves f ∷ ss) = true
has_somebody (out k ∷ ss) = false
has_somebody (local ∷ ss) = has_somebody ss

locals_have : (n : ℕ) (ss : List Shape) → has_somebody ss ≡ true → has_somebody (locals n ss) ≡ true
unfolding has_somebody locals
locals_have zero ss is = is
locals_have (suc n) ss is = locals_have n ss is

-- so it is of a thread that goes from end to end
pub upper_has : (n : ℕ) (cs : List Crossing) → has_somebody (upper n cs) ≡ true
unfolding upper has_somebody
upper_has n [] = locals_have n (root ∷ []) refl
upper_has n (c ∷ cs) = locals_have c.above (serves c.call.called ∷ lower n cs) refl

-- an exception ends a method of this end, and goes on to the frame below
by_raise : (reg : List Entity) (tid : List ℕ) (b : Body) (fs : List Frame) (a : Answer) (p : Bool) → has_somebody (shape_of_body p b ∷ shapes fs) ≡ true
    → (has_somebody (shapes fs) ≡ true → (c : Answer) → handed_down reg tid c fs ≡ nothing → ⊥) → (if p then for_peer b fs a else handed_down reg tid a fs) ≡ nothing → ⊥
unfolding has_somebody
by_raise reg tid b fs a true has below is = absurd (cc)
by_raise reg tid b fs a false has below is = below has a is

pub is_handed : (reg : List Entity) (tid : List ℕ) (fs : List Frame) → has_somebody (shapes fs) ≡ true → (a : Answer) → handed_down reg tid a fs ≡ nothing → ⊥
unfolding has_somebody handed_down
is_handed reg tid [] has a is = absurd (cc)
is_handed reg tid (base n ∷ fs) has a is = absurd (cc)
is_handed reg tid (outgoing o ∷ fs) has a is = absurd (cc)
is_handed reg tid (body b ∷ fs) has (returned x outs) is = absurd (cc)
is_handed reg tid (body b ∷ fs) has (raised k x) is =
    by_raise reg tid b fs (leaving_frame reg tid b (raised k x)) b.from_peer has (λ there c none. is_handed reg tid fs there c none) is
