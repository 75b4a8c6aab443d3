-- A thread that is somewhere has its root at the end that gave its name; so one of which neither end gave the name is nowhere.
use Rattle.std.proofs.Common.{◌≡◌, refl, sym, ap, ◌∙◌, ◌<◌, ◌^◌, ◌⊎◌, inl, inr, ℕ, zero, suc, Bool, true, false, not, List, [], ◌∷◌, length}
use Rattle.std.proofs.lemmas.Bool.{true≢false}
use Rattle.plan_model.specs.Frames.{Frame, frames_of}
use Rattle.bridge_model.specs.Histories.{Told}
use Rattle.bridge_model.specs.Settings.{is_own}
use Rattle.world_model.specs.Meetings.{Meets}
use Rattle.world_model.specs.Threads.{Shape, root, local, serves, out, shapes, Crossing, idle, runs, asked, answered, locals, upper, lower, is_even, View, turned, seen, Locks, view, IsNowhere}
use Rattle.world_model.specs.Worlds.{Settings, of_a, of_b, AreJoined, World, Event}
use Rattle.world_laws.proofs.InterlockLaws.{interlock, interlock_second}

-- ---- the root of a thread

unfoldable has_root : List Shape → Bool
has_root [] = false
has_root (root ∷ ss) = true
has_root (local ∷ ss) = has_root ss
has_root (serves f ∷ ss) = has_root ss
has_root (out k ∷ ss) = has_root ss

locals_root : (n : ℕ) (ss : List Shape) → has_root (locals n ss) ≡ has_root ss
unfolding has_root locals
locals_root zero ss = refl
locals_root (suc n) ss = locals_root n ss

twice : (b : Bool) → not (not b) ≡ b
twice true = refl
twice false = refl

-- it stands at the end that serves an even number of crossings
roots_are : (n : ℕ) (cs : List Crossing) → (has_root (upper n cs) ≡ is_even cs) × (has_root (lower n cs) ≡ not (is_even cs))
unfolding has_root upper lower is_even
roots_are n [] = (locals_root n (root ∷ []), refl)
roots_are n (c ∷ cs) = let below = roots_are n cs in (locals_root c.above (serves c.call.called ∷ lower n cs) ∙ below.1, below.0 ∙ sym (twice (is_even cs)))

-- ---- views

record IsEmpty (v : View) : Type 0 where
  here : v.mine ≡ []
  there : v.theirs ≡ []
  back : v.to_me ≡ []
  forth : v.to_them ≡ []

-- the end that gave the name has the root, and the other has not
record HasRoot (v : View) : Type 0 where
  mine : v.own ≡ has_root v.mine
  theirs : v.own ≡ not (has_root v.theirs)

empty_so : (v : View) (b : Bool) → v ≡ record { own = b; mine = []; theirs = []; to_me = []; to_them = [] } → IsEmpty v
empty_so v b is =
    record {
      here = ap (λ (z : View). z.mine) is;
      there = ap (λ (z : View). z.theirs) is;
      back = ap (λ (z : View). z.to_me) is;
      forth = ap (λ (z : View). z.to_them) is;
    }

root_so : (v : View) (b : Bool) (mine theirs : List Shape) → v.own ≡ b → v.mine ≡ mine → v.theirs ≡ theirs → has_root mine ≡ b → has_root theirs ≡ not b → HasRoot v
root_so v b mine theirs own here there one other =
    record { mine = own ∙ (sym one ∙ ap has_root (sym here)); theirs = own ∙ (sym (twice b) ∙ (ap not (sym other) ∙ ap (λ ss. not (has_root ss)) (sym there))) }

-- from the end whose frames are the upper ones, or from the other
root_above : (v w : View) (n : ℕ) (cs : List Crossing) → v ≡ w → w.own ≡ is_even cs → has_root w.mine ≡ has_root (upper n cs) → w.theirs ≡ lower n cs → HasRoot v
root_above v w n cs is own mine theirs =
    let both = roots_are n cs in
    root_so v (is_even cs) w.mine w.theirs (ap (λ (z : View). z.own) is ∙ own) (ap (λ (z : View). z.mine) is) (ap (λ (z : View). z.theirs) is) (mine ∙ both.0) (ap has_root theirs ∙ both.1)

root_below : (v w : View) (n : ℕ) (cs : List Crossing) → v ≡ w → w.own ≡ not (is_even cs) → w.mine ≡ lower n cs → has_root w.theirs ≡ has_root (upper n cs) → HasRoot v
root_below v w n cs is own mine theirs =
    let both = roots_are n cs in
    root_so v (not (is_even cs)) w.mine w.theirs (ap (λ (z : View). z.own) is ∙ own) (ap (λ (z : View). z.mine) is) (ap (λ (z : View). z.theirs) is) (ap has_root mine ∙ both.1)
    (theirs ∙ (both.0 ∙ sym (twice (is_even cs))))

locked : (v : View) → Locks v → IsEmpty v ⊎ HasRoot v
unfolding seen has_root
locked v (idle, real, inl is) = inl (empty_so v true is)
locked v (idle, real, inr is) = inl (empty_so v false is)
locked v (runs n cs, real, inl is) = inr (root_above v (seen (runs n cs)) n cs is refl refl refl)
locked v (runs n cs, real, inr is) = inr (root_below v (turned (seen (runs n cs))) n cs is refl refl refl)
locked v (asked k n cs, real, inl is) = inr (root_above v (seen (asked k n cs)) n cs is refl refl refl)
locked v (asked k n cs, real, inr is) = inr (root_below v (turned (seen (asked k n cs))) n cs is refl refl refl)
locked v (answered k n cs, real, inl is) = inr (root_above v (seen (answered k n cs)) n cs is refl refl refl)
locked v (answered k n cs, real, inr is) = inr (root_below v (turned (seen (answered k n cs))) n cs is refl refl refl)

-- ---- of neither end

no_frames : (fs : List Frame) → shapes fs ≡ [] → fs ≡ []
no_frames [] is = refl
no_frames (f ∷ fs) is = absurd (cc)

not_both : (b : Bool) → false ≡ not b → false ≡ b → ⊥
not_both true p q = true≢false (sym q)
not_both false p q = true≢false (sym p)

nowhere_by : (tid : List ℕ) (x y : Told) (v w : View) → v.mine ≡ shapes (frames_of tid x.side.stacks) → v.theirs ≡ shapes (frames_of tid y.side.stacks) → v.theirs ≡ w.mine → v.own ≡ false → w.own ≡ false
    → (IsEmpty v → IsNowhere tid x y) → (IsEmpty w → IsNowhere tid x y) → IsEmpty v ⊎ HasRoot v → IsEmpty w ⊎ HasRoot w → IsNowhere tid x y
nowhere_by tid x y v w mine theirs same one other here there (inl empty) locks = here empty
nowhere_by tid x y v w mine theirs same one other here there (inr root_there) (inl empty) = there empty
nowhere_by tid x y v w mine theirs same one other here there (inr roots) (inr more) =
    absurd (not_both (has_root v.theirs) (sym one ∙ roots.theirs) (sym other ∙ (more.mine ∙ ap has_root (sym same))))

pub nowhere_of_neither : (g : Settings) → AreJoined (of_a g) (of_b g) → length g.a.plan.threads < 2 ^ 64 → length g.b.plan.threads < 2 ^ 64 → (es : List Event) (w : World) → Meets g es w
    → (tid : List ℕ) → is_own (of_a g) tid ≡ false → is_own (of_b g) tid ≡ false → IsNowhere tid w.a.last w.b.last
nowhere_of_neither g joined a b es w met tid not_a not_b =
    let one = view (is_own (of_a g)) tid w.a.last w.b.last in
    let other = view (is_own (of_b g)) tid w.b.last w.a.last in
    nowhere_by tid w.a.last w.b.last one other refl refl refl not_a not_b
    (λ e. record { here = no_frames (frames_of tid w.a.last.side.stacks) e.here; there = no_frames (frames_of tid w.b.last.side.stacks) e.there; back = e.back; forth = e.forth })
    (λ e. record { here = no_frames (frames_of tid w.a.last.side.stacks) e.there; there = no_frames (frames_of tid w.b.last.side.stacks) e.here; back = e.forth; forth = e.back })
    (locked one (interlock g joined a b es w met tid)) (locked other (interlock_second g joined a b es w met tid))
