-- What handing an answer says, keeps of the roots and leaves of the frames is what its fate says.
use Rattle.std.proofs.Common.{◌≡◌, refl, sym, ap, subst, ◌∙◌, ℕ, Bool, true, false, List, [], ◌∷◌, ◌++◌, if◌then◌else◌}
use Rattle.std.proofs.lemmas.List.{append-nil}
use Rattle.message_model.specs.Messages.{Message, Answer, returned, raised, reply}
use Rattle.uno_model.specs.Values.{Ref, Plain, refs}
use Rattle.plan_model.specs.Frames.{Body, Frame, base, body, outgoing}
use Rattle.table_model.specs.declared.holder.Holder.TheVariants as holder
use Rattle.plan_model.specs.Holdings.{is_taken, goes_on}
use Rattle.plan_model.specs.Leaving.{leaving_frame}
use Rattle.bridge_model.specs.Calls.{Unwound, unwound}
use Rattle.bridge_model.specs.Handing.{statement_at, taken_by, goes_on_with, root_gets, lets_go_frame, answers_peer, gains_below, hands_over, hands, hands_down, ends_frame, hands_from_peer, takes_below}
use Rattle.bridge_model.specs.References.{says}
use Rattle.bridge_model.specs.Settings.{Setting}
use Rattle.bridge_model.specs.Sides.{Object, answer, RootState, idle, waits_call, waits_query, answered, Tables, state_of, with_root}
use Rattle.bridge_laws.proofs.FrameCountLaws.{lets_go_all_objects}
use Rattle.bridge_laws.specs.Outcomes.{Fate, nothing, for_root, for_method, for_peer, handed_down, frame_ended, replies, replies_by, root_outcome, roots_by, FramesBy}
use Rattle.bridge_laws.proofs.NoReplyLaws.{says_replies, IsStill, still, then_still, still_lets_go_all, still_gains_below, still_takes_below}

-- tables and frames are as a fate says
pub record Given (g : Setting) (tid : List ℕ) (t : Tables) (h : Fate) (u : Unwound) : Type 0 where
  pub said : replies u.tables.unsaid ≡ replies t.unsaid ++ replies_by tid h
  pub roots : u.tables.roots ≡ roots_by g h t.roots
  pub left : FramesBy g u.tables.objects h u.frames

pub after_still : (g : Setting) (tid : List ℕ) (t u : Tables) (h : Fate) (x : Unwound) → IsStill t u → Given g tid u h x → Given g tid t h x
after_still g tid t u h x s is =
    record { said = is.said ∙ ap (λ ms. ms ++ replies_by tid h) s.mute; roots = is.roots ∙ ap (roots_by g h) s.stay; left = is.left }

pub before_still : (g : Setting) (tid : List ℕ) (t : Tables) (h : Fate) (fs : List Frame) (u x : Tables) → Given g tid t h (unwound fs u) → IsStill u x → x.objects ≡ u.objects → Given g tid t h (unwound fs x)
before_still g tid t h fs u x is s same =
    record { said = s.mute ∙ is.said; roots = s.stay ∙ is.roots; left = subst (λ os. FramesBy g os h fs) (sym same) is.left }

-- where nobody is answered
pub nothing_given : (g : Setting) (tid : List ℕ) (t : Tables) (u : Unwound) → IsStill t u.tables → Given g tid t nothing u
nothing_given g tid t u s = record { said = s.mute ∙ sym (append-nil (replies t.unsaid)); roots = s.stay; left = tt }

-- ---- a root

pub root_still : (g : Setting) (root : ℕ) (s : RootState) (a : Answer) (t : Tables) → IsStill (with_root root (answered (answer (root_outcome g s a))) t) (root_gets g root s a t)
unfolding root_gets
root_still g root (waits_query wanted) (returned x outs) t = still_lets_go_all g (holder.Root root) (if is_taken g.registry wanted x then [] else refs x) _
root_still g root (waits_query wanted) (raised k x) t = still _
root_still g root idle a t = still _
root_still g root waits_call a t = still _
root_still g root (answered o) a t = still _

root_given : (g : Setting) (tid : List ℕ) (root : ℕ) (a : Answer) (t : Tables) → Given g tid t (for_root root a) (unwound [] (root_gets g root (state_of root t.roots) a t))
root_given g tid root a t =
    let s = root_still g root (state_of root t.roots) a t in
    record { said = s.mute ∙ sym (append-nil (replies t.unsaid)); roots = s.stay; left = refl }

-- ---- a method

method_given : (g : Setting) (tid : List ℕ) (b : Body) (x : Plain) (outs : List Plain) (fs : List Frame) (t : Tables) → Given g tid t (for_method b fs x outs) (goes_on_with g b x outs fs t)
unfolding goes_on_with
method_given g tid b x outs fs t =
    let taken = taken_by g (statement_at g t.objects b) x outs b.variables in
    let s = still_lets_go_all g (holder.Frame b.number) taken.let_go t in
    record { said = s.mute ∙ sym (append-nil (replies t.unsaid)); roots = s.stay; left = ap goes_on_by (sym (lets_go_all_objects g (holder.Frame b.number) taken.let_go t)) }
  where
    goes_on_by : List Object → List Frame
    goes_on_by os = body (goes_on (taken_by g (statement_at g os b) x outs b.variables).variables b) ∷ fs

-- ---- the peer

says_stays : (g : Setting) (m : Message) (t : Tables) → (says g m t).roots ≡ t.roots
unfolding says
says_stays g m t = refl

peer_given : (g : Setting) (tid : List ℕ) (b : Body) (fs : List Frame) (extra : List Ref) (a : Answer) (t : Tables) → Given g tid t (for_peer b fs a) (unwound fs (answers_peer g tid b extra a t))
peer_given g tid b fs extra a t =
    let m = reply tid b.face b.function a in
    let s = still_lets_go_all g (holder.Frame b.number) _ (says g m t) in
    record { said = s.mute ∙ says_replies g m t; roots = s.stay ∙ says_stays g m t; left = refl }

-- ---- handing

still_over : (g : Setting) (b : Body) (extra : List Ref) (a : Answer) (fs : List Frame) (t : Tables) → IsStill t (hands_over g b extra a fs t)
still_over g b extra a fs t = then_still t (gains_below fs a t) _ (still_gains_below fs a t) (still_lets_go_all g (holder.Frame b.number) _ (gains_below fs a t))

given_if : (b : Bool) (g : Setting) (tid : List ℕ) (t : Tables) (h k : Fate) (u x : Unwound) → Given g tid t h u → Given g tid t k x → Given g tid t (if b then h else k) (if b then u else x)
given_if true g tid t h k u x p q = p
given_if false g tid t h k u x p q = q

pub hands_given : (g : Setting) (tid : List ℕ) (a : Answer) (fs : List Frame) (t : Tables) → Given g tid t (handed_down g.registry tid a fs) (hands g tid a fs t)
unfolding hands handed_down
hands_given g tid a [] t = nothing_given g tid t (unwound [] t) (still t)
hands_given g tid a (base root ∷ fs) t = root_given g tid root a t
hands_given g tid a (outgoing o ∷ fs) t = nothing_given g tid t (unwound (outgoing o ∷ fs) t) (still t)
hands_given g tid (returned x outs) (body b ∷ fs) t = method_given g tid b x outs fs t
hands_given g tid (raised k x) (body b ∷ fs) t =
    let left = leaving_frame g.registry tid b (raised k x) in
    let over = hands_over g b (refs x) left fs t in
    given_if b.from_peer g tid t (for_peer b fs left) (handed_down g.registry tid left fs) _ _
    (peer_given g tid b fs (refs x) left t)
    (after_still g tid t over _ _ (still_over g b (refs x) left fs t) (hands_given g tid left fs over))

-- ---- the end of a frame

down_given : (g : Setting) (tid : List ℕ) (b : Body) (a : Answer) (fs : List Frame) (t : Tables) → Given g tid t (handed_down g.registry tid a fs) (hands_down g tid b a fs t)
down_given g tid b (returned x outs) fs t =
    let below = gains_below fs (returned x outs) t in
    let u = hands g tid (returned x outs) fs below in
    before_still g tid t _ u.frames u.tables (lets_go_frame g b [] u.tables)
    (after_still g tid t below _ u (still_gains_below fs (returned x outs) t) (hands_given g tid (returned x outs) fs below))
    (still_lets_go_all g (holder.Frame b.number) _ u.tables)
    (lets_go_all_objects g (holder.Frame b.number) _ u.tables)
down_given g tid b (raised k x) fs t =
    let over = hands_over g b [] (raised k x) fs t in
    after_still g tid t over _ _ (still_over g b [] (raised k x) fs t) (hands_given g tid (raised k x) fs over)

pub ends_given : (g : Setting) (tid : List ℕ) (b : Body) (a : Answer) (fs : List Frame) (t : Tables) → Given g tid t (frame_ended g.registry tid b a fs) (ends_frame g tid b a fs t)
unfolding ends_frame
ends_given g tid b a fs t = given_if b.from_peer g tid t (for_peer b fs a) (handed_down g.registry tid a fs) _ _ (peer_given g tid b fs [] a t) (down_given g tid b a fs t)

pub from_peer_given : (g : Setting) (tid : List ℕ) (a : Answer) (fs : List Frame) (t : Tables) → Given g tid t (handed_down g.registry tid a fs) (hands_from_peer g tid a fs t)
unfolding hands_from_peer
from_peer_given g tid a fs t = after_still g tid t (takes_below g fs a t) _ _ (still_takes_below g fs a t) (hands_given g tid a fs (takes_below g fs a t))
