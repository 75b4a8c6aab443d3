-- What answers and effects do to the frames of a thread: it goes on from the same beginning, or it ends, and then the root that began it is answered.
use Rattle.std.proofs.Common.{◌≡◌, refl, sym, ap, subst, ◌∙◌, ℕ, Bool, true, false, ◌&&◌, List, [], ◌∷◌, ◌++◌, Option, None, Some, if◌then◌else◌}
use Rattle.std.proofs.lemmas.Bool.{and_parts, and_from, false≢true}
use Rattle.message_model.specs.Messages.{Answer, returned, raised, reply}
use Rattle.uno_model.specs.Values.{Ref, null, own, peer, Plain, refs}
use Rattle.uno_model.specs.Values as v
use Rattle.table_model.specs.declared.holder.Holder.{Holder}
use Rattle.table_model.specs.declared.holder.Holder.TheVariants as holder
use Rattle.plan_model.specs.Frames.{Variable, Body, Frame, base, body, outgoing, Outgoing, first_frame}
use Rattle.plan_model.specs.Holdings.{is_taken, let_go_at_end, reference_of, goes_on}
use Rattle.plan_model.specs.Leaving.{leaving_frame}
use Rattle.bridge_model.specs.Calls.{Unwound}
use Rattle.bridge_model.specs.Handing.{taken_by, goes_on_with, statement_at, root_gets, lets_go_frame, answers_peer, holder_of, gains_with, gains_below, takes_with, takes_below, hands_over, hands, hands_down, ends_frame, hands_from_peer}
use Rattle.bridge_model.specs.References.{says, lets_go_all, refs_of_answer}
use Rattle.bridge_model.specs.Settings.{Setting, own_oid}
use Rattle.bridge_model.specs.Sides.{RootState, idle, waits_call, waits_query, answered, Outcome, answer, Tables, state_of, states_with, with_root}
use Rattle.bridge_laws.proofs.RootStateLaws.{Stay, stay_gains_all, stay_takes_all, stay_lets_go_all}
use Rattle.bridge_laws.specs.Grounded.{is_caller, is_awaited, may_stand_on, is_stack, is_live, began}

-- ---- stacks

-- what becomes of the frames of a thread and of the roots: the thread goes on, its root is answered, or a thread of the peer's ends
pub data Moved (fs : List Frame) (roots : List RootState) (gs : List Frame) (now : List RootState) : Type 0 where
  still : is_live fs ≡ true → is_live gs ≡ true → began gs ≡ began fs → now ≡ roots → Moved fs roots gs now
  root_ends : (root : ℕ) → (o : Outcome) → began fs ≡ Some root → gs ≡ [] → now ≡ states_with root (answered o) roots → Moved fs roots gs now
  peer_ends : began fs ≡ None → gs ≡ [] → now ≡ roots → Moved fs roots gs now

-- ---- parts of a stack

pub stack_below : (f : Frame) (fs : List Frame) → is_stack (f ∷ fs) ≡ true → (may_stand_on f (first_frame fs) ≡ true) × (is_stack fs ≡ true)
unfolding is_stack
stack_below f fs is = and_parts (may_stand_on f (first_frame fs)) (is_stack fs) is

pub stack_of : (f : Frame) (fs : List Frame) → may_stand_on f (first_frame fs) ≡ true → is_stack fs ≡ true → is_stack (f ∷ fs) ≡ true
unfolding is_stack
stack_of f fs stands is = and_from (may_stand_on f (first_frame fs)) (is_stack fs) stands is

pub began_body : (b : Body) (fs : List Frame) → began (body b ∷ fs) ≡ began fs
began_body b [] = refl
began_body b (f ∷ fs) = refl

pub began_outgoing : (o : Outgoing) (fs : List Frame) → began (outgoing o ∷ fs) ≡ began fs
began_outgoing o [] = refl
began_outgoing o (f ∷ fs) = refl

-- what moves below a method moves with it
pub below_body : (b : Body) (fs : List Frame) (roots : List RootState) (gs : List Frame) (now : List RootState) → is_stack (body b ∷ fs) ≡ true
    → Moved fs roots gs now → Moved (body b ∷ fs) roots gs now
below_body b fs roots gs now is (still live lives same stay) = still is lives (same ∙ sym (began_body b fs)) stay
below_body b fs roots gs now is (root_ends root o from none changed) = root_ends root o (began_body b fs ∙ from) none changed
below_body b fs roots gs now is (peer_ends from none stay) = peer_ends (began_body b fs ∙ from) none stay

pub below_outgoing : (o : Outgoing) (fs : List Frame) (roots : List RootState) (gs : List Frame) (now : List RootState) → is_stack (outgoing o ∷ fs) ≡ true
    → Moved fs roots gs now → Moved (outgoing o ∷ fs) roots gs now
below_outgoing o fs roots gs now is (still live lives same stay) = still is lives (same ∙ sym (began_outgoing o fs)) stay
below_outgoing o fs roots gs now is (root_ends root x from none changed) = root_ends root x (began_outgoing o fs ∙ from) none changed
below_outgoing o fs roots gs now is (peer_ends from none stay) = peer_ends (began_outgoing o fs ∙ from) none stay

-- a method goes on as the same frame
pub goes_on_live : (b : Body) (xs : List Variable) (fs : List Frame) (roots now : List RootState) → is_stack (body b ∷ fs) ≡ true → now ≡ roots
    → Moved (body b ∷ fs) roots (body (goes_on xs b) ∷ fs) now
unfolding is_stack goes_on
goes_on_live b xs fs roots now is stay = still is is (began_body (goes_on xs b) fs ∙ sym (began_body b fs)) stay

peer_awaited : (b : Body) (below : Option Frame) → b.from_peer ≡ true → may_stand_on (body b) below ≡ true → is_awaited below ≡ true
peer_awaited b below called is = let on = ap (λ p. if p then is_awaited below else is_caller below) called in sym on ∙ is

-- a method that the peer called ends
peer_unwound : (b : Body) (fs : List Frame) (roots now : List RootState) → is_stack (body b ∷ fs) ≡ true → b.from_peer ≡ true → now ≡ roots → Moved (body b ∷ fs) roots fs now
peer_unwound b [] roots now is called stay = peer_ends refl refl stay
peer_unwound b (outgoing o ∷ fs) roots now is called stay = still is (stack_below (body b) (outgoing o ∷ fs) is).1 refl stay
peer_unwound b (base root ∷ fs) roots now is called stay =
    absurd (false≢true (peer_awaited b (Some (base root)) called (stack_below (body b) (base root ∷ fs) is).0))
peer_unwound b (body c ∷ fs) roots now is called stay =
    absurd (false≢true (peer_awaited b (Some (body c)) called (stack_below (body b) (body c ∷ fs) is).0))

-- ---- tables

-- what moves with these tables moves with others that have the same roots
pub from_roots : (fs : List Frame) (t u : Tables) (gs : List Frame) (now : List RootState) → Stay t u → Moved fs u.roots gs now → Moved fs t.roots gs now
from_roots fs t u gs now same moved = subst (λ roots. Moved fs roots gs now) same moved

to_roots : (fs : List Frame) (roots : List RootState) (gs : List Frame) (t u : Tables) → Stay t u → Moved fs roots gs t.roots → Moved fs roots gs u.roots
to_roots fs roots gs t u same moved = subst (λ now. Moved fs roots gs now) (sym same) moved

stay_frame : (g : Setting) (b : Body) (extra : List Ref) (t : Tables) → Stay t (lets_go_frame g b extra t)
stay_frame g b extra t = stay_lets_go_all g (holder.Frame b.number) (extra ++ let_go_at_end (own_oid g b.object) b) t

stay_answers : (g : Setting) (tid : List ℕ) (b : Body) (extra : List Ref) (a : Answer) (t : Tables) → Stay t (answers_peer g tid b extra a t)
unfolding says
stay_answers g tid b extra a t = stay_frame g b extra (says g (reply tid b.face b.function a) t)

stay_gains_with : (h : Option Holder) (rs : List Ref) (t : Tables) → Stay t (gains_with h rs t)
stay_gains_with None rs t = refl
stay_gains_with (Some h) rs t = stay_gains_all h rs t

pub stay_gains_below : (fs : List Frame) (a : Answer) (t : Tables) → Stay t (gains_below fs a t)
stay_gains_below [] a t = refl
stay_gains_below (f ∷ fs) a t = stay_gains_with (holder_of f) (refs_of_answer a) t

stay_takes_with : (g : Setting) (h : Option Holder) (rs : List Ref) (t : Tables) → Stay t (takes_with g h rs t)
stay_takes_with g None rs t = refl
stay_takes_with g (Some h) rs t = stay_takes_all g h rs t

stay_takes_below : (g : Setting) (fs : List Frame) (a : Answer) (t : Tables) → Stay t (takes_below g fs a t)
stay_takes_below g [] a t = refl
stay_takes_below g (f ∷ fs) a t = stay_takes_with g (holder_of f) (refs_of_answer a) t

stay_hands_over : (g : Setting) (b : Body) (extra : List Ref) (a : Answer) (fs : List Frame) (t : Tables) → Stay t (hands_over g b extra a fs t)
stay_hands_over g b extra a fs t = stay_frame g b extra (gains_below fs a t) ∙ stay_gains_below fs a t

-- ---- answers

-- a root has an outcome
pub root_answered : (g : Setting) (root : ℕ) (s : RootState) (a : Answer) (t : Tables) → (o : Outcome) × ((root_gets g root s a t).roots ≡ states_with root (answered o) t.roots)
unfolding root_gets
root_answered g root (waits_query wanted) (returned x outs) t =
    let o = answer (returned (v.ref (reference_of g.registry wanted x)) []) in
    (o, stay_lets_go_all g (holder.Root root) (if is_taken g.registry wanted x then [] else refs x) (with_root root (answered o) t))
root_answered g root (waits_query wanted) (raised k x) t = (answer (raised k x), refl)
root_answered g root idle a t = (answer a, refl)
root_answered g root waits_call a t = (answer a, refl)
root_answered g root (answered o) a t = (answer a, refl)

-- a root that is at the top stands alone
root_alone : (root : ℕ) (fs : List Frame) (roots now : List RootState) (o : Outcome) → is_stack (base root ∷ fs) ≡ true → now ≡ states_with root (answered o) roots
    → Moved (base root ∷ fs) roots [] now
root_alone root [] roots now o is changed = root_ends root o refl refl changed
root_alone root (f ∷ fs) roots now o is changed = absurd (false≢true (stack_below (base root) (f ∷ fs) is).0)

moved_if : (b : Bool) (fs : List Frame) (roots : List RootState) (u v : Unwound) → (b ≡ true → Moved fs roots u.frames u.tables.roots)
    → (b ≡ false → Moved fs roots v.frames v.tables.roots) → Moved fs roots (if b then u else v).frames (if b then u else v).tables.roots
moved_if true fs roots u v p q = p refl
moved_if false fs roots u v p q = q refl

pub moved_hands : (g : Setting) (tid : List ℕ) (a : Answer) (fs : List Frame) (t : Tables) → is_stack fs ≡ true
    → Moved fs t.roots (hands g tid a fs t).frames (hands g tid a fs t).tables.roots
unfolding hands goes_on_with
moved_hands g tid a [] t is = peer_ends refl refl refl
moved_hands g tid a (base root ∷ fs) t is =
    let got = root_answered g root (state_of root t.roots) a t in
    root_alone root fs t.roots (root_gets g root (state_of root t.roots) a t).roots got.0 is got.1
moved_hands g tid a (outgoing o ∷ fs) t is = still is is refl refl
moved_hands g tid (returned x outs) (body b ∷ fs) t is =
    let taken = taken_by g (statement_at g t.objects b) x outs b.variables in
    goes_on_live b taken.variables fs t.roots (lets_go_all g (holder.Frame b.number) taken.let_go t).roots is (stay_lets_go_all g (holder.Frame b.number) taken.let_go t)
moved_hands g tid (raised k x) (body b ∷ fs) t is =
    let left = leaving_frame g.registry tid b (raised k x) in
    let over = hands_over g b (refs x) left fs t in
    let below = (stack_below (body b) fs is).1 in
    moved_if b.from_peer (body b ∷ fs) t.roots _ _
    (λ called. peer_unwound b fs t.roots _ is called (stay_answers g tid b (refs x) left t))
    (λ local. below_body b fs t.roots _ _ is (from_roots fs t over _ _ (stay_hands_over g b (refs x) left fs t) (moved_hands g tid left fs over below)))

moved_down : (g : Setting) (tid : List ℕ) (b : Body) (a : Answer) (fs : List Frame) (t : Tables) → is_stack (body b ∷ fs) ≡ true
    → Moved (body b ∷ fs) t.roots (hands_down g tid b a fs t).frames (hands_down g tid b a fs t).tables.roots
moved_down g tid b (returned x outs) fs t is =
    let below = gains_below fs (returned x outs) t in
    let u = hands g tid (returned x outs) fs below in
    below_body b fs t.roots _ _ is
    (to_roots fs t.roots u.frames u.tables (lets_go_frame g b [] u.tables) (stay_frame g b [] u.tables)
    (from_roots fs t below _ _ (stay_gains_below fs (returned x outs) t) (moved_hands g tid (returned x outs) fs below (stack_below (body b) fs is).1)))
moved_down g tid b (raised k x) fs t is =
    let over = hands_over g b [] (raised k x) fs t in
    below_body b fs t.roots _ _ is (from_roots fs t over _ _ (stay_hands_over g b [] (raised k x) fs t) (moved_hands g tid (raised k x) fs over (stack_below (body b) fs is).1))

pub moved_ends : (g : Setting) (tid : List ℕ) (b : Body) (a : Answer) (fs : List Frame) (t : Tables) → is_stack (body b ∷ fs) ≡ true
    → Moved (body b ∷ fs) t.roots (ends_frame g tid b a fs t).frames (ends_frame g tid b a fs t).tables.roots
unfolding ends_frame
moved_ends g tid b a fs t is =
    moved_if b.from_peer (body b ∷ fs) t.roots _ _
    (λ called. peer_unwound b fs t.roots _ is called (stay_answers g tid b [] a t))
    (λ local. moved_down g tid b a fs t is)

pub moved_from_peer : (g : Setting) (tid : List ℕ) (a : Answer) (fs : List Frame) (t : Tables) → is_stack fs ≡ true
    → Moved fs t.roots (hands_from_peer g tid a fs t).frames (hands_from_peer g tid a fs t).tables.roots
unfolding hands_from_peer
moved_from_peer g tid a fs t is =
    let below = takes_below g fs a t in
    from_roots fs t below _ _ (stay_takes_below g fs a t) (moved_hands g tid a fs below is)
