-- What a message leaves of a side that may run out of memory behind it.
use Rattle.std.proofs.Common.{◌≡◌, refl, sym, ap, ◌∙◌, ℕ, Bool, true, false, List, [], ◌∷◌, drop, Option, None, Some, if◌then◌else◌}
use Rattle.std.proofs.lemmas.Bool.{false≢true}
use Rattle.message_model.specs.Messages.{Answer, returned, raised, reply}
use Rattle.table_model.specs.declared.holder.Holder.TheVariants as holder
use Rattle.uno_model.specs.Values.{Plain, own}
use Rattle.plan_model.specs.Frames.{Body, Frame, Stack, base, body, outgoing, frames_of, popped}
use Rattle.bridge_frames.specs.Answered.{gets_all, root_reached}
use Rattle.bridge_frames.specs.Unwinding.{stacks_by}
use Rattle.bridge_frames.proofs.StackLemmas.{puts_below, puts_popped}
use Rattle.bridge_laws.proofs.FrameLaws.{began_body, stack_below}
use Rattle.bridge_laws.specs.Grounded.{is_stack, began, Thread, nothing, of_root, of_peer, HasRoots}
use Rattle.bridge_laws.proofs.ThreadLaws.{thread_stack}
use Rattle.bridge_laws.specs.Rooted.{waits}
use Rattle.bridge_model.specs.Calls.{serves, takes_call, first_body, counts_frame}
use Rattle.bridge_model.specs.Receiving.{answer_to, answers_at_once, asked_kind, below_top}
use Rattle.bridge_model.specs.Handing.{hands, hands_from_peer}
use Rattle.bridge_model.specs.Stacks.{puts_frames}
use Rattle.bridge_model.specs.References.{refs_of_values, takes_all}
use Rattle.bridge_model.specs.Settings.{Setting, own_oid}
use Rattle.bridge_model.specs.Sides.{RootState, Side, Tables, idle, waits_call, waits_query, answered, state_of}
use Rattle.bridge_tables.specs.EndTables.{with_frames_made}
use Rattle.bridge_tables.proofs.LastingLemmas.{frame_gains, frame_takes_all, lasts_said}
use Rattle.bridge_state.proofs.UndoLemmas.{rested}
use Rattle.bridge_state.specs.Hearing.{is_whole}

-- ---- requests

served_call : (g : Setting) (b : Body) (args : List Plain) (t : Tables) → rested (counts_frame (takes_call g b args t)) ≡ rested t
served_call g b args t =
    ap (with_frames_made 0) (frame_gains b.number (own (own_oid g b.object) b.face) (takes_all g (holder.Frame b.number) (refs_of_values args) t))
    ∙ ap (with_frames_made 0) (frame_takes_all b.number g (refs_of_values args) t)

pub served_rests : (g : Setting) (oid face : List ℕ) (function : ℕ) (args : List Plain) (fs : List Frame) (t : Tables) → rested (serves g oid face function args fs t).tables ≡ rested t
unfolding serves
served_rests g oid face function args fs t = served_call g (first_body g true oid face function args t) args t

pub answered_rests : (g : Setting) (tid oid face : List ℕ) (args : List Plain) (t : Tables) → rested (answers_at_once g tid oid face args t) ≡ rested t
answered_rests g tid oid face args t = ap (with_frames_made 0) (lasts_said g (reply tid face 0 (returned (answer_to g oid (asked_kind args) t.objects) [])) t)

-- ---- the root that a reply reaches

reached_began : (a : Answer) (fs : List Frame) (root : ℕ) → is_stack fs ≡ true → root_reached a fs ≡ Some root → began fs ≡ Some root
unfolding root_reached
reached_began a [] root stack is = absurd (cc)
reached_began a (base r ∷ []) root stack is = is
reached_began a (base r ∷ (f ∷ fs)) root stack is = absurd (false≢true (stack_below (base r) (f ∷ fs) stack).0)
reached_began a (outgoing o ∷ fs) root stack is = absurd (cc)
reached_began (returned x outs) (body b ∷ fs) root stack is = absurd (cc)
reached_began (raised k x) (body b ∷ fs) root stack is = began_body b fs ∙ reached_began (raised k x) fs root (stack_below (body b) fs stack).1 (below b.from_peer is)
  where
    below : (c : Bool) → (if c then None else root_reached (raised k x) fs) ≡ Some root → root_reached (raised k x) fs ≡ Some root
    below true is = absurd (cc)
    below false is = is

-- below the top frame
below_began : (a : Answer) (fs : List Frame) (root : ℕ) → is_stack fs ≡ true → root_reached a (below_top fs) ≡ Some root → began fs ≡ Some root
unfolding root_reached
below_began a [] root stack is = absurd (cc)
below_began a (f ∷ []) root stack is = absurd (cc)
below_began a (f ∷ (h ∷ fs)) root stack is = reached_began a (h ∷ fs) root (stack_below f (h ∷ fs) stack).1 is

-- it waits
thread_waits : (g : Setting) (roots : List RootState) (tid : List ℕ) (fs : List Frame) (root : ℕ) → Thread g roots tid fs → began fs ≡ Some root → waits (state_of root roots) ≡ true
thread_waits g roots tid fs root (nothing none free) from = let bad : ◌≡◌ {A = Option ℕ} None (Some root) = sym (ap began none) ∙ from in absurd (cc)
thread_waits g roots tid fs root (of_root r least most is waiting live began_from) from =
    let same : r ≡ root = cc in ap (λ n. waits (state_of n roots)) (sym same) ∙ waiting
thread_waits g roots tid fs root (of_peer theirs live none) from = let bad : ◌≡◌ {A = Option ℕ} None (Some root) = sym none ∙ from in absurd (cc)

gets_waiting : (a : Answer) (fs : List Frame) (root : ℕ) (state : RootState) → root_reached a fs ≡ Some root → waits state ≡ true
    → ((gs : List Frame) → fs ≡ base root ∷ gs → waits state ≡ true → gets_all state a ≡ true) → gets_all state a ≡ true
unfolding root_reached gets_all
gets_waiting a fs root idle is waiting at_top = absurd (false≢true waiting)
gets_waiting a fs root waits_call is waiting at_top = refl
gets_waiting (raised k x) fs root (waits_query wanted) is waiting at_top = refl
gets_waiting (returned x outs) [] root (waits_query wanted) is waiting at_top = absurd (cc)
gets_waiting (returned x outs) (base r ∷ fs) root (waits_query wanted) is waiting at_top = let same : r ≡ root = cc in at_top fs (ap (λ n. base n ∷ fs) same) refl
gets_waiting (returned x outs) (outgoing o ∷ fs) root (waits_query wanted) is waiting at_top = absurd (cc)
gets_waiting (returned x outs) (body b ∷ fs) root (waits_query wanted) is waiting at_top = absurd (cc)
gets_waiting a fs root (answered o) is waiting at_top = absurd (false≢true waiting)

whole_gets : (state : RootState) (a : Answer) → is_whole state a ≡ true → waits state ≡ true → gets_all state a ≡ true
unfolding gets_all
whole_gets idle a whole waiting = absurd (false≢true waiting)
whole_gets waits_call a whole waiting = refl
whole_gets (waits_query wanted) (returned x []) whole waiting = refl
whole_gets (waits_query wanted) (returned x (out ∷ outs)) whole waiting = whole
whole_gets (waits_query wanted) (raised k x) whole waiting = refl
whole_gets (answered o) a whole waiting = absurd (false≢true waiting)

-- so it gets all that the reply holds, where that was seen of a root right below the call
pub reply_gets : (g : Setting) (tid : List ℕ) (a : Answer) (s : Side) (now : List Frame) → HasRoots g s → now ≡ below_top (frames_of tid s.stacks)
    → ((root : ℕ) (gs : List Frame) → now ≡ base root ∷ gs → is_whole (state_of root s.tables.roots) a ≡ true)
    → (root : ℕ) → root_reached a now ≡ Some root → gets_all (state_of root s.tables.roots) a ≡ true
reply_gets g tid a s now all below at_top root is =
    let fs = frames_of tid s.stacks in
    let here = all.each tid in
    let from = below_began a fs root (thread_stack g s.tables.roots tid fs here) (ap (root_reached a) (sym below) ∙ is) in
    gets_waiting a now root (state_of root s.tables.roots) is (thread_waits g s.tables.roots tid fs root here from) (λ gs top waiting. whole_gets (state_of root s.tables.roots) a (at_top root gs top) waiting)

-- ---- stacks

below_drop : (fs : List Frame) → drop 1 fs ≡ below_top fs
below_drop [] = refl
below_drop (f ∷ fs) = refl

hands_nothing : (g : Setting) (tid : List ℕ) (a : Answer) (t : Tables) → (hands_from_peer g tid a [] t).frames ≡ []
unfolding hands_from_peer hands
hands_nothing g tid a t = refl

-- the call that waited is gone from its stack, and what is below it gets the answer
pub reply_stacks : (g : Setting) (tid : List ℕ) (a : Answer) (t : Tables) (ss between after : List Stack) → between ≡ popped tid ss → frames_of tid between ≡ drop 1 (frames_of tid ss)
    → ((f : Frame) (fs : List Frame) → frames_of tid between ≡ f ∷ fs → after ≡ stacks_by tid (hands_from_peer g tid a (f ∷ fs) t) between) → (frames_of tid between ≡ [] → after ≡ between)
    → after ≡ stacks_by tid (hands_from_peer g tid a (below_top (frames_of tid ss)) t) ss
reply_stacks g tid a t ss between after gone rest some none =
    let here : frames_of tid between ≡ below_top (frames_of tid ss) = rest ∙ below_drop (frames_of tid ss) in
    let put : between ≡ puts_frames tid (below_top (frames_of tid ss)) ss = gone ∙ puts_popped tid ss ∙ ap (λ fs. puts_frames tid fs ss) (below_drop (frames_of tid ss)) in
    puts_below tid (below_top (frames_of tid ss)) (hands_from_peer g tid a (below_top (frames_of tid ss)) t).frames ss between after put
    (λ f fs is. some f fs (here ∙ is) ∙ ap (λ gs. stacks_by tid (hands_from_peer g tid a gs t) between) (sym is))
    (λ is. (none (here ∙ is), ap (λ gs. (hands_from_peer g tid a gs t).frames) is ∙ hands_nothing g tid a t))

pub below_here : (tid : List ℕ) (ss between : List Stack) → frames_of tid between ≡ drop 1 (frames_of tid ss) → frames_of tid between ≡ below_top (frames_of tid ss)
below_here tid ss between rest = rest ∙ below_drop (frames_of tid ss)
