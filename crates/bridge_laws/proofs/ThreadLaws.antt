-- Threads and the roots of a plan: a thread has no stack and its root does not wait, or a root of this end began it and waits, or the peer began it.
use Rattle.std.proofs.Common.{◌≡◌, refl, sym, ap, subst, ◌∙◌, ℕ, ◌^◌, ◌≤◌, ◌<◌, Bool, true, false, List, [], length, map, Option, None, Some, arith, ◌⊎◌, inl, inr}
use Rattle.std.specs.Fmt.{decimal}
use Rattle.std.specs.Str.{bytes_eq}
use Rattle.std.proofs.lemmas.Bool.{cases_eq, true≢false, false≢true, and_parts}
use Rattle.std.proofs.lemmas.Fmt.{decimal_injective}
use Rattle.std.proofs.lemmas.List.{append_cancel_left, take_at, length-map}
use Rattle.std.proofs.lemmas.Slice.Eq.{bytes_eq-Decides}
use Rattle.plan_model.specs.Frames.{Frame, Stack, frames_of, first_frame}
use Rattle.bridge_model.specs.Ends.{state_at_end}
use Rattle.bridge_model.specs.Settings.{Setting, prefix, root_tid, is_own}
use Rattle.bridge_model.specs.Sides.{RootState, Outcome, answered, state_of, states_with}
use Rattle.bridge_model.specs.Stacks.{puts_frames}
use Rattle.bridge_model.specs.declared.cause.Cause.{Cause}
use Rattle.bridge_laws.specs.Rooted.{waits}
use Rattle.bridge_laws.proofs.FrameLaws.{Moved, still, root_ends, peer_ends}
use Rattle.bridge_laws.specs.Grounded.{is_stack, is_running, is_live, began, AreApart, Thread, nothing, of_root, of_peer, Grounded}
use Rattle.bridge_laws.proofs.RootStateLaws.{state_same, state_other, length_states, none_waits_after}
use Rattle.bridge_laws.proofs.ThreadStackLaws.{frames_put, frames_stay, apart_put}

-- ---- names of threads

pub root_own : (g : Setting) (root : ℕ) → is_own g (root_tid g root) ≡ true
unfolding is_own root_tid
root_own g root = (bytes_eq-Decides _ _).1 (take_at (prefix g) (decimal root) (length (prefix g)) refl)

-- roots are told apart by their names
pub root_named : (g : Setting) (root other : ℕ) → length g.plan.threads < 2 ^ 64 → root ≤ length g.plan.threads → other ≤ length g.plan.threads
    → root_tid g root ≡ root_tid g other → root ≡ other
unfolding root_tid
root_named g root other few most also is = decimal_injective root other (omega arith) (omega arith) (append_cancel_left (prefix g) (decimal root) (decimal other) is)

-- ---- threads

pub thread_stack : (g : Setting) (roots : List RootState) (tid : List ℕ) (fs : List Frame) → Thread g roots tid fs → is_stack fs ≡ true
unfolding is_stack
thread_stack g roots tid fs (nothing none free) = ap is_stack none
thread_stack g roots tid fs (of_root root least most is waiting live from) = (and_parts (is_running (first_frame fs)) (is_stack fs) live).1
thread_stack g roots tid fs (of_peer theirs live from) = (and_parts (is_running (first_frame fs)) (is_stack fs) live).1

-- nothing lives without frames
no_life : (fs : List Frame) → fs ≡ [] → is_live fs ≡ true → ⊥
no_life fs none live = false≢true (sym (ap is_live none) ∙ live)

some_not_none : (root : ℕ) (o : Option ℕ) → o ≡ Some root → o ≡ None → ⊥
some_not_none root o some none = cc

not_both : (x : RootState) → waits x ≡ true → waits x ≡ false → ⊥
not_both x yes_so no_so = true≢false (sym yes_so ∙ no_so)

-- ---- one root

-- a root that did not wait does not wait still
thread_quiet : (g : Setting) (root : ℕ) (x : RootState) (roots : List RootState) (tid : List ℕ) (fs : List Frame) → length roots ≡ length g.plan.threads
    → waits (state_of root roots) ≡ false → waits x ≡ false → Thread g roots tid fs → Thread g (states_with root x roots) tid fs
thread_quiet g root x roots tid fs counted idle_before quiet (nothing none free) = nothing none (λ r least most is. by_root r least most is (cases_eq r root))
  where
    by_root : (r : ℕ) → 1 ≤ r → r ≤ length g.plan.threads → tid ≡ root_tid g r → (r ≡ root) ⊎ (r ≡ root → ⊥) → waits (state_of r (states_with root x roots)) ≡ false
    by_root r least most is (inl e) =
        ap (λ n. waits (state_of n (states_with root x roots))) e ∙ (ap waits (state_same root x roots (omega arith) (omega arith)) ∙ quiet)
    by_root r least most is (inr apart) = ap waits (state_other root r x roots apart) ∙ free r least most is
thread_quiet g root x roots tid fs counted idle_before quiet (of_root r least most is waiting live from) =
    let apart : r ≡ root → ⊥ = λ e. not_both (state_of r roots) waiting (ap (λ n. waits (state_of n roots)) e ∙ idle_before) in
    of_root r least most is (ap waits (state_other root r x roots apart) ∙ waiting) live from
thread_quiet g root x roots tid fs counted idle_before quiet (of_peer theirs live from) = of_peer theirs live from

-- another thread does not see it
thread_apart : (g : Setting) (root : ℕ) (x : RootState) (roots : List RootState) (tid : List ℕ) (fs : List Frame) → (tid ≡ root_tid g root → ⊥)
    → Thread g roots tid fs → Thread g (states_with root x roots) tid fs
thread_apart g root x roots tid fs apart (nothing none free) =
    nothing none (λ r least most is. ap waits (state_other root r x roots (λ e. apart (is ∙ ap (root_tid g) e))) ∙ free r least most is)
thread_apart g root x roots tid fs apart (of_root r least most is waiting live from) =
    of_root r least most is (ap waits (state_other root r x roots (λ e. apart (is ∙ ap (root_tid g) e))) ∙ waiting) live from
thread_apart g root x roots tid fs apart (of_peer theirs live from) = of_peer theirs live from

-- ---- a thread that moves

thread_ended : (g : Setting) (root r : ℕ) (o : Outcome) (roots : List RootState) → length g.plan.threads < 2 ^ 64 → length roots ≡ length g.plan.threads → 1 ≤ root → root ≤ length g.plan.threads
    → r ≤ length g.plan.threads → root_tid g root ≡ root_tid g r → waits (state_of r (states_with root (answered o) roots)) ≡ false
thread_ended g root r o roots few counted least most also is =
    let same = root_named g root r few most also is in
    ap (λ n. waits (state_of n (states_with root (answered o) roots))) (sym same)
    ∙ ap waits (state_same root (answered o) roots least (omega arith))

thread_moved : (g : Setting) (roots : List RootState) (tid : List ℕ) (fs gs : List Frame) (now : List RootState) → length g.plan.threads < 2 ^ 64
    → length roots ≡ length g.plan.threads → Thread g roots tid fs → Moved fs roots gs now → Thread g now tid gs
thread_moved g roots tid fs gs now few counted (nothing none free) (still live lives same stay) = absurd (no_life fs none live)
thread_moved g roots tid fs gs now few counted (nothing none free) (root_ends root o from gone changed) = absurd (some_not_none root (began fs) from (ap began none))
thread_moved g roots tid fs gs now few counted (nothing none free) (peer_ends from gone stay) =
    nothing gone (λ r least most is. ap (λ states. waits (state_of r states)) stay ∙ free r least most is)
thread_moved g roots tid fs gs now few counted (of_root r least most is waiting live from) (still lives_before lives same stay) =
    of_root r least most is (ap (λ states. waits (state_of r states)) stay ∙ waiting) lives (same ∙ from)
thread_moved g roots tid fs gs now few counted (of_root r least most is waiting live from) (root_ends root o began_by gone changed) =
    let same : r ≡ root = cc in
    nothing
    gone
    (λ other first last named. ap (λ states. waits (state_of other states)) (changed ∙ ap (λ n. states_with n (answered o) roots) (sym same)) ∙ thread_ended g r other o roots few counted least most last (sym is ∙ named))
thread_moved g roots tid fs gs now few counted (of_root r least most is waiting live from) (peer_ends none gone stay) = absurd (some_not_none r (began fs) from none)
thread_moved g roots tid fs gs now few counted (of_peer theirs live from) (still lives_before lives same stay) = of_peer theirs lives (same ∙ from)
thread_moved g roots tid fs gs now few counted (of_peer theirs live from) (root_ends root o began_by gone changed) = absurd (some_not_none root (began fs) began_by from)
thread_moved g roots tid fs gs now few counted (of_peer theirs live from) (peer_ends none gone stay) =
    nothing gone (λ r least most is. absurd (false≢true (sym theirs ∙ (ap (is_own g) is ∙ root_own g r))))

-- the thread whose root is answered
thread_of_root : (g : Setting) (roots : List RootState) (tid : List ℕ) (fs : List Frame) (root : ℕ) → Thread g roots tid fs → began fs ≡ Some root → tid ≡ root_tid g root
thread_of_root g roots tid fs root (nothing none free) from = absurd (some_not_none root (began fs) from (ap began none))
thread_of_root g roots tid fs root (of_root r least most is waiting live began_by) from = let same : r ≡ root = cc in is ∙ ap (root_tid g) same
thread_of_root g roots tid fs root (of_peer theirs live began_by) from = absurd (some_not_none root (began fs) from began_by)

-- what another thread becomes
other_moved : (g : Setting) (roots : List RootState) (tid other : List ℕ) (fs gs hs : List Frame) (now : List RootState) → (other ≡ tid → ⊥)
    → Thread g roots tid fs → Moved fs roots gs now → Thread g roots other hs → Thread g now other hs
other_moved g roots tid other fs gs hs now apart here (still live lives same stay) there = subst (λ states. Thread g states other hs) (sym stay) there
other_moved g roots tid other fs gs hs now apart here (root_ends root o from gone changed) there =
    let named = thread_of_root g roots tid fs root here from in
    subst (λ states. Thread g states other hs) (sym changed) (thread_apart g root (answered o) roots other hs (λ e. apart (e ∙ sym named)) there)
other_moved g roots tid other fs gs hs now apart here (peer_ends from gone stay) there = subst (λ states. Thread g states other hs) (sym stay) there

moved_length : (fs : List Frame) (roots : List RootState) (gs : List Frame) (now : List RootState) → Moved fs roots gs now → length now ≡ length roots
moved_length fs roots gs now (still live lives same stay) = ap length stay
moved_length fs roots gs now (root_ends root o from gone changed) = ap length changed ∙ length_states root (answered o) roots
moved_length fs roots gs now (peer_ends from gone stay) = ap length stay

-- ---- all threads

-- what is put is the thread's, and the others stay
each_put : (g : Setting) (now : List RootState) (tid : List ℕ) (gs : List Frame) (stacks : List Stack) → AreApart stacks → Thread g now tid gs
    → ((other : List ℕ) → (other ≡ tid → ⊥) → Thread g now other (frames_of other stacks)) → (other : List ℕ) → Thread g now other (frames_of other (puts_frames tid gs stacks))
each_put g now tid gs stacks apart here there other = by_name (bytes_eq other tid) refl
  where
    by_name : (b : Bool) → bytes_eq other tid ≡ b → Thread g now other (frames_of other (puts_frames tid gs stacks))
    by_name true is =
        let same = (bytes_eq-Decides other tid).0 is in
        subst (λ t. Thread g now t (frames_of t (puts_frames tid gs stacks))) (sym same) (subst (Thread g now tid) (sym (frames_put tid gs stacks apart)) here)
    by_name false is =
        let differ : other ≡ tid → ⊥ = λ e. true≢false (sym ((bytes_eq-Decides other tid).1 e) ∙ is) in
        subst (Thread g now other) (sym (frames_stay tid other gs stacks differ)) (there other differ)

-- a thread moves
pub grounded_moved : (g : Setting) (roots : List RootState) (tid : List ℕ) (stacks : List Stack) (gs : List Frame) (now : List RootState) → length g.plan.threads < 2 ^ 64
    → Grounded g roots stacks → Moved (frames_of tid stacks) roots gs now → Grounded g now (puts_frames tid gs stacks)
grounded_moved g roots tid stacks gs now few all moved =
    let here = all.each tid in
    record {
      counted = moved_length (frames_of tid stacks) roots gs now moved ∙ all.counted;
      apart = apart_put tid gs stacks all.apart;
      each =
          each_put g now tid gs stacks all.apart (thread_moved g roots tid (frames_of tid stacks) gs now few all.counted here moved) (λ other differ. other_moved g roots tid other (frames_of tid stacks) gs (frames_of other stacks) now differ here moved (all.each other));
    }

-- a thread has other frames, and roots are as they were
pub grounded_put : (g : Setting) (roots : List RootState) (tid : List ℕ) (stacks : List Stack) (gs : List Frame) → Grounded g roots stacks → Thread g roots tid gs
    → Grounded g roots (puts_frames tid gs stacks)
grounded_put g roots tid stacks gs all here =
    record {
      counted = all.counted;
      apart = apart_put tid gs stacks all.apart;
      each = each_put g roots tid gs stacks all.apart here (λ other differ. all.each other);
    }

-- a root begins a call
pub grounded_begins : (g : Setting) (root : ℕ) (x : RootState) (roots : List RootState) (stacks : List Stack) (gs : List Frame) → 1 ≤ root → root ≤ length g.plan.threads
    → waits x ≡ true → is_live gs ≡ true → began gs ≡ Some root → Grounded g roots stacks → Grounded g (states_with root x roots) (puts_frames (root_tid g root) gs stacks)
grounded_begins g root x roots stacks gs least most waiting live from all =
    record {
      counted = length_states root x roots ∙ all.counted;
      apart = apart_put (root_tid g root) gs stacks all.apart;
      each =
          each_put
          g
          (states_with root x roots)
          (root_tid g root)
          gs
          stacks
          all.apart
          (of_root root least most refl (ap waits (state_same root x roots least (within all.counted)) ∙ waiting) live from)
          (λ other differ. thread_apart g root x roots other (frames_of other stacks) differ (all.each other));
    }
  where
    within : length roots ≡ length g.plan.threads → root ≤ length roots
    within counted = omega arith

-- a root has an outcome, or takes one, that waits neither before nor after it
pub grounded_quiet : (g : Setting) (root : ℕ) (x : RootState) (roots : List RootState) (stacks : List Stack) → waits (state_of root roots) ≡ false → waits x ≡ false
    → Grounded g roots stacks → Grounded g (states_with root x roots) stacks
grounded_quiet g root x roots stacks idle_before quiet all =
    record {
      counted = length_states root x roots ∙ all.counted;
      apart = all.apart;
      each = λ tid. thread_quiet g root x roots tid (frames_of tid stacks) all.counted idle_before quiet (all.each tid);
    }

-- at the end of a bridge there is nothing
pub grounded_ended : (g : Setting) (why : Cause) (roots : List RootState) → length roots ≡ length g.plan.threads → Grounded g (map (state_at_end why) roots) []
unfolding frames_of AreApart
grounded_ended g why roots counted =
    record {
      counted = length-map roots (state_at_end why) ∙ counted;
      apart = tt;
      each = λ tid. nothing refl (λ root least most is. none_waits_after why root roots);
    }
