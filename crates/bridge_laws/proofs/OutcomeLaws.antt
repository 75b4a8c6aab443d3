-- Which outcomes of roots are no answers: an entry gives none but that of the end that it makes.
use Rattle.std.proofs.Common.{◌≡◌, refl, sym, ap, subst, ◌∙◌, ℕ, zero, suc, ◌⊎◌, inl, inr, Bool, true, false, ◌==◌, ◌&&◌, eqb-true, List, [], ◌∷◌, map, unwrap_or, slice_get, slice_set, Option, None, Some, arith, if◌then◌else◌}
use Rattle.std.proofs.lemmas.Bool.{true≢false, and_parts}
use Rattle.message_model.specs.Messages.{Message, Answer, returned}
use Rattle.uno_model.specs.BuiltIn.{x_interface_name}
use Rattle.uno_model.specs.Kinds as kd
use Rattle.uno_model.specs.Values.{Ref, null, own, peer, Plain, refs}
use Rattle.table_model.specs.declared.holder.Holder.TheVariants as holder
use Rattle.plan_model.specs.Asking.{Effect, lets, sets, sets_field, drops, skips, calls, queries, makes, disposes, creates, returns, raises}
use Rattle.plan_model.specs.Frames.{Stack, frames_of}
use Rattle.bridge_laws.specs.Ended.{IsQuiet}
use Rattle.plan_model.specs.declared.runtime_cause.RuntimeCause.{RuntimeCause}
use Rattle.bridge_model.specs.Applying.{applies, effect_at}
use Rattle.bridge_model.specs.Calls.{query_args, calls_peer}
use Rattle.bridge_model.specs.Ends.{outcome_at_end, state_at_end, ends_by, runs_out}
use Rattle.bridge_model.specs.Entries.{Entry, fed, ended, failed, asked, called, queried, made, dropped, applied, took, reaped, drained, disposed, full, no_memory}
use Rattle.bridge_model.specs.Feeding.{feeds}
use Rattle.bridge_model.specs.Going.{drains, reaps, reaps_object}
use Rattle.bridge_model.specs.Objects.{object_answer, lowest, without_object, defaults_of}
use Rattle.bridge_model.specs.References.{gains_all, lets_go, loses, refs_of_values}
use Rattle.bridge_model.specs.Roots.{answered_before, bottom, begins_call, calls_unless, begins_query, queries_unless, asks_unless, root_calls, root_queries, root_asks, root_makes, root_drops, root_takes}
use Rattle.bridge_model.specs.Settings.{Setting, ref_of, root_tid}
use Rattle.bridge_model.specs.Sides.{Object, Outcome, answer, RootState, idle, waits_call, waits_query, answered, Tables, Side, stands, stands_by, state_of, states_with, with_root}
use Rattle.bridge_model.specs.Sides as side
use Rattle.bridge_model.specs.Steps.{Picked, picked, picked_in, applies_effect, applies_picked, reaps_some, does, may}
use Rattle.bridge_model.specs.declared.cause.Cause.{Cause}
use Rattle.bridge_model.specs.declared.cause.Cause.TheVariants as cause
use Rattle.bridge_laws.proofs.RootStateLaws.{state_other, stay_loses, stay_loses_all, stay_lets_go, stay_lets_go_all, stay_makes_object}
use Rattle.bridge_laws.specs.Grounded.{AreApart}
use Rattle.bridge_laws.specs.Hearings.{Hears, rests, breaks, hears}
use Rattle.bridge_laws.specs.Outcomes.{Fate, nothing, for_root, for_method, for_peer, fate_of, fate_of_message, root_outcome, roots_by}
use Rattle.bridge_laws.proofs.ApplyingFates.{applies_given, still_calls_own, still_calls_peer}
use Rattle.bridge_laws.proofs.HandingFates.{root_still}
use Rattle.bridge_laws.proofs.MessageFates.{feeds_on}
use Rattle.bridge_laws.proofs.NoReplyLaws.{still_gains_all}

-- ---- one state of many

set_either : (n : ℕ) (x : RootState) (states : List RootState)
    → (unwrap_or (slice_get (slice_set states n x) n) idle ≡ x) ⊎ (unwrap_or (slice_get (slice_set states n x) n) idle ≡ unwrap_or (slice_get states n) idle)
set_either zero x [] = inr refl
set_either (suc n) x [] = inr refl
set_either zero x (y ∷ states) = inl refl
set_either (suc n) x (y ∷ states) = set_either n x states

same_either : (n : ℕ) (x : RootState) (states : List RootState) → (state_of n (states_with n x states) ≡ x) ⊎ (state_of n (states_with n x states) ≡ state_of n states)
unfolding state_of states_with
same_either zero x states = inr refl
same_either (suc n) x states = set_either n x states

pub state_either : (root n : ℕ) (x : RootState) (states : List RootState) → (state_of n (states_with root x states) ≡ x) ⊎ (state_of n (states_with root x states) ≡ state_of n states)
state_either root n x states = by_test (n == root) refl
  where
    by_test : (b : Bool) → (n == root) ≡ b → (state_of n (states_with root x states) ≡ x) ⊎ (state_of n (states_with root x states) ≡ state_of n states)
    by_test true is =
        let same : root ≡ n = sym (eqb-true n root is) in
        subst (λ r. (state_of n (states_with r x states) ≡ x) ⊎ (state_of n (states_with r x states) ≡ state_of n states)) (sym same) (same_either n x states)
    by_test false is = inr (state_other root n x states (λ e. true≢false (sym (by_same e) ∙ is)))
      where
        by_same : n ≡ root → (n == root) ≡ true
        by_same e = grind (arith, eqb-true)

-- ---- outcomes that are no answers

abbrev pub is_answer : Outcome → Bool
is_answer (answer a) = true
is_answer o = false

-- a root has no outcome but an answer that it had not before
abbrev pub NoneNew : (before after : List RootState) → Type 0
NoneNew before after = (n : ℕ) (o : Outcome) → is_answer o ≡ false → state_of n after ≡ answered o → state_of n before ≡ answered o

pub none_new : (before after : List RootState) → after ≡ before → NoneNew before after
none_new before after same n o is at = ap (state_of n) (sym same) ∙ at

pub then_none : (a b c : List RootState) → NoneNew a b → NoneNew b c → NoneNew a c
then_none a b c p q n o is at = p n o is (q n o is at)

-- a state that has no outcome but an answer
abbrev HasNone : RootState → Type 0
HasNone x = (o : Outcome) → is_answer o ≡ false → x ≡ answered o → ⊥

pub none_with : (root : ℕ) (x : RootState) (states : List RootState) → HasNone x → NoneNew states (states_with root x states)
none_with root x states none n o is at = by_either (state_either root n x states)
  where
    by_either : (state_of n (states_with root x states) ≡ x) ⊎ (state_of n (states_with root x states) ≡ state_of n states) → state_of n states ≡ answered o
    by_either (inl same) = absurd (none o is (sym same ∙ at))
    by_either (inr same) = sym same ∙ at

no_answer : (a : Answer) (o : Outcome) → answered (answer a) ≡ answered o → is_answer o ≡ true
no_answer a (answer b) is = refl
no_answer a (side.disposed why) is = absurd (cc)
no_answer a side.no_memory is = absurd (cc)

pub none_answer : (a : Answer) → HasNone (answered (answer a))
none_answer a o is at = true≢false (sym (no_answer a o at) ∙ is)

none_by : (g : Setting) (h : Fate) (states : List RootState) → NoneNew states (roots_by g h states)
none_by g nothing states = none_new states states refl
none_by g (for_root root a) states = none_with root _ states (none_answer (root_outcome g (state_of root states) a))
none_by g (for_method b below x outs) states = none_new states states refl
none_by g (for_peer b below a) states = none_new states states refl

pub none_by_fate : (g : Setting) (h : Fate) (before after : List RootState) → after ≡ roots_by g h before → NoneNew before after
none_by_fate g h before after is = subst (NoneNew before) (sym is) (none_by g h before)

-- ---- the end

outcome_at : (why : Cause) (x : RootState) (o : Outcome) → state_at_end why x ≡ answered o → (x ≡ answered o) ⊎ (o ≡ outcome_at_end why)
outcome_at why idle o is = inl is
outcome_at why waits_call o is = inr (cc)
outcome_at why (waits_query wanted) o is = inr (cc)
outcome_at why (answered z) o is = inl is

outcome_in_map : (why : Cause) (n : ℕ) (states : List RootState) (o : Outcome) → unwrap_or (slice_get (map (state_at_end why) states) n) idle ≡ answered o
    → (unwrap_or (slice_get states n) idle ≡ answered o) ⊎ (o ≡ outcome_at_end why)
outcome_in_map why n [] o is = inl is
outcome_in_map why zero (x ∷ states) o is = outcome_at why x o is
outcome_in_map why (suc n) (x ∷ states) o is = outcome_in_map why n states o is

-- an outcome that is there was there, or is that of this end
abbrev pub IsOfEnd : (before : List RootState) → Side → ℕ → Outcome → Type 0
IsOfEnd before z n o = (state_of n before ≡ answered o) ⊎ ((why : Cause) × (z.cause ≡ Some why) × (o ≡ outcome_at_end why))

pub end_of_ends : (why : Cause) (s : Side) (n : ℕ) (o : Outcome) → state_of n (ends_by why s).tables.roots ≡ answered o → IsOfEnd s.tables.roots (ends_by why s) n o
unfolding state_of ends_by
end_of_ends why s zero o is = inl is
end_of_ends why s (suc n) o is = by_either (outcome_in_map why n s.tables.roots o is)
  where
    by_either : (unwrap_or (slice_get s.tables.roots n) idle ≡ answered o) ⊎ (o ≡ outcome_at_end why) → IsOfEnd s.tables.roots (ends_by why s) (suc n) o
    by_either (inl was) = inl was
    by_either (inr now) = inr (why, refl, now)

-- ---- messages

before_that : (a b : List RootState) (z : Side) (n : ℕ) (o : Outcome) → is_answer o ≡ false → NoneNew a b → IsOfEnd b z n o → IsOfEnd a z n o
before_that a b z n o is none (inl was) = inl (none n o is was)
before_that a b z n o is none (inr now) = inr now

hears_ends : (g : Setting) (t : Tables) (ss : List Stack) (ms rs : List Message) (z : Side) → Hears g t ss ms rs z → (n : ℕ) (o : Outcome) → is_answer o ≡ false → state_of n z.tables.roots ≡ answered o
    → IsOfEnd t.roots z n o
hears_ends g t' ss' ms' rs' z' (rests z) n o is at = inl at
hears_ends g t' ss' ms' rs' z' (breaks s why place) n o is at = end_of_ends (cause.Broken why place) s n o at
hears_ends g t' ss' ms' rs' end' (hears t ss m z ms rs end got later) n o is at =
    before_that t.roots z.tables.roots end n o is (none_by_fate g (fate_of_message g ss m) t.roots z.tables.roots got.roots) (hears_ends g z.tables z.stacks ms rs end later n o is at)

-- ---- statements

none_applies : (g : Setting) (tid : List ℕ) (p : Picked) (e : Effect) (s : Side) → NoneNew s.tables.roots (applies g tid p.method p.below e s.tables).tables.roots
none_applies g tid p e s = none_by_fate g (fate_of g tid p.method p.below e s.tables) s.tables.roots _ (applies_given g tid p.method p.below e s.tables).roots

effect_ends : (g : Setting) (tid : List ℕ) (p : Picked) (e : Effect) (s : Side) (n : ℕ) (o : Outcome) → is_answer o ≡ false
    → state_of n (applies_effect g tid p e s).tables.roots ≡ answered o → IsOfEnd s.tables.roots (applies_effect g tid p e s) n o
effect_ends g tid p disposes s n o is at = end_of_ends cause.Disposed s n o at
effect_ends g tid p (lets x) s n o is at = inl (none_applies g tid p (lets x) s n o is at)
effect_ends g tid p (sets x) s n o is at = inl (none_applies g tid p (sets x) s n o is at)
effect_ends g tid p (sets_field x) s n o is at = inl (none_applies g tid p (sets_field x) s n o is at)
effect_ends g tid p (drops name) s n o is at = inl (none_applies g tid p (drops name) s n o is at)
effect_ends g tid p skips s n o is at = inl (none_applies g tid p skips s n o is at)
effect_ends g tid p (calls target function args to) s n o is at = inl (none_applies g tid p (calls target function args to) s n o is at)
effect_ends g tid p (queries target wanted to) s n o is at = inl (none_applies g tid p (queries target wanted to) s n o is at)
effect_ends g tid p (makes behaviour face to) s n o is at = inl (none_applies g tid p (makes behaviour face to) s n o is at)
effect_ends g tid p (creates name args) s n o is at = inl (none_applies g tid p (creates name args) s n o is at)
effect_ends g tid p (returns x outs) s n o is at = inl (none_applies g tid p (returns x outs) s n o is at)
effect_ends g tid p (raises k x) s n o is at = inl (none_applies g tid p (raises k x) s n o is at)

applied_ends : (g : Setting) (tid : List ℕ) (p : Option Picked) (s : Side) (n : ℕ) (o : Outcome) → is_answer o ≡ false
    → state_of n (applies_picked g tid p s).tables.roots ≡ answered o → IsOfEnd s.tables.roots (applies_picked g tid p s) n o
applied_ends g tid None s n o is at = inl at
applied_ends g tid (Some p) s n o is at = effect_ends g tid p (effect_at g tid p.method p.below s.tables) s n o is at

-- ---- roots

waiting_none : HasNone waits_call
waiting_none o is at = cc

asking_none : (wanted : List ℕ) → HasNone (waits_query wanted)
asking_none wanted o is at = cc

idle_none : HasNone idle
idle_none o is at = cc

none_begins : (g : Setting) (root : ℕ) (r : Ref) (function : ℕ) (args : List Plain) (s : Side) → NoneNew s.tables.roots (begins_call g root r function args s).tables.roots
none_begins g root null function args s = none_new s.tables.roots s.tables.roots refl
none_begins g root (own oid face) function args s =
    then_none s.tables.roots (with_root root waits_call s.tables).roots _ (none_with root waits_call s.tables.roots waiting_none)
    (none_new (with_root root waits_call s.tables).roots _ (still_calls_own g oid face function args (bottom root) (with_root root waits_call s.tables)).stay)
none_begins g root (peer oid face) function args s =
    then_none s.tables.roots (with_root root waits_call s.tables).roots _ (none_with root waits_call s.tables.roots waiting_none)
    (none_new (with_root root waits_call s.tables).roots _ (still_calls_peer g (root_tid g root) oid face function args (bottom root) (with_root root waits_call s.tables)).stay)

none_calls : (g : Setting) (root : ℕ) (oid face : List ℕ) (function : ℕ) (args : List Plain) (why : Option RuntimeCause) (s : Side)
    → NoneNew s.tables.roots (calls_unless g root oid face function args why s).tables.roots
none_calls g root oid face function args None s = none_begins g root (ref_of g oid face) function args s
none_calls g root oid face function args (Some why) s = none_with root _ s.tables.roots (none_answer _)

none_asks_peer : (g : Setting) (root : ℕ) (oid face wanted : List ℕ) (s : Side)
    → NoneNew s.tables.roots (calls_peer g (root_tid g root) oid face 0 (query_args wanted) (bottom root) (with_root root (waits_query wanted) s.tables)).tables.roots
none_asks_peer g root oid face wanted s =
    then_none s.tables.roots (with_root root (waits_query wanted) s.tables).roots _ (none_with root (waits_query wanted) s.tables.roots (asking_none wanted))
    (none_new (with_root root (waits_query wanted) s.tables).roots _ (still_calls_peer g (root_tid g root) oid face 0 (query_args wanted) (bottom root) (with_root root (waits_query wanted) s.tables)).stay)

none_query : (g : Setting) (root : ℕ) (r : Ref) (wanted : List ℕ) (s : Side) → NoneNew s.tables.roots (begins_query g root r wanted s).tables.roots
none_query g root null wanted s = none_new s.tables.roots s.tables.roots refl
none_query g root (own oid face) wanted s =
    let x = object_answer g oid (kd.interface wanted) s.tables.objects in
    let held = gains_all (holder.Root root) (refs x) s.tables in
    then_none s.tables.roots held.roots _ (none_new s.tables.roots held.roots (still_gains_all (holder.Root root) (refs x) s.tables).stay)
    (then_none held.roots (with_root root (answered (answer (root_outcome g (waits_query wanted) (returned x [])))) held).roots _
    (none_with root _ held.roots (none_answer (root_outcome g (waits_query wanted) (returned x []))))
    (none_new _ _ (root_still g root (waits_query wanted) (returned x []) held).stay))
none_query g root (peer oid face) wanted s = none_asks_peer g root oid face wanted s

none_queries : (g : Setting) (root : ℕ) (oid face wanted : List ℕ) (why : Option RuntimeCause) (s : Side) → NoneNew s.tables.roots (queries_unless g root oid face wanted why s).tables.roots
none_queries g root oid face wanted None s = none_query g root (ref_of g oid face) wanted s
none_queries g root oid face wanted (Some why) s = none_with root _ s.tables.roots (none_answer _)

none_asks : (g : Setting) (root : ℕ) (name wanted : List ℕ) (why : Option RuntimeCause) (s : Side) → NoneNew s.tables.roots (asks_unless g root name wanted why s).tables.roots
none_asks g root name wanted None s = none_asks_peer g root name x_interface_name wanted s
none_asks g root name wanted (Some why) s = none_with root _ s.tables.roots (none_answer _)

pub drops_stay : (g : Setting) (root : ℕ) (r : Ref) (t : Tables) (b : Bool) → ((if b then lets_go g (holder.Root root) r else loses (holder.Root root) r) t).roots ≡ t.roots
drops_stay g root r t true = stay_lets_go g (holder.Root root) r t
drops_stay g root r t false = stay_loses (holder.Root root) r t

reaps_by : (g : Setting) (b : Bool) (o : Object) (t : Tables) → (reaps_object g b o t).roots ≡ t.roots
reaps_by g true o t = stay_lets_go_all g (holder.Object o.number) (refs_of_values o.fields) (record t { objects = without_object o.number t.objects })
reaps_by g false o t = stay_loses_all (holder.Object o.number) (refs_of_values o.fields) (record t { objects = without_object o.number t.objects })

pub reaps_stay : (g : Setting) (o : Option Object) (s : Side) → (reaps_some g o s).tables.roots ≡ s.tables.roots
unfolding reaps
reaps_stay g None s = refl
reaps_stay g (Some o) s = reaps_by g (stands s) o s.tables

-- ---- entries

pub out_ends : (why : Option Cause) (s : Side) (n : ℕ) (o : Outcome) → state_of n (runs_out why s).tables.roots ≡ answered o → IsOfEnd s.tables.roots (runs_out why s) n o
unfolding runs_out
out_ends None s n o at = to_forgotten (end_of_ends cause.NoMemory s n o at)
  where
    to_forgotten : IsOfEnd s.tables.roots (ends_by cause.NoMemory s) n o → IsOfEnd s.tables.roots (runs_out None s) n o
    to_forgotten (inl was) = inl was
    to_forgotten (inr now) = inr now
out_ends (Some why) s n o at = inl at

pub does_ends : (g : Setting) (e : Entry) (s : Side) → AreApart s.stacks → (n : ℕ) (o : Outcome) → is_answer o ≡ false → state_of n (does g e s).side.tables.roots ≡ answered o
    → IsOfEnd s.tables.roots (does g e s).side n o
unfolding does root_asks root_calls root_queries root_makes root_drops root_takes drains
does_ends g (fed b) s apart n o is at = let chain = feeds_on g b s apart in hears_ends g s.tables s.stacks (feeds g b s).got chain.answers (feeds g b s).side chain.chain n o is at
does_ends g ended s apart n o is at = end_of_ends cause.Ended s n o at
does_ends g failed s apart n o is at = end_of_ends cause.Failed s n o at
does_ends g (asked root name wanted) s apart n o is at = inl (none_asks g root name wanted (answered_before (root_tid g root) name x_interface_name 0 (query_args wanted)) s n o is at)
does_ends g (called root oid face function args) s apart n o is at = inl (none_calls g root oid face function args (answered_before (root_tid g root) oid face function args) s n o is at)
does_ends g (queried root oid face wanted) s apart n o is at = inl (none_queries g root oid face wanted (answered_before (root_tid g root) oid face 0 (query_args wanted)) s n o is at)
does_ends g (made root behaviour wanted) s apart n o is at = inl (none_new s.tables.roots _ (stay_makes_object behaviour (defaults_of g behaviour) s.tables) n o is at)
does_ends g (dropped root oid face) s apart n o is at = inl (none_new s.tables.roots _ (drops_stay g root (ref_of g oid face) s.tables (stands s)) n o is at)
does_ends g (applied tid) s apart n o is at = applied_ends g tid (picked tid s) s n o is at
does_ends g (took root) s apart n o is at = inl (none_with root idle s.tables.roots idle_none n o is at)
does_ends g (reaped object) s apart n o is at = inl (none_new s.tables.roots _ (reaps_stay g (lowest g s.tables) s) n o is at)
does_ends g (drained b) s apart n o is at = inl at
does_ends g disposed s apart n o is at = end_of_ends cause.Disposed s n o at
does_ends g full s apart n o is at = end_of_ends cause.Full s n o at
does_ends g no_memory s apart n o is at = out_ends s.cause s n o at

-- ---- where the bridge has ended

down : {X : Type 0} (a b : Bool) → (a && b) ≡ true → a ≡ false → X
down a b can is = absurd (true≢false (sym (and_parts a b can).0 ∙ is))

none_picked : (g : Setting) (tid : List ℕ) (s : Side) (ss : List Stack) → ss ≡ [] → (applies_picked g tid (picked_in (frames_of tid ss)) s).tables.roots ≡ s.tables.roots
unfolding frames_of
none_picked g tid s [] is = refl
none_picked g tid s (x ∷ ss) is = absurd (cc)

none_out : (why : Option Cause) (s : Side) → stands_by why ≡ false → (runs_out why s).tables.roots ≡ s.tables.roots
unfolding runs_out
none_out None s is = absurd (cc)
none_out (Some why) s is = refl

pub does_none : (g : Setting) (e : Entry) (s : Side) → IsQuiet s → stands s ≡ false → may g s e ≡ true → NoneNew s.tables.roots (does g e s).side.tables.roots
unfolding does may root_drops root_takes drains picked
does_none g (fed b) s quiet is can = down _ _ can is
does_none g ended s quiet is can = absurd (true≢false (sym can ∙ is))
does_none g failed s quiet is can = absurd (true≢false (sym can ∙ is))
does_none g (asked root name wanted) s quiet is can = down _ _ can is
does_none g (called root oid face function args) s quiet is can = down _ _ can is
does_none g (queried root oid face wanted) s quiet is can = down _ _ can is
does_none g (made root behaviour wanted) s quiet is can = down _ _ can is
does_none g (dropped root oid face) s quiet is can = none_new s.tables.roots _ (drops_stay g root (ref_of g oid face) s.tables (stands s))
does_none g (applied tid) s quiet is can = none_new s.tables.roots _ (none_picked g tid s s.stacks (quiet is))
does_none g (took root) s quiet is can = none_with root idle s.tables.roots idle_none
does_none g (reaped object) s quiet is can = none_new s.tables.roots _ (reaps_stay g (lowest g s.tables) s)
does_none g (drained b) s quiet is can = none_new s.tables.roots s.tables.roots refl
does_none g disposed s quiet is can = absurd (true≢false (sym can ∙ is))
does_none g full s quiet is can = down _ _ can is
does_none g no_memory s quiet is can = none_new s.tables.roots _ (none_out s.cause s is)
