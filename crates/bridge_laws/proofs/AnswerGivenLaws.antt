-- Each answer that a root has was given by one entry.
use Rattle.std.proofs.Common.{◌≡◌, refl, sym, ap, subst, ◌∙◌, ℕ, zero, suc, ◌≤◌, ◌⊎◌, inl, inr, Bool, true, false, not, ◌&&◌, nat_lt, ◌==◌, eqb-true, List, [], ◌∷◌, ◌++◌, length, slice_set, Option, None, Some, unwrap_or, arith, if◌then◌else◌}
use Rattle.std.proofs.lemmas.Bool.{true≢false, and_parts, and_from, ltb-true, ltb-false}
use Rattle.std.proofs.lemmas.List.{append_assoc, length-set}
use Rattle.std.proofs.lemmas.Option.{slice_get_past}
use Rattle.std.specs.List.{list_all}
use Rattle.message_model.specs.Messages.{Message, Answer, returned}
use Rattle.uno_model.specs.BuiltIn.{x_interface_name}
use Rattle.uno_model.specs.Kinds as kd
use Rattle.uno_model.specs.Values.{Ref, null, own, peer, Plain, refs}
use Rattle.table_model.specs.declared.holder.Holder.TheVariants as holder
use Rattle.plan_model.specs.Asking.{Effect, disposes}
use Rattle.plan_model.specs.Frames.{Stack}
use Rattle.plan_model.specs.Leaving.{caused}
use Rattle.plan_model.specs.declared.runtime_cause.RuntimeCause.{RuntimeCause}
use Rattle.bridge_model.specs.Applying.{effect_at}
use Rattle.bridge_model.specs.Calls.{query_args, calls_peer}
use Rattle.bridge_model.specs.Ends.{outcome_at_end, ends_by, runs_out}
use Rattle.bridge_model.specs.Entries.{Entry, fed, ended, failed, asked, called, queried, made, dropped, applied, took, reaped, drained, disposed, full, no_memory}
use Rattle.bridge_model.specs.Feeding.{feeds}
use Rattle.bridge_model.specs.Going.{drains}
use Rattle.bridge_model.specs.Histories.{Told, nothing_told, told_more, Leads}
use Rattle.bridge_model.specs.Objects.{object_answer, lowest, defaults_of}
use Rattle.bridge_model.specs.References.{gains_all}
use Rattle.bridge_model.specs.Roots.{answered_before, is_idle, bottom, begins_call, calls_unless, begins_query, queries_unless, asks_unless, root_calls, root_queries, root_asks, root_makes, root_drops, root_takes}
use Rattle.bridge_model.specs.Settings.{Setting, ref_of, root_tid, is_own}
use Rattle.bridge_model.specs.Sides.{answer, RootState, idle, waits_call, waits_query, answered, Tables, nothing_came, nothing_goes, Side, stands, state_of, states_with, with_root}
use Rattle.bridge_model.specs.Steps.{Picked, picked, applies_effect, applies_picked, Turn, may, may_begin, is_root, has_entries, step, does}
use Rattle.bridge_model.specs.declared.cause.Cause.{Cause}
use Rattle.bridge_model.specs.declared.cause.Cause.TheVariants as cause
use Rattle.bridge_laws.proofs.Replays.{of_step}
use Rattle.bridge_laws.proofs.RootStateLaws.{state_same, state_other, stay_makes_object}
use Rattle.bridge_laws.specs.Grounded.{AreApart}
use Rattle.bridge_laws.specs.Givings.{Gives, by_statement, by_message, before_asking, before_calling, before_querying, at_once, leaves_outcome, IsGiven}
use Rattle.bridge_laws.specs.Hearings.{Hears, rests, breaks, hears}
use Rattle.bridge_laws.specs.Outcomes.{Fate, nothing, for_root, for_method, for_peer, fate_of, fate_of_message, root_outcome, roots_by}
use Rattle.bridge_laws.proofs.ApplyingFates.{applies_given, still_calls_own, still_calls_peer}
use Rattle.bridge_laws.proofs.CauseLaws.{turn_roots, first_idle}
use Rattle.bridge_laws.proofs.HandingFates.{root_still}
use Rattle.bridge_laws.proofs.HistoryLaws.{along_history, always_apart}
use Rattle.bridge_laws.proofs.MessageFates.{feeds_on}
use Rattle.bridge_laws.proofs.OutcomeLaws.{state_either, IsOfEnd, end_of_ends, out_ends, drops_stay, reaps_stay}
use Rattle.bridge_laws.proofs.NoReplyLaws.{still_gains_all}

-- ---- states

abbrev Has : (n : ℕ) (a : Answer) → List RootState → Type 0
Has n a states = state_of n states ≡ answered (answer a)

-- a state was there, or is the one that is put
put_or : (root n : ℕ) (x : RootState) (states : List RootState) (a : Answer) → Has n a (states_with root x states) → Has n a states ⊎ ((root ≡ n) × (x ≡ answered (answer a)))
put_or root n x states a at = by_test (n == root) refl
  where
    either : root ≡ n → (state_of n (states_with root x states) ≡ x) ⊎ (state_of n (states_with root x states) ≡ state_of n states) → Has n a states ⊎ ((root ≡ n) × (x ≡ answered (answer a)))
    either same (inl is) = inr (same, sym is ∙ at)
    either same (inr is) = inl (sym is ∙ at)

    by_test : (b : Bool) → (n == root) ≡ b → Has n a states ⊎ ((root ≡ n) × (x ≡ answered (answer a)))
    by_test true is = either (sym (eqb-true n root is)) (state_either root n x states)
    by_test false is = inl (sym (state_other root n x states (λ e. true≢false (sym (by_same e) ∙ is))) ∙ at)
      where
        by_same : n ≡ root → (n == root) ≡ true
        by_same e = grind (arith, eqb-true)

same_answer : (c a : Answer) → answered (answer c) ≡ answered (answer a) → a ≡ c
same_answer c a is = cc

no_state : {X : Type 0} (a : Answer) → idle ≡ answered (answer a) → X
no_state a is = absurd (cc)

-- what a fate gives
given_by : (g : Setting) (h : Fate) (n : ℕ) (a : Answer) (states : List RootState) → Has n a (roots_by g h states) → Has n a states ⊎ ((c : Answer) × (h ≡ for_root n c) × (a ≡ root_outcome g (state_of n states) c))
given_by g nothing n a states at = inl at
given_by g (for_method b below x outs) n a states at = inl at
given_by g (for_peer b below c) n a states at = inl at
given_by g (for_root root c) n a states at = by_put (put_or root n (answered (answer (root_outcome g (state_of root states) c))) states a at)
  where
    by_put : Has n a states ⊎ ((root ≡ n) × (answered (answer (root_outcome g (state_of root states) c)) ≡ answered (answer a))) → Has n a states ⊎ ((d : Answer) × (for_root root c ≡ for_root n d) × (a ≡ root_outcome g (state_of n states) d))
    by_put (inl was) = inl was
    by_put (inr (same, is)) = inr (c, ap (λ k. for_root k c) same, same_answer (root_outcome g (state_of root states) c) a is ∙ ap (λ k. root_outcome g (state_of k states) c) same)

no_end : {X : Type 0} (why : Cause) (a : Answer) → answer a ≡ outcome_at_end why → X
no_end cause.Disposed a is = absurd (cc)
no_end cause.Ended a is = absurd (cc)
no_end cause.Failed a is = absurd (cc)
no_end (cause.Broken why place) a is = absurd (cc)
no_end cause.Full a is = absurd (cc)
no_end cause.NoMemory a is = absurd (cc)

not_of_end : (states : List RootState) (z : Side) (n : ℕ) (a : Answer) → IsOfEnd states z n (answer a) → Has n a states
not_of_end states z n a (inl was) = was
not_of_end states z n a (inr (why, now, is)) = no_end why a is

-- ---- messages

record InChain (g : Setting) (t : Tables) (ss : List Stack) (ms : List Message) (n : ℕ) (a : Answer) : Type 0 where
  before : List Message
  rs : List Message
  z : Side
  chain : Hears g t ss before rs z
  m : Message
  later : List Message
  split : ms ≡ before ++ m ∷ later
  c : Answer
  fate : fate_of_message g z.stacks m ≡ for_root n c
  same : a ≡ root_outcome g (state_of n z.tables.roots) c

-- a side with these tables and stacks
side_of : Tables → List Stack → Side
side_of t ss = record { tables = t; stacks = ss; incoming = nothing_came; outgoing = nothing_goes; entries = 0; cause = None }

first_in : (g : Setting) (t : Tables) (ss : List Stack) (m : Message) (ms : List Message) (n : ℕ) (a c : Answer) → fate_of_message g ss m ≡ for_root n c → a ≡ root_outcome g (state_of n t.roots) c → InChain g t ss (m ∷ ms) n a
unfolding side_of
first_in g t ss m ms n a c fate same = record { before = []; rs = []; z = side_of t ss; chain = rests (side_of t ss); m = m; later = ms; split = refl; c = c; fate = fate; same = same }

chain_given : (g : Setting) (t : Tables) (ss : List Stack) (ms rs : List Message) (end : Side) → Hears g t ss ms rs end → (n : ℕ) (a : Answer) → Has n a end.tables.roots → Has n a t.roots ⊎ InChain g t ss ms n a
chain_given g t' ss' ms' rs' z' (rests z) n a at = inl at
chain_given g t' ss' ms' rs' z' (breaks s why place) n a at = inl (not_of_end s.tables.roots (ends_by (cause.Broken why place) s) n a (end_of_ends (cause.Broken why place) s n (answer a) at))
chain_given g t' ss' ms' rs' end' (hears t ss m z ms rs end got later) n a at = by_later (chain_given g z.tables z.stacks ms rs end later n a at)
  where
    by_now : Has n a t.roots ⊎ ((c : Answer) × (fate_of_message g ss m ≡ for_root n c) × (a ≡ root_outcome g (state_of n t.roots) c)) → Has n a t.roots ⊎ InChain g t ss (m ∷ ms) n a
    by_now (inl was) = inl was
    by_now (inr (c, fate, same)) = inr (first_in g t ss m ms n a c fate same)

    by_later : Has n a z.tables.roots ⊎ InChain g z.tables z.stacks ms n a → Has n a t.roots ⊎ InChain g t ss (m ∷ ms) n a
    by_later (inl was) = by_now (given_by g (fate_of_message g ss m) n a t.roots (ap (state_of n) (sym got.roots) ∙ was))
    by_later (inr k) =
        inr
        (record {
          before = m ∷ k.before;
          rs = _;
          z = k.z;
          chain = hears t ss m z k.before k.rs k.z got k.chain;
          m = k.m;
          later = k.later;
          split = ap (λ xs. m ∷ xs) k.split;
          c = k.c;
          fate = k.fate;
          same = k.same;
        })

-- ---- entries

abbrev Or : Setting → Side → ℕ → Answer → Entry → List Message → Type 0
Or g s n a e got = Has n a s.tables.roots ⊎ Gives g s n a e got

effect_given : (g : Setting) (tid : List ℕ) (p : Picked) (s : Side) (got : List Message) (n : ℕ) (a : Answer) → picked tid s ≡ Some p → (e : Effect) → effect_at g tid p.method p.below s.tables ≡ e
    → Has n a (applies_effect g tid p e s).tables.roots → Or g s n a (applied tid) got
effect_given g tid p s got n a there disposes is at = inl (not_of_end s.tables.roots (ends_by cause.Disposed s) n a (end_of_ends cause.Disposed s n (answer a) at))
effect_given g tid p s got n a there e is at = by_fate (given_by g (fate_of g tid p.method p.below e s.tables) n a s.tables.roots (ap (state_of n) (sym (applies_given g tid p.method p.below e s.tables).roots) ∙ at))
  where
    by_fate : Has n a s.tables.roots ⊎ ((c : Answer) × (fate_of g tid p.method p.below e s.tables ≡ for_root n c) × (a ≡ root_outcome g (state_of n s.tables.roots) c)) → Or g s n a (applied tid) got
    by_fate (inl was) = inl was
    by_fate (inr (c, fate, same)) = inr (by_statement got tid p there c (ap (λ z. fate_of g tid p.method p.below z s.tables) is ∙ fate) same)

applied_given : (g : Setting) (tid : List ℕ) (o : Option Picked) (s : Side) (got : List Message) (n : ℕ) (a : Answer) → picked tid s ≡ o → Has n a (applies_picked g tid o s).tables.roots → Or g s n a (applied tid) got
applied_given g tid None s got n a there at = inl at
applied_given g tid (Some p) s got n a there at = effect_given g tid p s got n a there (effect_at g tid p.method p.below s.tables) refl at

-- ---- roots

waits_not : {X : Type 0} (a : Answer) → waits_call ≡ answered (answer a) → X
waits_not a is = absurd (cc)

asks_not : {X : Type 0} (wanted : List ℕ) (a : Answer) → waits_query wanted ≡ answered (answer a) → X
asks_not wanted a is = absurd (cc)

-- where a state is put that is no answer
put_none : (root n : ℕ) (x : RootState) (states now : List RootState) (a : Answer) → (x ≡ answered (answer a) → ⊥) → now ≡ states_with root x states → Has n a now → Has n a states
put_none root n x states now a none is at = by_put (put_or root n x states a (ap (state_of n) (sym is) ∙ at))
  where
    by_put : Has n a states ⊎ ((root ≡ n) × (x ≡ answered (answer a))) → Has n a states
    by_put (inl was) = was
    by_put (inr (same, bad)) = absurd (none bad)

-- where an answer is put
put_answer : (root n : ℕ) (states now : List RootState) (c a : Answer) → now ≡ states_with root (answered (answer c)) states → Has n a now → Has n a states ⊎ ((root ≡ n) × (a ≡ c))
put_answer root n states now c a is at = by_put (put_or root n (answered (answer c)) states a (ap (state_of n) (sym is) ∙ at))
  where
    by_put : Has n a states ⊎ ((root ≡ n) × (answered (answer c) ≡ answered (answer a))) → Has n a states ⊎ ((root ≡ n) × (a ≡ c))
    by_put (inl was) = inl was
    by_put (inr (same, it)) = inr (same, same_answer c a it)

begins_given : (g : Setting) (root : ℕ) (r : Ref) (function : ℕ) (args : List Plain) (s : Side) (n : ℕ) (a : Answer) → Has n a (begins_call g root r function args s).tables.roots → Has n a s.tables.roots
begins_given g root null function args s n a at = at
begins_given g root (own oid face) function args s n a at =
    put_none root n waits_call s.tables.roots _ a (λ bad. waits_not a bad) (still_calls_own g oid face function args (bottom root) (with_root root waits_call s.tables)).stay at
begins_given g root (peer oid face) function args s n a at =
    put_none root n waits_call s.tables.roots _ a (λ bad. waits_not a bad) (still_calls_peer g (root_tid g root) oid face function args (bottom root) (with_root root waits_call s.tables)).stay at

calls_given : (g : Setting) (root : ℕ) (oid face : List ℕ) (function : ℕ) (args : List Plain) (s : Side) (got : List Message) (n : ℕ) (a : Answer) (why : Option RuntimeCause)
    → answered_before (root_tid g root) oid face function args ≡ why → Has n a (calls_unless g root oid face function args why s).tables.roots → Or g s n a (called root oid face function args) got
calls_given g root oid face function args s got n a None is at = inl (begins_given g root (ref_of g oid face) function args s n a at)
calls_given g root oid face function args s got n a (Some why) is at = by_put (put_answer root n s.tables.roots _ (caused why) a refl at)
  where
    by_put : Has n a s.tables.roots ⊎ ((root ≡ n) × (a ≡ caused why)) → Or g s n a (called root oid face function args) got
    by_put (inl was) = inl was
    by_put (inr (same, it)) = inr (subst (λ k. Gives g s k a (called root oid face function args) got) same (before_calling got oid face function args why is it))

asks_peer_given : (g : Setting) (root : ℕ) (oid face wanted : List ℕ) (s : Side) (n : ℕ) (a : Answer)
    → Has n a (calls_peer g (root_tid g root) oid face 0 (query_args wanted) (bottom root) (with_root root (waits_query wanted) s.tables)).tables.roots → Has n a s.tables.roots
asks_peer_given g root oid face wanted s n a at =
    put_none root n (waits_query wanted) s.tables.roots _ a (λ bad. asks_not wanted a bad)
    (still_calls_peer g (root_tid g root) oid face 0 (query_args wanted) (bottom root) (with_root root (waits_query wanted) s.tables)).stay at

asks_given : (g : Setting) (root : ℕ) (name wanted : List ℕ) (s : Side) (got : List Message) (n : ℕ) (a : Answer) (why : Option RuntimeCause)
    → answered_before (root_tid g root) name x_interface_name 0 (query_args wanted) ≡ why → Has n a (asks_unless g root name wanted why s).tables.roots → Or g s n a (asked root name wanted) got
asks_given g root name wanted s got n a None is at = inl (asks_peer_given g root name x_interface_name wanted s n a at)
asks_given g root name wanted s got n a (Some why) is at = by_put (put_answer root n s.tables.roots _ (caused why) a refl at)
  where
    by_put : Has n a s.tables.roots ⊎ ((root ≡ n) × (a ≡ caused why)) → Or g s n a (asked root name wanted) got
    by_put (inl was) = inl was
    by_put (inr (same, it)) = inr (subst (λ k. Gives g s k a (asked root name wanted) got) same (before_asking got name wanted why is it))

same_ref : (g : Setting) (oid face o f : List ℕ) (b : Bool) → is_own g oid ≡ b → (if b then own oid face else peer oid face) ≡ own o f → (o ≡ oid) × (is_own g oid ≡ true)
same_ref g oid face o f true is same = (cc, is)
same_ref g oid face o f false is same = absurd (cc)

query_given : (g : Setting) (root : ℕ) (oid face wanted : List ℕ) (s : Side) (got : List Message) (n : ℕ) (a : Answer) (r : Ref) → ref_of g oid face ≡ r
    → Has n a (begins_query g root r wanted s).tables.roots → Or g s n a (queried root oid face wanted) got
unfolding ref_of
query_given g root oid face wanted s got n a null is at = inl at
query_given g root oid face wanted s got n a (peer o f) is at = inl (asks_peer_given g root o f wanted s n a at)
query_given g root oid face wanted s got n a (own o f) is at =
    by_put (same_ref g oid face o f (is_own g oid) refl is)
    (put_answer root n s.tables.roots _ (root_outcome g (waits_query wanted) (returned x [])) a ((root_still g root (waits_query wanted) (returned x []) held).stay ∙ ap (states_with root (answered (answer (root_outcome g (waits_query wanted) (returned x []))))) (still_gains_all (holder.Root root) (refs x) s.tables).stay) at)
  where
    x : Plain
    x = object_answer g o (kd.interface wanted) s.tables.objects

    held : Tables
    held = gains_all (holder.Root root) (refs x) s.tables

    by_put : (o ≡ oid) × (is_own g oid ≡ true) → Has n a s.tables.roots ⊎ ((root ≡ n) × (a ≡ root_outcome g (waits_query wanted) (returned x []))) → Or g s n a (queried root oid face wanted) got
    by_put own_it (inl was) = inl was
    by_put own_it (inr (same, it)) =
        inr (subst (λ k. Gives g s k a (queried root oid face wanted) got) same
        (at_once got oid face wanted own_it.1 (it ∙ ap (λ z. root_outcome g (waits_query wanted) (returned (object_answer g z (kd.interface wanted) s.tables.objects) [])) own_it.0)))

queries_given : (g : Setting) (root : ℕ) (oid face wanted : List ℕ) (s : Side) (got : List Message) (n : ℕ) (a : Answer) (why : Option RuntimeCause)
    → answered_before (root_tid g root) oid face 0 (query_args wanted) ≡ why → Has n a (queries_unless g root oid face wanted why s).tables.roots → Or g s n a (queried root oid face wanted) got
queries_given g root oid face wanted s got n a None is at = query_given g root oid face wanted s got n a (ref_of g oid face) refl at
queries_given g root oid face wanted s got n a (Some why) is at = by_put (put_answer root n s.tables.roots _ (caused why) a refl at)
  where
    by_put : Has n a s.tables.roots ⊎ ((root ≡ n) × (a ≡ caused why)) → Or g s n a (queried root oid face wanted) got
    by_put (inl was) = inl was
    by_put (inr (same, it)) = inr (subst (λ k. Gives g s k a (queried root oid face wanted) got) same (before_querying got oid face wanted why is it))

-- ---- all entries

fed_given : (g : Setting) (b : List ℕ) (s : Side) (n : ℕ) (a : Answer) → Has n a s.tables.roots ⊎ InChain g s.tables s.stacks (feeds g b s).got n a → Or g s n a (fed b) (feeds g b s).got
fed_given g b s n a (inl was) = inl was
fed_given g b s n a (inr k) = inr (by_message (feeds g b s).got b k.before k.rs k.z k.chain k.m k.later k.split k.c k.fate k.same)

ended_given : (g : Setting) (why : Cause) (e : Entry) (s : Side) (n : ℕ) (a : Answer) → Has n a (ends_by why s).tables.roots → Or g s n a e []
ended_given g why e s n a at = inl (not_of_end s.tables.roots (ends_by why s) n a (end_of_ends why s n (answer a) at))

does_given : (g : Setting) (e : Entry) (s : Side) → AreApart s.stacks → (n : ℕ) (a : Answer) → Has n a (does g e s).side.tables.roots → Or g s n a e (does g e s).got
unfolding does root_asks root_calls root_queries root_makes root_drops root_takes drains
does_given g (fed b) s apart n a at = let h = feeds_on g b s apart in fed_given g b s n a (chain_given g s.tables s.stacks (feeds g b s).got h.answers (feeds g b s).side h.chain n a at)
does_given g ended s apart n a at = ended_given g cause.Ended ended s n a at
does_given g failed s apart n a at = ended_given g cause.Failed failed s n a at
does_given g (asked root name wanted) s apart n a at = asks_given g root name wanted s [] n a (answered_before (root_tid g root) name x_interface_name 0 (query_args wanted)) refl at
does_given g (called root oid face function args) s apart n a at = calls_given g root oid face function args s [] n a (answered_before (root_tid g root) oid face function args) refl at
does_given g (queried root oid face wanted) s apart n a at = queries_given g root oid face wanted s [] n a (answered_before (root_tid g root) oid face 0 (query_args wanted)) refl at
does_given g (made root behaviour wanted) s apart n a at = inl (ap (state_of n) (sym (stay_makes_object behaviour (defaults_of g behaviour) s.tables)) ∙ at)
does_given g (dropped root oid face) s apart n a at = inl (ap (state_of n) (sym (drops_stay g root (ref_of g oid face) s.tables (stands s))) ∙ at)
does_given g (applied tid) s apart n a at = applied_given g tid (picked tid s) s [] n a refl at
does_given g (took root) s apart n a at = inl (put_none root n idle s.tables.roots _ a (λ bad. no_state a bad) refl at)
does_given g (reaped object) s apart n a at = inl (ap (state_of n) (sym (reaps_stay g (lowest g s.tables) s)) ∙ at)
does_given g (drained b) s apart n a at = inl at
does_given g disposed s apart n a at = ended_given g cause.Disposed disposed s n a at
does_given g full s apart n a at = ended_given g cause.Full full s n a at
does_given g no_memory s apart n a at = inl (not_of_end s.tables.roots (runs_out s.cause s) n a (out_ends s.cause s n (answer a) at))

turn_given : (g : Setting) (s : Side) (e : Entry) (u : Turn) → step g s e ≡ Some u → AreApart s.stacks → (n : ℕ) (a : Answer) → Has n a u.side.tables.roots → Or g s n a e u.got
turn_given g s e u is apart n a =
    of_step g s e u (λ v. Has n a v.side.tables.roots → Or g s n a e v.got) (λ can now. does_given g e s apart n a (ap (state_of n) (sym (turn_roots g e s)) ∙ now)) is

-- ---- an entry that keeps an outcome

-- a root that took its outcome is idle
took_idle_at : (n : ℕ) (states : List RootState) (b : Bool) → nat_lt n (length states) ≡ b → state_of (suc n) (states_with (suc n) idle states) ≡ idle
unfolding state_of states_with
took_idle_at n states true is = let less = ltb-true n (length states) is in state_same (suc n) idle states (omega arith) (omega arith)
took_idle_at n states false is =
    let past = ltb-false n (length states) is in
    let same = length-set states n idle in
    let beyond : length (slice_set states n idle) ≤ n = omega arith in ap (λ o. unwrap_or o idle) (slice_get_past (slice_set states n idle) n beyond)

took_idle : (n : ℕ) (states : List RootState) → state_of n (states_with n idle states) ≡ idle
unfolding state_of states_with
took_idle zero states = refl
took_idle (suc n) states = took_idle_at n states (nat_lt n (length states)) refl

took_none : (root n : ℕ) (states : List RootState) (a : Answer) (b : Bool) → (root == n) ≡ b → Has n a (states_with root idle states) → not (root == n) ≡ true
took_none root n states a true is at = no_state a (sym (subst (λ k. state_of k (states_with root idle states) ≡ idle) (eqb-true root n is) (took_idle root states)) ∙ at)
took_none root n states a false is at = ap not is

-- one that has an outcome begins no call
begins_none : (root n : ℕ) (s : Side) (a : Answer) (b : Bool) → (root == n) ≡ b → is_idle (state_of root s.tables.roots) ≡ true → Has n a s.tables.roots → not (root == n) ≡ true
begins_none root n s a true is free was =
    absurd (true≢false (sym free ∙ (ap (λ k. is_idle (state_of k s.tables.roots)) (eqb-true root n is) ∙ ap is_idle was)))
begins_none root n s a false is free was = ap not is

idle_first : (g : Setting) (root : ℕ) (s : Side) (a b c : Bool) → a && (b && (may_begin g root s && c)) ≡ true → is_idle (state_of root s.tables.roots) ≡ true
idle_first g root s a b c can =
    let inner = and_parts b (may_begin g root s && c) (and_parts a (b && (may_begin g root s && c)) can).1 in
    (and_parts (is_root g root) (is_idle (state_of root s.tables.roots)) (and_parts (may_begin g root s) c inner.1).0).1

idle_last : (g : Setting) (root : ℕ) (s : Side) (a b : Bool) → a && (b && may_begin g root s) ≡ true → is_idle (state_of root s.tables.roots) ≡ true
idle_last g root s a b can =
    (and_parts (is_root g root) (is_idle (state_of root s.tables.roots)) (and_parts b (may_begin g root s) (and_parts a (b && may_begin g root s) can).1).1).1

does_rest : (g : Setting) (e : Entry) (s : Side) (n : ℕ) (a : Answer) → may g s e ≡ true → Has n a s.tables.roots → Has n a (does g e s).side.tables.roots → leaves_outcome n e ≡ true
unfolding may does root_takes
does_rest g (asked root name wanted) s n a can was at = begins_none root n s a (root == n) refl (idle_last g root s (stands s) (not (has_entries s)) can) was
does_rest g (called root oid face function args) s n a can was at = begins_none root n s a (root == n) refl (idle_first g root s (stands s) (not (has_entries s)) _ can) was
does_rest g (queried root oid face wanted) s n a can was at = begins_none root n s a (root == n) refl (idle_first g root s (stands s) (not (has_entries s)) _ can) was
does_rest g (took root) s n a can was at = took_none root n s.tables.roots a (root == n) refl at
does_rest g e s n a can was at = refl

turn_rests : (g : Setting) (s : Side) (e : Entry) (u : Turn) → step g s e ≡ Some u → (n : ℕ) (a : Answer) → Has n a s.tables.roots → Has n a u.side.tables.roots → leaves_outcome n e ≡ true
turn_rests g s e u is n a was =
    of_step g s e u (λ v. Has n a v.side.tables.roots → leaves_outcome n e ≡ true) (λ can now. does_rest g e s n a can was (ap (state_of n) (sym (turn_roots g e s)) ∙ now)) is

pub all_push : (test : Entry → Bool) (es : List Entry) (e : Entry) → list_all test es ≡ true → test e ≡ true → list_all test (es ++ e ∷ []) ≡ true
all_push test [] e all is = and_from (test e) true is refl
all_push test (f ∷ es) e all is =
    let parts = and_parts (test f) (list_all test es) all in and_from (test f) (list_all test (es ++ e ∷ [])) parts.0 (all_push test es e parts.1 is)

-- ---- a history

abbrev AreGiven : Setting → List Entry → Told → Type 0
AreGiven g es x = (n : ℕ) (a : Answer) → Has n a x.side.tables.roots → IsGiven g es n a

given_kept : (g : Setting) (es : List Entry) (x : Told) (e : Entry) (u : Turn) → Leads g es x → AreGiven g es x → step g x.side e ≡ Some u → AreGiven g (es ++ e ∷ []) (told_more x e u)
given_kept g es x e u leads has is n a at = by_turn (turn_given g x.side e u is (always_apart g es x leads) n a at)
  where
    later : Has n a x.side.tables.roots → IsGiven g es n a → IsGiven g (es ++ e ∷ []) n a
    later was k =
        record {
          before = k.before;
          entry = k.entry;
          later = k.later ++ e ∷ [];
          journal = ap (λ zs. zs ++ e ∷ []) k.journal ∙ append_assoc k.before (k.entry ∷ k.later) (e ∷ []);
          told = k.told;
          leads = k.leads;
          turn = k.turn;
          does = k.does;
          gives = k.gives;
          kept = all_push (leaves_outcome n) k.later e k.kept (turn_rests g x.side e u is n a was at);
        }

    by_turn : Or g x.side n a e u.got → IsGiven g (es ++ e ∷ []) n a
    by_turn (inl was) = later was (has n a was)
    by_turn (inr now) = record { before = es; entry = e; later = []; journal = refl; told = x; leads = leads; turn = u; does = is; gives = now; kept = refl }

none_given : (g : Setting) → AreGiven g [] (nothing_told g)
none_given g n a at = no_state a (sym (first_idle g n) ∙ at)

pub answer_given : (g : Setting) (es : List Entry) (x : Told) (n : ℕ) (a : Answer) → Leads g es x → state_of n x.side.tables.roots ≡ answered (answer a) → IsGiven g es n a
answer_given g es x n a leads at = along_history g (AreGiven g) (none_given g) (given_kept g) es x leads n a at
