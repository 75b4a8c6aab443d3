-- What a root begins, by why it is answered at once and by whose object it calls.
use Rattle.std.proofs.Common.{◌≡◌, refl, sym, ap, ◌∙◌, ℕ, zero, suc, ◌≤◌, true, false, List, [], length, Option, None, Some, Result, Ok, Err, OnOk, if◌then◌else◌}
use Rattle.std.proofs.lemmas.List.{set-set}
use Rattle.behaviour.specs.Calling.{too_much}
use Rattle.message_model.specs.Messages.{returned}
use Rattle.table_model.specs.declared.holder.Holder.TheVariants as holder
use Rattle.uno_model.specs.BuiltIn.{x_interface_name}
use Rattle.uno_model.specs.Values.{own, peer, Plain, refs}
use Rattle.uno_model.specs.Values as v
use Rattle.plan_model.specs.Holdings.{is_taken, reference_of}
use Rattle.plan_model.specs.Leaving.{caused}
use Rattle.plan_model.specs.declared.runtime_cause.RuntimeCause.{RuntimeCause}
use Rattle.bridge_laws.proofs.RootStateLaws.{state_same}
use Rattle.bridge_model.specs.Calls.{query_args}
use Rattle.bridge_model.specs.Handing.{root_gets}
use Rattle.bridge_model.specs.References.{lets_go_all}
use Rattle.bridge_model.specs.Roots.{answered_before, asks_peer, asks_unless, begins_call, begins_query, calls_unless, is_answered, queries_unless, root_asks, root_calls, root_queries}
use Rattle.bridge_model.specs.Settings.{Setting, is_own, ref_of, root_tid}
use Rattle.bridge_model.specs.Sides.{RootState, Side, Tables, answer, answered, state_of, states_with, waits_call, waits_query, with_root}
use Rattle.bridge_state.specs.EndSides.{EndSide, on_side, with_side}
use Rattle.bridge_state.specs.Roots.{answers_own, begins_own, begins_peer}

-- ---- calls

module _ (g : Setting) (root : ℕ) (oid face : List ℕ) (function : ℕ) (args : List Plain) (s : Side) where
  pub call_answered : (why : RuntimeCause) → Some why ≡ answered_before (root_tid g root) oid face function args → is_answered root (caused why) s ≡ root_calls g root oid face function args s
  unfolding root_calls
  call_answered why is = ap (λ o. calls_unless g root oid face function args o s) is

  begins : None ≡ answered_before (root_tid g root) oid face function args → begins_call g root (ref_of g oid face) function args s ≡ root_calls g root oid face function args s
  unfolding root_calls
  begins is = ap (λ o. calls_unless g root oid face function args o s) is

  pub call_own : None ≡ answered_before (root_tid g root) oid face function args → is_own g oid ≡ true → begins_own g root oid face function args s ≡ root_calls g root oid face function args s
  unfolding ref_of
  call_own is ours = ap (λ b. begins_call g root (if b then own oid face else peer oid face) function args s) (sym ours) ∙ begins is

  pub call_peer : None ≡ answered_before (root_tid g root) oid face function args → is_own g oid ≡ false → begins_peer g root waits_call oid face function args s ≡ root_calls g root oid face function args s
  unfolding ref_of
  call_peer is theirs = ap (λ b. begins_call g root (if b then own oid face else peer oid face) function args s) (sym theirs) ∙ begins is

-- ---- queries

module _ (g : Setting) (root : ℕ) (oid face wanted : List ℕ) (s : Side) where
  pub query_answered : (why : RuntimeCause) → Some why ≡ answered_before (root_tid g root) oid face 0 (query_args wanted) → is_answered root (caused why) s ≡ root_queries g root oid face wanted s
  unfolding root_queries
  query_answered why is = ap (λ o. queries_unless g root oid face wanted o s) is

  queries : None ≡ answered_before (root_tid g root) oid face 0 (query_args wanted) → begins_query g root (ref_of g oid face) wanted s ≡ root_queries g root oid face wanted s
  unfolding root_queries
  queries is = ap (λ o. queries_unless g root oid face wanted o s) is

  pub query_own : None ≡ answered_before (root_tid g root) oid face 0 (query_args wanted) → is_own g oid ≡ true → answers_own g root oid wanted s ≡ root_queries g root oid face wanted s
  unfolding ref_of
  query_own is ours = ap (λ b. begins_query g root (if b then own oid face else peer oid face) wanted s) (sym ours) ∙ queries is

  pub query_peer : None ≡ answered_before (root_tid g root) oid face 0 (query_args wanted) → is_own g oid ≡ false → asks_peer g root oid face wanted s ≡ root_queries g root oid face wanted s
  unfolding ref_of
  query_peer is theirs = ap (λ b. begins_query g root (if b then own oid face else peer oid face) wanted s) (sym theirs) ∙ queries is

-- ---- names

module _ (g : Setting) (root : ℕ) (name wanted : List ℕ) (s : Side) where
  pub ask_answered : (why : RuntimeCause) → Some why ≡ answered_before (root_tid g root) name x_interface_name 0 (query_args wanted) → is_answered root (caused why) s ≡ root_asks g root name wanted s
  unfolding root_asks
  ask_answered why is = ap (λ o. asks_unless g root name wanted o s) is

  pub ask_peer : None ≡ answered_before (root_tid g root) name x_interface_name 0 (query_args wanted) → asks_peer g root name x_interface_name wanted s ≡ root_asks g root name wanted s
  unfolding root_asks
  ask_peer is = ap (λ o. asks_unless g root name wanted o s) is

-- ---- what contracts say

pub before_told : (o : Option RuntimeCause) (tid tid' oid oid' face face' : List ℕ) (function : ℕ) (args args' : List Plain) → o ≡ too_much tid oid face function args → tid ≡ tid' → oid ≡ oid' → face ≡ face' → args ≡ args'
    → o ≡ answered_before tid' oid' face' function args'
unfolding answered_before
before_told o tid tid' oid oid' face face' function args args' told p q r s = told ∙ (λ i. too_much (p i) (q i) (r i) function (s i))

pub by_side : {A E : Type 0} (r : Result A E) (new now : EndSide) (f h : Side → Side) → f now.side ≡ h now.side → OnOk r (new ≡ on_side f now) → OnOk r (new ≡ on_side h now)
by_side (Ok x) new now f h same p = p ∙ ap (λ s. with_side s now) same
by_side (Err e) new now f h same p = tt

-- ---- an own object that answers at once

put_twice : (root : ℕ) (x y : RootState) (states : List RootState) → states_with root y (states_with root x states) ≡ states_with root y states
unfolding states_with
put_twice zero x y states = refl
put_twice (suc n) x y states = set-set states n x y

pub asked_again : (g : Setting) (root : ℕ) (wanted : List ℕ) (x : Plain) (t : Tables) → 1 ≤ root → root ≤ length t.roots
    → root_gets g root (state_of root (with_root root (waits_query wanted) t).roots) (returned x []) (with_root root (waits_query wanted) t) ≡ root_gets g root (waits_query wanted) (returned x []) t
unfolding root_gets
asked_again g root wanted x t least most =
    ap (λ state. root_gets g root state (returned x []) (with_root root (waits_query wanted) t)) (state_same root (waits_query wanted) t.roots least most)
    ∙ ap (λ states. lets_go_all g (holder.Root root) (if is_taken g.registry wanted x then [] else refs x) (record t { roots = states }))
    (put_twice root (waits_query wanted) (answered (answer (returned (v.ref (reference_of g.registry wanted x)) []))) t.roots)
