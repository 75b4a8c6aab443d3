-- The references of values, one value after the other: why they break the protocol, and whether a root may give them.
use Rattle.std.proofs.Common.{◌≡◌, refl, sym, ap, ◌∙◌, ℕ, ◌+◌, ◌<◌, ◌≤◌, Bool, true, false, not, ◌&&◌, ◌||◌, List, [], ◌∷◌, ◌++◌, length, drop, get_or, Option, None, Some}
use Rattle.std.proofs.lemmas.List.{at_drop_more, drop_all}
use Rattle.std.specs.List.{list_all}
use Rattle.std.specs.Option.{option_or}
use Rattle.message_model.specs.Messages.{returned, request}
use Rattle.plan_model.specs.Frames.{Stack}
use Rattle.uno_model.specs.Values.{Ref, own, peer, object_in, Plain, plains, refs, refs_in}
use Rattle.uno_values.specs.Values.{plain_of, plains_of}
use Rattle.uno_values.specs.declared.value.Value.{Value}
use Rattle.urp_model.specs.declared.reason.Reason.{Reason}
use Rattle.urp_model.specs.declared.reason.Reason.TheVariants.{BusyThread, UnknownOid, UnknownThread}
use Rattle.bridge_model.specs.Receiving.{is_target, refs_refusal, ref_refusal, refusal, unless}
use Rattle.bridge_model.specs.References.{holds_ref, refs_of_values, refs_of_answer}
use Rattle.bridge_model.specs.Roots.{holds_each, holds_pair}
use Rattle.bridge_model.specs.Settings.{Setting, is_own, is_told}
use Rattle.bridge_model.specs.Sides.{Side, Tables}
use Rattle.bridge_model.specs.Stacks.{has_stack, is_busy}
use Rattle.bridge_state.specs.Threads.{thread_refusal}
use Rattle.bridge_model.specs.Steps.{may_give}
use Rattle.table_model.specs.declared.holder.Holder.TheVariants as holder
use Rattle.bridge_state.specs.Roots.{gives}

-- what some of several values refer to stands before what the rest do
refs_next : (xs : List Value) (i : ℕ) (x : Value) → i < length xs → x ≡ get_or xs i x → refs_in (plains_of (drop i xs)) ≡ refs (plain_of x) ++ refs_in (plains_of (drop (i + 1) xs))
unfolding refs_in
refs_next xs i x within is =
    at_drop_more (λ ys. refs_in (plains_of ys)) xs i x within ∙ ap (λ y. refs (plain_of y) ++ refs_in (plains_of (drop (i + 1) xs))) (sym is)

refs_past : (xs : List Value) (i : ℕ) → length xs ≤ i → refs_in (plains_of (drop i xs)) ≡ []
unfolding refs_in
refs_past xs i past = ap (λ ys. refs_in (plains_of ys)) (drop_all i xs past)

-- those of values are the same, told as a list
pub refs_flat : (xs : List Plain) → refs_in (plains xs) ≡ refs_of_values xs
unfolding refs_in refs_of_values
refs_flat [] = refl
refs_flat (x ∷ xs) = ap (λ rs. refs x ++ rs) (refs_flat xs)

-- ---- why they break the protocol

or_else_or : {A : Type 0} (a b c : Option A) → option_or a (option_or b c) ≡ option_or (option_or a b) c
or_else_or None b c = refl
or_else_or (Some x) b c = refl

module _ (g : Setting) (t : Tables) where
  -- the first that does says why
  pub refusal_on : (rs qs : List Ref) → refs_refusal g t (rs ++ qs) ≡ option_or (refs_refusal g t rs) (refs_refusal g t qs)
  unfolding refs_refusal
  refusal_on [] qs = refl
  refusal_on (r ∷ rs) qs = ap (option_or (ref_refusal g t r)) (refusal_on rs qs) ∙ or_else_or (ref_refusal g t r) (refs_refusal g t rs) (refs_refusal g t qs)

  refused_next : (xs : List Value) (i : ℕ) (x : Value) (found : Option Reason) → i < length xs → x ≡ get_or xs i x → found ≡ refs_refusal g t (refs (plain_of x))
      → refs_refusal g t (refs_in (plains_of (drop i xs))) ≡ option_or found (refs_refusal g t (refs_in (plains_of (drop (i + 1) xs))))
  refused_next xs i x found within is here =
      ap (refs_refusal g t) (refs_next xs i x within is) ∙ refusal_on (refs (plain_of x)) (refs_in (plains_of (drop (i + 1) xs)))
      ∙ ap (λ o. option_or o (refs_refusal g t (refs_in (plains_of (drop (i + 1) xs))))) (sym here)

  -- this value does not
  pub value_fine : (xs : List Value) (i : ℕ) (x : Value) (found all : Option Reason) → i < length xs → x ≡ get_or xs i x → found ≡ refs_refusal g t (refs (plain_of x)) → found ≡ None
      → refs_refusal g t (refs_in (plains_of (drop i xs))) ≡ all → refs_refusal g t (refs_in (plains_of (drop (i + 1) xs))) ≡ all
  value_fine xs i x found all within is here none so =
      sym (refused_next xs i x found within is here ∙ ap (λ o. option_or o (refs_refusal g t (refs_in (plains_of (drop (i + 1) xs))))) none) ∙ so

  -- or it does
  pub value_refused : (xs : List Value) (i : ℕ) (x : Value) (found all : Option Reason) (why : Reason) → i < length xs → x ≡ get_or xs i x → found ≡ refs_refusal g t (refs (plain_of x))
      → found ≡ Some why → refs_refusal g t (refs_in (plains_of (drop i xs))) ≡ all → Some why ≡ all
  value_refused xs i x found all why within is here some so =
      sym (refused_next xs i x found within is here ∙ ap (λ o. option_or o (refs_refusal g t (refs_in (plains_of (drop (i + 1) xs))))) some) ∙ so

  -- and none of them does
  pub all_fine : (xs : List Value) (i : ℕ) (all : Option Reason) → length xs ≤ i → refs_refusal g t (refs_in (plains_of (drop i xs))) ≡ all → None ≡ all
  unfolding refs_refusal
  all_fine xs i all past so = sym (ap (refs_refusal g t) (refs_past xs i past)) ∙ so

  -- a result, and the values behind it
  pub result_fine : (x : Plain) (outs : List Plain) (found : Option Reason) → found ≡ refs_refusal g t (refs x) → found ≡ None
      → refs_refusal g t (refs_of_values outs) ≡ refs_refusal g t (refs_of_answer (returned x outs))
  unfolding refs_of_answer
  result_fine x outs found here none =
      sym (refusal_on (refs x) (refs_of_values outs) ∙ ap (λ o. option_or o (refs_refusal g t (refs_of_values outs))) (sym here ∙ none))

  pub result_refused : (x : Plain) (outs : List Plain) (found : Option Reason) (why : Reason) → found ≡ refs_refusal g t (refs x) → found ≡ Some why
      → Some why ≡ refs_refusal g t (refs_of_answer (returned x outs))
  unfolding refs_of_answer
  result_refused x outs found why here some =
      sym (refusal_on (refs x) (refs_of_values outs) ∙ ap (λ o. option_or o (refs_refusal g t (refs_of_values outs))) (sym here ∙ some))

-- ---- whether all pass a test

-- two tests are one
both_tests : {A : Type 0} (p q : A → Bool) (xs : List A) → list_all (λ x. p x && q x) xs ≡ (list_all p xs && list_all q xs)
both_tests p q [] = refl
both_tests p q (x ∷ xs) = ap (λ b. (p x && q x) && b) (both_tests p q xs) ∙ by (p x) (q x) (list_all p xs) (list_all q xs)
  where
    by : (a b c d : Bool) → ((a && b) && (c && d)) ≡ ((a && c) && (b && d))
    by true true c d = refl
    by true false true d = refl
    by true false false d = refl
    by false b c d = refl

-- ---- whether a root may give a reference

module _ (g : Setting) (root : ℕ) (t : Tables) (oid face : List ℕ) where
  swapped : (b c : Bool) → ((b && c) && true) ≡ (c && b)
  swapped true true = refl
  swapped true false = refl
  swapped false true = refl
  swapped false false = refl

  -- one that is told as of this end
  pub own_given : (mine : Bool) (r : Ref) → mine ≡ is_own g oid → r ≡ own oid face → list_all (gives g root t) (object_in r) ≡ (mine && holds_pair root oid face t)
  unfolding is_told
  own_given mine r is here =
      ap (λ q. list_all (gives g root t) (object_in q)) here ∙ swapped (holds_pair root oid face t) (is_own g oid) ∙ ap (λ b. b && holds_pair root oid face t) (sym is)

  -- or as the peer's
  pub peer_given : (mine : Bool) (r : Ref) → mine ≡ is_own g oid → r ≡ peer oid face → list_all (gives g root t) (object_in r) ≡ (not mine && holds_pair root oid face t)
  unfolding is_told
  peer_given mine r is here =
      ap (λ q. list_all (gives g root t) (object_in q)) here ∙ swapped (holds_pair root oid face t) (not (is_own g oid)) ∙ ap (λ b. not b && holds_pair root oid face t) (sym is)

-- it holds each of the references in values, and each is told right
pub may_given : (g : Setting) (root : ℕ) (xs : List Plain) (s : Side) → list_all (gives g root s.tables) (refs_in (plains xs)) ≡ may_give g root xs s
unfolding holds_each
may_given g root xs s = ap (list_all (gives g root s.tables)) (refs_flat xs) ∙ both_tests (λ r. holds_ref (holder.Root root) r s.tables) (is_told g) (refs_of_values xs)

-- ---- a request

unless_none : (b c : Bool) (x y : Reason) (later : Option Reason) → unless b x (unless c y None) ≡ None → unless b x (unless c y later) ≡ later
unless_none true true x y later is = refl
unless_none true false x y later is = absurd (cc)
unless_none false c x y later is = absurd (cc)

-- where its object and its thread are fine, its arguments decide
pub request_fine : (g : Setting) (s : Side) (t : Tables) (ss : List Stack) (tid oid face : List ℕ) (function : ℕ) (args : List Plain) (found : Bool) (refused : Option Reason) → t ≡ s.tables → ss ≡ s.stacks
    → found ≡ is_target g oid face function t.stubs → found ≡ true → refused ≡ thread_refusal g tid ss → refused ≡ None
    → refs_refusal g t (refs_of_values args) ≡ refusal g s (request tid oid face function args)
unfolding refusal
request_fine g s t ss tid oid face function args found refused same_t same_ss target is_one thread none =
    let all = refs_refusal g s.tables (refs_of_values args) in
    let behind = unless (not (is_busy tid s.stacks)) BusyThread (unless (not (is_own g tid) || has_stack tid s.stacks) UnknownThread all) in
    ap (λ u. refs_refusal g u (refs_of_values args)) same_t
    ∙ sym
    (ap (λ b. unless b UnknownOid behind) (sym (target ∙ ap (λ u. is_target g oid face function u.stubs) same_t) ∙ is_one)
    ∙ unless_none (not (is_busy tid s.stacks)) (not (is_own g tid) || has_stack tid s.stacks) BusyThread UnknownThread all (sym (thread ∙ ap (thread_refusal g tid) same_ss) ∙ none))
