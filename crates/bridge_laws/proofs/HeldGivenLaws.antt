-- What a root has is held, reference by reference, and so is what its statements work out.
use Rattle.std.proofs.Common.{◌≡◌, refl, sym, ap, ◌∙◌, ℕ, ◌+◌, ◌≤◌, Bool, true, false, not, List, [], ◌∷◌, Option, None, Some, arith}
use Rattle.std.proofs.lemmas.Bool.{and_from, lt-ltb}
use Rattle.std.specs.Cmp.{tied_itself}
use Rattle.std.specs.List.{list_all, flat_map}
use Rattle.std.specs.Option.{option_map, unwrap_or}
use Rattle.std.specs.Ordering.{is_eq}
use Rattle.uno_model.specs.Values.{Ref, null, own, peer, Plain, Plains, refs, refs_in, object_in}
use Rattle.uno_model.specs.Values as v
use Rattle.table_model.specs.Holdings.{Hold, hold, holds, Holdings}
use Rattle.table_model.specs.Pair.{Pair, pair}
use Rattle.table_model.specs.declared.holder.Holder.TheVariants as holder
use Rattle.table_model.proofs.HoldLaws.{hold_order}
use Rattle.plan_model.specs.Calling.{given_values, object_of}
use Rattle.plan_model.specs.Evaluation.{Scene, value_of, value_under}
use Rattle.plan_model.specs.Expressions.{Expression, Argument, into, out, both}
use Rattle.plan_model.specs.Frames.{Variable}
use Rattle.plan_model.specs.Holdings.{refs_under}
use Rattle.bridge_model.specs.References.{holds_ref, refs_of_values}
use Rattle.bridge_model.specs.Roots.{holds_each}
use Rattle.bridge_model.specs.Sides.{Tables}
use Rattle.bridge_laws.specs.Counting.{total, one_if}
use Rattle.bridge_laws.specs.Living.{constants_in, argument_constants}
use Rattle.bridge_laws.proofs.EvaluationLaws.{scene_counts, option_counts, under_at_most, value_counts}
use Rattle.bridge_laws.proofs.OccurrenceLaws.{times, is_hold, ref_owes, refs_owe}
use Rattle.bridge_laws.proofs.Sums.{total_append, total_flat_map, total_none}
use Rattle.bridge_laws.proofs.VariableLaws.{values_more, values_none}

-- ---- words

-- a reference that a root does not hold, as a number
unfoldable pub unheld : ℕ → Tables → Ref → ℕ
unheld k t r = one_if (not (holds_ref (holder.Root k) r t))

-- no reference at all
unfoldable pub nulls : Ref → ℕ
nulls null = 1
nulls (own oid face) = 0
nulls (peer oid face) = 0

-- ---- values have no null among their references

pub object_nulls : (r : Ref) → total nulls (object_in r) ≡ 0
unfolding total nulls
object_nulls null = refl
object_nulls (own oid face) = refl
object_nulls (peer oid face) = refl

mutual
  unfolding refs refs_in total

  value_nulls : (x : Plain) → total nulls (refs x) ≡ 0
  value_nulls (v.any k x) = value_nulls x
  value_nulls (v.tuple name xs) = values_nulls xs
  value_nulls (v.list k xs) = values_nulls xs
  value_nulls (v.ref r) = object_nulls r
  value_nulls x = refl

  values_nulls : (xs : Plains) → total nulls (refs_in xs) ≡ 0
  values_nulls v.none = refl
  values_nulls (v.more x xs) = let parts = total_append nulls (refs x) (refs_in xs) in let here = value_nulls x in let rest = values_nulls xs in omega arith

pub variables_nulls : (xs : List Variable) → total nulls (refs_under xs) ≡ 0
unfolding refs_under
variables_nulls xs = total_flat_map nulls (λ x. refs x.value) xs ∙ total_none (λ x. total nulls (refs x.value)) (λ x. value_nulls x.value) xs

-- ---- what is held

pub itself : (h : Hold) → one_if (is_hold h h) ≡ 1
unfolding is_hold
itself h = ap (λ o. one_if (is_eq o)) (tied_itself hold_order h)

pub some_held : (h : Hold) (hs : Holdings) → 1 ≤ times h hs → holds h hs ≡ true
unfolding times
some_held h hs there = lt-ltb 0 _ (omega arith)

pub held_one : (k : ℕ) (oid face : List ℕ) (t : Tables) (rest : ℕ) → one_if (is_hold (hold (holder.Root k) (pair oid face)) (hold (holder.Root k) (pair oid face))) + rest ≤ times (hold (holder.Root k) (pair oid face)) t.holdings
    → holds (hold (holder.Root k) (pair oid face)) t.holdings ≡ true
held_one k oid face t rest there = let one = itself (hold (holder.Root k) (pair oid face)) in some_held (hold (holder.Root k) (pair oid face)) t.holdings (omega arith)

-- references that a root has are held
abbrev pub AreHeld : ℕ → List Ref → Tables → Type 0
AreHeld k rs t = (p : Pair) → refs_owe (hold (holder.Root k) p) (holder.Root k) rs ≤ times (hold (holder.Root k) p) t.holdings

pub held_all : (k : ℕ) (t : Tables) (rs : List Ref) → total nulls rs ≡ 0 → AreHeld k rs t → total (unheld k t) rs ≡ 0
unfolding total nulls unheld ref_owes
held_all k t [] some held = refl
held_all k t (null ∷ rs) some held = absurd (omega arith)
held_all k t (own oid face ∷ rs) some held =
    let here = ap (λ b. one_if (not b)) (held_one k oid face t (refs_owe (hold (holder.Root k) (pair oid face)) (holder.Root k) rs) (held (pair oid face))) in
    let rest = held_all k t rs (omega arith) (λ p. let all = held p in omega arith) in omega arith
held_all k t (peer oid face ∷ rs) some held =
    let here = ap (λ b. one_if (not b)) (held_one k oid face t (refs_owe (hold (holder.Root k) (pair oid face)) (holder.Root k) rs) (held (pair oid face))) in
    let rest = held_all k t rs (omega arith) (λ p. let all = held p in omega arith) in omega arith

pub not_none : (b : Bool) → one_if (not b) ≡ 0 → b ≡ true
not_none true none = refl
not_none false none = absurd (omega arith)

pub each_held : (k : ℕ) (t : Tables) (rs : List Ref) → total (unheld k t) rs ≡ 0 → holds_each k rs t ≡ true
unfolding total unheld holds_each
each_held k t [] none = refl
each_held k t (r ∷ rs) none =
    and_from (holds_ref (holder.Root k) r t) (list_all (λ r. holds_ref (holder.Root k) r t) rs) (not_none (holds_ref (holder.Root k) r t) (omega arith)) (each_held k t rs (omega arith))

pub pair_held : (k : ℕ) (t : Tables) (r : Ref) (oid face : List ℕ) → r ≡ own oid face → total (unheld k t) (object_in r) ≡ 0 → holds (hold (holder.Root k) (pair oid face)) t.holdings ≡ true
unfolding total unheld
pair_held k t null oid face is none = absurd (cc)
pair_held k t (own other of) oid face is none =
    let same : total (unheld k t) (object_in (own oid face)) ≡ total (unheld k t) (object_in (own other of)) = ap (λ r. total (unheld k t) (object_in r)) (sym is) in
    not_none (holds (hold (holder.Root k) (pair oid face)) t.holdings) (omega arith)
pair_held k t (peer other of) oid face is none = absurd (cc)

pub peer_held : (k : ℕ) (t : Tables) (r : Ref) (oid face : List ℕ) → r ≡ peer oid face → total (unheld k t) (object_in r) ≡ 0 → holds (hold (holder.Root k) (pair oid face)) t.holdings ≡ true
unfolding total unheld
peer_held k t null oid face is none = absurd (cc)
peer_held k t (own other of) oid face is none = absurd (cc)
peer_held k t (peer other of) oid face is none =
    let same : total (unheld k t) (object_in (peer oid face)) ≡ total (unheld k t) (object_in (peer other of)) = ap (λ r. total (unheld k t) (object_in r)) (sym is) in
    not_none (holds (hold (holder.Root k) (pair oid face)) t.holdings) (omega arith)

-- ---- values that are worked out

-- what a word stands for counts no more than variables do
pub target_counts : (f : Ref → ℕ) (x : Plain) → total f (object_in (object_of x)) ≤ total f (refs x)
unfolding refs total
target_counts f (v.ref r) = omega arith
target_counts f x = omega arith

abbrev pub given_counts : (Ref → ℕ) → Option (List Plain) → ℕ
given_counts f None = 0
given_counts f (Some xs) = total f (refs_of_values xs)

pub into_by : (f : Ref → ℕ) (s : Scene) (a : Expression) (args : List Argument) (x : Option Plain) (xs : Option (List Plain)) → value_of s a ≡ x → given_values s args ≡ xs
    → option_counts f x ≡ 0 → given_counts f xs ≡ 0 → given_counts f (given_values s (into a ∷ args)) ≡ 0
unfolding given_values
into_by f s a args None xs is are here rest = rw is refl
into_by f s a args (Some x) None is are here rest = rw (is, are) refl
into_by f s a args (Some x) (Some xs) is are here rest = rw (is, are) (let parts = values_more f x xs in omega arith)

pub both_by : (f : Ref → ℕ) (x : Plain) (o : Option (List Plain)) → total f (refs x) ≡ 0 → given_counts f o ≡ 0 → given_counts f (option_map (λ xs. x ∷ xs) o) ≡ 0
both_by f x None here rest = refl
both_by f x (Some xs) here rest = let parts = values_more f x xs in omega arith

pub given_none : (f : Ref → ℕ) (s : Scene) (args : List Argument) → scene_counts f s ≡ 0 → total f (flat_map argument_constants args) ≡ 0 → given_counts f (given_values s args) ≡ 0
unfolding given_values
given_none f s [] scene constants = values_none f
given_none f s (into a ∷ args) scene constants =
    let parts = total_append f (constants_in a) (flat_map argument_constants args) in
    into_by f s a args (value_of s a) (given_values s args) refl refl (value_counts f s a scene (omega arith)) (given_none f s args scene (omega arith))
given_none f s (out name ∷ args) scene constants = given_none f s args scene constants
given_none f s (both name ∷ args) scene constants =
    let here = under_at_most f name s.variables in both_by f (value_under name s.variables) (given_values s args) (omega arith) (given_none f s args scene constants)

pub or_none : (f : Ref → ℕ) (o : Option (List Plain)) → given_counts f o ≡ 0 → total f (refs_of_values (unwrap_or o [])) ≡ 0
or_none f None none = values_none f
or_none f (Some xs) none = none
