-- Numbers of nodes that are set from the last place of an order to its first.
use Rattle.std.proofs.Common.{◌≡◌, ◌≢◌, refl, sym, ap, subst, ◌∙◌, ℕ, suc, ◌-◌, ◌<◌, ◌≤◌, Bool, true, false, inl, inr, List, length, get_or, set, nat_lt, if◌then◌else◌, arith}
use Rattle.std.proofs.lemmas.Bool.{cases_eq}
use Rattle.std.proofs.lemmas.Bool.Decides.{nat_tests}
use Rattle.std.proofs.lemmas.List.{get_or_default, get_or-set_same, get_or-set_other, length-set}
use Rattle.circle_ranks.specs.Order.{AreFirst, IsKnown, set_within}

-- each place from this one on is known
abbrev pub AreKnownFrom : ℕ → ℕ → List ℕ → List ℕ → Type 0
AreKnownFrom at count order numbers = (k : ℕ) → at ≤ k → k < length order → get_or order k 0 < count → IsKnown order numbers k

set_low : (xs : List ℕ) (m x : ℕ) → m < length xs → set_within xs m x ≡ set xs m x
set_low xs m x low = rw (test_is low) refl
  where
    test_is : m < length xs → nat_lt m (length xs) ≡ true
    test_is below = grind (arith, nat_tests)

pub set_long : (xs : List ℕ) (m x : ℕ) → length (set_within xs m x) ≡ length xs
set_long xs m x = by_test (nat_lt m (length xs)) refl
  where
    by_test : (b : Bool) → nat_lt m (length xs) ≡ b → length (if b then set xs m x else xs) ≡ length xs
    by_test true is = length-set xs m x
    by_test false is = refl

set_others : (xs : List ℕ) (m x i : ℕ) → m ≢ i → get_or (set_within xs m x) i 0 ≡ get_or xs i 0
set_others xs m x i other = by_test (nat_lt m (length xs))
  where
    by_test : (b : Bool) → get_or (if b then set xs m x else xs) i 0 ≡ get_or xs i 0
    by_test true = get_or-set_other xs m i x 0 (λ e. other (sym e))
    by_test false = refl

pub known_more : (order numbers : List ℕ) (count at : ℕ) → at < length order → length numbers ≡ count → AreKnownFrom (suc at) count order numbers
    → AreKnownFrom at count order (set_within numbers (get_or order at 0) at)
known_more order numbers count at within long known k from low node = elim (cases_eq (get_or order at 0) (get_or order k 0)) [
  | inl same ↦
      let here : get_or (set_within numbers (get_or order at 0) at) (get_or order k 0) 0 ≡ at =
      ap (λ i. get_or (set_within numbers (get_or order at 0) at) i 0) (sym same)
      ∙ ap (λ xs. get_or xs (get_or order at 0) 0) (set_low numbers (get_or order at 0) at (omega (arith, node, long, same)))
      ∙ get_or-set_same numbers (get_or order at 0) at 0 (omega (arith, node, long, same)) in
      record { first = omega (arith, here, from); same = ap (λ i. get_or order i 0) here ∙ same }
  | inr other ↦
      let kept : get_or (set_within numbers (get_or order at 0) at) (get_or order k 0) 0 ≡ get_or numbers (get_or order k 0) 0 = set_others numbers (get_or order at 0) at (get_or order k 0) other in
      let before = known k (further k from other) low node in
      record { first = subst (λ n. n ≤ k) (sym kept) before.first; same = ap (λ i. get_or order i 0) kept ∙ before.same }
]
  where
    further : (k : ℕ) → at ≤ k → get_or order at 0 ≢ get_or order k 0 → suc at ≤ k
    further k from other = elim (cases_eq at k) [
      | inl same ↦ absurd (other (ap (λ i. get_or order i 0) same))
      | inr apart ↦ omega arith
    ]

-- one place before
pub known_next : (order numbers new : List ℕ) (count at node : ℕ) → 0 < at → at ≤ length order → length numbers ≡ count → AreKnownFrom at count order numbers
    → node ≡ get_or order (at - 1) node → new ≡ set_within numbers node (at - 1) → (length new ≡ count) × AreKnownFrom (at - 1) count order new
known_next order numbers new count at node some low long known is set_so =
    let last : at - 1 < length order = omega (arith, some, low) in
    let here : node ≡ get_or order (at - 1) 0 = is ∙ get_or_default order (at - 1) node 0 last in
    let result : new ≡ set_within numbers (get_or order (at - 1) 0) (at - 1) = set_so ∙ ap (λ m. set_within numbers m (at - 1)) here in
    let next : suc (at - 1) ≡ at = omega (arith, some) in (
      ap length result ∙ set_long numbers (get_or order (at - 1) 0) (at - 1) ∙ long,
      subst (AreKnownFrom (at - 1) count order) (sym result) (known_more order numbers count (at - 1) last long (subst (λ n. AreKnownFrom n count order numbers) (sym next) known)),
    )

-- from the end none, and from the front all
pub none_known : (order numbers : List ℕ) (count at : ℕ) → at ≡ length order → AreKnownFrom at count order numbers
none_known order numbers count at end k from low node = absurd (omega (arith, end, from, low))

pub all_known : (order numbers : List ℕ) (count at : ℕ) → at ≤ 0 → length numbers ≡ count → AreKnownFrom at count order numbers → AreFirst count order numbers
all_known order numbers count at end long known = record { long = long; known = λ k low node. known k (omega (arith, end)) low node }
