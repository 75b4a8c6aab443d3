-- How often a name occurs: names differ where none occurs twice, and so in any order.
use Rattle.std.proofs.Common.{◌≡◌, ℕ, ◌+◌, ◌≤◌, Bool, true, false, not, ◌&&◌, ◌||◌, List, [], ◌∷◌, ◌++◌, refl, sym, ap, ◌∙◌, arith}
use Rattle.std.specs.List.{list_any}
use Rattle.std.specs.Str.{bytes_eq}
use Rattle.std.proofs.lemmas.Slice.Eq.{bytes_eq-Decides}
use Rattle.uno_model.specs.Sound.{all_differ}
use Rattle.rules_over_bases.specs.Occurring.{one_if, occurs}

pub occurs_append : (name : List ℕ) (ms ns : List (List ℕ)) → occurs name (ms ++ ns) ≡ occurs name ms + occurs name ns
unfolding occurs
occurs_append name [] ns = omega arith
occurs_append name (m ∷ ms) ns = let rest = occurs_append name ms ns in omega (arith, rest)

-- a name that is not there occurs nowhere
absent : (name : List ℕ) (ns : List (List ℕ)) → list_any (bytes_eq name) ns ≡ false → occurs name ns ≡ 0
unfolding occurs
absent name [] none = refl
absent name (n ∷ ns) none = by_test (bytes_eq name n) none (absent name ns)
  where
    by_test : (b : Bool) → (b || list_any (bytes_eq name) ns) ≡ false → (list_any (bytes_eq name) ns ≡ false → occurs name ns ≡ 0) → one_if b + occurs name ns ≡ 0
    by_test true none_now rest = let bad : true ≡ false = none_now in cc
    by_test false none_now rest = omega (arith, rest none_now)

there : (name : List ℕ) (ns : List (List ℕ)) → occurs name ns ≡ 0 → list_any (bytes_eq name) ns ≡ false
unfolding occurs
there name [] none = refl
there name (n ∷ ns) none = by_test (bytes_eq name n) none (there name ns)
  where
    by_test : (b : Bool) → one_if b + occurs name ns ≡ 0 → (occurs name ns ≡ 0 → list_any (bytes_eq name) ns ≡ false) → (b || list_any (bytes_eq name) ns) ≡ false
    by_test true none_now rest = absurd (omega (arith, none_now))
    by_test false none_now rest = rest (omega (arith, none_now))

equal_self : (n : List ℕ) → bytes_eq n n ≡ true
equal_self n = (bytes_eq-Decides n n).1 refl

both_parts : (a b : Bool) → (not a && b) ≡ true → (a ≡ false) × (b ≡ true)
both_parts false true so = (refl, refl)
both_parts false false so = let bad : false ≡ true = so in cc
both_parts true b so = let bad : false ≡ true = so in cc

from_parts : (a b : Bool) → a ≡ false → b ≡ true → (not a && b) ≡ true
from_parts a b first second = rw (first, second) refl

-- names that differ occur once at most
pub differ_low : (ns : List (List ℕ)) → all_differ ns ≡ true → (name : List ℕ) → occurs name ns ≤ 1
unfolding occurs all_differ
differ_low [] differ name = omega arith
differ_low (n ∷ ns) differ name =
    let parts = both_parts (list_any (bytes_eq n) ns) (all_differ ns) differ in
    by_test parts.0 (differ_low ns parts.1 name) (bytes_eq name n) refl
  where
    by_test : list_any (bytes_eq n) ns ≡ false → occurs name ns ≤ 1 → (b : Bool) → bytes_eq name n ≡ b → one_if b + occurs name ns ≤ 1
    by_test alone rest true same =
        let is : name ≡ n = (bytes_eq-Decides name n).0 same in
        let none : occurs name ns ≡ 0 = ap (λ m. occurs m ns) is ∙ absent n ns alone in
        omega (arith, none)
    by_test alone rest false other = omega (arith, rest)

-- what occurs once at most differs
pub low_differ : (ns : List (List ℕ)) → ((name : List ℕ) → occurs name ns ≤ 1) → all_differ ns ≡ true
unfolding occurs all_differ
low_differ [] low = refl
low_differ (n ∷ ns) low =
    from_parts (list_any (bytes_eq n) ns) (all_differ ns) (there n ns (omega (arith, low n, ap one_if (equal_self n)))) (low_differ ns (λ name. omega (arith, low name)))

pub same_tests : (a b : Bool) → (a ≡ true → b ≡ true) → (b ≡ true → a ≡ true) → a ≡ b
same_tests true b to from = sym (to refl)
same_tests false true to from = from refl
same_tests false false to from = refl

-- names that occur as often in the one list as in the other differ in both or in neither
pub same_differ : (ms ns : List (List ℕ)) → ((name : List ℕ) → occurs name ms ≡ occurs name ns) → all_differ ms ≡ all_differ ns
same_differ ms ns same = same_tests (all_differ ms) (all_differ ns)
    (λ differ. low_differ ns (λ name. omega (arith, same name, differ_low ms differ name)))
    (λ differ. low_differ ms (λ name. omega (arith, same name, differ_low ns differ name)))

-- where none occurs more often, fewer differ too
pub fewer_differ : (ms ns : List (List ℕ)) → ((name : List ℕ) → occurs name ms ≤ occurs name ns) → all_differ ns ≡ true → all_differ ms ≡ true
fewer_differ ms ns fewer differ = low_differ ms (λ name. omega (arith, fewer name, differ_low ns differ name))
