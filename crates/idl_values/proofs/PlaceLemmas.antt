-- The first place at which something passes.
use Rattle.std.proofs.Common.{◌≡◌, refl, sym, ap, ◌∙◌, ℕ, zero, suc, ◌+◌, ◌<◌, ◌==◌, Bool, true, false, is_some, List, [], ◌∷◌, ◌++◌, length, map, take, get_or, slice_get, replicate, Option, None, Some, option_map, if◌then◌else◌, arith}
use Rattle.std.specs.List.{find}
use Rattle.std.specs.Option.{option_and_then}
use Rattle.std.proofs.lemmas.List.{length-take-le, take_more}
use Rattle.idl_values.specs.Places.{first_place, noted_with}

-- ---- the first that passes

pub found_at : {X : Type 0} (test : X → Bool) (xs : List X) → option_and_then (slice_get xs) (first_place test xs) ≡ find test xs
unfolding first_place
found_at test [] = refl
found_at {X = X} test (x ∷ xs) = by_test (test x) (found_at test xs)
  where
    behind : (o : Option ℕ) → option_and_then (slice_get (x ∷ xs)) (option_map suc o) ≡ option_and_then (slice_get xs) o
    behind None = refl
    behind (Some k) = refl

    by_test : (b : Bool) → option_and_then (slice_get xs) (first_place test xs) ≡ find test xs
        → option_and_then (slice_get (x ∷ xs)) (if b then Some 0 else option_map suc (first_place test xs)) ≡ (if b then Some x else find test xs)
    by_test true rest = refl
    by_test false rest = behind (first_place test xs) ∙ rest

some_suc : (o : Option ℕ) → is_some (option_map suc o) ≡ is_some o
some_suc None = refl
some_suc (Some k) = refl

pub some_found : {X : Type 0} (test : X → Bool) (xs : List X) → is_some (first_place test xs) ≡ is_some (find test xs)
unfolding first_place
some_found test [] = refl
some_found {X = X} test (x ∷ xs) = by_test (test x) (some_found test xs)
  where
    by_test : (b : Bool) → is_some (first_place test xs) ≡ is_some (find test xs) → is_some (if b then Some 0 else option_map suc (first_place test xs)) ≡ is_some (if b then Some x else find test xs)
    by_test true rest = refl
    by_test false rest = some_suc (first_place test xs) ∙ rest

pub first_low : {X : Type 0} (test : X → Bool) (xs : List X) (k : ℕ) → first_place test xs ≡ Some k → k < length xs
unfolding first_place
first_low test [] k is = let bad : ⊥ = cc in absurd bad
first_low {X = X} test (x ∷ xs) k is = by_test (test x) is (first_low test xs)
  where
    by_rest : (o : Option ℕ) → option_map suc o ≡ Some k → ((j : ℕ) → o ≡ Some j → j < length xs) → k < length (x ∷ xs)
    by_rest None is' rest = let bad : ⊥ = cc in absurd bad
    by_rest (Some j) is' rest = let low = rest j refl in let same : suc j ≡ k = cc in omega (arith, low, same)

    by_test : (b : Bool) → (if b then Some 0 else option_map suc (first_place test xs)) ≡ Some k → ((j : ℕ) → first_place test xs ≡ Some j → j < length xs) → k < length (x ∷ xs)
    by_test true is' rest = let same : 0 ≡ k = cc in omega (arith, same)
    by_test false is' rest = by_rest (first_place test xs) is' rest

pub first_same : {X : Type 0} (p q : X → Bool) → ((x : X) → p x ≡ q x) → (xs : List X) → first_place p xs ≡ first_place q xs
unfolding first_place
first_same p q each [] = refl
first_same p q each (x ∷ xs) = λ i. if each x i then Some 0 else option_map suc (first_same p q each xs i)

pub first_mapped : {X Y : Type 0} (p : Y → Bool) (f : X → Y) (xs : List X) → first_place p (map f xs) ≡ first_place (λ x. p (f x)) xs
unfolding first_place
first_mapped p f [] = refl
first_mapped p f (x ∷ xs) = ap (λ o. if p (f x) then Some 0 else option_map suc o) (first_mapped p f xs)

-- ---- one more

suc_noted : (b : Bool) (k : ℕ) (o : Option ℕ) → option_map suc (noted_with b k o) ≡ noted_with b (suc k) (option_map suc o)
suc_noted b k (Some j) = refl
suc_noted true k None = refl
suc_noted false k None = refl

first_behind : {X : Type 0} (test : X → Bool) (xs : List X) (x : X) → first_place test (xs ++ x ∷ []) ≡ noted_with (test x) (length xs) (first_place test xs)
unfolding first_place
first_behind test [] x = by_test (test x)
  where
    by_test : (b : Bool) → (if b then Some 0 else None) ≡ noted_with b 0 None
    by_test true = refl
    by_test false = refl
first_behind {X = X} test (y ∷ ys) x = by_test (test y) (first_behind test ys x)
  where
    by_test : (b : Bool) → first_place test (ys ++ x ∷ []) ≡ noted_with (test x) (length ys) (first_place test ys)
        → (if b then Some 0 else option_map suc (first_place test (ys ++ x ∷ []))) ≡ noted_with (test x) (suc (length ys)) (if b then Some 0 else option_map suc (first_place test ys))
    by_test true rest = refl
    by_test false rest = ap (option_map suc) rest ∙ suc_noted (test x) (length ys) (first_place test ys)

pub first_taken : (test : ℕ → Bool) (xs : List ℕ) (i x : ℕ) → i < length xs → x ≡ get_or xs i x → first_place test (take (i + 1) xs) ≡ noted_with (test x) i (first_place test (take i xs))
first_taken test xs i x low is =
    ap (first_place test) (take_more xs i x low ∙ ap (λ y. take i xs ++ y ∷ []) (sym is))
    ∙ first_behind test (take i xs) x ∙ ap (λ k. noted_with (test x) k (first_place test (take i xs))) (length-take-le i xs (omega (arith, low)))

none_noted : {X : Type 0} (x : X) (n i : ℕ) → get_or (replicate n x) i x ≡ x
none_noted x zero i = refl
none_noted x (suc n) zero = refl
none_noted x (suc n) (suc i) = none_noted x n i

pub nothing_noted : (table : List (Option ℕ)) (count : ℕ) → table ≡ replicate count None → (n : ℕ) → get_or table n None ≡ first_place (λ m. m == n) []
unfolding first_place
nothing_noted table count is n = ap (λ t. get_or t n None) is ∙ none_noted None count n
