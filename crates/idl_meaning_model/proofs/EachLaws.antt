-- What holds of each element of a list, by recursion on the list.
use Rattle.std.proofs.Common.{◌≡◌, suc, Bool, true, false, List, [], ◌∷◌, ◌++◌, map, refl, arith, if◌then◌else◌}
use Rattle.std.proofs.lemmas.Bool.{both_ways}
use Rattle.std.proofs.lemmas.List.Elements.{All-contains, All-from_recursion}
use Rattle.std.specs.List.{AllByRecursion, Contains, filter, flat_map}

-- two lists of which nothing is left
pub append_none : {X : Type 0} (xs ys : List X) → xs ++ ys ≡ [] → (xs ≡ []) × (ys ≡ [])
append_none [] ys none = (refl, none)
append_none (x ∷ xs) ys none = let bad : ⊥ = cc in absurd bad

module _ {X : Type 0} where
  pub each_weaker : (P Q : X → Type 0) (xs : List X) → ((x : X) → P x → Q x) → AllByRecursion P xs → AllByRecursion Q xs
  each_weaker P Q [] f all = tt
  each_weaker P Q (x ∷ xs) f all = (f x all.0, each_weaker P Q xs f all.1)

  pub each_both : (P Q : X → Type 0) (xs : List X) → AllByRecursion P xs → AllByRecursion Q xs → AllByRecursion (λ x. P x × Q x) xs
  each_both P Q [] ps qs = tt
  each_both P Q (x ∷ xs) ps qs = ((ps.0, qs.0), each_both P Q xs ps.1 qs.1)

  pub each_append : (P : X → Type 0) (xs ys : List X) → AllByRecursion P xs → AllByRecursion P ys → AllByRecursion P (xs ++ ys)
  each_append P [] ys first second = second
  each_append P (x ∷ xs) ys first second = (first.0, each_append P xs ys first.1 second)

  pub of_each_append : (P : X → Type 0) (xs ys : List X) → AllByRecursion P (xs ++ ys) → AllByRecursion P xs × AllByRecursion P ys
  of_each_append P [] ys all = (tt, all)
  of_each_append P (x ∷ xs) ys all = let rest = of_each_append P xs ys all.1 in ((all.0, rest.0), rest.1)

  pub each_at : (P : X → Type 0) (xs : List X) (x : X) → AllByRecursion P xs → Contains xs x → P x
  each_at P xs x all in' = All-contains P xs x (All-from_recursion P xs all) in'

  pub at_each : (P : X → Type 0) (xs : List X) → ((x : X) → Contains xs x → P x) → AllByRecursion P xs
  at_each P [] each = tt
  at_each P (x ∷ xs) each = (each x (0, omega arith, refl), at_each P xs (λ y in'. each y (suc in'.0, omega (arith, in'.1), in'.2)))

  -- what holds of each that a filter keeps holds of each that passes
  kept_by : (P : X → Type 0) (test : X → Bool) (x : X) (xs : List X) (b : Bool) → test x ≡ b → (AllByRecursion P (filter test xs) → AllByRecursion (λ y. test y ≡ true → P y) xs)
      → AllByRecursion P (if b then x ∷ filter test xs else filter test xs) → AllByRecursion (λ y. test y ≡ true → P y) (x ∷ xs)
  kept_by P test x xs true is rest kept = (λ passes. kept.0, rest kept.1)
  kept_by P test x xs false is rest kept = (λ passes. absurd (both_ways (test x) is passes), rest kept)

  pub each_kept : (P : X → Type 0) (test : X → Bool) (xs : List X) → AllByRecursion P (filter test xs) → AllByRecursion (λ x. test x ≡ true → P x) xs
  each_kept P test [] all = tt
  each_kept P test (x ∷ xs) all = kept_by P test x xs (test x) refl (each_kept P test xs) all

  keeps_by : (P : X → Type 0) (test : X → Bool) (x : X) (xs : List X) (b : Bool) → test x ≡ b → (test x ≡ true → P x) → AllByRecursion P (filter test xs)
      → AllByRecursion P (if b then x ∷ filter test xs else filter test xs)
  keeps_by P test x xs true is here rest = (here is, rest)
  keeps_by P test x xs false is here rest = rest

  pub each_filtered : (P : X → Type 0) (test : X → Bool) (xs : List X) → AllByRecursion (λ x. test x ≡ true → P x) xs → AllByRecursion P (filter test xs)
  each_filtered P test [] all = tt
  each_filtered P test (x ∷ xs) all = keeps_by P test x xs (test x) refl all.0 (each_filtered P test xs all.1)

  -- what holds of any two of a list
  abbrev pub AllPairsOf : (X → X → Type 0) → List X → Type 0
  AllPairsOf R [] = Unit {0}
  AllPairsOf R (x ∷ xs) = AllByRecursion (R x) xs × AllPairsOf R xs

  -- what holds of each with each holds of any two
  pub pairs_from_all : (R : X → X → Type 0) (xs : List X) → AllByRecursion (λ x. AllByRecursion (R x) xs) xs → AllPairsOf R xs
  pairs_from_all R [] all = tt
  pairs_from_all R (x ∷ xs) all = (all.0.1, pairs_from_all R xs (each_weaker (λ y. R y x × AllByRecursion (R y) xs) (λ y. AllByRecursion (R y) xs) xs (λ y both. both.1) all.1))

module _ {X Y : Type 0} where
  pub each_mapped : (P : Y → Type 0) (f : X → Y) (xs : List X) → AllByRecursion (λ x. P (f x)) xs → AllByRecursion P (map f xs)
  each_mapped P f [] all = tt
  each_mapped P f (x ∷ xs) all = (all.0, each_mapped P f xs all.1)

  pub of_each_mapped : (P : Y → Type 0) (f : X → Y) (xs : List X) → AllByRecursion P (map f xs) → AllByRecursion (λ x. P (f x)) xs
  of_each_mapped P f [] all = tt
  of_each_mapped P f (x ∷ xs) all = (all.0, of_each_mapped P f xs all.1)

  -- nothing comes of all exactly where nothing comes of each
  pub none_of_each : (f : X → List Y) (xs : List X) → flat_map f xs ≡ [] → AllByRecursion (λ x. f x ≡ []) xs
  none_of_each f [] none = tt
  none_of_each f (x ∷ xs) none = let parts = append_none (f x) (flat_map f xs) none in (parts.0, none_of_each f xs parts.1)

  pub none_of_all : (f : X → List Y) (xs : List X) → AllByRecursion (λ x. f x ≡ []) xs → flat_map f xs ≡ []
  none_of_all f [] none = refl
  none_of_all f (x ∷ xs) none = rw none.0 (none_of_all f xs none.1)

  pub none_mapped : (f : X → Y) (xs : List X) → map f xs ≡ [] → xs ≡ []
  none_mapped f [] none = refl
  none_mapped f (x ∷ xs) none = let bad : ⊥ = cc in absurd bad
