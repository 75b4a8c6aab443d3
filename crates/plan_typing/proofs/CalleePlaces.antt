-- Where a function stands in the table of an interface: in one place, and there a test that tells it finds it.
use Rattle.std.proofs.Common.{◌≡◌, refl, sym, ap, ◌∙◌, ℕ, zero, suc, ◌+◌, Bool, true, false, List, [], ◌∷◌, ◌++◌, length, Some, slice_get, ◌⊎◌, inl, inr, arith}
use Rattle.std.specs.Prelude.{Contains}
use Rattle.std.specs.List.{flat_map, position_or_len}
use Rattle.std.proofs.lemmas.List.Elements.{Contains-append_cases}
use mathlib.Core.Path.{subst}
use Rattle.uno_model.specs.Functions.{is_met}
use Rattle.uno_model.proofs.Options.{same_some, none_some}
use Rattle.uno_model.proofs.PlaceLaws.{at_slice, contains_head, contains_behind}
use Rattle.uno_model.proofs.VisitLaws.{Differ, no_name, one_name_more, contains_met}

-- ---- lists

pub among_contains : {X : Type 0} (xs : List X) (i : ℕ) (x : X) → slice_get xs i ≡ Some x → Contains xs x
among_contains xs i x is = let at = at_slice xs i x x is in (i, at.0, at.1)

pub contains_among : {X : Type 0} (xs : List X) (x : X) → Contains xs x → (i : ℕ) × (slice_get xs i ≡ Some x)
contains_among [] x has = absurd (omega (arith, has.1))
contains_among (y ∷ ys) x (zero, within, is) = (zero, ap Some is)
contains_among (y ∷ ys) x (suc k, within, is) = let behind = contains_among ys x (k, omega (arith, within), is) in (suc behind.0, behind.1)

pub in_one_of : {X Y : Type 0} (f : X → List Y) (xs : List X) (y : Y) → Contains (flat_map f xs) y → (x : X) × Contains xs x × Contains (f x) y
in_one_of f [] y has = absurd (omega (arith, has.1))
in_one_of f (x ∷ xs) y has = elim (Contains-append_cases (f x) (flat_map f xs) y has) [
  | inl here ↦ (x, contains_head x xs, here)
  | inr behind ↦ let one = in_one_of f xs y behind in (one.0, contains_behind x xs one.0 one.1, one.2)
]

further : {X : Type 0} (y : X) (ys : List X) (n : ℕ) → slice_get (y ∷ ys) (1 + n) ≡ slice_get ys n
further y ys n = let one : 1 + n ≡ suc n = omega arith in ap (slice_get (y ∷ ys)) one

-- the first that passes a test, where one passes
pub record FirstThat {X : Type 0} (p : X → Bool) (xs : List X) : Type 0 where
  pub first : X
  pub at : slice_get xs (position_or_len p xs) ≡ Some first
  pub passes : p first ≡ true

pub first_that : {X : Type 0} (p : X → Bool) (xs : List X) (i : ℕ) (x : X) → slice_get xs i ≡ Some x → p x ≡ true → FirstThat p xs
first_that p [] i x is pass = absurd (none_some is)
first_that {X = X} p (y ∷ ys) i x is pass = by_test i is (λ j at. first_that p ys j x at pass) (p y) refl
  where
    by_test : (i : ℕ) → slice_get (y ∷ ys) i ≡ Some x → ((j : ℕ) → slice_get ys j ≡ Some x → FirstThat p ys) → (b : Bool) → p y ≡ b → FirstThat p (y ∷ ys)
    by_test i at later true here = record { first = y; at = rw here refl; passes = here }
    by_test zero at later false other = let bad : false ≡ true = sym other ∙ (ap p (same_some at) ∙ pass) in absurd (cc)
    by_test (suc j) at later false other = let behind = later j at in record { first = behind.first; at = rw other (further y ys (position_or_len p ys) ∙ behind.at); passes = behind.passes }

-- ---- names, each once

-- what stands at two places is at one
abbrev pub Apart : List (List ℕ) → Type 0
Apart zs = (i j : ℕ) (x : List ℕ) → slice_get zs i ≡ Some x → slice_get zs j ≡ Some x → i ≡ j

-- one more stands at the end
pushed_at : {X : Type 0} (xs : List X) (y x : X) (i : ℕ) → slice_get (xs ++ y ∷ []) i ≡ Some x → (slice_get xs i ≡ Some x) ⊎ ((i ≡ length xs) × (y ≡ x))
pushed_at [] y x zero is = inr (refl, same_some is)
pushed_at [] y x (suc i) is = absurd (none_some is)
pushed_at (z ∷ zs) y x zero is = inl is
pushed_at (z ∷ zs) y x (suc i) is = elim (pushed_at zs y x i is) [ inl old ↦ inl old | inr new ↦ inr (ap suc new.0, new.1) ]

not_met : (met : List (List ℕ)) (name : List ℕ) (i : ℕ) → is_met name met ≡ false → slice_get met i ≡ Some name → ⊥
not_met met name i new at = let bad : false ≡ true = sym new ∙ contains_met name met (among_contains met i name at) in cc

pub differ_apart : (zs : List (List ℕ)) → Differ zs → Apart zs
differ_apart zs no_name i j x one other = absurd (none_some one)
differ_apart zs (one_name_more met name before new) i j x one other =
    elim (pushed_at met name x i one) [
      | inl old ↦ elim (pushed_at met name x j other) [
        | inl also ↦ differ_apart met before i j x old also
        | inr last ↦ absurd (not_met met name i new (subst (λ n. slice_get met i ≡ Some n) (sym last.1) old))
      ]
      | inr last ↦ elim (pushed_at met name x j other) [
        | inl old ↦ absurd (not_met met name j new (subst (λ n. slice_get met j ≡ Some n) (sym last.1) old))
        | inr also ↦ last.0 ∙ sym also.0
      ]
    ]

pub apart_behind : (z : List ℕ) (zs : List (List ℕ)) → Apart (z ∷ zs) → Apart zs
apart_behind z zs apart i j x one other = let same : suc i ≡ suc j = apart (suc i) (suc j) x one other in omega (arith, same)

pub apart_first : (z : List ℕ) (zs : List (List ℕ)) → Apart (z ∷ zs) → Contains zs z → ⊥
apart_first z zs apart has =
    let at = contains_among zs z has in
    let same : 0 ≡ suc at.0 = apart 0 (suc at.0) z refl at.1 in
    omega (arith, same)
