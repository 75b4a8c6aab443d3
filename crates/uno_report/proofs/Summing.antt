-- The sum of the numbers that variables have, and what a line says behind its first blank.
use Rattle.std.proofs.Common.{◌≡◌, ◌<◌, ◌≤◌, ◌+◌, ◌+ℤ◌, ℕ, ℤ, pos, length, drop, get_or, map, List, [], ◌∷◌, ◌++◌, Result, Ok, Err, IfOk, refl, sym, ap, ◌∙◌}
use Rattle.std.proofs.Math.IntN.{+ℤ_assoc, +ℤ_idl, +ℤ_idr}
use Rattle.std.proofs.lemmas.Grind.{flat_map-append}
use Rattle.std.proofs.lemmas.List.{drop_more, drop_all}
use Rattle.std.specs.List.{flat_map}
use Rattle.plan_model.specs.Frames.{Variable}
use Rattle.report_model.specs.Drills.{number_of, sum_of}

-- the sum of two lists is that of both
pub sum_of_both : (xs ys : List Variable) → sum_of (xs ++ ys) ≡ sum_of xs +ℤ sum_of ys
unfolding sum_of
sum_of_both [] ys = sym (+ℤ_idl (sum_of ys))
sum_of_both (x ∷ xs) ys = ap (λ z. number_of x.value +ℤ z) (sum_of_both xs ys) ∙ sym (+ℤ_assoc (number_of x.value) (sum_of xs) (sum_of ys))

-- what is gone through: each element has variables
module _ {X : Type 0} (f : X → List Variable) (xs : List X) (i : ℕ) where
  pub one_summed : (x : X) (a b d : ℤ) → i < length xs → x ≡ get_or xs i x → a +ℤ sum_of (flat_map f (drop i xs)) ≡ d → b ≡ a +ℤ sum_of (f x) → b +ℤ sum_of (flat_map f (drop (i + 1) xs)) ≡ d
  one_summed x a b d within read all more =
      let left : drop i xs ≡ x ∷ drop (i + 1) xs = drop_more xs i x within ∙ ap (λ y. y ∷ drop (i + 1) xs) (sym read) in
      ap (λ z. z +ℤ sum_of (flat_map f (drop (i + 1) xs))) more
      ∙ (+ℤ_assoc a (sum_of (f x)) (sum_of (flat_map f (drop (i + 1) xs)))
      ∙ (ap (λ z. a +ℤ z) (sym (sum_of_both (f x) (flat_map f (drop (i + 1) xs)))) ∙ (ap (λ ys. a +ℤ sum_of (flat_map f ys)) (sym left) ∙ all)))

  pub all_summed : (a d : ℤ) → length xs ≤ i → a +ℤ sum_of (flat_map f (drop i xs)) ≡ d → a ≡ d
  unfolding sum_of
  all_summed a d past all = sym (+ℤ_idr a) ∙ (ap (λ ys. a +ℤ sum_of (flat_map f ys)) (sym (drop_all i xs past)) ∙ all)

-- and each element is a variable
module _ {X : Type 0} (f : X → Variable) (xs : List X) (i : ℕ) where
  pub one_number_summed : (x : X) (a b d : ℤ) → i < length xs → x ≡ get_or xs i x → a +ℤ sum_of (map f (drop i xs)) ≡ d → b ≡ a +ℤ number_of (f x).value → b +ℤ sum_of (map f (drop (i + 1) xs)) ≡ d
  unfolding sum_of
  one_number_summed x a b d within read all more =
      let left : drop i xs ≡ x ∷ drop (i + 1) xs = drop_more xs i x within ∙ ap (λ y. y ∷ drop (i + 1) xs) (sym read) in
      ap (λ z. z +ℤ sum_of (map f (drop (i + 1) xs))) more
      ∙ (+ℤ_assoc a (number_of (f x).value) (sum_of (map f (drop (i + 1) xs))) ∙ (ap (λ ys. a +ℤ sum_of (map f ys)) (sym left) ∙ all))

  pub all_numbers_summed : (a d : ℤ) → length xs ≤ i → a +ℤ sum_of (map f (drop i xs)) ≡ d → a ≡ d
  unfolding sum_of
  all_numbers_summed a d past all = sym (+ℤ_idr a) ∙ (ap (λ ys. a +ℤ sum_of (map f ys)) (sym (drop_all i xs past)) ∙ all)

-- the sum of both ends is that of each
pub sum_of_ends : {X E : Type 0} (f : X → List Variable) (xs ys : List X) (a b : ℤ) (r : Result ℤ E) → a ≡ sum_of (flat_map f xs) → b ≡ sum_of (flat_map f ys) → IfOk r (λ n. n ≡ a +ℤ b)
    → IfOk r (λ n. n ≡ sum_of (flat_map f (xs ++ ys)))
sum_of_ends f xs ys a b (Err e) one other both = tt
sum_of_ends f xs ys a b (Ok n) one other both =
    both ∙ (ap (λ z. z +ℤ b) one ∙ (ap (λ z. sum_of (flat_map f xs) +ℤ z) other ∙ (sym (sum_of_both (flat_map f xs) (flat_map f ys)) ∙ ap sum_of (sym (flat_map-append f xs ys)))))
