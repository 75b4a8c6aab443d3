-- Tests of all elements of a list, part by part.
use Rattle.std.proofs.Common.{◌≡◌, Bool, true, ◌&&◌, List, [], ◌∷◌, ◌++◌, refl, sym, ◌∙◌}
use Rattle.std.specs.List.{list_all, flat_map}
use Rattle.std.proofs.lemmas.Bool.{and_parts, and_from}
use Rattle.std.proofs.lemmas.List.Folds.{list_all-append}

module _ {X : Type 0} (P Q : X → Bool) where
  -- two tests are one, which asks both
  pub all_both : (xs : List X) → list_all P xs ≡ true → list_all Q xs ≡ true → list_all (λ x. P x && Q x) xs ≡ true
  all_both [] ps qs = refl
  all_both (x ∷ xs) ps qs =
      let p = and_parts (P x) (list_all P xs) ps in
      let q = and_parts (Q x) (list_all Q xs) qs in
      and_from (P x && Q x) (list_all (λ y. P y && Q y) xs) (and_from (P x) (Q x) p.0 q.0) (all_both xs p.1 q.1)

  pub each_of_both : (xs : List X) → list_all (λ x. P x && Q x) xs ≡ true → (list_all P xs ≡ true) × (list_all Q xs ≡ true)
  each_of_both [] both = (refl, refl)
  each_of_both (x ∷ xs) both =
      let parts = and_parts (P x && Q x) (list_all (λ y. P y && Q y) xs) both in
      let here = and_parts (P x) (Q x) parts.0 in
      let others = each_of_both xs parts.1 in
      (and_from (P x) (list_all P xs) here.0 others.0, and_from (Q x) (list_all Q xs) here.1 others.1)

module _ {X : Type 0} (P : X → Bool) where
  -- two lists, and the list of both
  pub all_append : (xs ys : List X) → list_all P xs ≡ true → list_all P ys ≡ true → list_all P (xs ++ ys) ≡ true
  all_append xs ys first second = list_all-append P xs ys ∙ and_from (list_all P xs) (list_all P ys) first second

  pub of_append : (xs ys : List X) → list_all P (xs ++ ys) ≡ true → (list_all P xs ≡ true) × (list_all P ys ≡ true)
  of_append xs ys both = and_parts (list_all P xs) (list_all P ys) (sym (list_all-append P xs ys) ∙ both)

  -- what each element gives, and the list of all that they give
  pub all_flat : {Y : Type 0} (f : Y → List X) (ys : List Y) → list_all (λ y. list_all P (f y)) ys ≡ true → list_all P (flat_map f ys) ≡ true
  all_flat f [] each = refl
  all_flat f (y ∷ ys) each =
      let parts = and_parts (list_all P (f y)) (list_all (λ z. list_all P (f z)) ys) each in
      all_append (f y) (flat_map f ys) parts.0 (all_flat f ys parts.1)

  pub of_flat : {Y : Type 0} (f : Y → List X) (ys : List Y) → list_all P (flat_map f ys) ≡ true → list_all (λ y. list_all P (f y)) ys ≡ true
  of_flat f [] all = refl
  of_flat f (y ∷ ys) all =
      let parts = of_append (f y) (flat_map f ys) all in
      and_from (list_all P (f y)) (list_all (λ z. list_all P (f z)) ys) parts.0 (of_flat f ys parts.1)

  -- what passes for each element passes for all of them
  pub all_pass : ((x : X) → P x ≡ true) → (xs : List X) → list_all P xs ≡ true
  all_pass each [] = refl
  all_pass each (x ∷ xs) = and_from (P x) (list_all P xs) (each x) (all_pass each xs)
