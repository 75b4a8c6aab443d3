-- The parameter of a constructor that takes the rest, and those before it.
use Rattle.std.proofs.Common.{◌≡◌, refl, sym, ap, ◌∙◌, ℕ, true, false, List, [], ◌∷◌, ◌++◌, map, Option, None, Some, if◌then◌else◌}
use Rattle.std.proofs.lemmas.List.{map-append}
use Rattle.idl_meaning_model.specs.Meaning.{parameters_before, rest_parameter}
use Rattle.idl_model.specs.Trees.{ConstructorParameter}

before_last : (ps : List ConstructorParameter) (p : ConstructorParameter) → p.rest ≡ true → parameters_before (ps ++ p ∷ []) ≡ ps
before_last [] p on = ap (λ b. if b then [] else p ∷ []) on
before_last (q ∷ []) p on = ap (λ k. q ∷ k) (before_last [] p on)
before_last (q ∷ r ∷ ps) p on = ap (λ k. q ∷ k) (before_last (r ∷ ps) p on)

with_last : (ps : List ConstructorParameter) (p : ConstructorParameter) → p.rest ≡ false → parameters_before (ps ++ p ∷ []) ≡ ps ++ p ∷ []
with_last [] p off = ap (λ b. if b then [] else p ∷ []) off
with_last (q ∷ []) p off = ap (λ k. q ∷ k) (with_last [] p off)
with_last (q ∷ r ∷ ps) p off = ap (λ k. q ∷ k) (with_last (r ∷ ps) p off)

last_takes : (ps : List ConstructorParameter) (p : ConstructorParameter) → rest_parameter (ps ++ p ∷ []) ≡ (if p.rest then Some p.name.name else None)
last_takes [] p = refl
last_takes (q ∷ []) p = refl
last_takes (q ∷ r ∷ ps) p = last_takes (r ∷ ps) p

-- ---- as code has them

module _ {X : Type 0} (view : X → ConstructorParameter) (xs others : List X) (x : X) (split : xs ≡ others ++ x ∷ []) where
  seen : map view xs ≡ map view others ++ view x ∷ []
  seen = ap (map view) split ∙ map-append view others (x ∷ [])

  pub others_before : (view x).rest ≡ true → map view others ≡ parameters_before (map view xs)
  others_before on = sym (ap parameters_before seen ∙ before_last (map view others) (view x) on)

  pub all_before : (view x).rest ≡ false → map view xs ≡ parameters_before (map view xs)
  all_before off = seen ∙ sym (ap parameters_before seen ∙ with_last (map view others) (view x) off)

  pub rest_taken : (view x).rest ≡ true → Some (view x).name.name ≡ rest_parameter (map view xs)
  rest_taken on = sym (ap rest_parameter seen ∙ last_takes (map view others) (view x) ∙ ap (λ b. if b then Some (view x).name.name else None) on)

  pub none_taken : (view x).rest ≡ false → None ≡ rest_parameter (map view xs)
  none_taken off = sym (ap rest_parameter seen ∙ last_takes (map view others) (view x) ∙ ap (λ b. if b then Some (view x).name.name else None) off)
