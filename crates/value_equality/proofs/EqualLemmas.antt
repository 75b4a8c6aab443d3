-- Lists of values and of variables are equal part by part.
use Rattle.std.proofs.Common.{◌≡◌, ◌↔◌, suc, false, true, List, [], ◌∷◌, length, map, refl, ap}
use Rattle.uno_model.specs.Values.{Plain, Plains, none, more}
use Rattle.uno_values.specs.Values.{plain_of, plains_of}
use Rattle.uno_values.specs.declared.value.Value.{Value}

-- lists of different lengths differ
pub other_values : (xs ys : List Value) → (length xs ≡ length ys → ⊥) → false ≡ true ↔ plains_of xs ≡ plains_of ys
other_values xs ys other = (λ bad. absurd (cc), λ same. absurd (other (as_many xs ys same)))
  where
    as_many : (xs ys : List Value) → plains_of xs ≡ plains_of ys → length xs ≡ length ys
    as_many [] [] same = refl
    as_many [] (y ∷ ys) same = absurd (cc)
    as_many (x ∷ xs) [] same = absurd (cc)
    as_many (x ∷ xs) (y ∷ ys) same = ap suc (as_many xs ys (cc))

pub other_items : {A B : Type 0} (f : A → B) (xs ys : List A) → (length xs ≡ length ys → ⊥) → false ≡ true ↔ map f xs ≡ map f ys
other_items f xs ys other = (λ bad. absurd (cc), λ same. absurd (other (as_many f xs ys same)))
  where
    as_many : {A B : Type 0} (f : A → B) (xs ys : List A) → map f xs ≡ map f ys → length xs ≡ length ys
    as_many f [] [] same = refl
    as_many f [] (y ∷ ys) same = absurd (cc)
    as_many f (x ∷ xs) [] same = absurd (cc)
    as_many f (x ∷ xs) (y ∷ ys) same = ap suc (as_many f xs ys (cc))
