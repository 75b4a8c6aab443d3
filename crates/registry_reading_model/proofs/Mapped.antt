-- Lists whose elements are changed one by one, where what is asked of each element does not see the change.
use Rattle.std.proofs.Common.{◌≡◌, Bool, true, ◌&&◌, List, [], ◌∷◌, ◌++◌, map, refl, sym, ap₂, ◌∙◌}
use Rattle.std.proofs.lemmas.Bool.{and_parts}
use Rattle.std.proofs.lemmas.List.{map-append}
use Rattle.std.specs.List.{list_all, flat_map}
use Rattle.uno_model.specs.Sound.{is_some_list}

module _ {X Y : Type 0} (f : X → Y) where
  pub all_mapped : (p : Y → Bool) (q : X → Bool) → ((x : X) → p (f x) ≡ q x) → (xs : List X) → list_all p (map f xs) ≡ list_all q xs
  all_mapped p q same [] = refl
  all_mapped p q same (x ∷ xs) = ap₂ (λ a b. a && b) (same x) (all_mapped p q same xs)

  pub map_mapped : {Z : Type 0} (g : Y → Z) (h : X → Z) → ((x : X) → g (f x) ≡ h x) → (xs : List X) → map g (map f xs) ≡ map h xs
  map_mapped g h same [] = refl
  map_mapped g h same (x ∷ xs) = ap₂ (λ a b. a ∷ b) (same x) (map_mapped g h same xs)

  pub flat_mapped : {Z : Type 0} (g : Y → List Z) (h : X → List Z) → ((x : X) → g (f x) ≡ h x) → (xs : List X) → flat_map g (map f xs) ≡ flat_map h xs
  flat_mapped g h same [] = refl
  flat_mapped g h same (x ∷ xs) = ap₂ (λ a b. a ++ b) (same x) (flat_mapped g h same xs)

  -- what each element gives is changed too
  pub flat_changed : {V W : Type 0} (g : Y → List W) (h : X → List V) (k : V → W) → ((x : X) → g (f x) ≡ map k (h x)) → (xs : List X)
      → flat_map g (map f xs) ≡ map k (flat_map h xs)
  flat_changed g h k same [] = refl
  flat_changed g h k same (x ∷ xs) = ap₂ (λ a b. a ++ b) (same x) (flat_changed g h k same xs) ∙ sym (map-append k (h x) (flat_map h xs))

  pub some_mapped : (xs : List X) → is_some_list (map f xs) ≡ is_some_list xs
  some_mapped [] = refl
  some_mapped (x ∷ xs) = refl

-- two tests that agree at each element
pub all_alike : {X : Type 0} (p q : X → Bool) → ((x : X) → p x ≡ q x) → (xs : List X) → list_all p xs ≡ list_all q xs
all_alike p q same [] = refl
all_alike p q same (x ∷ xs) = ap₂ (λ a b. a && b) (same x) (all_alike p q same xs)

-- a list whose elements all stay is itself
pub map_stays : {X : Type 0} (f : X → X) (p : X → Bool) → ((x : X) → p x ≡ true → f x ≡ x) → (xs : List X) → list_all p xs ≡ true → map f xs ≡ xs
map_stays f p stays [] all = refl
map_stays f p stays (x ∷ xs) all =
    let parts = and_parts (p x) (list_all p xs) all in ap₂ (λ a b. a ∷ b) (stays x parts.0) (map_stays f p stays xs parts.1)

-- what is read of the elements of two lists of lists, where it is the same of each part
module _ {X Y V W Z : Type 0} (n : W → Z) (m : V → Z) (g : Y → List W) (h : X → List V) where
  pub flat_read : (f : X → Y) → ((x : X) → map n (g (f x)) ≡ map m (h x)) → (xs : List X) → map n (flat_map g (map f xs)) ≡ map m (flat_map h xs)
  flat_read f same [] = refl
  flat_read f same (x ∷ xs) =
      map-append n (g (f x)) (flat_map g (map f xs)) ∙ ap₂ (λ a b. a ++ b) (same x) (flat_read f same xs) ∙ sym (map-append m (h x) (flat_map h xs))

pub flat_alike : {X W Z : Type 0} (n : W → Z) (g h : X → List W) → ((x : X) → map n (g x) ≡ map n (h x)) → (xs : List X)
    → map n (flat_map g xs) ≡ map n (flat_map h xs)
flat_alike n g h same [] = refl
flat_alike n g h same (x ∷ xs) =
    map-append n (g x) (flat_map g xs) ∙ ap₂ (λ a b. a ++ b) (same x) (flat_alike n g h same xs) ∙ sym (map-append n (h x) (flat_map h xs))
