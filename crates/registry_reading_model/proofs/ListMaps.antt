-- What a list says of its elements changed, where each says the same.
use Rattle.std.proofs.Common.{◌≡◌, Bool, List, [], ◌∷◌, ◌++◌, map, refl, sym, ap₂, ◌∙◌, ◌&&◌}
use Rattle.std.proofs.lemmas.List.{map-append}
use Rattle.std.specs.List.{flat_map, list_all}

pub maps_agree : {X Y Z : Type 0} (h : X → Y) (f : X → Z) (g : Y → Z) → ((x : X) → g (h x) ≡ f x) → (xs : List X) → map g (map h xs) ≡ map f xs
maps_agree h f g each [] = refl
maps_agree h f g each (x ∷ xs) = ap₂ (λ z zs. z ∷ zs) (each x) (maps_agree h f g each xs)

pub map_of_maps : {X Y Z W : Type 0} (h : X → Y) (f : X → Z) (g : Y → W) (k : Z → W) → ((x : X) → g (h x) ≡ k (f x)) → (xs : List X)
    → map g (map h xs) ≡ map k (map f xs)
map_of_maps h f g k each [] = refl
map_of_maps h f g k each (x ∷ xs) = ap₂ (λ z zs. z ∷ zs) (each x) (map_of_maps h f g k each xs)

pub flat_maps_agree : {X Y Z : Type 0} (h : X → Y) (f : X → List Z) (g : Y → List Z) → ((x : X) → g (h x) ≡ f x) → (xs : List X)
    → flat_map g (map h xs) ≡ flat_map f xs
flat_maps_agree h f g each [] = refl
flat_maps_agree h f g each (x ∷ xs) = ap₂ (λ z zs. z ++ zs) (each x) (flat_maps_agree h f g each xs)

pub map_of_flat_maps : {X Y Z W : Type 0} (h : X → Y) (f : X → List Z) (g : Y → List W) (k : Z → W) → ((x : X) → g (h x) ≡ map k (f x))
    → (xs : List X)
    → flat_map g (map h xs) ≡ map k (flat_map f xs)
map_of_flat_maps h f g k each [] = refl
map_of_flat_maps h f g k each (x ∷ xs) = ap₂ (λ z zs. z ++ zs) (each x) (map_of_flat_maps h f g k each xs) ∙ sym (map-append k (f x) (flat_map f xs))

pub all_agree : {X Y : Type 0} (h : X → Y) (f : X → Bool) (g : Y → Bool) → ((x : X) → g (h x) ≡ f x) → (xs : List X)
    → list_all g (map h xs) ≡ list_all f xs
all_agree h f g each [] = refl
all_agree h f g each (x ∷ xs) = ap₂ (λ z zs. z && zs) (each x) (all_agree h f g each xs)
