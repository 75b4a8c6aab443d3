-- Tests of all items of a list, or of some, where they are looked at as something else.
use Rattle.std.proofs.Common.{◌≡◌, refl, ap, ◌∙◌, Bool, ◌&&◌, ◌||◌, List, [], ◌∷◌, ◌++◌, map}
use Rattle.std.specs.List.{list_all, list_any, flat_map}
use Rattle.uno_model.specs.Sound.{is_some_list}

pub any_mapped : {X Z : Type 0} (p : Z → Bool) (f : X → Z) (xs : List X) → list_any p (map f xs) ≡ list_any (λ x. p (f x)) xs
any_mapped p f [] = refl
any_mapped p f (x ∷ xs) = ap (λ b. p (f x) || b) (any_mapped p f xs)

some_of_two : {Y : Type 0} (xs ys : List Y) → is_some_list (xs ++ ys) ≡ (is_some_list xs || is_some_list ys)
some_of_two [] ys = refl
some_of_two (x ∷ xs) ys = refl

-- a list that is joined of others has an element where one of them has
pub some_joined : {X Y Z : Type 0} (f : Y → List Z) (view : X → Y) (xs : List X) → is_some_list (flat_map f (map view xs)) ≡ list_any (λ x. is_some_list (f (view x))) xs
some_joined f view [] = refl
some_joined f view (x ∷ xs) = some_of_two (f (view x)) (flat_map f (map view xs)) ∙ ap (λ b. is_some_list (f (view x)) || b) (some_joined f view xs)

pub all_mapped_twice : {X Y Z : Type 0} (p : Z → Bool) (f : Y → Z) (g : X → Y) (xs : List X) → list_all p (map f (map g xs)) ≡ list_all (λ x. p (f (g x))) xs
all_mapped_twice p f g [] = refl
all_mapped_twice p f g (x ∷ xs) = ap (λ b. p (f (g x)) && b) (all_mapped_twice p f g xs)

pub some_mapped_twice : {X Y Z : Type 0} (f : Y → Z) (g : X → Y) (xs : List X) → is_some_list (map f (map g xs)) ≡ is_some_list xs
some_mapped_twice f g [] = refl
some_mapped_twice f g (x ∷ xs) = refl
