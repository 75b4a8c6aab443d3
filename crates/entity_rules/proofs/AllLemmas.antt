-- A test of all items of a list, where they are looked at as something else, or each gives a list.
use Rattle.std.proofs.Common.{◌≡◌, Bool, true, false, not, ◌&&◌, ◌||◌, List, [], ◌∷◌, ◌++◌, map, refl, ap, ◌∙◌}
use Rattle.std.specs.List.{list_all, list_any, flat_map}
use Rattle.std.proofs.lemmas.List.Folds.{list_all-append}
use Rattle.uno_model.specs.Registry.{mandatory_bases}
use Rattle.uno_model.specs.Sound.{is_some_list}
use Rattle.uno_entities.specs.Entities.{base_of}
use Rattle.uno_entities.specs.declared.entity.Base.{Base}

pub all_mapped : {X Z : Type 0} (p : Z → Bool) (f : X → Z) (xs : List X) → list_all p (map f xs) ≡ list_all (λ x. p (f x)) xs
all_mapped p f [] = refl
all_mapped p f (x ∷ xs) = ap (λ b. p (f x) && b) (all_mapped p f xs)

pub all_twice : {X Y Z : Type 0} (p : Z → Bool) (f : Y → Z) (g : X → Y) (xs : List X) → list_all p (map f (map g xs)) ≡ list_all (λ x. p (f (g x))) xs
all_twice p f g [] = refl
all_twice p f g (x ∷ xs) = ap (λ b. p (f (g x)) && b) (all_twice p f g xs)

pub all_flat : {X Y Z : Type 0} (p : Z → Bool) (f : Y → List Z) (g : X → Y) (xs : List X)
    → list_all p (flat_map f (map g xs)) ≡ list_all (λ x. list_all p (f (g x))) xs
all_flat p f g [] = refl
all_flat p f g (x ∷ xs) = list_all-append p (f (g x)) (flat_map f (map g xs)) ∙ ap (λ b. list_all p (f (g x)) && b) (all_flat p f g xs)

-- two tests of what each gives
pub both_flat : {X Y Z : Type 0} (p q : Z → Bool) (f h : Y → List Z) (g : X → Y) (xs : List X)
    → (list_all p (flat_map f (map g xs)) && list_all q (flat_map h (map g xs))) ≡ list_all (λ x. list_all p (f (g x)) && list_all q (h (g x))) xs
both_flat p q f h g [] = refl
both_flat p q f h g (x ∷ xs) =
    let rest = both_flat p q f h g xs in
    let front = list_all-append p (f (g x)) (flat_map f (map g xs)) in
    let back = list_all-append q (h (g x)) (flat_map h (map g xs)) in
    rw (front, back, ← rest) (regroup (list_all p (f (g x))) (list_all q (h (g x))) _ _)
  where
    regroup : (a b c d : Bool) → ((a && c) && (b && d)) ≡ ((a && b) && (c && d))
    regroup true true c d = refl
    regroup true false true d = refl
    regroup true false false d = refl
    regroup false b c d = refl

-- a list that is looked at as something else, and another behind it
pub all_front : {X Y Z : Type 0} (p : Z → Bool) (f : Y → Z) (g : X → Y) (xs : List X) (zs : List Z)
    → list_all p (map f (map g xs) ++ zs) ≡ (list_all (λ x. p (f (g x))) xs && list_all p zs)
all_front p f g xs zs = list_all-append p (map f (map g xs)) zs ∙ ap (λ b. b && list_all p zs) (all_twice p f g xs)

-- three lists, one behind the other
pub all_three : {X : Type 0} (p : X → Bool) (xs ys zs : List X) → list_all p (xs ++ (ys ++ zs)) ≡ (list_all p xs && (list_all p ys && list_all p zs))
all_three p xs ys zs = list_all-append p xs (ys ++ zs) ∙ ap (λ b. list_all p xs && b) (list_all-append p ys zs)

-- a base that is not optional is required
pub any_required : (bases : List Base) → is_some_list (mandatory_bases (map base_of bases)) ≡ list_any (λ b. not b.optional) bases
any_required [] = refl
any_required (b ∷ bases) = by_option b.optional (any_required bases)
  where
    by_option : (optional : Bool) → is_some_list (mandatory_bases (map base_of bases)) ≡ list_any (λ b. not b.optional) bases
        → is_some_list (mandatory_bases (record { optional = optional; name = b.name } ∷ map base_of bases)) ≡ (not optional || list_any (λ b. not b.optional) bases)
    by_option true rest = rest
    by_option false rest = refl

-- where the first test fails, the second decides
pub or_second : (a b r : Bool) → a ≡ false → r ≡ b → r ≡ (a || b)
or_second a b r no_first second = rw no_first second
