-- The least of the places that were told of all declarations.
use Rattle.std.proofs.Common.{◌≡◌, refl, sym, ap, subst, ◌∙◌, ℕ, zero, suc, ◌<◌, ◌≤◌, List, [], ◌∷◌, ◌++◌, map, length, take, get_or, Option, None, Some, MatchOption, arith}
use Rattle.std.specs.List.{flat_map}
use Rattle.std.proofs.lemmas.List.{get_or_default, length-map, map-append, take_all}
use Rattle.idl_joint_places.specs.Circles.{FindsLeast}
use Rattle.idl_model.specs.Places.{Place, IsLeast}
use Rattle.idl_places.specs.Places.{places_of}
use Rattle.idl_places.proofs.Steps.{Tells}
use Rattle.idl_trees.specs.Names.{place_of}
use Rattle.idl_trees.specs.declared.place.Place as code

nothing_told : (places : List code.Place) (told : List Place) → places_of places ≡ told → places ≡ [] → told ≡ []
nothing_told places told same none = sym same ∙ ap places_of none

-- what is least of places is least of what they were told from
pub least_told : (places : List code.Place) (told : List Place) (found : Option code.Place) → places_of places ≡ told
    → MatchOption found (places ≡ []) (λ place. IsLeast (place_of place) (places_of places)) → FindsLeast told found
least_told places told None same least = nothing_told places told same least
least_told places told (Some place) same least = subst (IsLeast (place_of place)) same least

pub least_of_all : {X Y : Type 0} (each : Y → List Place) (view : X → Y) (xs : List X) (i : ℕ) (places seen : List code.Place) (found : Option code.Place) → length xs ≤ i → seen ≡ places
    → places_of places ≡ flat_map each (map view (take i xs)) → MatchOption found (seen ≡ []) (λ place. IsLeast (place_of place) (places_of seen))
    → FindsLeast (flat_map each (map view xs)) found
least_of_all each view xs i places seen found past same so_far least =
    least_told seen (flat_map each (map view xs)) found (ap places_of same ∙ so_far ∙ ap (λ ys. flat_map each (map view ys)) (take_all i xs past)) least

-- the same of places that were added to none
pub least_added : (places seen old : List code.Place) (more : List Place) (found : Option code.Place) → old ≡ [] → seen ≡ places → places_of places ≡ places_of old ++ more
    → MatchOption found (seen ≡ []) (λ place. IsLeast (place_of place) (places_of seen)) → FindsLeast more found
least_added places seen old more found none same added least = least_told seen more found (ap places_of same ∙ added ∙ ap (λ ps. places_of ps ++ more) none) least

pub mapped_tells : {X Y : Type 0} (f : X → Y) → Tells (map f) (λ x. f x ∷ [])
mapped_tells f xs x = map-append f xs (x ∷ [])

pub one_put : {X Y : Type 0} (f : X → Y) (now new : List X) (x : X) (y : Y) → new ≡ now ++ x ∷ [] → f x ≡ y → map f new ≡ map f now ++ y ∷ []
one_put f now new x y put seen = ap (map f) put ∙ map-append f now (x ∷ []) ∙ ap (λ k. map f now ++ k ∷ []) seen

-- what is told of each of two lists is told of those at one place
at_both : {X Y Z : Type 0} (f : X → Z) (g : Y → Z) (xs : List X) (ys : List Y) (i : ℕ) (x : X) (y : Y) → map f xs ≡ map g ys → i < length ys → x ≡ get_or xs i x → y ≡ get_or ys i y → f x ≡ g y
at_both f g xs [] i x y same low is_x is_y = absurd (omega (arith, low))
at_both f g [] (w ∷ ys) i x y same low is_x is_y = let bad : ⊥ = cc in absurd bad
at_both {Z = Z} f g (z ∷ xs) (w ∷ ys) zero x y same low is_x is_y = let heads : f z ≡ g w = cc in ap f is_x ∙ heads ∙ ap g (sym is_y)
at_both f g (z ∷ xs) (w ∷ ys) (suc i) x y same low is_x is_y = let tails : map f xs ≡ map g ys = cc in at_both f g xs ys i x y tails (omega (arith, low)) is_x is_y

mapped_twice : {X Y Z : Type 0} (f : Y → Z) (g : X → Y) (xs : List X) → map f (map g xs) ≡ map (λ x. f (g x)) xs
mapped_twice f g [] = refl
mapped_twice f g (x ∷ xs) = ap (λ k. f (g x) ∷ k) (mapped_twice f g xs)

pub as_many : {V X Y Z : Type 0} (f : V → Z) (g : Y → Z) (view : X → Y) (vs : List V) (xs : List X) → map f vs ≡ map g (map view xs) → length vs ≡ length xs
as_many f g view vs xs same = sym (length-map vs f) ∙ ap length same ∙ length-map (map view xs) g ∙ length-map xs view

pub told_at : {V X Y Z : Type 0} (f : V → Z) (g : Y → Z) (view : X → Y) (vs : List V) (xs : List X) (i : ℕ) (d : V) (x : X) → map f vs ≡ map g (map view xs) → i < length xs
    → x ≡ get_or xs i x → f (get_or vs i d) ≡ g (view x)
told_at f g view vs xs i d x same low is =
    let many = as_many f g view vs xs same in
    at_both f (λ z. g (view z)) vs xs i (get_or vs i d) x (same ∙ mapped_twice g view xs) low (get_or_default vs i d (get_or vs i d) (omega (arith, many, low))) is
