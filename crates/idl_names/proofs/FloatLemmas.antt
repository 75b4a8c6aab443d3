-- What is added for the types of one more of a list.
use Rattle.std.proofs.Common.{◌≡◌, sym, ap, ◌∙◌, ℕ, ◌+◌, ◌<◌, List, [], ◌∷◌, ◌++◌, map, length, take, get_or, append_assoc}
use Rattle.std.specs.List.{flat_map}
use Rattle.std.proofs.lemmas.List.{map-append}
use Rattle.std.proofs.lemmas.List.Concat.{flat_map-append}
use Rattle.idl_meaning_model.specs.Uses.{floats}
use Rattle.idl_model.specs.Places as plain
use Rattle.idl_model.specs.Trees.{WrittenType}
use Rattle.idl_names.specs.Floats.{places_of, AddsPlaces}
use Rattle.idl_trees.specs.declared.place.Place.{Place}
use Rattle.idl_names.proofs.UsedLemmas.{one_taken, one_joined, last_joined}

one_behind : (old now new xs ys : List plain.Place) → now ≡ old ++ xs → new ≡ now ++ ys → new ≡ old ++ (xs ++ ys)
one_behind old now new xs ys first second = second ∙ ap (λ k. k ++ ys) first ∙ append_assoc old xs ys

pub each_type : {X Y : Type 0} (view : X → Y) (f : Y → WrittenType) (xs : List X) (i : ℕ) (x : X) (old now new : List Place) → i < length xs → x ≡ get_or xs i x
    → AddsPlaces old (flat_map floats (map f (map view (take i xs)))) now → AddsPlaces now (floats (f (view x))) new
    → AddsPlaces old (flat_map floats (map f (map view (take (i + 1) xs)))) new
each_type view f xs i x old now new low is so_far added =
    let before = map view (take i xs) in
    one_behind (places_of old) (places_of now) (places_of new) (flat_map floats (map f before)) (floats (f (view x))) so_far added
    ∙ ap (λ k. places_of old ++ k) (sym (ap (λ k. flat_map floats (map f k)) (one_taken view xs i x low is)
    ∙ ap (flat_map floats) (map-append f before (view x ∷ [])) ∙ last_joined floats (map f before) (f (view x))))

pub each_types : {X Y : Type 0} (view : X → Y) (f : Y → List WrittenType) (xs : List X) (i : ℕ) (x : X) (old now new : List Place) → i < length xs → x ≡ get_or xs i x
    → AddsPlaces old (flat_map floats (flat_map f (map view (take i xs)))) now → AddsPlaces now (flat_map floats (f (view x))) new
    → AddsPlaces old (flat_map floats (flat_map f (map view (take (i + 1) xs)))) new
each_types view f xs i x old now new low is so_far added =
    let before = flat_map f (map view (take i xs)) in
    one_behind (places_of old) (places_of now) (places_of new) (flat_map floats before) (flat_map floats (f (view x))) so_far added
    ∙ ap (λ k. places_of old ++ k) (sym (ap (flat_map floats) (one_joined view f xs i x low is) ∙ flat_map-append floats before (f (view x))))
