-- The places of types that are not served, as code has them.
use Rattle.std.specs.Prelude.{◌≡◌, List, ◌++◌, map}
use Rattle.idl_model.specs.Places as plain
use Rattle.idl_trees.specs.Names.{place_of}
use Rattle.idl_trees.specs.declared.place.Place.{Place}

abbrev pub places_of : List Place → List plain.Place
places_of ps = map place_of ps

-- these are added behind those that are there
abbrev pub AddsPlaces : List Place → List plain.Place → List Place → Type 0
AddsPlaces old more new = places_of new ≡ places_of old ++ more
