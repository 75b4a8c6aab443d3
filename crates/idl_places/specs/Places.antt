-- Places as code has them, and those at which a declaration breaks a rule that asks what its paths name.
use Rattle.std.specs.Prelude.{◌≡◌, Bool, List, ◌++◌, map, Option, None, Some, if◌then◌else◌}
use Rattle.idl_entities.specs.Telling.{Telling}
use Rattle.idl_model.specs.Places as plain
use Rattle.idl_model.specs.Places.{is_before}
use Rattle.idl_model.specs.Trees.{Path}
use Rattle.idl_rules_model.specs.WherePaths.{not_named}
use Rattle.idl_trees.specs.Names.{place_of}
use Rattle.idl_trees.specs.declared.place.Place.{Place}
use Rattle.uno_model.specs.Entities.{Entity, Body}

abbrev pub places_of : List Place → List plain.Place
places_of ps = map place_of ps

-- these are added behind those that are there
abbrev pub AddsPlaces : List Place → List plain.Place → List Place → Type 0
AddsPlaces old more new = places_of new ≡ places_of old ++ more

-- the lesser of two places
abbrev pub lesser : Option plain.Place → plain.Place → plain.Place
lesser None p = p
lesser (Some q) p = if is_before p q then p else q

-- the paths of a declaration that name no entity of this kind
abbrev pub wrong_paths : Telling → List Entity → (Body → Bool) → List Path → List plain.Place
wrong_paths t reg wanted paths = not_named t.all reg wanted t.declared.modules paths
