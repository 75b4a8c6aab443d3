-- What is wrong with declarations that stand in a list, where all declarations are told.
use Rattle.std.specs.List.{filter, flat_map}
use Rattle.std.specs.Prelude.{◌≡◌, ℕ, true, ◌&&◌, not, List, map, slice_get, Option, None, Some, if◌then◌else◌}
use Rattle.idl_meaning_model.specs.Declarations.{Declared, dotted, full_name, is_forward}
use Rattle.idl_meaning_model.specs.FromFiles.{are_identifiers}
use Rattle.idl_meaning_model.specs.NameFaults.{NameFault, unknown, has_interface, first_before, places_declared, twice_by}
use Rattle.idl_meaning_model.specs.Scopes.{is_built_in}
use Rattle.idl_model.specs.Places.{Place, is_before}
use Rattle.idl_names.specs.Paths.{Parts}
use Rattle.idl_names.specs.Tables.{least_of, place_at}
use Rattle.idl_trees.specs.declared.place.Place as code

-- forward declarations of interfaces that there are not
unfoldable pub alone_among : List Declared → List Declared → List (Place × NameFault)
alone_among ds some = map (λ d. (d.name.place, unknown)) (filter (λ d. is_forward d.body && not (has_interface ds (full_name d))) some)

-- entities that are built in, or declared at a place before
unfoldable pub twice_among : List Declared → List Declared → List (Place × NameFault)
twice_among ds some =
    flat_map (λ d. twice_by (is_built_in (full_name d)) d.name.place (first_before d.name.place (places_declared ds (full_name d)))) (filter (λ d. not (is_forward d.body)) some)

-- ---- the first of places

-- a place, if it comes before this one
abbrev pub if_before : Place → Option Place → Option Place
if_before place None = None
if_before place (Some p) = if is_before p place then Some p else None

-- the least place where the entity of each path is declared
abbrev pub HasLeasts : List Parts → List (Option code.Place) → List Declared → Type 0
HasLeasts paths leasts ds = (p : Parts) (n : ℕ) → are_identifiers p ≡ true → slice_get paths n ≡ Some p → place_at leasts n ≡ least_of None (places_declared ds (dotted p))
