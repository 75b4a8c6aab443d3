-- Tables by number: what is marked, and the least place of each number.
use Rattle.std.specs.List.{filter, list_any}
use Rattle.std.specs.Prelude.{◌≡◌, ◌==◌, ℕ, Bool, false, not, ◌&&◌, ◌||◌, List, [], ◌∷◌, map, get_or, length, Option, None, Some, if◌then◌else◌, option_map}
use Rattle.idl_meaning_model.specs.Declarations.{is_forward}
use Rattle.idl_meaning_model.specs.NameFaults.{is_interface_declaration}
use Rattle.idl_model.specs.Places.{Place, is_before}
use Rattle.idl_names.specs.declared.declaration.Declared.{Declared}
use Rattle.idl_trees.specs.Names.{place_of}
use Rattle.idl_trees.specs.Trees.{declaration_of}
use Rattle.idl_trees.specs.declared.place.Place as code

-- the numbers that pass are marked too
pub record Marks (old : List Bool) (test : ℕ → Bool) (new : List Bool) : Type 0 where
  pub long : length new ≡ length old
  pub each : (n : ℕ) → get_or new n false ≡ (get_or old n false || test n)

-- whether a number is one of these
abbrev pub is_among : List ℕ → ℕ → Bool
is_among numbers n = list_any (λ m. m == n) numbers

-- the lesser of two places
abbrev pub lesser : Option Place → Place → Place
lesser None p = p
lesser (Some q) p = if is_before p q then p else q

-- the least of places
unfoldable pub least_of : Option Place → List Place → Option Place
least_of least [] = least
least_of least (p ∷ ps) = least_of (Some (lesser least p)) ps

-- the place that a table has for a number
abbrev pub place_at : List (Option code.Place) → ℕ → Option Place
place_at table n = option_map place_of (get_or table n None)

-- ---- what declarations have there

-- an entity that is declared under this number, and an interface
abbrev pub is_entity_at : ℕ → Declared → Bool
is_entity_at n d = not (is_forward (declaration_of d.body.now)) && (d.path == n)

abbrev pub is_interface_at : ℕ → Declared → Bool
is_interface_at n d = is_interface_declaration (declaration_of d.body.now) && (d.path == n)

-- the places where entities are declared under this number
abbrev pub entity_places : ℕ → List Declared → List Place
entity_places n ds = map (λ d. place_of d.name.now.place) (filter (is_entity_at n) ds)

-- they are noted beside the places that are
pub record Notes (old : List (Option code.Place)) (ds : List Declared) (new : List (Option code.Place)) : Type 0 where
  pub long : length new ≡ length old
  pub each : (n : ℕ) → place_at new n ≡ least_of (place_at old n) (entity_places n ds)

-- a place is noted for a number
pub record NotesOne (old : List (Option code.Place)) (number : ℕ) (place : Place) (wanted : Bool) (new : List (Option code.Place)) : Type 0 where
  pub long : length new ≡ length old
  pub each : (n : ℕ) → place_at new n ≡ (if wanted && (number == n) then Some (lesser (place_at old n) place) else place_at old n)

-- ---- whole tables

-- just the numbers that pass are marked
pub record MarksOf (count : ℕ) (test : ℕ → Bool) (marks : List Bool) : Type 0 where
  pub long : length marks ≡ count
  pub each : (n : ℕ) → get_or marks n false ≡ test n

-- the least place is noted where these declare an entity under each number
abbrev pub PlacesOf : List Declared → List (Option code.Place) → Type 0
PlacesOf ds leasts = (n : ℕ) → place_at leasts n ≡ least_of None (entity_places n ds)
