-- Names of entities that declarations use.
use Rattle.std.specs.List.{flat_map}
use Rattle.std.specs.Option.{option_and_then}
use Rattle.std.specs.Prelude.{◌≡◌, ℕ, suc, List, [], ◌∷◌, ◌++◌, map, slice_get, Option, Contains}
use Rattle.idl_meaning_model.specs.Uses.{Used, an_entity, a_value, used_in}
use Rattle.idl_model.specs.Places.{Place}
use Rattle.idl_model.specs.Trees.{Path}
use Rattle.idl_meant.specs.declared.uses.Use.{Use}
use Rattle.idl_meant.specs.declared.uses.Uses.{Uses}
use Rattle.idl_names.specs.declared.declaration.Declared.{Declared}
use Rattle.idl_trees.specs.Names.{path_of}
use Rattle.idl_trees.specs.Trees.{declaration_of}
use Rattle.idl_trees.specs.declared.place.Place as code
use Rattle.idl_values.specs.Told.{number_at, number_told}

-- a declaration in these modules uses the path
pub record IsUsed (all : List Declared) (modules : ℕ) (path : Path) : Type 0 where
  pub declared : Declared
  pub there : Contains all declared
  pub modules_are : declared.modules ≡ modules
  pub used : Contains (used_in (declaration_of declared.body.now)) (an_entity path)

-- a path that names an entity, with the number of the modules
abbrev pub entity_use : ℕ → Used → List (ℕ × Path)
entity_use modules (an_entity path) = (modules, path) ∷ []
entity_use modules (a_value path) = []

abbrev pub entity_uses : Declared → List (ℕ × Path)
entity_uses d = flat_map (entity_use d.modules) (used_in (declaration_of d.body.now))

abbrev pub use_of : Use → ℕ × Path
use_of u = (u.modules, path_of u.path.now)

abbrev pub AddsUses : List Use → List (ℕ × Path) → List Use → Type 0
AddsUses old more new = map use_of new ≡ map use_of old ++ more

-- these are all of them, in their order
abbrev pub AreUses : List Declared → List Use → Type 0
AreUses all uses = map use_of uses ≡ flat_map entity_uses all

-- the places of uses, numbered from a number on
unfoldable pub numbered_from : ℕ → List Use → List (code.Place × ℕ)
numbered_from n [] = []
numbered_from n (u ∷ us) = (u.path.now.place, n) ∷ numbered_from (suc n) us

-- all are there, each with its number at its place
pub record AreHeld (all : List Declared) (uses : Uses) : Type 0 where
  pub are : AreUses all uses.all.items
  pub placed : (p : Place) → number_at uses.places.numbers p ≡ number_told (numbered_from 0 uses.all.items) p

-- the use at a place
abbrev pub use_at : Uses → Place → Option Use
use_at uses p = option_and_then (slice_get uses.all.items) (number_at uses.places.numbers p)

abbrev pub use_place : ℕ × Path → Place
use_place u = u.1.place
