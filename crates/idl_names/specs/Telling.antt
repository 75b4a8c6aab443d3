-- What the names that are used stand for, told by numbers of paths, and the names that stand for nothing.
use Rattle.std.specs.List.{AllByRecursion, filter, flat_map}
use Rattle.std.specs.Prelude.{◌≡◌, ℕ, is_none, is_some, List, [], ◌∷◌, ◌++◌, map, Option, None, Some}
use Rattle.idl_meaning_model.specs.Declarations.{Declared, Scope, all_valued}
use Rattle.idl_meaning_model.specs.NameFaults as model
use Rattle.idl_meaning_model.specs.NameFaults.{name_told}
use Rattle.idl_meaning_model.specs.Scopes.{is_entity, valued_as}
use Rattle.idl_meaning_model.specs.Uses.{Use, path_of, stands_for}
use Rattle.idl_model.specs.Places.{Place}
use Rattle.idl_names.specs.Faults.{AddsFaults}
use Rattle.idl_names.specs.Paths.{Parts}
use Rattle.idl_names.specs.Standing.{Answers, IsRight, name_at}
use Rattle.idl_names.specs.Used.{used_of}
use Rattle.idl_names.specs.declared.telling.Marked.{Marked}
use Rattle.idl_names.specs.declared.telling.Told.{Told}
use Rattle.idl_names.specs.declared.used.Used.{Used}
use Rattle.idl_trees.specs.Names.{place_of}
use Rattle.idl_trees.specs.declared.place.Place as code

-- marks tell of each name of identifiers whether it is that of an entity, and whether it is that of a constant or an item
pub record Tells (paths : List Parts) (marked : Marked) (ds : List Declared) : Type 0 where
  pub entities : Answers paths marked.entities.items (is_entity ds)
  pub values : Answers paths marked.values.items (λ name. is_some (valued_as (all_valued ds) name))

-- ---- one name

abbrev pub unknown_at : code.Place → Option ℕ → List (Place × model.NameFault)
unknown_at place None = (place_of place, model.unknown) ∷ []
unknown_at place (Some n) = []

abbrev pub told_at : code.Place → Option ℕ → List (code.Place × ℕ)
told_at place None = []
told_at place (Some n) = (place, n) ∷ []

pub record TellsOne (old : Told) (place : code.Place) (found : Option ℕ) (new : Told) : Type 0 where
  pub faults : AddsFaults old.faults.items (unknown_at place found) new.faults.items
  pub names : new.names.items ≡ old.names.items ++ told_at place found

-- ---- all names

-- names with what they stand for
abbrev pub named_of : List Parts → List (code.Place × ℕ) → List (Place × List ℕ)
named_of paths names = map (λ t. (place_of t.0, name_at paths t.1)) names

-- the numbers of names are those of paths of identifiers
abbrev pub AreRight : List Parts → List (code.Place × ℕ) → Type 0
AreRight paths names = AllByRecursion (λ told. IsRight paths (Some told.1)) names

unfoldable pub unknown_among : List Declared → List Use → List (Place × model.NameFault)
unknown_among ds us = map (λ u. ((path_of u.used).place, model.unknown)) (filter (λ u. is_none (stands_for ds u)) us)

unfoldable pub told_among : List Declared → List Use → List (Place × List ℕ)
told_among ds us = flat_map (λ u. name_told (path_of u.used).place (stands_for ds u)) us

pub record TellsUses (paths : List Parts) (ds : List Declared) (old : Told) (us : List Use) (new : Told) : Type 0 where
  pub faults : AddsFaults old.faults.items (unknown_among ds us) new.faults.items
  pub names : named_of paths new.names.items ≡ named_of paths old.names.items ++ told_among ds us
  pub right : AreRight paths old.names.items → AreRight paths new.names.items

-- the names that a declaration uses, as uses there
abbrev pub uses_there : Scope → List Used → List Use
uses_there scope all = map (λ u. record { scope = scope; used = used_of u }) all
