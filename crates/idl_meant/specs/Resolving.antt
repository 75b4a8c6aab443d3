-- Files whose names are resolved.
use Rattle.std.specs.List.{AllByRecursion, list_all}
use Rattle.std.specs.Prelude.{◌≡◌, ℕ, true, List, [], map, get_or, slice_get, Some}
use Rattle.idl_meaning_model.specs.Declarations.{Declared, all_valued}
use Rattle.idl_meaning_model.specs.FromFiles.{are_apart, has_identifiers, is_spelled_use, leaf_places}
use Rattle.idl_meaning_model.specs.NameFaults.{unknown_uses}
use Rattle.idl_meaning_model.specs.Uses.{uses}
use Rattle.idl_names.specs.Collected.{HasNumbers, declared_of}
use Rattle.idl_names.specs.Opened.{HasOpened}
use Rattle.idl_names.specs.Telling.{AreRight, named_of, told_among}
use Rattle.idl_names.specs.declared.resolving.Resolved.{Resolved}

-- what the files declare
abbrev pub all_in : Resolved → List Declared
all_in r = map (declared_of r.paths) r.declared.items

-- modules by the number of their path
abbrev pub modules_at : Resolved → ℕ → List (List ℕ)
modules_at r n = get_or r.paths n []

-- names are identifiers, no two names or types and no two constants or items stand at one place, and each name that is used is told
pub record AreTold (r : Resolved) : Type 0 where
  pub numbered : AllByRecursion (HasNumbers r.paths) r.declared.items
  pub outermost : slice_get r.paths 0 ≡ Some []
  pub opened : HasOpened r.paths (all_in r) r.opened
  pub identifiers : list_all has_identifiers (all_in r) ≡ true
  pub spelled : list_all is_spelled_use (uses (all_in r)) ≡ true
  pub apart : are_apart (leaf_places (all_in r)) ≡ true
  pub values_apart : are_apart (map (λ v. v.name.place) (all_valued (all_in r))) ≡ true
  pub known : unknown_uses (all_in r) ≡ []
  pub names : named_of r.paths r.names.items ≡ told_among (all_in r) (uses (all_in r))
  pub right : AreRight r.paths r.names.items
