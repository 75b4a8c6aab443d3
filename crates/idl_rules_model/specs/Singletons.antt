-- The ninth rule: the base of a singleton is an interface, its `service` a service; at that name.
use Rattle.std.specs.Prelude.{ℕ, List, [], ◌∷◌}
use Rattle.uno_model.specs.Entities.{Entity}
use Rattle.uno_model.specs.Sound.{is_interface, is_service}
use Rattle.idl_model.specs.Places.{Place}
use Rattle.idl_model.specs.Trees.{Declaration, new_singleton, old_singleton}
use Rattle.idl_meaning_model.specs.Declarations.{Declared}
use Rattle.idl_rules_model.specs.WherePaths.{not_named}

abbrev pub wrong_targets_in : List Declared → List Entity → List (List ℕ) → Declaration → List Place
wrong_targets_in ds reg modules (new_singleton base) = not_named ds reg is_interface modules (base ∷ [])
wrong_targets_in ds reg modules (old_singleton service) = not_named ds reg is_service modules (service ∷ [])
wrong_targets_in ds reg modules _ = []

unfoldable pub wrong_targets : List Declared → List Entity → Declared → List Place
wrong_targets ds reg d = wrong_targets_in ds reg d.modules d.body
