-- The eighth rule: the base of a service and its `interface` members are interfaces, its `service` members services; at that name.
use Rattle.std.specs.Prelude.{ℕ, List, [], ◌∷◌, ◌++◌}
use Rattle.std.specs.List.{flat_map}
use Rattle.uno_model.specs.Entities.{Entity}
use Rattle.uno_model.specs.Sound.{is_interface, is_service}
use Rattle.idl_model.specs.Places.{Place}
use Rattle.idl_model.specs.Trees.{Path, ServiceMember, face, subservice, Declaration, new_service, old_service}
use Rattle.idl_meaning_model.specs.Declarations.{Declared}
use Rattle.idl_rules_model.specs.WherePaths.{not_named}

abbrev pub face_in : ServiceMember → List Path
face_in (face optional path) = path ∷ []
face_in _ = []

abbrev pub subservice_in : ServiceMember → List Path
subservice_in (subservice optional path) = path ∷ []
subservice_in _ = []

abbrev pub wrong_parts_in : List Declared → List Entity → List (List ℕ) → Declaration → List Place
wrong_parts_in ds reg modules (new_service base constructors) = not_named ds reg is_interface modules (base ∷ [])
wrong_parts_in ds reg modules (old_service members) =
    not_named ds reg is_interface modules (flat_map face_in members) ++ not_named ds reg is_service modules (flat_map subservice_in members)
wrong_parts_in ds reg modules _ = []

unfoldable pub wrong_parts : List Declared → List Entity → Declared → List Place
wrong_parts ds reg d = wrong_parts_in ds reg d.modules d.body
