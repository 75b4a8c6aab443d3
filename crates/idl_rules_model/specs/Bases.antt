-- The first rule: a base is of the same kind as what stands on it, at the base's name; a base behind `:` and bases among the members do not stand together.
use Rattle.std.specs.Prelude.{ℕ, List, [], ◌∷◌, ◌++◌, map, Option, if◌then◌else◌}
use Rattle.std.specs.List.{flat_map}
use Rattle.std.specs.Option.{option_to_list}
use Rattle.uno_model.specs.Entities.{Entity}
use Rattle.uno_model.specs.Sound.{is_interface, is_struct, is_exception, is_some_list}
use Rattle.idl_model.specs.Places.{Place}
use Rattle.idl_model.specs.Trees.{Path, InterfaceMember, base_member, Declaration, interface, struct, exception}
use Rattle.idl_meaning_model.specs.Declarations.{Declared}
use Rattle.idl_rules_model.specs.WherePaths.{not_named}

-- the bases among the members of an interface
abbrev pub base_in : InterfaceMember → List Path
base_in (base_member optional path) = path ∷ []
base_in _ = []

abbrev pub bases_in : List InterfaceMember → List Path
bases_in members = flat_map base_in members

-- the name behind `:`, where there are bases among the members
unfoldable pub two_ways : Option Path → List InterfaceMember → List Place
two_ways base members = if is_some_list (bases_in members) then map (λ path. path.place) (option_to_list base) else []

abbrev pub wrong_bases_in : List Declared → List Entity → List (List ℕ) → Declaration → List Place
wrong_bases_in ds reg modules (interface base members) = not_named ds reg is_interface modules (option_to_list base ++ bases_in members) ++ two_ways base members
wrong_bases_in ds reg modules (struct base members) = not_named ds reg is_struct modules (option_to_list base)
wrong_bases_in ds reg modules (exception base members) = not_named ds reg is_exception modules (option_to_list base)
wrong_bases_in ds reg modules _ = []

unfoldable pub wrong_bases : List Declared → List Entity → Declared → List Place
wrong_bases ds reg d = wrong_bases_in ds reg d.modules d.body
