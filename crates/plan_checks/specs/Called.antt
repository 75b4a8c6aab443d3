-- The functions that a call may name.
use Rattle.std.specs.Prelude.{ℕ, List, [], if◌then◌else◌}
use Rattle.std.specs.List.{flat_map}
use Rattle.std.specs.Str.{bytes_eq}
use Rattle.uno_model.specs.BuiltIn.{x_interface_name}
use Rattle.uno_model.specs.Entities.{Entity}
use Rattle.uno_model.specs.Functions.{Function, declared_by}
use Rattle.uno_model.specs.Registry.{find_entity}

-- what an interface declares itself; no call names what the interface on which all stand declares
unfoldable pub called_of : List Entity → List ℕ → List Function
called_of reg face = if bytes_eq face x_interface_name then [] else declared_by face (find_entity face reg)

abbrev pub called_by : List Entity → List (List ℕ) → List Function
called_by reg faces = flat_map (called_of reg) faces
