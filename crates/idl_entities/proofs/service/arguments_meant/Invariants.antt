use Rattle.std.proofs.Common.{◌≡◌, map, take}
use Rattle.idl_entities.specs.Telling.{arguments_told}
use Rattle.idl_trees.specs.Members.{constructor_parameter_of}
use Rattle.uno_entities.specs.Entities.{field_of}
use Rattle.idl_entities.proofs.service.arguments_meant.Given as goal

abbrev pub invariant-loop-parameter : goal.invariant-loop-parameter
invariant-loop-parameter g l = map field_of l.meant.items ≡ arguments_told (g.M.Meanings.telling l.meanings) (map constructor_parameter_of (take l.parameter-index l.parameters))
