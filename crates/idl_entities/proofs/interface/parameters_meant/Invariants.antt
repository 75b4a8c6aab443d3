use Rattle.std.proofs.Common.{◌≡◌, map, take}
use Rattle.idl_entities.specs.Telling.{parameters_told}
use Rattle.idl_trees.specs.Members.{parameter_of}
use Rattle.uno_entities.specs.Entities.{param_of}
use Rattle.idl_entities.proofs.interface.parameters_meant.Given as goal

abbrev pub invariant-loop-parameter : goal.invariant-loop-parameter
invariant-loop-parameter g l = map param_of l.meant.items ≡ parameters_told (g.M.Meanings.telling l.meanings) (map parameter_of (take l.parameter-index l.parameters))
