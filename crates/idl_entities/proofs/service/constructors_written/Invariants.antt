use Rattle.std.proofs.Common.{◌≡◌, map, take}
use Rattle.idl_entities.specs.Telling.{written_told}
use Rattle.idl_trees.specs.Members as plain
use Rattle.uno_entities.specs.Entities.{constructor_of}
use Rattle.idl_entities.proofs.service.constructors_written.Given as goal

abbrev pub invariant-loop-constructor : goal.invariant-loop-constructor
invariant-loop-constructor g l = map constructor_of l.meant.items ≡ written_told (g.M.Meanings.telling l.meanings) (map plain.constructor_of (take l.constructor-index l.constructors))
