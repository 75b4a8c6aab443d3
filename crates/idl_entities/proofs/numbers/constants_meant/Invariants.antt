use Rattle.std.proofs.Common.{◌≡◌, map, take}
use Rattle.idl_entities.specs.Telling.{constants_told}
use Rattle.idl_trees.specs.Members as plain
use Rattle.uno_entities.specs.Entities.{constant_of}
use Rattle.idl_entities.proofs.numbers.constants_meant.Given as goal

abbrev pub invariant-loop-constant : goal.invariant-loop-constant
invariant-loop-constant g l = record {
  at : l.place ≡ l.constant-index;
  so_far : map constant_of l.meant.items ≡ constants_told (g.M.Meanings.telling l.meanings) (map plain.constant_of (take l.constant-index l.constants));
}
