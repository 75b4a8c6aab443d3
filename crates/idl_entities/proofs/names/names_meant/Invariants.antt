use Rattle.std.proofs.Common.{◌≡◌, map, take}
use Rattle.idl_entities.specs.Telling.{names_told}
use Rattle.idl_trees.specs.Names.{path_of}
use Rattle.idl_entities.proofs.names.names_meant.Given as goal

abbrev pub invariant-loop-path : goal.invariant-loop-path
invariant-loop-path g l = l.names.items ≡ names_told (g.M.Meanings.telling l.meanings) (map path_of (take l.path-index l.paths))
