use Rattle.std.proofs.Common.{List, map, take}
use Rattle.std.specs.List.{AllByRecursion}
use Rattle.idl_names.specs.Paths.{Parts}
use Rattle.idl_repeated_names.specs.Over.{IsNamed, Owns, told}
use Rattle.idl_repeated_names.proofs.owners.owners_of.Given as goal

abbrev pub invariant-loop-entry : goal.invariant-loop-entry
invariant-loop-entry l = (paths : List Parts) → AllByRecursion (IsNamed paths) l.entries → Owns l.owners (map (told paths) (take l.entry-index l.entries))
