use Rattle.std.proofs.Common.{List, map, take}
use Rattle.idl_meaning_model.specs.NameFaults.{refused_types}
use Rattle.idl_names.specs.Collected.{declared_of}
use Rattle.idl_names.specs.Faults.{AddsFaults}
use Rattle.idl_names.specs.Paths.{Parts}
use Rattle.idl_names.proofs.refused.add_refused_types.Given as goal

abbrev pub invariant-loop-declared : goal.invariant-loop-declared
invariant-loop-declared l = (paths : List Parts) → AddsFaults l.fn.faults.items (refused_types (map (declared_of paths) (take l.declared-index l.all))) l.faults.items
