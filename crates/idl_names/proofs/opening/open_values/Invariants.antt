use Rattle.std.proofs.Common.{map, take}
use Rattle.idl_names.specs.Collected.{declared_of}
use Rattle.idl_names.specs.Opened.{Numbers, value_paths}
use Rattle.idl_names.proofs.opening.open_values.Given as goal

abbrev pub invariant-loop-declared : goal.invariant-loop-declared
invariant-loop-declared l = Numbers l.fn.paths l.fn.numbers.items (value_paths (map (declared_of l.fn.paths) (take l.declared-index l.all))) l.paths l.numbers.items
