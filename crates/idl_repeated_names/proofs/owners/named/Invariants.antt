use Rattle.std.proofs.Common.{take}
use Rattle.idl_repeated_names.specs.Over.{AreNamed}
use Rattle.idl_repeated_names.proofs.owners.named.Given as goal

abbrev pub invariant-loop-declared : goal.invariant-loop-declared
invariant-loop-declared l = AreNamed l.paths (take l.declared-index l.all) l.entries.items
