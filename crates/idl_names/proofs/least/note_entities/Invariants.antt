use Rattle.std.proofs.Common.{take}
use Rattle.idl_names.specs.Tables.{Notes}
use Rattle.idl_names.proofs.least.note_entities.Given as goal

abbrev pub invariant-loop-declared : goal.invariant-loop-declared
invariant-loop-declared l = Notes l.fn.leasts.items (take l.declared-index l.all) l.leasts.items
