use Rattle.std.proofs.Common.{take}
use Rattle.std.specs.List.{list_any}
use Rattle.idl_names.specs.Tables.{Marks, is_entity_at}
use Rattle.idl_names.proofs.marks.mark_entities.Given as goal

abbrev pub invariant-loop-declared : goal.invariant-loop-declared
invariant-loop-declared l = Marks l.fn.marks.items (λ n. list_any (is_entity_at n) (take l.declared-index l.all)) l.marks.items
