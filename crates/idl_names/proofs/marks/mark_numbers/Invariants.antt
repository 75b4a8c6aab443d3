use Rattle.std.proofs.Common.{◌==◌, take}
use Rattle.std.specs.List.{list_any}
use Rattle.idl_names.specs.Tables.{Marks}
use Rattle.idl_names.proofs.marks.mark_numbers.Given as goal

abbrev pub invariant-loop-number : goal.invariant-loop-number
invariant-loop-number l = Marks l.fn.marks.items (λ n. list_any (λ m. m == n) (take l.number-index l.numbers)) l.marks.items
