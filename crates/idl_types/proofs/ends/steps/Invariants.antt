use Rattle.std.proofs.Common.{◌≡◌}
use Rattle.idl_types.specs.Bodies.{bodies_of, steps_below, told_at}
use Rattle.idl_types.proofs.ends.steps.Given as goal

abbrev pub invariant-loop-number : goal.invariant-loop-number
invariant-loop-number l = l.steps.items ≡ steps_below (told_at l.told) (bodies_of l.all) l.table l.number
