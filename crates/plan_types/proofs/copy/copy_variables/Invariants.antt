use Rattle.std.proofs.Common.{◌≡◌, map, take}
use Rattle.plan_types.specs.Frames.{variable_of}
use Rattle.plan_types.proofs.copy.copy_variables.Given as goal

abbrev pub invariant-loop-variable : goal.invariant-loop-variable
invariant-loop-variable l = map variable_of l.copies.items ≡ map variable_of (take l.variable-index l.variables)
