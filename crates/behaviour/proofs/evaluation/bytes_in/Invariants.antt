use Rattle.std.specs.Prelude.{◌≡◌, ◌++◌, drop}
use Rattle.plan_model.specs.Evaluation.{bytes_of}
use Rattle.uno_values.specs.Values.{plains_of}
use Rattle.behaviour.proofs.evaluation.bytes_in.Given as goal

-- the bytes so far stand before those of the others
abbrev pub invariant-loop-value : goal.invariant-loop-value
invariant-loop-value l = l.bytes.items ++ bytes_of (plains_of (drop l.value-index l.values)) ≡ bytes_of (plains_of l.values)
