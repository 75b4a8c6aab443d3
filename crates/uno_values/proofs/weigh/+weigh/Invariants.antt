use Rattle.std.specs.Prelude.{◌≡◌, ◌+◌, ◌-◌, ◌^◌, ◌≤◌, min, drop}
use Rattle.uno_model.specs.Weights.{weights}
use Rattle.uno_values.specs.Values.{plains_of}
use Rattle.uno_values.proofs.weigh.+weigh.Given as goal

abbrev pub invariant-weights-loop-value : goal.invariant-weights-loop-value
invariant-weights-loop-value l =
    (min (l.total + weights (plains_of (drop l.value-index l.values))) (2 ^ 64 - 1) ≡ min (weights (plains_of l.values)) (2 ^ 64 - 1)) × (l.total ≤ 2 ^ 64 - 1)
