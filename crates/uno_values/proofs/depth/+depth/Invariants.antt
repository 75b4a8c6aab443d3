use Rattle.std.specs.Prelude.{◌≡◌, ◌-◌, ◌^◌, ◌≤◌, max, min, drop}
use Rattle.uno_model.specs.Values.{depth_in}
use Rattle.uno_values.specs.Values.{plains_of}
use Rattle.uno_values.proofs.depth.+depth.Given as goal

abbrev pub invariant-deepest-loop-value : goal.invariant-deepest-loop-value
invariant-deepest-loop-value l =
    (min (max l.deepest (depth_in (plains_of (drop l.value-index l.values)))) (2 ^ 64 - 1) ≡ min (depth_in (plains_of l.values)) (2 ^ 64 - 1)) × (l.deepest ≤ 2 ^ 64 - 1)
