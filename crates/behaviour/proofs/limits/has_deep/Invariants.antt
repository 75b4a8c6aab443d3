use Rattle.std.specs.Prelude.{◌≡◌, drop}
use Rattle.plan_model.specs.Evaluation.{is_deep}
use Rattle.uno_model.specs.Values.{depth_in}
use Rattle.uno_values.specs.Values.{plains_of}
use Rattle.behaviour.proofs.limits.has_deep.Given as goal

-- none so far is too deep
abbrev pub invariant-loop-value : goal.invariant-loop-value
invariant-loop-value l = is_deep (depth_in (plains_of (drop l.value-index l.values))) ≡ is_deep (depth_in (plains_of l.values))
