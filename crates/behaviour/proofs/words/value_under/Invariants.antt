use Rattle.std.specs.Prelude.{◌≡◌, drop}
use Rattle.plan_model.specs.Evaluation.{value_under}
use Rattle.plan_types.specs.Frames.{variables_of}
use Rattle.behaviour.proofs.words.value_under.Given as goal

-- no variable so far has the name
abbrev pub invariant-loop-variable : goal.invariant-loop-variable
invariant-loop-variable l = value_under l.name (variables_of (drop l.variable-index l.variables)) ≡ value_under l.name (variables_of l.variables)
