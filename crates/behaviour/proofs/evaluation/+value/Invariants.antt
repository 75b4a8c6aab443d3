use Rattle.std.specs.Prelude.{◌≡◌, map, drop, option_map}
use Rattle.plan_model.specs.Evaluation.{values_of}
use Rattle.plan_types.specs.Expressions.{expressions_of}
use Rattle.uno_values.specs.Values.{plain_of}
use Rattle.behaviour.specs.Running.{scene_of}
use Rattle.behaviour.proofs.EvaluationLemmas.{joined}
use Rattle.behaviour.proofs.evaluation.+value.Given as goal

-- the values so far stand before those of the others
abbrev pub invariant-values_of-loop-expression : goal.invariant-values_of-loop-expression
invariant-values_of-loop-expression l =
    option_map (joined (map plain_of l.values.items)) (values_of (scene_of l.scene) (expressions_of (drop l.expression-index l.expressions)))
    ≡ values_of (scene_of l.scene) (expressions_of l.expressions)
