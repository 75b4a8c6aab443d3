use Rattle.std.specs.Prelude.{◌≡◌, map, drop}
use Rattle.plan_model.specs.Holdings.{takes_outs}
use Rattle.plan_types.specs.Expressions.{argument_of}
use Rattle.uno_values.specs.Values.{plain_of}
use Rattle.frame_variables.specs.Given.{left}
use Rattle.frame_variables.specs.Taking.{taken_of}
use Rattle.frame_variables.proofs.answers.take_outs.Given as goal

-- what the other arguments do behind the first ones is what all do
abbrev pub invariant-loop-argument : goal.invariant-loop-argument
invariant-loop-argument l =
    takes_outs (map argument_of (drop l.argument-index l.arguments)) (left l.given) (taken_of l.variables.items l.gone.items)
    ≡ takes_outs (map argument_of l.arguments) (map plain_of l.fn.outs.items) (taken_of l.fn.variables.items l.fn.gone.items)
