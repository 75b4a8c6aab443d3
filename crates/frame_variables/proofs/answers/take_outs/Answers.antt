use Rattle.std.proofs.Common.{map}
use Rattle.plan_model.specs.Holdings.{takes_outs}
use Rattle.plan_types.specs.Expressions.{argument_of}
use Rattle.uno_values.specs.Values.{plain_of}
use Rattle.frame_variables.specs.Given.{left}
use Rattle.frame_variables.specs.Taking.{taken_of}
use Rattle.frame_variables.proofs.AnswerLemmas.{outs_done}
use Rattle.frame_variables.proofs.answers.take_outs.Goals as goal

pub returns : goal.returns
returns c =
    outs_done c.args.arguments.now c.loop-argument.argument-index (left c.loop-argument.given) (taken_of c.loop-argument.variables.items c.loop-argument.gone.items)
    (takes_outs (map argument_of c.args.arguments.now) (map plain_of c.args.outs.items) (taken_of c.args.variables.now.items c.args.gone.now.items))
    c.loop-argument-test.false c.loop-argument.invariant
