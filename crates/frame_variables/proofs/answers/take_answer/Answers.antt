use Rattle.std.proofs.Common.{map, ap}
use Rattle.plan_types.specs.Expressions.{argument_of}
use Rattle.plan_types.specs.Frames.{variables_of}
use Rattle.plan_types.specs.Statements.{call_of}
use Rattle.uno_values.specs.Values.{plain_of}
use Rattle.frame_variables.specs.Taking.{taken_of}
use Rattle.frame_variables.proofs.AnswerLemmas.{answered}
use Rattle.frame_variables.proofs.answers.take_answer.Goals as goal

pub returns : goal.returns
returns c =
    answered (call_of c.args.call.now) (plain_of c.args.value) (map plain_of c.args.outs.items) (variables_of c.args.variables.now.items)
    (taken_of c.take_result.new.variables.items c.take_result.new.gone.items) (taken_of c.take_outs.new.variables.items c.take_outs.new.gone.items) (map argument_of c.deref.result.now)
    (ap (map argument_of) c.deref.ensures.value) c.in_ok-take_result.ensures c.in_ok-take_outs.ensures
