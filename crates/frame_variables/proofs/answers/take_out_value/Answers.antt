use Rattle.frame_variables.specs.Given.{left}
use Rattle.frame_variables.specs.Taking.{taken_of}
use Rattle.frame_variables.proofs.AnswerLemmas.{out_taken}
use Rattle.frame_variables.proofs.answers.take_out_value.Goals as goal

pub returns-in-Out : goal.returns-in-Out
returns-in-Out c = λ args.
    out_taken c.take_next.result c.args.argument.now c.in-Out.name args (left c.args.given.now) (left c.take_next.new.given) (taken_of c.args.variables.now.items c.args.gone.now.items)
    (taken_of c.take_next.new.variables.items c.take_next.new.gone.items) c.in-Out.is c.take_next.ensures.rest c.take_next.ensures.taken
