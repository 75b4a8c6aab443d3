use Rattle.std.proofs.Common.{sym, ◌∙◌}
use Rattle.std.proofs.lemmas.Result.{IfOk-weaker}
use Rattle.behaviour.proofs.LeavingLemmas.{frame_is, no_frame}
use Rattle.behaviour.proofs.leaving.leaving_exception.Goals as goal
use Rattle.behaviour.specs.Answers.{raised_of}

pub returns-in-Some : goal.returns-in-Some
returns-in-Some c =
    IfOk-weaker c.leaving.result _ _
    (λ x is b here called. is c.as_str.result.now c.args.function
    ∙ frame_is c.args.registry.now c.args.tid.now b c.as_str.result.now c.args.function (here ∙ sym c.as_str.ensures) called (raised_of c.args.exception) _ c.in-Some.ensures)
    c.leaving.ensures

pub returns-in-None : goal.returns-in-None
returns-in-None c b here called = no_frame c.args.registry.now c.args.tid.now b c.as_str.result.now c.args.function (here ∙ sym c.as_str.ensures) called (raised_of c.args.exception) c.in-None.ensures
