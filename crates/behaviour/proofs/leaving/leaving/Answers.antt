use Rattle.std.proofs.lemmas.Result.{IfOk-weaker}
use Rattle.type_registry.specs.Functions.{lent_function}
use Rattle.behaviour.proofs.LeavingLemmas.{leaving_is}
use Rattle.behaviour.proofs.leaving.leaving.Goals as goal
use Rattle.behaviour.specs.Answers.{raised_of}

pub returns : goal.returns
returns c =
    IfOk-weaker c.sendable.result _ _
    (λ x sent face number. leaving_is c.args.registry.now c.args.tid.now face number (lent_function c.args.function.now) (raised_of c.args.exception) _ (raised_of x) c.in_ok-declared.ensures (sent face number))
    c.sendable.ensures
