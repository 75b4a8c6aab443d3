use Rattle.std.proofs.Common.{ap, ◌∙◌}
use Rattle.std.proofs.lemmas.Result.{IfOk-weaker}
use Rattle.std.specs.List.{position_or_len}
use Rattle.plan_types.specs.Statements.{callee_of}
use Rattle.behaviour.specs.Functions.{is_callee}
use Rattle.behaviour.proofs.FunctionLemmas.{number_told}
use Rattle.behaviour.proofs.functions.number_in.Goals as goal

pub returns-in-Ok : goal.returns-in-Ok
returns-in-Ok c =
    IfOk-weaker c.place_among-place.result _ _
    (λ n is. is ∙ (ap (position_or_len (is_callee (callee_of c.args.callee.now))) (rw c.deref.ensures.value c.in-Ok.ensures.found) ∙ number_told c.args.registry.now c.args.face.now (callee_of c.args.callee.now)))
    c.place_among-place.ensures
