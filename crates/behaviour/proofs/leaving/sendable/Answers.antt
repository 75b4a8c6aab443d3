use Rattle.std.proofs.Common.{sym, ◌∙◌}
use Rattle.std.proofs.lemmas.Result.{IfOk-weaker}
use Rattle.behaviour.proofs.leaving.sendable.Goals as goal

pub returns : goal.returns
returns c face number = sym (c.in_default.ensures face number)

pub returns-in-Some : goal.returns-in-Some
returns-in-Some c = IfOk-weaker c.caused.result _ _ (λ x is face number. is ∙ sym (c.in-Some.ensures face number)) c.caused.ensures
