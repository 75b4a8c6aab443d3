use Rattle.std.proofs.Common.{sym, ◌∙◌}
use Rattle.std.proofs.lemmas.Result.{IfOk-weaker}
use Rattle.behaviour.proofs.LeavingLemmas.{declared_is, undeclared_is}
use Rattle.behaviour.proofs.leaving.as_declared.Goals as goal

pub returns-then-may_raise : goal.returns-then-may_raise
returns-then-may_raise c = declared_is _ _ _ _ (sym c.may_raise.ensures ∙ c.if-may_raise.true)

pub returns : goal.returns
returns c = IfOk-weaker c.undeclared-other.result _ _ (λ x is. is ∙ undeclared_is _ _ _ _ (sym c.may_raise.ensures ∙ c.if-may_raise.false)) c.undeclared-other.ensures
