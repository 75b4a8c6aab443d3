-- Of two definitions that are one, a check that gives the one gives the other.
use Rattle.std.proofs.Common.{◌≡◌, Option, Result, Ok, Err, subst, ◌∙◌}
use Rattle.std.specs.Prelude.{OnOk}
use Rattle.plan_model.specs.declared.line_reason.LineReason.{LineReason}
use Rattle.behaviour_text.specs.Reasons.{Clears}
use Rattle.plan_checks.specs.declared.line_error.LineError.{LineError}

pub clears_so : {X : Type 0} (r : Result X LineError) (reason other : Option LineReason) → reason ≡ other → Clears r reason → Clears r other
clears_so r reason other same clears = subst (Clears r) same clears

pub done_so : {X : Type 0} {C : Type 0} (r : Result X LineError) (done expected other : C) → expected ≡ other → OnOk r (done ≡ expected) → OnOk r (done ≡ other)
done_so (Ok x) done expected other same is = is ∙ same
done_so (Err e) done expected other same is = is
