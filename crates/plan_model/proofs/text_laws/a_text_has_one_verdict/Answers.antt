use Rattle.plan_model.proofs.VerdictLaws.{texts_have_one}
use Rattle.plan_model.proofs.text_laws.a_text_has_one_verdict.Goals as goal

pub returns : goal.returns
returns c = texts_have_one
