use Rattle.plan_model.proofs.VerdictLaws.{texts_have_one}
use Rattle.plan_reading_model.proofs.LineOne.{says_one}
use Rattle.plan_reading_model.proofs.text_laws.a_text_has_one_verdict.Goals as goal

pub returns : goal.returns
returns c = λ reg text out other. texts_have_one reg text out other (says_one reg)
