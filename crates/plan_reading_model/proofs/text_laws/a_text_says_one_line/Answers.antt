use Rattle.plan_reading_model.proofs.LineOne.{says_one}
use Rattle.plan_reading_model.proofs.text_laws.a_text_says_one_line.Goals as goal

pub returns : goal.returns
returns c = says_one
