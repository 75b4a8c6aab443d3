use Rattle.plan_reading_model.proofs.LineLaws.{line_back}
use Rattle.plan_reading_model.proofs.TextVerdicts.{says_read}
use Rattle.plan_reading_model.proofs.text_laws.the_line_is_read.Goals as goal

pub returns : goal.returns
returns c = λ reg text l named. (line_back reg text l, says_read reg text l named)
