use Rattle.plan_reading_model.proofs.TextVerdicts.{read_verdict, verdict_read}
use Rattle.plan_reading_model.proofs.text_laws.the_verdict_is_read.Goals as goal

pub returns : goal.returns
returns c = λ reg text out named. (read_verdict reg text out named, verdict_read reg text out named)
