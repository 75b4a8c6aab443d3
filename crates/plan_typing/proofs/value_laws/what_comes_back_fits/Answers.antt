use Rattle.plan_typing.proofs.FrameAnswers.{answer_taken}
use Rattle.plan_typing.proofs.value_laws.what_comes_back_fits.Goals as goal

pub returns : goal.returns
returns c = answer_taken
