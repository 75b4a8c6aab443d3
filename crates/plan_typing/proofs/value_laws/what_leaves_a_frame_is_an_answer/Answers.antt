use Rattle.plan_typing.proofs.EffectLeaving.{leaving_answers}
use Rattle.plan_typing.proofs.value_laws.what_leaves_a_frame_is_an_answer.Goals as goal

pub returns : goal.returns
returns c = leaving_answers
