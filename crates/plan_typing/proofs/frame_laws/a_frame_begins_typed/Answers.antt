use Rattle.plan_typing.proofs.EffectFrames.{rest_begins}
use Rattle.plan_typing.proofs.frame_laws.a_frame_begins_typed.Goals as goal

pub returns : goal.returns
returns c = rest_begins
