use Rattle.plan_typing.proofs.EffectFrames.{rest_goes_on}
use Rattle.plan_typing.proofs.frame_laws.a_frame_goes_on_typed.Goals as goal

pub returns : goal.returns
returns c = rest_goes_on
