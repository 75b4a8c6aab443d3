use Rattle.plan_typing.proofs.EffectFrames.{ends_frame}
use Rattle.plan_typing.proofs.frame_laws.what_ends_a_method_ends_the_frame.Goals as goal

pub returns : goal.returns
returns c = ends_frame
