use Rattle.plan_typing.proofs.EffectFrames.{body_fits}
use Rattle.plan_typing.proofs.frame_laws.what_a_frame_asks_fits.Goals as goal

pub returns : goal.returns
returns c = body_fits
