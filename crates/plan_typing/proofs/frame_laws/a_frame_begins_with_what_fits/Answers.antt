use Rattle.plan_typing.proofs.EffectFrames.{run_begins}
use Rattle.plan_typing.proofs.frame_laws.a_frame_begins_with_what_fits.Goals as goal

pub returns : goal.returns
returns c = run_begins
