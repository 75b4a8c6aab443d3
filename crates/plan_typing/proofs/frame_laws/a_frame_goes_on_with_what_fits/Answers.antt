use Rattle.plan_typing.proofs.EffectGoing.{run_goes_on}
use Rattle.plan_typing.proofs.frame_laws.a_frame_goes_on_with_what_fits.Goals as goal

pub returns : goal.returns
returns c = run_goes_on
