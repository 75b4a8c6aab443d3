use Rattle.plan_typing.proofs.EffectLaws.{evaluated_fits}
use Rattle.plan_typing.proofs.effect_laws.what_is_evaluated_fits.Goals as goal

pub returns : goal.returns
returns c = evaluated_fits
