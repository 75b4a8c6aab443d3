use Rattle.plan_typing.proofs.EffectValues.{default_effect_fits}
use Rattle.plan_typing.proofs.effect_laws.what_no_method_asks_fits.Goals as goal

pub returns : goal.returns
returns c = default_effect_fits
