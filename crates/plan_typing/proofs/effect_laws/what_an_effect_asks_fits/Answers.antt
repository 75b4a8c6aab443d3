use Rattle.plan_typing.proofs.EffectLaws.{asked_fits}
use Rattle.plan_typing.proofs.effect_laws.what_an_effect_asks_fits.Goals as goal

pub returns : goal.returns
returns c = asked_fits
