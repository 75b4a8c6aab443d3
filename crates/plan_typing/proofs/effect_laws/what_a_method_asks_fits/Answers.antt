use Rattle.plan_typing.proofs.EffectPlaces.{place_fits}
use Rattle.plan_typing.proofs.effect_laws.what_a_method_asks_fits.Goals as goal

pub returns : goal.returns
returns c = place_fits
