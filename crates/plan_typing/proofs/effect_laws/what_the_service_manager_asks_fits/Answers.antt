use Rattle.plan_typing.proofs.EffectManager.{manager_fits}
use Rattle.plan_typing.proofs.effect_laws.what_the_service_manager_asks_fits.Goals as goal

pub returns : goal.returns
returns c = manager_fits
