use Rattle.plan_typing.proofs.EffectPlaces.{rest_typed}
use Rattle.plan_typing.proofs.effect_laws.statements_stay_typed.Goals as goal

pub returns : goal.returns
returns c = rest_typed
