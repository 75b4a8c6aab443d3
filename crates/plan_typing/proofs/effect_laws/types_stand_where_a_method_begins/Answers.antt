use Rattle.plan_typing.proofs.EffectPlaces.{types_stand_first}
use Rattle.plan_typing.proofs.effect_laws.types_stand_where_a_method_begins.Goals as goal

pub returns : goal.returns
returns c = types_stand_first
