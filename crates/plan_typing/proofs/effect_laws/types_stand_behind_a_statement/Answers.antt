use Rattle.plan_typing.proofs.EffectTypes.{types_stand_behind}
use Rattle.plan_typing.proofs.effect_laws.types_stand_behind_a_statement.Goals as goal

pub returns : goal.returns
returns c = types_stand_behind
