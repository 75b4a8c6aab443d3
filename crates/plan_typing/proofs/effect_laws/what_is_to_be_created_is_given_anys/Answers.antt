use Rattle.plan_typing.proofs.EffectCreates.{manager_gives}
use Rattle.plan_typing.proofs.effect_laws.what_is_to_be_created_is_given_anys.Goals as goal

pub returns : goal.returns
returns c = manager_gives
