use Rattle.plan_typing.proofs.EffectLaws.{method_of_function}
use Rattle.plan_typing.proofs.effect_laws.a_method_is_typed_for_its_function.Goals as goal

pub returns : goal.returns
returns c = method_of_function
