use Rattle.plan_typing.proofs.EffectGoing.{call_of_function}
use Rattle.plan_typing.proofs.frame_laws.a_call_is_of_the_function_it_names.Goals as goal

pub returns : goal.returns
returns c = call_of_function
