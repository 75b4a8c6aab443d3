use Rattle.plan_typing.proofs.FrameFirst.{first_variables_fit}
use Rattle.plan_typing.proofs.value_laws.a_method_begins_with_what_fits.Goals as goal

pub returns : goal.returns
returns c = first_variables_fit
