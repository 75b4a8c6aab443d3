use Rattle.plan_typing.proofs.ValueFits.{value_fits}
use Rattle.plan_typing.proofs.value_laws.what_an_expression_is_fits_its_type.Goals as goal

pub returns : goal.returns
returns c = value_fits
