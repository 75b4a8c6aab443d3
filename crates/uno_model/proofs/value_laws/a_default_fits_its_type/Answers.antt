use Rattle.uno_model.proofs.DefaultLaws.{default_fits}
use Rattle.uno_model.proofs.value_laws.a_default_fits_its_type.Goals as goal

pub returns : goal.returns
returns c = default_fits
