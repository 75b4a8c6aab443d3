use Rattle.uno_model.proofs.FitLaws.{fit_told}
use Rattle.uno_model.proofs.value_laws.what_fits_passes_the_test.Goals as goal

pub returns : goal.returns
returns c = λ reg v k none. fit_told reg none v k
