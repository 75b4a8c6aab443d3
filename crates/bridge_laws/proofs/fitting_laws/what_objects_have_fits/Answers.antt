use Rattle.bridge_laws.proofs.TypedGivenLaws.{objects_have}
use Rattle.bridge_laws.proofs.fitting_laws.what_objects_have_fits.Goals as goal

pub returns : goal.returns
returns c = objects_have
