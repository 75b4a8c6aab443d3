use Rattle.message_model.proofs.MessageNamingLaws.{said_fits}
use Rattle.message_model.proofs.naming_laws.what_may_be_said_fits.Goals as goal

pub returns : goal.returns
returns c = said_fits
