use Rattle.urp_message.proofs.SayingLemmas.{exception_told, through}
use Rattle.urp_message.proofs.saying.exception_fits.Goals as goal

pub returns : goal.returns
returns c = through c.exception_holds.ensures (exception_told _ _ _ _)
