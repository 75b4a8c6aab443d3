use Rattle.behaviour.proofs.RaisingLemmas.{base_told}
use Rattle.behaviour.proofs.exceptions.has_base.Goals as goal

pub returns : goal.returns
returns c = base_told _ _ _ _ c.requires c.has_base.ensures
