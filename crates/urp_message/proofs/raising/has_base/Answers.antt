use Rattle.urp_message.proofs.RaisingLemmas.{base_told}
use Rattle.urp_message.proofs.raising.has_base.Goals as goal

pub returns : goal.returns
returns c = rw (← c.as_str.ensures) (base_told _ _ _ _ c.requires c.has_base.ensures)
