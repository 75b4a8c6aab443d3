use Rattle.bridge_setting.proofs.SupportLemmas.{base_told}
use Rattle.bridge_setting.proofs.supporting.is_base_of.Goals as goal

pub returns : goal.returns
returns c = base_told _ _ _ _ c.requires c.has_base.ensures
