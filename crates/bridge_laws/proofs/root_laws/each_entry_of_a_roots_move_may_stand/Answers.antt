use Rattle.bridge_laws.proofs.MayLaws.{own_entry_may}
use Rattle.bridge_laws.proofs.root_laws.each_entry_of_a_roots_move_may_stand.Goals as goal

pub returns : goal.returns
returns c = own_entry_may
