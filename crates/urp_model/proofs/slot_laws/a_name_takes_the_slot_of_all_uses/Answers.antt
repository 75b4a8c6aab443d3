use Rattle.urp_model.proofs.UseByUse.{same_slot, slot_below}
use Rattle.urp_model.proofs.slot_laws.a_name_takes_the_slot_of_all_uses.Goals as goal

pub returns-clause-same : goal.returns-clause-same
returns-clause-same c = same_slot

pub returns-clause-below : goal.returns-clause-below
returns-clause-below c = slot_below
