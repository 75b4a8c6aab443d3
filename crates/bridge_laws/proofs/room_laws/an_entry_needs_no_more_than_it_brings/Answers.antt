use Rattle.bridge_laws.proofs.StepRoom.{entry_needed, told_needed}
use Rattle.bridge_laws.proofs.room_laws.an_entry_needs_no_more_than_it_brings.Goals as goal

pub returns-clause-told : goal.returns-clause-told
returns-clause-told c = told_needed

pub returns-clause-side : goal.returns-clause-side
returns-clause-side c = entry_needed
