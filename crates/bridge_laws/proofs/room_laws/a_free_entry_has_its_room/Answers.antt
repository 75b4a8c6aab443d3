use Rattle.bridge_laws.proofs.StepRoom.{free_needed}
use Rattle.bridge_laws.proofs.room_laws.a_free_entry_has_its_room.Goals as goal

pub returns : goal.returns
returns c = free_needed
