use Rattle.bridge_laws.proofs.StepRoom.{opening_needed}
use Rattle.bridge_laws.proofs.room_laws.an_opening_needs_room_for_its_end_and_its_objects.Goals as goal

pub returns : goal.returns
returns c = opening_needed
