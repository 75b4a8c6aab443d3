use Rattle.world_laws.proofs.MergeLaws.{marks_tell}
use Rattle.world_laws.proofs.merging_laws.marks_tell_the_history.Goals as goal

pub returns : goal.returns
returns c = marks_tell
