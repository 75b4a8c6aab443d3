use Rattle.bridge_laws.proofs.CoveringLaws.{all_covered}
use Rattle.bridge_laws.proofs.covering_laws.what_frames_and_objects_have_is_held.Goals as goal

pub returns : goal.returns
returns c = all_covered
