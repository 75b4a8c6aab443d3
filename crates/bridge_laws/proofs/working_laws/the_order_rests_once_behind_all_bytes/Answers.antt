use Rattle.bridge_laws.proofs.RestingLaws.{rests_once}
use Rattle.bridge_laws.proofs.working_laws.the_order_rests_once_behind_all_bytes.Goals as goal

pub returns : goal.returns
returns c = rests_once
