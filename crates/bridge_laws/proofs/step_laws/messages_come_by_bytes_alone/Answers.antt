use Rattle.bridge_laws.proofs.StepLaws.{nothing_got}
use Rattle.bridge_laws.proofs.step_laws.messages_come_by_bytes_alone.Goals as goal

pub returns : goal.returns
returns c = nothing_got
