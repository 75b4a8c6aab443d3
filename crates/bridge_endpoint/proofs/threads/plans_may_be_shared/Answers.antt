use denote.Param.Send.{sendable}
use Rattle.bridge_endpoint.proofs.Crossing.{plan_sync}
use Rattle.bridge_endpoint.proofs.threads.plans_may_be_shared.Goals as goal

pub shared-requires-sync-T : goal.shared-requires-sync-T
shared-requires-sync-T c κs = let a = plan_sync in search sendable depth 20
