use denote.Param.Send.{sendable}
use Rattle.bridge_streams.proofs.Crossing.{unsaid_send, unsaid_sync}
use Rattle.bridge_streams.proofs.threads.may_go_between_threads.Goals as goal

pub sent-requires-3-send-T : goal.sent-requires-3-send-T
sent-requires-3-send-T c κs = let a = unsaid_send in search sendable depth 20

pub shared-requires-3-sync-T : goal.shared-requires-3-sync-T
shared-requires-3-sync-T c κs = let a = unsaid_sync in search sendable depth 20
