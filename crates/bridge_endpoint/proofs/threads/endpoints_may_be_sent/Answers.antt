use denote.Param.Send.{sendable}
use Rattle.bridge_endpoint.proofs.Crossing.{endpoint_send}
use Rattle.bridge_endpoint.proofs.threads.endpoints_may_be_sent.Goals as goal

pub sent-requires-send-T : goal.sent-requires-send-T
sent-requires-send-T c κs = let a = endpoint_send in search sendable depth 20
