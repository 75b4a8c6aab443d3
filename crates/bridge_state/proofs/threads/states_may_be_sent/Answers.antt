use denote.Param.Send.{sendable}
use Rattle.bridge_state.proofs.Crossing.{state_send}
use Rattle.bridge_state.proofs.threads.states_may_be_sent.Goals as goal

pub sent-requires-send-T : goal.sent-requires-send-T
sent-requires-send-T c κs = let a = state_send in search sendable depth 20
