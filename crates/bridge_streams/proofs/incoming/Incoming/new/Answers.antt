use Rattle.std.proofs.Common.{◌∙◌, ap}
use Rattle.bridge_model.specs.Feeding.{ends_part}
use Rattle.urp_message.specs.Listening.{Listening}
use Rattle.urp_stream.specs.Streams.{Stream}
use Rattle.bridge_streams.proofs.TakingLemmas.{nothing_ended}
use Rattle.bridge_streams.proofs.incoming.Incoming.new.Goals as goal

pub invariant_of-result : goal.invariant_of-result
invariant_of-result c = (ap (λ (s : Stream). ends_part s.held) c.new-2.ensures ∙ nothing_ended, ap (λ (l : Listening). l.refusal) c.in_ok-listener.ensures)
