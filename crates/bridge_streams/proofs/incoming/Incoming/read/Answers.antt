use Rattle.std.proofs.Common.{◌∙◌, ap}
use Rattle.bridge_model.specs.Feeding.{ends_part}
use Rattle.urp_stream.specs.Streams.{Stream}
use Rattle.bridge_streams.proofs.TakingLemmas.{nothing_ended}
use Rattle.bridge_streams.proofs.incoming.Incoming.read.Goals as goal

pub invariant_of-self-in-Err : goal.invariant_of-self-in-Err
invariant_of-self-in-Err c = (ap (λ (s : Stream). ends_part s.held) c.new.ensures ∙ nothing_ended, tt)
