use Rattle.std.proofs.Common.{rules}
use Rattle.urp_message.specs.Messages.{message_of}
use Rattle.bridge_tests.proofs.SayingLemmas.{sayable_more}
use Rattle.bridge_tests.proofs.streams.going_out.push_sayable.Goals as goal

-- the message is behind what may be said, and may be said
pub returns : goal.returns
returns c =
    rw (c.in_ok-push.ensures.said)
    (sayable_more c.args.registry.now c.args.unsaid.now.said (message_of c.args.message) c.requires.sayable (c.is_sayable.ensures (search rules)))
