use Rattle.std.proofs.Common.{sym}
use Rattle.urp_message.proofs.SpeakingLemmas.{message_writable, size_fits, written_back}
use Rattle.urp_message.proofs.speaker.write_block.Goals as goal

pub put_message-requires : goal.put_message-requires
put_message-requires c = message_writable _ c.requires.sound _ c.requires.may c.requires.light

pub put_size-requires-clause-small : goal.put_size-requires-clause-small
put_size-requires-clause-small c =
    (size_fits _ _ _ _ _ _ c.requires.light c.in_ok-block.ensures.items c.in_ok-put_message.ensures.bytes c.deref_mut.ensures.value).1

pub returns-clause-bytes : goal.returns-clause-bytes
returns-clause-bytes c =
    written_back _ _ _ _ _ _ _ c.in_ok-block.ensures.items c.in_ok-put_message.ensures.bytes c.deref_mut.ensures.value c.put_size.ensures (sym c.put_message.new.to.ok.0)
