use Rattle.bridge_laws.proofs.ServingLaws.{piece_heard}
use Rattle.bridge_laws.proofs.answering_laws.a_piece_brings_its_messages_one_after_the_other.Goals as goal

pub returns : goal.returns
returns c = piece_heard
