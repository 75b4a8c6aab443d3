use Rattle.std.proofs.Common.{rules}
use Rattle.message_model.specs.ReadingMessages.{release_at}
use Rattle.urp_message.proofs.listener.request.release.Goals as goal

pub returns : goal.returns
unfolding release_at
returns c = search rules
