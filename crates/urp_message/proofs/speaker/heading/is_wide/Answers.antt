use Rattle.std.proofs.Common.{rules}
use Rattle.urp_message.proofs.speaker.heading.is_wide.Goals as goal

pub returns : goal.returns
returns c = search rules
