use Rattle.std.proofs.Common.{rules}
use Rattle.uno_entities.proofs.tag.is_tag.Goals as goal

pub returns : goal.returns
returns c = search rules
