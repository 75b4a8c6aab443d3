use Rattle.std.proofs.Common.{rules}
use Rattle.value_text.proofs.print.push_item.Goals as goal

pub returns-in-Some : goal.returns-in-Some
returns-in-Some c = search rules
