use Rattle.std.proofs.Common.{rules}
use Rattle.registry_rules.proofs.circles.push_base.Goals as goal

pub returns-in-Some : goal.returns-in-Some
returns-in-Some c = search rules
