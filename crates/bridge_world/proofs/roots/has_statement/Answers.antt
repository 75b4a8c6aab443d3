use Rattle.std.proofs.Common.{ap, ◌∙◌, is_some}
use Rattle.plan_types.specs.Statements.{root_statement_of}
use Rattle.bridge_world.proofs.MovingRoots.{mapped_some}
use Rattle.bridge_world.proofs.roots.has_statement.Goals as goal

pub returns : goal.returns
returns c = c.is_some.ensures ∙ (mapped_some (λ s. root_statement_of s.now) c.statement_at.result ∙ ap is_some c.statement_at.ensures)
