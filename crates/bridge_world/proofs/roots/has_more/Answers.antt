use Rattle.std.proofs.Common.{sym, ap, ◌∙◌, ◌||◌, Bool, is_some}
use Rattle.behaviour.specs.Roots.{run_of}
use Rattle.plan_model.specs.Roots.{next_loose}
use Rattle.bridge_world.proofs.roots.has_more.Goals as goal

pub returns-then-has_statement : goal.returns-then-has_statement
returns-then-has_statement c = ap (λ (b : Bool). b || is_some (next_loose (run_of c.args.run.now).loose)) (sym c.if-has_statement.true ∙ c.has_statement.ensures)

pub returns : goal.returns
returns c = c.is_loose.ensures ∙ ap (λ (b : Bool). b || is_some (next_loose (run_of c.args.run.now).loose)) (sym c.if-has_statement.false ∙ c.has_statement.ensures)
