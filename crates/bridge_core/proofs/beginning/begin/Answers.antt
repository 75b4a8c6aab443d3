use Rattle.std.proofs.Common.{refl, subst, Option, IsSome}
use Rattle.named_variables.specs.Threads.{all_of}
use Rattle.plan_model.specs.Statements.{RootStatement}
use Rattle.plan_types.specs.Frames.{variables_of}
use Rattle.plan_types.specs.Statements.{root_statement_of}
use Rattle.behaviour.specs.Roots.{run_of}
use Rattle.bridge_model.specs.RootRuns.{statement_at}
use Rattle.bridge_endpoint.specs.Journals.{setting_at}
use Rattle.bridge_core.proofs.AskLemmas.{goes_so}
use Rattle.bridge_core.proofs.beginning.begin.Goals as goal

pub begin_statement-requires-clause-there : goal.begin_statement-requires-clause-there
begin_statement-requires-clause-there c = subst (λ (o : Option RootStatement). IsSome o) c.in-Some.ensures refl

pub begin_statement-requires-clause-goes : goal.begin_statement-requires-clause-goes
begin_statement-requires-clause-goes c = λ s at.
    goes_so (variables_of (all_of c.args.run.now.variables)) (root_statement_of c.in-Some.statement.now) s (statement_at (setting_at c.args.end.now) (run_of c.args.run.now)) c.is_skipped.result
    c.in-Some.ensures c.is_skipped.ensures c.if-is_skipped.false at
