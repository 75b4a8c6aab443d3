use Rattle.std.proofs.Common.{ap, sym, ◌∙◌}
use Rattle.std.specs.Prelude.{is_some}
use Rattle.plan_lines.specs.Lines.{line_of}
use Rattle.plan_checks.specs.Contexts.{context_of}
use Rattle.behaviour_text.proofs.StepLemmas.{all_kept, no_room, too_deep}
use Rattle.behaviour_text.proofs.step.thread_step.Goals as goal

pub returns-then-not-flat-clause-reason : goal.returns-then-not-flat-clause-reason
returns-then-not-flat-clause-reason c =
    too_deep (context_of c.args.context.now) (line_of c.args.line.now) _ c.in_ok-root_statement_fits.ensures (sym c.in_ok-flat.ensures ∙ c.if-not-flat.true)

pub returns-then-not-plan_has_room-clause-reason : goal.returns-then-not-plan_has_room-clause-reason
returns-then-not-plan_has_room-clause-reason c =
    no_room (context_of c.args.context.now) (line_of c.args.line.now) _ (ap is_some c.in_ok-statement.ensures) (sym c.in_ok-flat.ensures ∙ c.if-not-flat.false) (sym c.if-not-plan_has_room.ensures)

pub returns-clause-reason : goal.returns-clause-reason
returns-clause-reason c =
    all_kept (context_of c.args.context.now) (line_of c.args.line.now) _ (ap is_some c.in_ok-statement.ensures) (sym c.in_ok-flat.ensures ∙ c.if-not-flat.false) (sym c.if-not-plan_has_room.ensures)
