use Rattle.std.proofs.Common.{sym}
use Rattle.plan_lines.specs.Lines.{line_of}
use Rattle.plan_checks.specs.Contexts.{context_of}
use Rattle.behaviour_text.proofs.StepLemmas.{block_full, block_kept}
use Rattle.behaviour_text.proofs.step.block_step.Goals as goal

pub returns-then-not-plan_has_room-clause-reason : goal.returns-then-not-plan_has_room-clause-reason
returns-then-not-plan_has_room-clause-reason c =
    block_full c.args.registry.now (context_of c.args.context.now) (line_of c.args.line.now) c.requires.other (sym c.if-not-line_fits.ensures) (sym c.if-not-plan_has_room.ensures)

pub returns-clause-reason : goal.returns-clause-reason
returns-clause-reason c =
    block_kept c.args.registry.now (context_of c.args.context.now) (line_of c.args.line.now) c.requires.other (sym c.if-not-line_fits.ensures) (sym c.if-not-plan_has_room.ensures)
