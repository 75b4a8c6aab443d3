use Rattle.std.proofs.Common.{ℕ, List, [], subst, ◌∙◌}
use Rattle.uno_run.specs.Lines.{Printed}
use Rattle.uno_run.proofs.lines.report.Goals as goal

pub returns-in-Ok-clause-line : goal.returns-in-Ok-clause-line
returns-in-Ok-clause-line g c =
    subst (λ (line : List ℕ). Printed (g.E.Sink.faults c.args.errors.now) (g.E.Sink.faults c.print-in-Ok.new.errors) (g.E.Sink.taken c.args.errors.now) (g.E.Sink.taken c.print-in-Ok.new.errors) line)
    (c.as_str.ensures.value ∙ c.in-Ok.ensures) c.print-in-Ok.ensures.line

pub returns-in-Err-clause-line : goal.returns-in-Err-clause-line
returns-in-Err-clause-line g c =
    subst (λ (line : List ℕ). Printed (g.E.Sink.faults c.args.errors.now) (g.E.Sink.faults c.print-in-Err.new.errors) (g.E.Sink.taken c.args.errors.now) (g.E.Sink.taken c.print-in-Err.new.errors) line)
    (c.plain_line-in-Err.ensures []) c.print-in-Err.ensures.line
