use Rattle.plan_lines.specs.Lines.{declared_of}
use Rattle.plan_lines.specs.Terms.{term_of}
use Rattle.plan_model.specs.declared.line_reason.LineReason.TheVariants.{Misfit}
use Rattle.plan_checks.proofs.CheckLemmas.{passes_on}
use Rattle.plan_checks.proofs.FitLemmas.{let_lost, let_told, lost_fails, passes_so}
use Rattle.plan_checks.specs.Checks.{before}
use Rattle.plan_checks.proofs.checker.Checker.let_fits.Goals as goal

pub returns-in_err-kind : goal.returns-in_err-kind
returns-in_err-kind c =
    passes_on Misfit c.from_residual.result c.in_err-kind.field-0.0 _ c.from_residual.ensures
    (lost_fails c.in_err-kind.field-0.0 _ _ (λ lost. let_lost c.args.self.now.registry.now (before c.args.self.now) (declared_of c.args.declared.now) (term_of c.args.term.now) lost) c.in_err-kind.ensures)

pub returns : goal.returns
returns c =
    passes_so Misfit _ _ _ (let_told c.args.self.now.registry.now (before c.args.self.now) (declared_of c.args.declared.now) (term_of c.args.term.now) _ c.in_ok-kind.ensures) c.term_fits.ensures
