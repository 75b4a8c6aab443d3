use Rattle.std.proofs.Common.{refl, sym}
use Rattle.plan_lines.specs.Terms.{term_of}
use Rattle.plan_model.specs.declared.line_reason.LineReason.TheVariants.{Misfit}
use Rattle.plan_checks.proofs.CheckLemmas.{passes_on}
use Rattle.plan_checks.proofs.FitLemmas.{lost_fails, passes_so, raise_lost, raise_other, raise_told}
use Rattle.plan_checks.specs.Checks.{before}
use Rattle.plan_checks.proofs.checker.Checker.raise_fits.Goals as goal

pub returns-in_err-kind : goal.returns-in_err-kind
returns-in_err-kind c =
    passes_on Misfit c.from_residual.result c.in_err-kind.field-0.0 _ c.from_residual.ensures
    (lost_fails c.in_err-kind.field-0.0 _ _ (λ lost. raise_lost c.args.self.now.registry.now (before c.args.self.now) c.args.text.now (term_of c.args.term.now) lost) c.in_err-kind.ensures)

pub returns-then-not-is_exception : goal.returns-then-not-is_exception
returns-then-not-is_exception c =
    (raise_other c.args.self.now.registry.now (before c.args.self.now) c.args.text.now (term_of c.args.term.now) _ c.in_ok-kind.ensures (sym c.if-not-is_exception.ensures), refl)

pub returns : goal.returns
returns c =
    passes_so Misfit _ _ _ (raise_told c.args.self.now.registry.now (before c.args.self.now) c.args.text.now (term_of c.args.term.now) _ c.in_ok-kind.ensures (sym c.if-not-is_exception.ensures)) c.term_fits.ensures
