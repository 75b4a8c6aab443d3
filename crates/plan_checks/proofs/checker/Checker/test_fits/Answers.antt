use Rattle.std.proofs.Common.{ap, refl, sym, Some, ◌∙◌}
use Rattle.plan_lines.specs.Terms.{term_of}
use Rattle.plan_model.specs.declared.line_reason.LineReason.TheVariants.{Misfit}
use Rattle.plan_types.specs.Expressions.{word_of}
use Rattle.plan_checks.proofs.FitLemmas.{passes_so, test_lost, test_other, test_told}
use Rattle.plan_checks.specs.Checks.{before}
use Rattle.plan_checks.proofs.checker.Checker.test_fits.Goals as goal

pub returns-in_default : goal.returns-in_default
returns-in_default c = (test_lost c.args.self.now.registry.now (before c.args.self.now) (word_of c.args.left.now) c.args.comparison (term_of c.args.right.now) (sym c.in_default.ensures), refl)

pub returns-then-not-is_compared : goal.returns-then-not-is_compared
returns-then-not-is_compared c = (
  test_other c.args.self.now.registry.now (before c.args.self.now) (word_of c.args.left.now) c.args.comparison (term_of c.args.right.now) _ (sym c.in-Some.ensures ∙ ap Some (sym c.in_ok-kind.ensures))
      (sym c.if-not-is_compared.ensures),
  refl,
)

pub returns : goal.returns
returns c =
    passes_so Misfit _ _ _
    (test_told c.args.self.now.registry.now (before c.args.self.now) (word_of c.args.left.now) c.args.comparison (term_of c.args.right.now) _ (sym c.in-Some.ensures ∙ ap Some (sym c.in_ok-kind.ensures))
    (sym c.if-not-is_compared.ensures))
    c.term_fits.ensures
