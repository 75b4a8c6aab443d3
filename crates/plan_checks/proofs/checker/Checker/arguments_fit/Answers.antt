use Rattle.std.proofs.Common.{ap, refl, ◌∙◌, arith}
use Rattle.std.specs.Prelude.{slice_get}
use Rattle.plan_lines.specs.Terms.{term_of}
use Rattle.type_registry.specs.Functions.{lent_function}
use Rattle.plan_checks.proofs.CheckLemmas.{fails_so, passes_on}
use Rattle.plan_checks.proofs.FitLemmas.{argument_fit, argument_over, argument_unfit, arguments_done, arguments_few}
use Rattle.plan_checks.specs.Checks.{before}
use Rattle.plan_checks.proofs.checker.Checker.arguments_fit.Goals as goal

pub returns-in_default : goal.returns-in_default
returns-in_default c = (
  argument_over c.args.self.now.registry.now (before c.args.self.now) term_of (lent_function c.args.called.now).params _ _ _ c.loop-term.invariant.0 _ c.loop-term-test.true c.term-item.is
      (c.in_default.ensures ∙ ap (slice_get (lent_function c.args.called.now).params) c.loop-term.invariant.1),
  refl,
)

pub returns-in_err-argument_fits : goal.returns-in_err-argument_fits
returns-in_err-argument_fits c =
    passes_on _ c.from_residual.result c.in_err-argument_fits.field-0.0 _ c.from_residual.ensures
    (fails_so _ c.in_err-argument_fits.field-0.0 _ _
    (λ unfit. argument_unfit c.args.self.now.registry.now (before c.args.self.now) term_of (lent_function c.args.called.now).params _ _ _ c.loop-term.invariant.0 _ _ c.loop-term-test.true c.term-item.is
    (c.in-Some.ensures ∙ ap (slice_get (lent_function c.args.called.now).params) c.loop-term.invariant.1) unfit)
    c.in_err-argument_fits.ensures)

pub loop-term-preserved : goal.loop-term-preserved
loop-term-preserved c = (
  argument_fit c.args.self.now.registry.now (before c.args.self.now) term_of (lent_function c.args.called.now).params _ _ _ c.loop-term.invariant.0 _ _ c.loop-term-test.true c.term-item.is
      (c.in-Some.ensures ∙ ap (slice_get (lent_function c.args.called.now).params) c.loop-term.invariant.1) c.in_ok-argument_fits.ensures,
  omega (arith, c.loop-term.invariant.1),
)

pub returns-then-place-param_count : goal.returns-then-place-param_count
returns-then-place-param_count c = (
  arguments_few c.args.self.now.registry.now (before c.args.self.now) term_of (lent_function c.args.called.now).params c.args.terms.now c.loop-term.term-index _ c.loop-term.invariant.0 c.loop-term-test.false
      (omega (arith, c.loop-term.invariant.1)),
  refl,
)

pub returns : goal.returns
returns c =
    arguments_done c.args.self.now.registry.now (before c.args.self.now) term_of (lent_function c.args.called.now).params c.args.terms.now c.loop-term.term-index _ c.loop-term.invariant.0 c.loop-term-test.false
    (omega (arith, c.loop-term.invariant.1))
