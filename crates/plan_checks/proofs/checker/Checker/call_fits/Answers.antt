use Rattle.std.proofs.Common.{map, refl, sym}
use Rattle.std.specs.Option.{option_map}
use Rattle.plan_lines.specs.Lines.{declared_of}
use Rattle.plan_lines.specs.Terms.{term_of}
use Rattle.plan_model.specs.declared.line_reason.LineReason.TheVariants.{Misfit}
use Rattle.plan_types.specs.Expressions.{word_of}
use Rattle.type_registry.specs.Functions.{lent_function}
use Rattle.plan_checks.proofs.FitLemmas.{call_lost, call_told, call_unknown, called_as, passes_so}
use Rattle.plan_checks.specs.Checks.{before}
use Rattle.plan_checks.proofs.checker.Checker.call_fits.Goals as goal

pub returns-in_default : goal.returns-in_default
returns-in_default c = (
  call_lost c.args.self.now.registry.now (before c.args.self.now) (option_map declared_of c.args.to.now) (word_of c.args.target.now) c.args.function.now (map term_of c.args.terms.now) (sym c.in_default.ensures),
  refl,
)

pub returns-in_default-found : goal.returns-in_default-found
returns-in_default-found c = (
  call_unknown c.args.self.now.registry.now (before c.args.self.now) (option_map declared_of c.args.to.now) (word_of c.args.target.now) c.args.function.now (map term_of c.args.terms.now) _
      (sym c.in-Some.ensures) (called_as c.args.self.now.registry.now lent_function _ _ _ _ _ _ c.as_str.ensures c.as_str-2.ensures c.in_ok-found.ensures c.in_default-found.is),
  refl,
)

pub returns : goal.returns
returns c =
    passes_so Misfit _ _ _
    (call_told c.args.self.now.registry.now (before c.args.self.now) (option_map declared_of c.args.to.now) (word_of c.args.target.now) c.args.function.now (map term_of c.args.terms.now) _ _
    (sym c.in-Some.ensures) (called_as c.args.self.now.registry.now lent_function _ _ _ _ _ _ c.as_str.ensures c.as_str-2.ensures c.in_ok-found.ensures c.in-Some-found.is))
    c.call_fits_with.ensures
