use Rattle.std.proofs.Common.{ap, sym, Some, ◌∙◌}
use Rattle.std.specs.Option.{option_map}
use Rattle.std.specs.Prelude.{is_some}
use Rattle.plan_lines.specs.Terms.{term_of}
use Rattle.plan_model.specs.TypedStatements.{back_of}
use Rattle.plan_model.specs.declared.line_reason.LineReason.TheVariants.{Misfit}
use Rattle.plan_checks.proofs.FitLemmas.{mapped, passes_so}
use Rattle.plan_checks.specs.Checks.{before}
use Rattle.plan_checks.proofs.checker.Checker.back_fits.Goals as goal

pub returns-in-Some : goal.returns-in-Some
returns-in-Some c =
    passes_so Misfit _ _ _ (mapped Some _ ∙ ap (λ b. is_some (back_of c.args.self.now.registry.now (before c.args.self.now) (option_map term_of b))) (sym c.in-Some.is)) c.returned_fits.ensures
