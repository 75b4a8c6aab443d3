use Rattle.std.proofs.Common.{ap, map, sym, ◌∙◌}
use Rattle.std.specs.Prelude.{is_some}
use Rattle.std.specs.Option.{option_map}
use Rattle.plan_lines.specs.Lines.{declared_of, line_of}
use Rattle.plan_lines.specs.Terms.{term_of}
use Rattle.plan_model.specs.Statements as s
use Rattle.plan_model.specs.TypedStatements.{call_of, root_statement_of}
use Rattle.plan_model.specs.declared.line_reason.LineReason.TheVariants.{Misfit}
use Rattle.plan_types.specs.Expressions.{word_of}
use Rattle.plan_checks.proofs.FitLemmas.{mapped, passes_so}
use Rattle.plan_checks.specs.Checks.{before}
use Rattle.plan_checks.proofs.checker.Checker.root_statement_fits.Goals as goal

pub returns-in-Call : goal.returns-in-Call
unfolding root_statement_of
returns-in-Call c =
    passes_so Misfit _ _ _
    (ap (λ ts. is_some (call_of c.args.self.now.registry.now (before c.args.self.now) (option_map declared_of c.in-Call.to) (word_of c.in-Call.target) c.in-Call.function (map term_of ts))) c.deref.ensures.value
    ∙ mapped s.root_call _ ∙ ap (λ l. is_some (root_statement_of c.args.self.now.registry.now (before c.args.self.now) (line_of l))) (sym c.in-Call.is))
    c.call_fits.ensures
