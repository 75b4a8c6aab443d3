use Rattle.std.proofs.Common.{ap, map, sym, ◌∙◌}
use Rattle.std.specs.Prelude.{is_some}
use Rattle.std.specs.Option.{option_map}
use Rattle.plan_lines.specs.Lines.{declared_of, line_of}
use Rattle.plan_lines.specs.Terms.{term_of}
use Rattle.plan_model.specs.Contexts.{kind_of_field}
use Rattle.plan_model.specs.Statements as s
use Rattle.plan_model.specs.TypedStatements.{call_of, statement_of}
use Rattle.plan_model.specs.declared.line_reason.LineReason.TheVariants.{Misfit}
use Rattle.plan_types.specs.Expressions.{word_of}
use Rattle.plan_checks.proofs.FitLemmas.{both, mapped, passes_so, set_told}
use Rattle.plan_checks.specs.Checks.{before}
use Rattle.plan_checks.specs.Fits.{term_fits}
use Rattle.plan_checks.proofs.checker.Checker.statement_fits.Goals as goal

pub returns-in-SetVariable : goal.returns-in-SetVariable
unfolding statement_of
returns-in-SetVariable c =
    passes_so Misfit _ _ _
    (ap (λ o. term_fits c.args.self.now.registry.now (before c.args.self.now) o (term_of c.in-SetVariable.term)) c.kind_of_variable.ensures
    ∙ set_told c.args.self.now.registry.now (before c.args.self.now) (s.set_variable c.in-SetVariable.name) _ _
    ∙ ap (λ l. is_some (statement_of c.args.self.now.registry.now (before c.args.self.now) (line_of l))) (sym c.in-SetVariable.is))
    c.set_fits.ensures

pub returns-in-SetField : goal.returns-in-SetField
unfolding statement_of
returns-in-SetField c =
    passes_so Misfit _ _ _
    (ap (λ o. term_fits c.args.self.now.registry.now (before c.args.self.now) o (term_of c.in-SetField.term)) c.kind_of_field.ensures
    ∙ ap (λ n. term_fits c.args.self.now.registry.now (before c.args.self.now) (kind_of_field (before c.args.self.now) n) (term_of c.in-SetField.term)) c.as_str.ensures
    ∙ set_told c.args.self.now.registry.now (before c.args.self.now) (s.set_field c.in-SetField.name) _ _
    ∙ ap (λ l. is_some (statement_of c.args.self.now.registry.now (before c.args.self.now) (line_of l))) (sym c.in-SetField.is))
    c.set_fits-in-SetField.ensures

pub returns-in-Call : goal.returns-in-Call
unfolding statement_of
returns-in-Call c =
    passes_so Misfit _ _ _
    (ap (λ ts. is_some (call_of c.args.self.now.registry.now (before c.args.self.now) (option_map declared_of c.in-Call.to) (word_of c.in-Call.target) c.in-Call.function (map term_of ts))) c.deref.ensures.value
    ∙ mapped s.call _ ∙ ap (λ l. is_some (statement_of c.args.self.now.registry.now (before c.args.self.now) (line_of l))) (sym c.in-Call.is))
    c.call_fits.ensures

pub returns-in-When : goal.returns-in-When
unfolding statement_of
returns-in-When c =
    passes_so Misfit _ _ _ (both _ _ s.when ∙ ap (λ l. is_some (statement_of c.args.self.now.registry.now (before c.args.self.now) (line_of l))) (sym c.in-When.is)) c.when_fits.ensures

pub returns-in-Return : goal.returns-in-Return
unfolding statement_of
returns-in-Return c =
    passes_so Misfit _ _ _ (mapped s.return _ ∙ ap (λ l. is_some (statement_of c.args.self.now.registry.now (before c.args.self.now) (line_of l))) (sym c.in-Return.is)) c.back_fits.ensures
