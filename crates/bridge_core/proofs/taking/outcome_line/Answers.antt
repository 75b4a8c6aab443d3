use Rattle.std.proofs.Common.{◌≡◌, ◌∙◌, ap, subst, sym, IfOk}
use Rattle.bridge_model.specs.RootRuns.{line_of, outcome_text}
use Rattle.bridge_model.specs.Sides.{answer}
use Rattle.message_model.specs.Messages.{raised}
use Rattle.bridge_endpoint.specs.Telling.{outcome_of}
use Rattle.plan_types.specs.Statements.{root_statement_of}
use Rattle.behaviour.specs.Roots.{run_of}
use Rattle.bridge_core.proofs.AnyLemmas.{any_parts}
use Rattle.bridge_core.proofs.taking.outcome_line.Goals as goal

pub returns-in_ok-text-in-Raised : goal.returns-in_ok-text-in-Raised
returns-in_ok-text-in-Raised c =
    let s = root_statement_of c.args.statement.now in
    let text = outcome_text c.args.registry.now s in
    subst (λ t. IfOk c.line_with-in-Raised.result (λ line. line ≡ line_of (run_of c.args.run.now) t))
    ((c.as_str-in-Raised.ensures.value ∙ c.in_ok-text-in-Raised.ensures s) ∙ (ap (λ a. text (answer (raised a.0 a.1))) (any_parts c.in-Raised.exception) ∙ ap (λ o. text (outcome_of o)) (sym c.in-Raised.is)))
    c.line_with-in-Raised.ensures
