use Rattle.std.proofs.Common.{ap, ◌∙◌, suc}
use Rattle.std.specs.Option.{option_map}
use Rattle.plan_lines.specs.Lines.{line_of}
use Rattle.plan_model.specs.PlanText.{said_from}
use Rattle.behaviour_text.proofs.ReadLemmas.{skips, says, reads_none, reads_right, reads_wrong_by, well_formed, at_registry}
use Rattle.plan_checks.specs.Contexts.{context_of}
use Rattle.behaviour_text.proofs.read.read_said.Goals as goal

pub returns-then-is_skipped-clause-on : goal.returns-then-is_skipped-clause-on
returns-then-is_skipped-clause-on c =
    λ last ls. skips c.args.registry.now last c.args.number c.args.line.now _ ls (context_of c.args.context.now) c.behind_blanks-text.ensures c.if-is_skipped.ensures

pub step-requires-clause-formed : goal.step-requires-clause-formed
step-requires-clause-formed c = well_formed _ _ _ _ _ c.in_ok-found.ensures c.requires.same (ap (option_map line_of) c.in-Some.is)

pub returns-in_default-clause-wrong : goal.returns-in_default-clause-wrong
returns-in_default-clause-wrong c =
    λ last ls. says c.args.registry.now last c.args.number c.args.line.now _ ls (context_of c.args.context.now) c.behind_blanks-text.ensures c.if-is_skipped.ensures
    ∙ reads_none c.args.registry.now last c.args.number c.behind_blanks-text.result.now (context_of c.args.context.now) (said_from (suc c.args.number) ls)
    (at_registry _ _ _ _ _ c.in_ok-found.ensures c.requires.same (ap (option_map line_of) c.in_default.is))

pub returns-in-Ok-clause-on : goal.returns-in-Ok-clause-on
returns-in-Ok-clause-on c =
    λ last ls. says c.args.registry.now last c.args.number c.args.line.now _ ls (context_of c.args.context.now) c.behind_blanks-text.ensures c.if-is_skipped.ensures
    ∙ reads_right c.args.registry.now last c.args.number c.behind_blanks-text.result.now (context_of c.args.context.now) (said_from (suc c.args.number) ls) _ _
    (at_registry _ _ _ _ _ c.in_ok-found.ensures c.requires.same (ap (option_map line_of) c.in-Some.is)) c.in-Ok.ensures.reason c.in-Ok.ensures.behind

pub returns-clause-wrong : goal.returns-clause-wrong
returns-clause-wrong c =
    λ last ls. says c.args.registry.now last c.args.number c.args.line.now _ ls (context_of c.args.context.now) c.behind_blanks-text.ensures c.if-is_skipped.ensures
    ∙ reads_wrong_by c.args.registry.now last c.args.number c.behind_blanks-text.result.now (context_of c.args.context.now) (said_from (suc c.args.number) ls) _ c.in-Err-Wrong.field-0 c.in-Err-Wrong.why
    (at_registry _ _ _ _ _ c.in_ok-found.ensures c.requires.same (ap (option_map line_of) c.in-Some.is)) c.in-Err-Wrong.field-0-is c.in-Err-Wrong.ensures.reason
