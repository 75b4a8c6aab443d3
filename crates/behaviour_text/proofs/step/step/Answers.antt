use Rattle.std.proofs.Common.{sym, ◌∙◌}
use Rattle.plan_lines.specs.Lines.{line_of}
use Rattle.plan_checks.specs.Contexts.{context_of}
use Rattle.behaviour_text.proofs.ReasonLemmas.{clears_so, done_so}
use Rattle.behaviour_text.proofs.StepLemmas.{behind_in_method, behind_in_thread, late_in_method, late_in_thread, late_only}
use Rattle.behaviour_text.proofs.step.step.Goals as goal

pub returns-then-not-is_statement-clause-reason : goal.returns-then-not-is_statement-clause-reason
returns-then-not-is_statement-clause-reason c =
    clears_so _ _ _ (sym (late_only c.args.registry.now (context_of c.args.context.now) (line_of c.args.line.now) c.requires.formed c.in_ok-check_names.ensures)) c.block_step.ensures.reason

pub returns-then-is_thread-clause-reason : goal.returns-then-is_thread-clause-reason
returns-then-is_thread-clause-reason c =
    clears_so _ _ _
    (sym (late_only c.args.registry.now (context_of c.args.context.now) (line_of c.args.line.now) c.requires.formed c.in_ok-check_names.ensures
    ∙ late_in_thread c.args.registry.now (line_of c.args.line.now) (context_of c.args.context.now) (sym c.if-not-is_statement.ensures) (sym c.if-is_thread.ensures)))
    c.thread_step.ensures.reason

pub returns-then-is_thread-clause-behind : goal.returns-then-is_thread-clause-behind
returns-then-is_thread-clause-behind c =
    done_so _ _ _ _ (sym (behind_in_thread c.args.registry.now (line_of c.args.line.now) (context_of c.args.context.now) (sym c.if-not-is_statement.ensures) (sym c.if-is_thread.ensures)))
    c.thread_step.ensures.behind

pub returns-clause-reason : goal.returns-clause-reason
returns-clause-reason c =
    clears_so _ _ _
    (sym (late_only c.args.registry.now (context_of c.args.context.now) (line_of c.args.line.now) c.requires.formed c.in_ok-check_names.ensures
    ∙ late_in_method c.args.registry.now (line_of c.args.line.now) (context_of c.args.context.now) (sym c.if-not-is_statement.ensures) (sym c.if-is_thread.ensures)))
    c.method_step.ensures.reason

pub returns-clause-behind : goal.returns-clause-behind
returns-clause-behind c =
    done_so _ _ _ _ (sym (behind_in_method c.args.registry.now (line_of c.args.line.now) (context_of c.args.context.now) (sym c.if-not-is_statement.ensures) (sym c.if-is_thread.ensures)))
    c.method_step.ensures.behind
