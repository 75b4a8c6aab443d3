use Rattle.std.proofs.Common.{sym, ◌∙◌}
use Rattle.type_registry.specs.Functions.{lent_function}
use Rattle.behaviour.proofs.MethodLemmas.{method_behind, method_here, method_nowhere}
use Rattle.behaviour.proofs.jobs.method_for.Goals as goal

pub returns-then-is_written_for : goal.returns-then-is_written_for
returns-then-is_written_for c =
    method_here (lent_function c.args.function.now) c.args.methods.now c.loop-method.method-index c.method-item.result _ c.loop-method-test.true c.method-item.is
    (sym c.is_written_for.ensures ∙ c.if-is_written_for.true) c.loop-method.invariant

pub loop-method-preserved : goal.loop-method-preserved
loop-method-preserved c =
    method_behind (lent_function c.args.function.now) c.args.methods.now c.loop-method.method-index c.method-item.result _ c.loop-method-test.true c.method-item.is
    (sym c.is_written_for.ensures ∙ c.if-is_written_for.false) c.loop-method.invariant

pub returns : goal.returns
returns c = method_nowhere (lent_function c.args.function.now) c.args.methods.now c.loop-method.method-index _ c.loop-method-test.false c.loop-method.invariant
