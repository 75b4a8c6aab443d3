use Rattle.std.proofs.Common.{sym, ◌∙◌}
use Rattle.behaviour.proofs.EvaluationLemmas.{name_behind, name_here, name_nowhere}
use Rattle.behaviour.proofs.words.value_under.Goals as goal

pub returns-then-eq : goal.returns-then-eq
returns-then-eq c =
    name_here _ c.args.variables.now c.loop-variable.variable-index c.variable-item.result _ c.loop-variable-test.true c.variable-item.is
    (rw (← c.as_str.ensures, ← c.as_str-in-loop-variable.ensures) (sym c.eq.ensures ∙ c.if-eq.true)) c.loop-variable.invariant

pub loop-variable-preserved : goal.loop-variable-preserved
loop-variable-preserved c =
    name_behind _ c.args.variables.now c.loop-variable.variable-index c.variable-item.result _ c.loop-variable-test.true c.variable-item.is
    (rw (← c.as_str.ensures, ← c.as_str-in-loop-variable.ensures) (sym c.eq.ensures ∙ c.if-eq.false)) c.loop-variable.invariant

pub returns : goal.returns
returns c = name_nowhere _ c.args.variables.now c.loop-variable.variable-index _ c.loop-variable-test.false c.loop-variable.invariant
