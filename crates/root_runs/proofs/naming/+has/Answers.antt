use Rattle.std.proofs.Common.{sym, ◌∙◌}
use Rattle.bridge_model.specs.RootRuns.{is_there}
use Rattle.named_variables.specs.Threads.{all_of}
use Rattle.plan_types.specs.Frames.{variables_of}
use Rattle.root_runs.proofs.NamingLemmas.{expression_behind, expression_here, expressions_past}
use Rattle.root_runs.proofs.naming.+has.Goals as goal

pub have_all-returns-then-not-has_all : goal.have_all-returns-then-not-has_all
have_all-returns-then-not-has_all t c =
    expression_here (is_there (variables_of (all_of c.args.variables.now))) c.args.expressions.now c.loop-expression.expression-index c.expression-item.result _ c.loop-expression-test.true c.expression-item.is
    (sym c.has_all.ensures ∙ c.if-not-has_all.true) c.loop-expression.invariant

pub have_all-loop-expression-preserved : goal.have_all-loop-expression-preserved
have_all-loop-expression-preserved t c =
    expression_behind (is_there (variables_of (all_of c.args.variables.now))) c.args.expressions.now c.loop-expression.expression-index c.expression-item.result _ c.loop-expression-test.true c.expression-item.is
    (sym c.has_all.ensures ∙ c.if-not-has_all.false) c.loop-expression.invariant

pub have_all-returns : goal.have_all-returns
have_all-returns t c = expressions_past (is_there (variables_of (all_of c.args.variables.now))) c.args.expressions.now c.loop-expression.expression-index _ c.loop-expression-test.false c.loop-expression.invariant
