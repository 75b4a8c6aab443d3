use Rattle.std.proofs.Common.{sym, ◌∙◌, arith}
use Rattle.plan_types.specs.Statements.{callee_of}
use Rattle.behaviour.specs.Functions.{is_callee}
use Rattle.behaviour.proofs.FunctionLemmas.{place_behind, place_here, place_past}
use Rattle.behaviour.proofs.functions.place_of.Goals as goal

pub returns-then-is_named_by : goal.returns-then-is_named_by
returns-then-is_named_by c =
    place_here (is_callee (callee_of c.args.callee.now)) c.args.functions.now c.loop-function.function-index c.function-item.result c.loop-function.place _ c.loop-function-test.true c.function-item.is
    (sym c.is_named_by.ensures ∙ c.if-is_named_by.true) c.loop-function.invariant.none

pub loop-function-preserved : goal.loop-function-preserved
loop-function-preserved c = record {
  at = omega (arith, c.loop-function.invariant.at);
  none =
      place_behind (is_callee (callee_of c.args.callee.now)) c.args.functions.now c.loop-function.function-index c.function-item.result c.loop-function.place _ c.loop-function-test.true c.function-item.is
      (sym c.is_named_by.ensures ∙ c.if-is_named_by.false) c.loop-function.invariant.none;
}

pub returns : goal.returns
returns c = place_past (is_callee (callee_of c.args.callee.now)) c.args.functions.now c.loop-function.function-index c.loop-function.place _ c.loop-function-test.false c.loop-function.invariant.none
