use Rattle.std.proofs.Common.{◌∙◌, sym, arith}
use Rattle.plan_types.specs.Statements.{callee_of}
use Rattle.type_registry.specs.Functions.{lent_function}
use Rattle.uno_model.specs.Functions.{functions_of}
use Rattle.behaviour.specs.Functions.{is_callee}
use Rattle.behaviour.proofs.FunctionLemmas.{number_behind, number_here, number_nowhere, number_told}
use Rattle.behaviour.proofs.functions.number_near.Goals as goal

pub returns-in_default : goal.returns-in_default
returns-in_default c =
    number_nowhere (is_callee (callee_of c.args.callee.now)) (functions_of c.args.registry.now c.args.face.now) c.loop-number.number _ (sym c.in_default.ensures) c.loop-number.invariant.none
    ∙ number_told c.args.registry.now c.args.face.now (callee_of c.args.callee.now)

pub returns-then-is_callee : goal.returns-then-is_callee
returns-then-is_callee c =
    number_here (is_callee (callee_of c.args.callee.now)) (functions_of c.args.registry.now c.args.face.now) c.loop-number.number (lent_function c.in-Some.function) _ (sym c.in-Some.ensures)
    (sym c.is_callee.ensures ∙ c.if-is_callee.true) c.loop-number.invariant.none
    ∙ number_told c.args.registry.now c.args.face.now (callee_of c.args.callee.now)

pub loop-number-preserved : goal.loop-number-preserved
loop-number-preserved c = record {
  within = omega (arith, c.loop-number-test.true);
  none =
      number_behind (is_callee (callee_of c.args.callee.now)) (functions_of c.args.registry.now c.args.face.now) c.loop-number.number (lent_function c.in-Some.function) _ (sym c.in-Some.ensures)
      (sym c.is_callee.ensures ∙ c.if-is_callee.false) c.loop-number.invariant.none;
}
