use Rattle.std.proofs.Common.{◌≤◌, arith, length, option_map}
use Rattle.plan_model.specs.Asking.{out_values}
use Rattle.plan_types.specs.Frames.{variables_of}
use Rattle.type_registry.specs.Functions.{lent_function, lent_param}
use Rattle.behaviour.proofs.FunctionLemmas.{gives_more, gives_all, outs_split, no_outs}
use Rattle.behaviour.proofs.functions.out_values.Goals as goal

pub loop-place-preserved : goal.loop-place-preserved
loop-place-preserved c =
    gives_more (λ ps. out_values ps (variables_of c.args.variables.now)) (outs_split (variables_of c.args.variables.now)) (no_outs (variables_of c.args.variables.now))
    (lent_function c.args.function.now).params c.loop-place.place (option_map lent_param c.param.result) _ _ _ c.param.ensures c.in_default.ensures c.loop-place.invariant

pub returns : goal.returns
returns c =
    let past : length (lent_function c.args.function.now).params ≤ c.loop-place.place = omega (arith, c.loop-place-test.false, c.param_count-place-end.ensures) in
    gives_all (λ ps. out_values ps (variables_of c.args.variables.now)) (no_outs (variables_of c.args.variables.now)) (lent_function c.args.function.now).params c.loop-place.place _ _ past c.loop-place.invariant
