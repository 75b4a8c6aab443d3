use Rattle.std.proofs.Common.{◌≤◌, arith, length, map, option_map}
use Rattle.message_model.specs.Calls.{comes, kinds_on}
use Rattle.type_registry.specs.Functions.{lent_function, lent_param}
use Rattle.uno_model.specs.Defaults.{default_of_kind}
use Rattle.behaviour.proofs.FunctionLemmas.{gives_more, gives_all, kinds_split, no_kinds}
use Rattle.behaviour.proofs.functions.default_outs.Goals as goal

pub loop-place-preserved : goal.loop-place-preserved
loop-place-preserved c =
    gives_more (λ ps. map (default_of_kind c.args.registry.now) (kinds_on comes ps)) (kinds_split (default_of_kind c.args.registry.now)) (no_kinds (default_of_kind c.args.registry.now))
    (lent_function c.args.function.now).params c.loop-place.place (option_map lent_param c.param.result) _ _ _ c.param.ensures c.in_default.ensures c.loop-place.invariant

pub returns : goal.returns
returns c =
    let past : length (lent_function c.args.function.now).params ≤ c.loop-place.place = omega (arith, c.loop-place-test.false, c.param_count-place-end.ensures) in
    gives_all (λ ps. map (default_of_kind c.args.registry.now) (kinds_on comes ps)) (no_kinds (default_of_kind c.args.registry.now)) (lent_function c.args.function.now).params c.loop-place.place _ _ past
    c.loop-place.invariant
