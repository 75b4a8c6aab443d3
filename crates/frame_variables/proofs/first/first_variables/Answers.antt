use Rattle.std.proofs.Common.{◌≤◌, arith, length, map, option_map}
use Rattle.plan_model.specs.Holdings.{first_variables}
use Rattle.plan_types.specs.Frames.{variables_of}
use Rattle.type_registry.specs.Functions.{lent_function, lent_param}
use Rattle.uno_values.specs.Values.{plain_of}
use Rattle.frame_variables.specs.Given.{left}
use Rattle.frame_variables.proofs.FirstLemmas.{first_done, first_more}
use Rattle.frame_variables.proofs.first.first_variables.Goals as goal

pub loop-place-preserved : goal.loop-place-preserved
loop-place-preserved c =
    first_more c.push_first.result c.in_ok-push_first.field-0 c.args.registry.now (lent_function c.args.function.now).params c.loop-place.place (option_map lent_param c.param.result)
    (variables_of c.loop-place.variables.items) (variables_of c.push_first.new.variables.items)
    (first_variables c.args.registry.now (lent_function c.args.function.now).params (map plain_of c.args.args.items)) (left c.loop-place.given) (left c.push_first.new.given)
    c.in_ok-push_first.was c.param.ensures c.push_first.ensures c.loop-place.invariant

pub returns : goal.returns
returns c =
    let past : length (lent_function c.args.function.now).params ≤ c.loop-place.place = omega (arith, c.loop-place-test.false, c.param_count-place-end.ensures) in
    first_done c.args.registry.now (lent_function c.args.function.now).params c.loop-place.place (variables_of c.loop-place.variables.items) (left c.loop-place.given)
    (first_variables c.args.registry.now (lent_function c.args.function.now).params (map plain_of c.args.args.items)) past c.loop-place.invariant
