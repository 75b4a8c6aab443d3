use Rattle.std.proofs.Common.{◌≤◌, length, arith, option_map}
use Rattle.message_model.specs.Calls.{kinds_on}
use Rattle.type_registry.specs.Functions.{lent_function, lent_param}
use Rattle.urp_model.specs.Namings.{namings_each}
use Rattle.uno_values.specs.Values.{plains_of}
use Rattle.bridge_tables.specs.Counted.{counted, carries}
use Rattle.bridge_tables.proofs.CountLemmas.{params_counted, params_done, kept_on}
use Rattle.bridge_tables.proofs.counting.count_params.Goals as goal

pub loop-place-preserved : goal.loop-place-preserved
loop-place-preserved c = (
  params_counted c.args.registry.now c.args.phase (lent_function c.args.function.now).params c.loop-place.place (option_map lent_param c.param.result) (plains_of c.loop-place.rest.now) (plains_of c.in_ok-rest.rest.now)
      (counted (namings_each c.args.registry.now (plains_of c.args.values.now) (kinds_on (carries c.args.phase) (lent_function c.args.function.now).params)) c.args.objects.now) c.loop-place.objects c.count_param.new.objects
      c.param.ensures c.in_ok-rest.ensures.counted c.loop-place.invariant.0,
  kept_on c.args.objects.now c.loop-place.objects c.count_param.new.objects c.loop-place.invariant.1 c.count_param.ensures.kept,
)

pub returns-clause-counted : goal.returns-clause-counted
returns-clause-counted c =
    let past : length (lent_function c.args.function.now).params ≤ c.loop-place.place = omega (arith, c.loop-place-test.false, c.param_count-place-end.ensures) in
    params_done c.args.registry.now c.args.phase (lent_function c.args.function.now).params c.loop-place.place (plains_of c.loop-place.rest.now)
    (counted (namings_each c.args.registry.now (plains_of c.args.values.now) (kinds_on (carries c.args.phase) (lent_function c.args.function.now).params)) c.args.objects.now) c.loop-place.objects past c.loop-place.invariant.0
