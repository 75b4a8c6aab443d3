use Rattle.std.specs.Prelude.{◌≡◌, map, drop, is_some}
use Rattle.plan_model.specs.Services.{all_filled}
use Rattle.uno_entities.specs.Entities.{field_of}
use Rattle.uno_values.specs.Values.{plain_of}
use Rattle.service_manager.proofs.arguments.takes_all.Given as goal

abbrev pub invariant-loop-param : goal.invariant-loop-param
invariant-loop-param l =
    is_some (all_filled l.registry (map field_of (drop l.param-index l.constructor.params.items)) l.constructor.rest (map plain_of l.left))
    ≡ is_some (all_filled l.registry (map field_of l.constructor.params.items) l.constructor.rest (map plain_of l.args))
