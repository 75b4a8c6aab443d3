use Rattle.std.specs.Prelude.{◌≡◌, map, drop}
use Rattle.plan_model.specs.Services.{first_filled}
use Rattle.uno_entities.specs.Entities.{constructor_of}
use Rattle.uno_values.specs.Values.{plain_of}
use Rattle.service_manager.proofs.arguments.first_taking.Given as goal

abbrev pub invariant-loop-constructor : goal.invariant-loop-constructor
invariant-loop-constructor l =
    first_filled l.registry (map constructor_of (drop l.constructor-index l.constructors)) (map plain_of l.args)
    ≡ first_filled l.registry (map constructor_of l.constructors) (map plain_of l.args)
