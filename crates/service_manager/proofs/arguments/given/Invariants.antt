use Rattle.std.specs.Prelude.{◌≡◌, map, drop, IsSome}
use Rattle.plan_types.specs.Frames.{variables_of}
use Rattle.uno_entities.specs.Entities.{field_of}
use Rattle.uno_values.specs.Values.{plain_of}
use Rattle.service_manager.specs.Arguments.{all_taken, behind}
use Rattle.service_manager.proofs.arguments.given.Given as goal

abbrev pub invariant-loop-param : goal.invariant-loop-param
invariant-loop-param l = record {
  some : IsSome (all_taken (map field_of (drop l.param-index l.constructor.params.items)) l.constructor.rest (map plain_of l.left));
  whole : behind (variables_of l.variables.items) (all_taken (map field_of (drop l.param-index l.constructor.params.items)) l.constructor.rest (map plain_of l.left))
      ≡ all_taken (map field_of l.constructor.params.items) l.constructor.rest (map plain_of l.args);
}
