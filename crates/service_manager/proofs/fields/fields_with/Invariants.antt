use Rattle.std.specs.Prelude.{◌≡◌, map, take}
use Rattle.plan_model.specs.Services.{fields_with}
use Rattle.plan_types.specs.Frames.{variables_of}
use Rattle.uno_entities.specs.Entities.{field_of}
use Rattle.uno_values.specs.Values.{plain_of}
use Rattle.service_manager.proofs.fields.fields_with.Given as goal

abbrev pub invariant-loop-field : goal.invariant-loop-field
invariant-loop-field l = map plain_of l.values.items ≡ fields_with l.registry (variables_of l.given) (map field_of (take l.field-index l.fields))
