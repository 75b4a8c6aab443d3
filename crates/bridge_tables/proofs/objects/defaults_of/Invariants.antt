use Rattle.std.specs.Prelude.{◌≡◌, map, take}
use Rattle.uno_entities.specs.Entities.{field_of}
use Rattle.uno_model.specs.Defaults.{default_of_kind}
use Rattle.uno_values.specs.Values.{plain_of}
use Rattle.bridge_tables.proofs.objects.defaults_of.Given as goal

abbrev pub invariant-loop-field : goal.invariant-loop-field
invariant-loop-field l = map plain_of l.values.items ≡ map (λ f. default_of_kind l.registry f.kind) (map field_of (take l.field-index l.fields))
