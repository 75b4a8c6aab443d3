use Rattle.uno_model.specs.Kinds as kd
use Rattle.std.specs.List.{list_any}
use Rattle.std.specs.Prelude.{drop, map, ◌&&◌, ◌≡◌}
use Rattle.std.specs.Str.{bytes_eq}
use Rattle.uno_entities.specs.Entities.{field_of}
use Rattle.uno_model.specs.Codes.{same_kind}
use Rattle.plan_checks.proofs.fitting.has_rest_field.Given as goal

abbrev pub invariant-loop-field : goal.invariant-loop-field
invariant-loop-field l = list_any (λ f. bytes_eq l.name f.name && same_kind (kd.sequence kd.any) f.kind) (map field_of (drop l.field-index l.fields)) ≡ list_any (λ f. bytes_eq l.name f.name && same_kind (kd.sequence kd.any) f.kind) (map field_of l.fields)
