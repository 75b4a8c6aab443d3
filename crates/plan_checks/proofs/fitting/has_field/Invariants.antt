use Rattle.plan_checks.specs.Constructors.{is_among}
use Rattle.std.specs.Prelude.{drop, map, ◌≡◌}
use Rattle.uno_entities.specs.Entities.{field_of}
use Rattle.plan_checks.proofs.fitting.has_field.Given as goal

abbrev pub invariant-loop-field : goal.invariant-loop-field
invariant-loop-field l = is_among (map field_of (drop l.field-index l.fields)) (field_of l.param) ≡ is_among (map field_of l.fields) (field_of l.param)
