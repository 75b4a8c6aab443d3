use Rattle.plan_checks.specs.Constructors.{is_among}
use Rattle.std.specs.List.{list_all}
use Rattle.std.specs.Prelude.{drop, map, ◌≡◌}
use Rattle.uno_entities.specs.Entities.{field_of}
use Rattle.plan_checks.proofs.fitting.has_fields.Given as goal

abbrev pub invariant-loop-param : goal.invariant-loop-param
invariant-loop-param l = list_all (is_among (map field_of l.fields)) (map field_of (drop l.param-index l.params)) ≡ list_all (is_among (map field_of l.fields)) (map field_of l.params)
