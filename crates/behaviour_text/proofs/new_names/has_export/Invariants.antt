use Rattle.plan_types.specs.Plans.{export_of}
use Rattle.std.specs.List.{list_any}
use Rattle.std.specs.Prelude.{drop, map, ◌≡◌}
use Rattle.std.specs.Str.{bytes_eq}
use Rattle.behaviour_text.proofs.new_names.has_export.Given as goal

abbrev pub invariant-loop-export : goal.invariant-loop-export
invariant-loop-export l = list_any (λ e. bytes_eq l.name e.name) (map export_of (drop l.export-index l.exports)) ≡ list_any (λ e. bytes_eq l.name e.name) (map export_of l.exports)
