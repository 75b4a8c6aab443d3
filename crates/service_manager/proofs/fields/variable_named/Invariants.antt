use Rattle.std.specs.Prelude.{◌≡◌, drop}
use Rattle.std.specs.List.{find}
use Rattle.std.specs.Str.{bytes_eq}
use Rattle.plan_types.specs.Frames.{variables_of}
use Rattle.service_manager.proofs.fields.variable_named.Given as goal

abbrev pub invariant-loop-variable : goal.invariant-loop-variable
invariant-loop-variable l = find (λ x. bytes_eq l.name x.name) (variables_of (drop l.variable-index l.variables)) ≡ find (λ x. bytes_eq l.name x.name) (variables_of l.variables)
