use Rattle.plan_checks.specs.Variables.{scoped_of}
use Rattle.std.specs.List.{find}
use Rattle.std.specs.Prelude.{drop, map, ◌≡◌}
use Rattle.std.specs.Str.{bytes_eq}
use Rattle.plan_checks.proofs.scope.variable_named.Given as goal

abbrev pub invariant-loop-variable : goal.invariant-loop-variable
invariant-loop-variable l = find (λ x. bytes_eq l.name x.name) (map scoped_of (drop l.variable-index l.variables)) ≡ find (λ x. bytes_eq l.name x.name) (map scoped_of l.variables)
