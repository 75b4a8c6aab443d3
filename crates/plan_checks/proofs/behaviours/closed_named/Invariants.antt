use Rattle.plan_types.specs.Plans.{behaviour_of}
use Rattle.std.specs.List.{find}
use Rattle.std.specs.Prelude.{drop, map, ◌≡◌}
use Rattle.std.specs.Str.{bytes_eq}
use Rattle.plan_checks.proofs.behaviours.closed_named.Given as goal

abbrev pub invariant-loop-behaviour : goal.invariant-loop-behaviour
invariant-loop-behaviour l = find (λ b. bytes_eq l.name b.name) (map behaviour_of (drop l.behaviour-index l.behaviours)) ≡ find (λ b. bytes_eq l.name b.name) (map behaviour_of l.behaviours)
