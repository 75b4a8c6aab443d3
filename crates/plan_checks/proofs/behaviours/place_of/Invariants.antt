use Rattle.plan_types.specs.declared.plan.Behaviour.{Behaviour}
use Rattle.std.specs.List.{position}
use Rattle.std.specs.Option.{option_map}
use Rattle.std.specs.Prelude.{drop, ◌+◌, ◌≡◌}
use Rattle.std.specs.Str.{bytes_eq}
use Rattle.plan_checks.proofs.behaviours.place_of.Given as goal

abbrev pub invariant-loop-place : goal.invariant-loop-place
invariant-loop-place l =
    option_map (λ n. l.place + n) (position (λ (b : Behaviour). bytes_eq l.name b.name) (drop l.place l.behaviours)) ≡ position (λ (b : Behaviour). bytes_eq l.name b.name) l.behaviours
