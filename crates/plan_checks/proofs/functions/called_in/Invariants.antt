use Rattle.std.specs.List.{find}
use Rattle.std.specs.Prelude.{drop, ◌≡◌}
use Rattle.std.specs.Str.{bytes_eq}
use Rattle.type_registry.specs.Met.{names_at}
use Rattle.plan_checks.specs.Called.{called_by}
use Rattle.plan_checks.proofs.functions.called_in.Given as goal

abbrev pub invariant-loop-face : goal.invariant-loop-face
invariant-loop-face l = find (λ f. bytes_eq l.name f.name) (called_by l.registry (names_at (drop l.face-index l.faces))) ≡ find (λ f. bytes_eq l.name f.name) (called_by l.registry (names_at l.faces))
