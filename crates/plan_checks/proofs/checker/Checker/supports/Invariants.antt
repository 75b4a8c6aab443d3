use Rattle.std.specs.List.{list_any}
use Rattle.std.specs.Prelude.{drop, ◌≡◌}
use Rattle.uno_model.specs.Reaches.{is_base_of}
use Rattle.plan_checks.proofs.checker.Checker.supports.Given as goal

abbrev pub invariant-loop-face : goal.invariant-loop-face
invariant-loop-face l = list_any (is_base_of l.self.registry.now l.wanted) (drop l.face-index l.faces) ≡ list_any (is_base_of l.self.registry.now l.wanted) l.faces
