use Rattle.std.specs.List.{list_any}
use Rattle.std.specs.Prelude.{drop, ◌≡◌}
use Rattle.uno_model.specs.Reaches.{is_base_of}
use Rattle.bridge_objects.proofs.calling.is_reached.Given as goal

abbrev pub invariant-loop-place : goal.invariant-loop-place
invariant-loop-place l =
    list_any (λ row. is_base_of l.registry l.wanted row.0) (drop l.place l.faces)
    ≡ list_any (λ row. is_base_of l.registry l.wanted row.0) l.faces
