use Rattle.std.specs.Prelude.{◌≤◌, length}
use Rattle.bridge_endpoint.specs.Journals.{side_at}
use Rattle.world_model.specs.Moves.{applying}
use Rattle.bridge_world.proofs.choosing.ready.Given as goal

abbrev pub invariant-loop-place : goal.invariant-loop-place
invariant-loop-place l = l.place ≤ length (applying (side_at l.end))
