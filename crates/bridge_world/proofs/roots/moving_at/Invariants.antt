use Rattle.std.specs.Prelude.{◌≡◌, drop, map, slice_get}
use Rattle.behaviour.specs.Roots.{run_of}
use Rattle.bridge_endpoint.specs.Journals.{setting_at, side_at}
use Rattle.world_model.specs.Moves.{stepping}
use Rattle.bridge_world.proofs.roots.moving_at.Given as goal

abbrev pub invariant-loop-place : goal.invariant-loop-place
invariant-loop-place l =
    slice_get (stepping (setting_at l.end) (side_at l.end) l.place (map run_of (drop l.place l.runs))) l.left ≡ slice_get (stepping (setting_at l.end) (side_at l.end) 0 (map run_of l.runs)) l.nth
