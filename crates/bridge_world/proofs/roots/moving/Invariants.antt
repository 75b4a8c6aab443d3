use Rattle.std.specs.Prelude.{◌≡◌, ◌≤◌, ◌+◌, ◌-◌, ◌^◌, drop, length, map}
use Rattle.behaviour.specs.Roots.{run_of}
use Rattle.bridge_endpoint.specs.Journals.{setting_at, side_at}
use Rattle.move_choice.specs.Choosing.{counted}
use Rattle.world_model.specs.Moves.{stepping}
use Rattle.bridge_world.proofs.roots.moving.Given as goal

-- those that were counted, with those that are left, are all
abbrev pub invariant-loop-run : goal.invariant-loop-run
invariant-loop-run l =
    record {
      counted : counted (l.count + length (stepping (setting_at l.end) (side_at l.end) l.run-index (map run_of (drop l.run-index l.runs)))) ≡ counted (length (stepping (setting_at l.end) (side_at l.end) 0 (map run_of l.runs)));
      within : l.count ≤ 2 ^ 32 - 1;
    }
