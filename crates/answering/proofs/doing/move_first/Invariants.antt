use Rattle.std.proofs.Common.{◌≡◌, length, map, take, None}
use Rattle.behaviour.specs.Roots.{run_of}
use Rattle.bridge_endpoint.specs.Journals.{setting_at, side_at}
use Rattle.bridge_model.specs.Orders.{root_move}
use Rattle.answering.proofs.doing.move_first.Given as goal

abbrev pub invariant-loop-place : goal.invariant-loop-place
invariant-loop-place l =
    record {
      end : l.end ≡ l.fn.end;
      runs : map run_of l.runs.items ≡ map run_of l.fn.runs.items;
      none : root_move (setting_at l.fn.end) (side_at l.fn.end) (take l.place (map run_of l.fn.runs.items)) ≡ None;
      long : length l.runs.items ≡ length l.fn.runs.items;
    }
