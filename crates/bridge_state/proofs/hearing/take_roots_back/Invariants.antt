use Rattle.std.specs.Prelude.{◌≡◌, length, map}
use Rattle.bridge_frames.specs.Answered.{answered_root}
use Rattle.bridge_tables.specs.EndTables.{on_tables}
use Rattle.bridge_state.proofs.hearing.take_roots_back.Given as goal
use Rattle.bridge_state.specs.Undoing.{takes_roots_back}

-- what is still to be taken back is what is left of it
abbrev pub invariant-loop-last : goal.invariant-loop-last
invariant-loop-last l = on_tables (takes_roots_back (map answered_root l.left.items)) l.tables ≡ on_tables (takes_roots_back (map answered_root l.fn.answered.items)) l.fn.tables

abbrev pub decreases-loop-last : goal.decreases-loop-last
decreases-loop-last l = length l.left.items
