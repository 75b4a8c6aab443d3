use Rattle.std.specs.Prelude.{◌≡◌, map, length}
use Rattle.bridge_model.specs.Ends.{state_at_end}
use Rattle.bridge_tables.specs.Roots.{root_of}
use Rattle.bridge_tables.proofs.RootLemmas.{ended_front}
use Rattle.bridge_tables.proofs.roots.end_roots.Given as goal

abbrev pub invariant-loop-place : goal.invariant-loop-place
invariant-loop-place l =
    (map root_of l.roots.items ≡ ended_front (state_at_end l.cause) l.place (map root_of l.fn.roots.items)) × (length l.roots.items ≡ length l.fn.roots.items)
