use Rattle.std.specs.Prelude.{◌≡◌, map, replicate}
use Rattle.bridge_model.specs.Sides.{idle}
use Rattle.bridge_tables.specs.Roots.{root_of}
use Rattle.bridge_tables.proofs.tables.idle_roots.Given as goal

abbrev pub invariant-loop-turn : goal.invariant-loop-turn
invariant-loop-turn l = map root_of l.roots.items ≡ replicate l._turn idle
