use Rattle.bridge_world.specs.Playing.{progress_of}
use Rattle.bridge_world.proofs.SeededLaws.{HasPlayed}
use Rattle.bridge_world.proofs.world.World.run_seeded.Given as goal

abbrev pub invariant-turns : goal.invariant-turns
invariant-turns l = HasPlayed l.fn.seed l.fn.cut l.fn.self l.self (progress_of l.fn.runs) (progress_of l.runs) l.generator
