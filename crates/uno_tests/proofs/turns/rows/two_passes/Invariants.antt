use Rattle.turn_book.specs.Passes.{Rests}
use Rattle.uno_tests.proofs.turns.rows.two_passes.Given as goal

abbrev pub invariant-loop-turn : goal.invariant-loop-turn
invariant-loop-turn g l = Rests (λ _. tt) l.lock.table.shared l.first × Rests (λ _. tt) l.lock.table.shared l.second
