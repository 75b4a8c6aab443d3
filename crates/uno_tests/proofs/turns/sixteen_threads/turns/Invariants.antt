use Rattle.turn_book.specs.Passes.{Rests}
use Rattle.uno_tests.proofs.turns.sixteen_threads.turns.Given as goal

abbrev pub invariant-loop-turn : goal.invariant-loop-turn
invariant-loop-turn g l = Rests (λ _. tt) l.lock.table.shared l.pass
