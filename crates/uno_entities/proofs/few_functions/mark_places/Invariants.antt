use Rattle.uno_entities.specs.Reaching.{MarksMore}
use Rattle.uno_entities.proofs.few_functions.mark_places.Given as goal

abbrev pub invariant-loop-place : goal.invariant-loop-place
invariant-loop-place l = MarksMore l.places l.fn.known l.known
