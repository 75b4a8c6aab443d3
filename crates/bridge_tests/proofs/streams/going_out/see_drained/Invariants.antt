use Rattle.bridge_model.specs.Saying.{AreSayable}
use Rattle.bridge_tests.proofs.streams.going_out.see_drained.Given as goal

-- what waits may be said
abbrev pub invariant-loop-turn : goal.invariant-loop-turn
invariant-loop-turn g l = AreSayable l.registry l.unsaid.said
