use Rattle.bridge_model.specs.Saying.{AreSayable}
use Rattle.bridge_tests.proofs.streams.going_out.says_all.Given as goal

-- what waits may be said
abbrev pub invariant-loop-what : goal.invariant-loop-what
invariant-loop-what g l = AreSayable l.registry l.unsaid.said
