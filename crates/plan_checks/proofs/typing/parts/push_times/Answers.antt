use Rattle.std.proofs.Common.{arith}
use Rattle.uno_entities.specs.TypeNames.{kind_of}
use Rattle.plan_checks.proofs.PartLemmas.{times_end, times_on}
use Rattle.plan_checks.proofs.typing.parts.push_times.Goals as goal

pub loop-left-preserved : goal.loop-left-preserved
loop-left-preserved c = times_on (λ k. kind_of k.now) _ _ _ _ _ c.loop-left-test.true c.in_ok-push.ensures.items c.loop-left.invariant

pub returns : goal.returns
returns c = times_end _ _ _ _ (omega (arith, c.loop-left-test.false)) c.loop-left.invariant
