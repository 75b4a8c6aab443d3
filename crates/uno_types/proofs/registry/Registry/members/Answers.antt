use Rattle.std.proofs.Common.{arith}
use Rattle.uno_types.proofs.LevelLemmas.{taken_on, taken_all}
use Rattle.uno_types.proofs.registry.Registry.members.Goals as goal

pub loop-own-preserved : goal.loop-own-preserved
loop-own-preserved c = taken_on _ _ _ _ _ _ c.loop-own.invariant c.in-Some.ensures.items c.in_ok-push_all.ensures

pub returns : goal.returns
returns c = taken_all _ _ _ c.loop-own.invariant (omega (arith, c.in_default.ensures.cases.0))
