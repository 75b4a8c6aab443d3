use Rattle.std.proofs.Common.{arith}
use Rattle.bridge_state.proofs.UndoLemmas.{none_some, taken_all, taken_next}
use Rattle.bridge_state.proofs.hearing.take_roots_back.Goals as goal

pub loop-last-preserved : goal.loop-last-preserved
loop-last-preserved c = taken_next c.loop-last.left.items c.pop.new.self.items c.pop.result c.in-Some.last c.loop-last.tables c.take_back_root.new.self _ c.pop.ensures.items c.in-Some.is c.take_back_root.ensures c.loop-last.invariant

pub returns : goal.returns
returns c = taken_all c.loop-last.left.items c.loop-last.tables _ (λ some. none_some c.pop.result c.in_default.is (c.pop.ensures.variant.1 (let long = c.loop-last.left.ok.0 in omega (arith, some, long)))) c.loop-last.invariant
