use Rattle.behaviour.proofs.LimitLemmas.{value_too_large, value_too_deep, value_within}
use Rattle.behaviour.proofs.evaluation.excess.Goals as goal

pub returns-then-is_heavy : goal.returns-then-is_heavy
returns-then-is_heavy c = value_too_large _ _ _ c.weight.ensures c.is_heavy.ensures c.if-is_heavy.true

pub returns-then-is_deep : goal.returns-then-is_deep
returns-then-is_deep c = value_too_deep _ _ _ _ _ c.weight.ensures c.is_heavy.ensures c.if-is_heavy.false c.depth_of.ensures c.is_deep.ensures c.if-is_deep.true

pub returns : goal.returns
returns c = value_within _ _ _ _ _ c.weight.ensures c.is_heavy.ensures c.if-is_heavy.false c.depth_of.ensures c.is_deep.ensures c.if-is_deep.false
