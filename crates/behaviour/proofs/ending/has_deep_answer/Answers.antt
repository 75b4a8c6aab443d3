use Rattle.behaviour.proofs.LimitLemmas.{deep_is, deep_answer, flat_answer}
use Rattle.behaviour.proofs.ending.has_deep_answer.Goals as goal

pub returns-then-is_deep : goal.returns-then-is_deep
returns-then-is_deep c = deep_answer _ _ (deep_is _ _ _ _ c.depth_of.ensures c.is_deep.ensures c.if-is_deep.true)

pub returns : goal.returns
returns c = flat_answer _ _ _ (deep_is _ _ _ _ c.depth_of.ensures c.is_deep.ensures c.if-is_deep.false) c.has_deep.ensures
