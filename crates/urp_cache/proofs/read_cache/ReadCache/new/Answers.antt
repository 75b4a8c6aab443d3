use Rattle.urp_cache.proofs.Tables.{new_table, new_length, new_means}
use Rattle.urp_cache.proofs.read_cache.ReadCache.new.Goals as goal

pub invariant_of-result : goal.invariant_of-result
invariant_of-result g c = new_length c.loop.names.items c.loop.counter c.loop.invariant c.loop.auto.counter-end c.loop-test.false

pub returns-clause-same : goal.returns-clause-same
returns-clause-same g c = new_table g.N.SlotName.bytes c.loop.names.items c.loop.counter c.loop.invariant c.loop.auto.counter-end c.loop-test.false

pub returns-clause-means : goal.returns-clause-means
returns-clause-means g c = new_means g.N.SlotName.bytes c.loop.names.items c.loop.counter c.loop.invariant c.loop.auto.counter-end c.loop-test.false
