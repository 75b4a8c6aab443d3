use Rattle.bridge_world.proofs.ends.WorldEnds.drain.Goals as goal

pub returns-clause-others : goal.returns-clause-others
returns-clause-others c other has apart = c.drain_across.ensures.others other apart
