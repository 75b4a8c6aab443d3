use Rattle.bridge_world.proofs.ends.WorldEnds.feed.Goals as goal

pub returns-clause-others : goal.returns-clause-others
returns-clause-others c other has apart = c.feed_front.ensures.others other apart
