use Rattle.pair_map.proofs.Changes.{emptied}
use Rattle.pair_map.proofs.by_oid.drop_bare.Goals as goal

pub returns-clause-kept : goal.returns-clause-kept
returns-clause-kept g c = emptied c.args.by_oid.now c.swap_remove.new.self c.args.oid.now c.swap_remove.ensures.updates c.requires
