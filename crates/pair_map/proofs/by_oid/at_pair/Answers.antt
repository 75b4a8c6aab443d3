use Rattle.pair_map.proofs.Reading.{nothing_at}
use Rattle.pair_map.proofs.by_oid.at_pair.Goals as goal

pub returns-then-is_empty : goal.returns-then-is_empty
returns-then-is_empty g c = nothing_at c.args.oid.now c.args.face.now c.args.by_oid.now.entries (c.is_empty.ensures.0 c.if-is_empty.true)
