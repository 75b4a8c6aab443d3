use Rattle.std.proofs.Common.{refl}
use Rattle.table_model.specs.Pair.{pair}
use Rattle.pair_map.proofs.Changes.{then_ok, then_err}
use Rattle.pair_map.proofs.Views.{put_at, same_at}
use Rattle.pair_map.proofs.pair_map.PairMap.insert.Goals as goal

pub returns-clause-put : goal.returns-clause-put
returns-clause-put g c =
    then_ok c.insert.result
    (put_at c.self.inside.by_oid c.self.invariant c.args.self.now c.self.view_is _ _ refl c.insert.new.by_oid c.insert.ensures.unique c.args.value)
    c.insert.ensures.put

pub returns-clause-kept : goal.returns-clause-kept
returns-clause-kept g c =
    then_err c.insert.result
    (same_at c.self.inside.by_oid c.self.invariant c.args.self.now c.self.view_is (pair c.args.oid.now c.args.face.now) _ refl c.insert.new.by_oid c.insert.ensures.unique)
    c.insert.ensures.kept
