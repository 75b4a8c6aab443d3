use Rattle.std.proofs.Common.{arith, get_or}
use Rattle.std.proofs.lemmas.List.{get_or_default}
use Rattle.default_depths.proofs.TableLaws.{all_told, ready, told_more}
use Rattle.default_depths.proofs.table.tell_all.Goals as goal

pub tell-requires-clause-ready : goal.tell-requires-clause-ready
tell-requires-clause-ready c =
    ready c.args.registry.now c.requires.rising c.requires.sound c.args.order.now c.requires.order c.loop-index.depths c.loop-index.index c.loop-index-test.true c.loop-index.invariant.told

pub loop-index-preserved : goal.loop-index-preserved
loop-index-preserved c =
    let place = get_or c.args.order.now c.loop-index.index 0 in
    record {
      told = told_more c.args.registry.now c.requires.rising c.requires.sound c.args.order.now c.requires.order c.loop-index.depths c.tell.new.depths c.loop-index.index place c.loop-index-test.true
          (get_or_default c.args.order.now c.loop-index.index 0 place c.loop-index-test.true) c.loop-index.invariant.told c.tell.ensures.told c.tell.ensures.kept;
      long = c.tell.ensures.long;
    }

pub returns : goal.returns
returns c =
    all_told c.args.registry.now c.requires.rising c.requires.sound c.args.order.now c.requires.order c.loop-index.depths c.loop-index.index (omega (arith, c.loop-index-test.false))
    c.loop-index.invariant.long c.loop-index.invariant.told
