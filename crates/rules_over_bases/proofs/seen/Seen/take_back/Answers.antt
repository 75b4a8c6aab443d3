use Rattle.std.proofs.Common.{arith}
use Rattle.rules_over_bases.proofs.SeenLemmas.{taken_first, taken_one_more}
use Rattle.rules_over_bases.proofs.seen.Seen.take_back.Goals as goal

pub loop-self-init : goal.loop-self-init
loop-self-init c = taken_first c.args.self.now c.args.count

pub loop-self-preserved : goal.loop-self-preserved
loop-self-preserved c =
    taken_one_more c.args.self.now c.loop-self.self c.forget_last.new.self c.args.count c.loop-self.invariant c.forget_last.ensures.last c.forget_last.ensures.fewer
    (omega (arith, c.loop-self-test.true, c.len.ensures))
