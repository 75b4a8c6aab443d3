use Rattle.std.proofs.Common.{arith}
use Rattle.idl_repeated_names.proofs.TwinsLemmas.{taken_all, taken_first, taken_one_more}
use Rattle.idl_repeated_names.proofs.twins.Twins.take_back.Goals as goal

pub loop-self-init : goal.loop-self-init
loop-self-init c = taken_first c.args.self.now c.args.count

pub loop-self-preserved : goal.loop-self-preserved
loop-self-preserved c =
    taken_one_more c.args.self.now c.loop-self.self c.forget_last.new.self c.args.count c.loop-self.invariant c.in_ok-forget_last.ensures.last (omega (arith, c.loop-self-test.true, c.len.ensures))

pub returns : goal.returns
returns c = taken_all c.args.self.now c.loop-self.self c.args.count c.loop-self.invariant (omega (arith, c.loop-self-test.false, c.len.ensures))
