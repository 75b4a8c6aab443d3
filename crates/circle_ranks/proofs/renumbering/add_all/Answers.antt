use Rattle.circle_ranks.proofs.LoopLemmas.{no_numbers, numbers_more}
use Rattle.circle_ranks.proofs.renumbering.add_all.Goals as goal

pub loop-number-init : goal.loop-number-init
loop-number-init c = no_numbers c.args.order.now.items

pub loop-number-preserved : goal.loop-number-preserved
loop-number-preserved c =
    numbers_more c.args.order.now.items c.loop-number.order.items c.push.new.self.items c.loop-number.number c.in-Ok.node c.in-Ok.ensures.1 c.loop-number.invariant c.in_ok-push.ensures.items
