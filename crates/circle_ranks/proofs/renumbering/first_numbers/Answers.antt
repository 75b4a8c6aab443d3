use Rattle.std.proofs.Common.{arith, length, ap, get_or, refl, ◌-◌, ◌∙◌}
use Rattle.std.proofs.lemmas.List.{get_or_default, length-replicate}
use Rattle.circle_ranks.proofs.NumberLemmas.{all_known, known_next, none_known}
use Rattle.circle_ranks.proofs.renumbering.first_numbers.Goals as goal

pub loop-at-init : goal.loop-at-init
loop-at-init c = record {
  low = omega arith;
  long = ap length (c.in_ok-numbers.ensures.items_if_clones_equal (λ y e. e)) ∙ length-replicate c.args.count 0;
  known = none_known c.args.order.now c.in_ok-numbers.numbers.items c.args.count (length c.args.order.now) refl;
}

pub loop-at-preserved : goal.loop-at-preserved
loop-at-preserved c =
    let at = c.loop-at.at in
    let order = c.args.order.now in
    let low = c.loop-at.invariant.low in
    let node = get_or order (at - 1) 0 in
    let next = known_next order c.loop-at.numbers.items c.number.new.numbers.items c.args.count at node (omega (arith, c.loop-at-test.true)) low
    c.loop-at.invariant.long c.loop-at.invariant.known (get_or_default order (at - 1) 0 node (omega (arith, low, c.loop-at-test.true))) c.in_ok-number.ensures in
    record { low = omega (arith, low); long = next.0; known = next.1 }

pub returns : goal.returns
returns c = all_known c.args.order.now c.loop-at.numbers.items c.args.count c.loop-at.at (omega (arith, c.loop-at-test.false)) c.loop-at.invariant.long c.loop-at.invariant.known
