use Rattle.std.proofs.Common.{◌∙◌, ap, arith, false, replicate}
use Rattle.graph_order.proofs.WalkLemmas.{all_walked, first_fine}
use Rattle.graph_order.proofs.order.ends_first.Goals as goal

pub loop-node-init : goal.loop-node-init
loop-node-init c =
    let all_new = c.in_ok-vec.ensures.items_if_clones_equal (λ y same. same) ∙ ap (λ n. replicate n false) c.len.ensures in
    record {
      fine = first_fine c.args.graph.now c.in_ok-vec.field-0.items c.new.result.items c.new-2.result.items all_new c.new.ensures.items c.new-2.ensures.items;
      empty = c.new.ensures.items;
      reached = λ i low. let bad : ⊥ = omega arith in absurd bad;
    }

pub returns : goal.returns
returns c =
    all_walked c.args.graph.now c.loop-node.walk c.loop-node.invariant.fine c.loop-node.invariant.empty
    (λ n low. c.loop-node.invariant.reached n (let end = c.loop-node-test.false in let all = c.len-node-end.ensures in omega (arith, low, end, all)))
