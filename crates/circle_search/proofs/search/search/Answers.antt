use Rattle.std.proofs.Common.{replicate, ◌∙◌, ap, arith}
use Rattle.circle_search.specs.declared.mark.Mark.TheVariants.{New}
use Rattle.circle_search.proofs.Ends.{first_fine}
use Rattle.circle_search.proofs.search.search.Goals as goal

pub loop-node-init : goal.loop-node-init
loop-node-init c =
    let all_new = c.in_ok-vec.ensures.items_if_clones_equal (λ y same. same) ∙ ap (λ n. replicate n New) c.len.ensures in
    record {
      fine = first_fine c.args.graph.now c.in_ok-vec.field-0.items c.new.result.items c.new-2.result.items c.new-3.result.items all_new c.new.ensures.items c.new-2.ensures.items c.new-3.ensures.items;
      empty = c.new.ensures.items;
      reached = λ i low. let bad : ⊥ = omega arith in absurd bad;
    }
