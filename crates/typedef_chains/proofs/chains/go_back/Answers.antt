use Rattle.std.proofs.Common.{◌∙◌, None, ap, refl, subst, sym, arith}
use Rattle.std.proofs.lemmas.List.{get_or_default}
use Rattle.std.proofs.lemmas.Option.{get_or_from_slice_get}
use Rattle.typedef_chains.specs.Known.{Returns}
use Rattle.typedef_chains.specs.declared.step.Step.{Step}
use Rattle.typedef_chains.proofs.KnownLemmas.{back_low, ends_low, one_back, turns}
use Rattle.typedef_chains.proofs.chains.go_back.Goals as goal

pub loop-node-init : goal.loop-node-init
loop-node-init c = record {
  returns =
      let ends = c.args.known.now.ends.items in
      let low = ends_low c.args.steps.now c.args.most c.args.known.now.seen.items ends c.args.way.now.items c.args.at c.requires.at c.requires.follows in
      subst (Returns c.args.steps.now c.args.most c.args.known.now.seen.items ends c.args.way.now.items)
      (get_or_default ends c.args.at None c.index-end.result.now low ∙ sym c.index-end.ensures)
      (turns c.args.steps.now c.args.most c.args.known.now.seen.items ends c.args.way.now.items c.args.at c.requires.follows c.requires.linked c.requires.met);
  kept = refl;
}

pub bounds-steps-node : goal.bounds-steps-node
bounds-steps-node c =
    back_low c.args.steps.now c.args.most c.loop-node.known.seen.items c.loop-node.known.ends.items c.pop.new.self.items c.in-Some.node c.loop-node.end
    (subst (λ xs. Returns c.args.steps.now c.args.most c.loop-node.known.seen.items c.loop-node.known.ends.items xs c.loop-node.end) c.in-Some.ensures.items c.loop-node.invariant.returns)

pub index_mut-requires : goal.index_mut-requires
index_mut-requires c =
    let within = back_low c.args.steps.now c.args.most c.loop-node.known.seen.items c.loop-node.known.ends.items c.pop.new.self.items c.in-Some.node c.loop-node.end
    (subst (λ xs. Returns c.args.steps.now c.args.most c.loop-node.known.seen.items c.loop-node.known.ends.items xs c.loop-node.end) c.in-Some.ensures.items c.loop-node.invariant.returns) in
    omega (arith, within, c.loop-node.invariant.returns.long_ends, c.loop-node.known.ends.ok)

pub loop-node-preserved : goal.loop-node-preserved
loop-node-preserved c = record {
  returns =
      one_back c.args.steps.now c.args.most c.loop-node.known.seen.items c.loop-node.known.ends.items c.pop.new.self.items c.in-Some.node c.loop-node.end c.behind-end.result
      (subst (λ xs. Returns c.args.steps.now c.args.most c.loop-node.known.seen.items c.loop-node.known.ends.items xs c.loop-node.end) c.in-Some.ensures.items c.loop-node.invariant.returns)
      (λ s at. λ node next s' at' leads same right.
      c.behind-end.ensures c.args.steps.now node next s' at' leads
      (same ∙ ap (λ (k : Step). k.adds) (sym (get_or_from_slice_get c.args.steps.now c.in-Some.node s (record { adds = 0; next = None }) at))) right);
  kept = c.loop-node.invariant.kept;
}
