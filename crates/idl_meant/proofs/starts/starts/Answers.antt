use Rattle.std.proofs.Common.{◌≡◌, ◌∙◌, arith, length, subst}
use Rattle.idl_meant.specs.Starting.{starts_of}
use Rattle.idl_trees.specs.Trees.{declaration_of}
use Rattle.idl_types.specs.Bodies.{bodies_of}
use Rattle.idl_names.specs.declared.declaration.Declared.{Declared}
use Rattle.idl_meant.proofs.LoopLemmas.{no_starts, none_counted, one_counted_more, one_start_more}
use Rattle.idl_meant.proofs.starts.starts.Goals as goal

pub loop-declared-init : goal.loop-declared-init
loop-declared-init c = (c.new-starts.ensures.items ∙ no_starts (bodies_of c.args.all.now), none_counted (bodies_of c.args.all.now), omega arith)

pub loop-declared-preserved : goal.loop-declared-preserved
loop-declared-preserved c = (
  one_start_more (bodies_of c.args.all.now) c.loop-declared.declared-index c.loop-declared.starts.items c.push.new.self.items c.loop-declared.next c.loop-declared.invariant.0 c.loop-declared.invariant.1 c.in_ok-push.ensures.items,
  one_counted_more (λ (d : Declared). declaration_of d.body.now) c.args.all.now c.loop-declared.declared-index c.declared-item.result c.loop-declared.next c.in-Some.behind c.value_count.result
      c.loop-declared-test.true c.declared-item.is c.loop-declared.invariant.1 c.value_count.ensures c.in-Some.ensures.1,
  omega (arith, c.loop-declared-test.true),
)

pub returns : goal.returns
returns c =
    let low = c.loop-declared.invariant.2 in
    let end : c.loop-declared.declared-index ≡ length c.args.all.now = omega (arith, c.loop-declared-test.false, low) in
    subst (λ n. c.loop-declared.starts.items ≡ starts_of (bodies_of c.args.all.now) n) end c.loop-declared.invariant.0
