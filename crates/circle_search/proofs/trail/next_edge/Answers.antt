use Rattle.std.proofs.Common.{sym}
use Rattle.circle_search.proofs.Parts.{all_before}
use Rattle.circle_search.proofs.trail.next_edge.Goals as goal

pub returns-then-edge-start-clause-none : goal.returns-then-edge-start-clause-none
returns-then-edge-start-clause-none c =
    let last = rw c.deref.ensures.value at c.in_ok-edge.ensures.value in
    all_before c.args.waiting.now.items c.in_ok-edge.field-0.now c.args.start c.requires (sym last) c.if-edge-start.true
