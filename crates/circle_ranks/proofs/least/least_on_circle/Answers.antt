use Rattle.circle_ranks.proofs.least.least_on_circle.Goals as goal
use Rattle.circle_ranks.proofs.LeastLemmas.{found_least}

pub returns : goal.returns
returns c =
    found_least c.args.graph.now c.args.nodes.now c.in_ok-sorted.sorted.items c.in_ok-ordered.ordered c.as_slice.result.now c.as_slice-2.result.now c.rank_at.result c.in_ok-found.found
    c.in_ok-sorted.ensures.same c.in_ok-sorted.ensures.rise c.as_slice.ensures.value c.as_slice-2.ensures.value c.in_ok-ordered.ensures c.in_ok-found.ensures c.rank_at.ensures
