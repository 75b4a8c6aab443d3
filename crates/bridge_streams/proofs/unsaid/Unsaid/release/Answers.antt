use Rattle.std.proofs.Common.{◌∙◌, ◌+◌, ◌≤◌, ap, arith}
use Rattle.std.specs.VecDeque.{deque_len, deque_capacity}
use Rattle.std.specs.Vec.{vec_len}
use Rattle.bridge_streams.specs.Queues.{with_release}
use Rattle.bridge_streams.proofs.QueueLemmas.{copies_left, copy_taken, released}
use Rattle.bridge_streams.proofs.unsaid.Unsaid.release.Goals as goal

-- the message takes the place that was kept
pub invariant_of-self : goal.invariant_of-self
invariant_of-self c =
    let room : deque_len c.push_back_reserved.new.self + vec_len c.pop.new.self ≤ deque_capacity c.push_back_reserved.new.self
    = omega (arith, c.self.invariant.0, c.push_back_reserved.ensures.len, c.push_back_reserved.ensures.capacity, c.in-Some.ensures.cases) in
    (room, copies_left c.self.inside.tid c.self.inside.kept.items c.pop.new.self.items c.pop.result c.self.invariant.1 c.pop.ensures.items)

-- on the thread of which it is a copy
pub returns : goal.returns
returns c =
    let copy = copy_taken c.self.inside.tid c.self.inside.kept.items c.pop.new.self.items c.in-Some.tid c.self.invariant.1 c.in-Some.ensures.items in
    released c.self.inside.said.items c.push_back_reserved.new.self.items (vec_len c.self.inside.kept) (vec_len c.pop.new.self) c.self.inside.tid c.in-Some.tid c.args.release.oid c.args.release.face
    c.push_back_reserved.ensures.items c.in-Some.ensures.cases copy
    ∙ ap (with_release c.args.release.oid c.args.release.face) c.self.view_is
