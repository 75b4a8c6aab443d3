use Rattle.std.proofs.Common.{◌+◌, ◌≤◌, arith}
use Rattle.std.specs.VecDeque.{deque_len, deque_capacity}
use Rattle.std.specs.Vec.{vec_len}
use Rattle.bridge_streams.proofs.QueueLemmas.{copies_left}
use Rattle.bridge_streams.proofs.unsaid.Unsaid.unkeep.Goals as goal

-- the place is free, and the other names are as they were
pub invariant_of-self : goal.invariant_of-self
invariant_of-self c =
    let room : deque_len c.self.inside.said + vec_len c.pop.new.self ≤ deque_capacity c.self.inside.said = omega (arith, c.self.invariant.0, c.pop.ensures.len) in
    (room, copies_left c.self.inside.tid c.self.inside.kept.items c.pop.new.self.items c.pop.result c.self.invariant.1 c.pop.ensures.items)
