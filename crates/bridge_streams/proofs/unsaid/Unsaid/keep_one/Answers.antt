use Rattle.std.proofs.Common.{◌+◌, ◌≤◌, arith}
use Rattle.std.specs.VecDeque.{deque_len, deque_capacity}
use Rattle.std.specs.Vec.{vec_len}
use Rattle.bridge_streams.proofs.QueueLemmas.{copies_more}
use Rattle.bridge_streams.proofs.unsaid.Unsaid.keep_one.Goals as goal

-- there is room for one more, and its name is a copy
pub invariant_of-self-2 : goal.invariant_of-self-2
invariant_of-self-2 c =
    let room : deque_len c.make_room.new.said + vec_len c.push.new.self ≤ deque_capacity c.make_room.new.said
    = omega (arith, c.in_ok-make_room.ensures.room, c.in_ok-push.ensures.len, c.len.ensures) in
    (room, rw (c.in_ok-push.ensures.items) (copies_more c.self.inside.tid c.in_ok-tid.tid c.self.inside.kept.items c.self.invariant.1 c.in_ok-tid.ensures))
