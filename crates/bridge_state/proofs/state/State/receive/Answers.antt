use Rattle.std.proofs.Common.{ap, map}
use Rattle.bridge_frames.specs.Answered.{answered_root}
use Rattle.bridge_state.proofs.RestingLemmas.{rests_so, undone_so}
use Rattle.bridge_state.proofs.Seen.{side_by}
use Rattle.bridge_state.proofs.UndoLemmas.{rested}
use Rattle.bridge_state.proofs.state.State.receive.Goals as goal

pub returns-in-Release-clause-back : goal.returns-in-Release-clause-back
returns-in-Release-clause-back c rooted =
    undone_so (map answered_root c.args.trace.now.answered.items) (side_by c.released_one.new.self c.self.inside.stacks c.self.inside.incoming c.self.inside.outgoing c.self.inside.entries c.self.inside.cause)
    c.args.self.now.side
    (rests_so c.self.inside.tables c.released_one.new.self c.self.inside.stacks c.self.inside.stacks c.self.inside.incoming c.self.inside.outgoing c.self.inside.entries c.self.inside.cause c.args.self.now c.self.view_is
    (ap (λ e. rested e.tables) c.released_one.ensures.released))

pub returns-in-Request-clause-back : goal.returns-in-Request-clause-back
returns-in-Request-clause-back c rooted = undone_so (map answered_root c.args.trace.now.answered.items) c.receive_request.new.self.side c.args.self.now.side c.receive_request.ensures.rests
