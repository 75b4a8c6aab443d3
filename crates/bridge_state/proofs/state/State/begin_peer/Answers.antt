use Rattle.bridge_tables.specs.Roots.{root_of}
use Rattle.bridge_state.proofs.StateLemmas.{lost_back}
use Rattle.bridge_state.proofs.state.State.begin_peer.Goals as goal

pub returns-in-Err-clause-lost : goal.returns-in-Err-clause-lost
returns-in-Err-clause-lost c =
    lost_back c.args.root (root_of c.args.waits) (root_of c.set_root-before.result) c.self.inside.tables c.set_root-before.new.self c.self-2.inside.tables c.set_root.new.self c.self.inside.stacks c.self-2.inside.stacks
    c.self.inside.incoming c.self-2.inside.incoming c.self.inside.outgoing c.self-2.inside.outgoing c.self.inside.entries c.self-2.inside.entries c.self.inside.cause c.self-2.inside.cause c.args.self.now
    c.peer_above.new.self c.self.view_is c.set_root-before.ensures.set c.set_root-before.ensures.was c.in-Err.ensures.lost c.self-2.view_is c.set_root.ensures.set
