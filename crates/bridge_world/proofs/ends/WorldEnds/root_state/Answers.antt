use Rattle.std.proofs.Common.{◌≡◌}
use Rattle.bridge_model.specs.Sides.{state_of}
use Rattle.bridge_endpoint.specs.Telling.{state_told}
use Rattle.bridge_world.specs.Joined.{end_at}
use Rattle.bridge_world.proofs.EndCalls.{seen_by}
use Rattle.bridge_world.proofs.ends.WorldEnds.root_state.Goals as goal

pub returns : goal.returns
returns c = seen_by c.end_of.result.now (end_at c.args.self.now c.args.side) c.end_of.ensures.setting c.end_of.ensures.side (λ g s. c.root_state.result ≡ state_told (state_of c.args.root s.tables.roots)) c.root_state.ensures
