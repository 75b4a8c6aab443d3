use Rattle.std.proofs.Common.{◌≡◌}
use Rattle.bridge_model.specs.Sides.{state_of}
use Rattle.bridge_state.specs.Telling.{state_told}
use Rattle.bridge_endpoint.proofs.EntryLemmas.{to_now}
use Rattle.bridge_endpoint.proofs.endpoint.Endpoint.root_state.Goals as goal

pub returns : goal.returns
returns c = to_now (λ g s. c.root_state.result ≡ state_told (state_of c.args.root s.tables.roots)) c.self.invariant c.self.view_is c.root_state.ensures
