use Rattle.std.proofs.Common.{◌≡◌}
use Rattle.bridge_model.specs.Roots.{holds_pair}
use Rattle.bridge_endpoint.proofs.EntryLemmas.{to_now}
use Rattle.bridge_endpoint.proofs.endpoint.Endpoint.root_holds.Goals as goal

pub returns : goal.returns
returns c = to_now (λ g s. c.root_holds.result ≡ holds_pair c.args.root c.args.oid.now c.args.face.now s.tables) c.self.invariant c.self.view_is c.root_holds.ensures
