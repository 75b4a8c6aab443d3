use Rattle.std.proofs.Common.{◌≡◌}
use Rattle.bridge_endpoint.proofs.EntryLemmas.{to_now}
use Rattle.bridge_endpoint.proofs.endpoint.Endpoint.end.Goals as goal

pub returns : goal.returns
returns c = to_now (λ g s. c.cause.result ≡ s.cause) c.self.invariant c.self.view_is c.cause.ensures
