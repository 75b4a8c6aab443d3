use Rattle.std.proofs.Common.{◌≡◌, ap, ◌∙◌}
use Rattle.bridge_model.specs.Sides.{stands, stands_by}
use Rattle.bridge_endpoint.proofs.EntryLemmas.{to_now}
use Rattle.bridge_endpoint.proofs.endpoint.Endpoint.stands.Goals as goal

pub returns : goal.returns
returns c = to_now (λ g s. c.is_none.result ≡ stands s) c.self.invariant c.self.view_is (c.is_none.ensures ∙ ap stands_by c.cause.ensures)
