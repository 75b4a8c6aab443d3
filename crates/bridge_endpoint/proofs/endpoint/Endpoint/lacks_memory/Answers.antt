use Rattle.std.proofs.Common.{◌≡◌, ap, ◌∙◌}
use Rattle.bridge_model.specs.Steps.{is_no_memory}
use Rattle.bridge_endpoint.proofs.EntryLemmas.{to_now}
use Rattle.bridge_endpoint.proofs.endpoint.Endpoint.lacks_memory.Goals as goal

pub returns : goal.returns
returns c = to_now (λ g s. c.is_no_memory.result ≡ is_no_memory s.cause) c.self.invariant c.self.view_is (c.is_no_memory.ensures ∙ ap is_no_memory c.cause.ensures)
