use Rattle.std.proofs.Common.{◌≡◌}
use Rattle.bridge_model.specs.Answers as answers
use Rattle.bridge_endpoint.proofs.EntryLemmas.{to_now}
use Rattle.bridge_endpoint.proofs.endpoint.Endpoint.bytes_wait.Goals as goal

pub returns : goal.returns
returns c = to_now (λ g s. c.bytes_wait.result ≡ answers.bytes_wait g s) c.self.invariant c.self.view_is c.bytes_wait.ensures
