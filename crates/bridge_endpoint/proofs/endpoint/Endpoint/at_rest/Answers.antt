use Rattle.std.proofs.Common.{◌≡◌}
use Rattle.bridge_model.specs.Answers as answers
use Rattle.bridge_endpoint.proofs.EntryLemmas.{to_now}
use Rattle.bridge_endpoint.proofs.endpoint.Endpoint.at_rest.Goals as goal

pub returns : goal.returns
returns c = to_now (λ g s. c.at_rest.result ≡ answers.at_rest g s) c.self.invariant c.self.view_is c.at_rest.ensures
