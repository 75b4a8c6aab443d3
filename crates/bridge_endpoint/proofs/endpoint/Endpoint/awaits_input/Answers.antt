use Rattle.std.proofs.Common.{◌≡◌}
use Rattle.bridge_model.specs.Answers as answers
use Rattle.bridge_endpoint.proofs.EntryLemmas.{to_now}
use Rattle.bridge_endpoint.proofs.endpoint.Endpoint.awaits_input.Goals as goal

pub returns : goal.returns
returns c = to_now (λ g s. c.awaits_input.result ≡ answers.awaits_input s) c.self.invariant c.self.view_is c.awaits_input.ensures
