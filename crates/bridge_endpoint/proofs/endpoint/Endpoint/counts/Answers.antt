use Rattle.std.proofs.Common.{◌≡◌}
use Rattle.bridge_model.specs.Answers as answers
use Rattle.bridge_state.specs.Telling.{counts_told}
use Rattle.bridge_endpoint.proofs.EntryLemmas.{to_now}
use Rattle.bridge_endpoint.proofs.endpoint.Endpoint.counts.Goals as goal

pub counts-requires : goal.counts-requires
counts-requires c = c.self.invariant.of

pub returns : goal.returns
returns c = to_now (λ g s. counts_told c.counts.result ≡ answers.counts_of g s) c.self.invariant c.self.view_is c.counts.ensures
