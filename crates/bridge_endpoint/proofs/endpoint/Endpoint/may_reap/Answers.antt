use Rattle.std.proofs.Common.{◌≡◌}
use Rattle.bridge_model.specs.Answers as answers
use Rattle.bridge_endpoint.proofs.EntryLemmas.{to_now}
use Rattle.bridge_endpoint.proofs.endpoint.Endpoint.may_reap.Goals as goal

pub may_reap-requires : goal.may_reap-requires
may_reap-requires c = c.self.invariant.of

pub returns : goal.returns
returns c = to_now (λ g s. c.may_reap.result ≡ answers.may_reap g s) c.self.invariant c.self.view_is c.may_reap.ensures
