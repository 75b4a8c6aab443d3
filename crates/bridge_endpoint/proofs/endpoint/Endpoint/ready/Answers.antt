use Rattle.std.proofs.Common.{◌≡◌}
use Rattle.std.specs.Option.{option_map}
use Rattle.bridge_model.specs.Answers.{ready_at}
use Rattle.bridge_endpoint.proofs.EntryLemmas.{to_now}
use Rattle.bridge_endpoint.proofs.endpoint.Endpoint.ready.Goals as goal

pub returns : goal.returns
returns c = to_now (λ g s. option_map (λ tid. tid.now) c.ready.result ≡ ready_at s c.args.nth) c.self.invariant c.self.view_is c.ready.ensures
