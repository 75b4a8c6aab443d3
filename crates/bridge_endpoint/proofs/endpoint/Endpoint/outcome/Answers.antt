use Rattle.std.proofs.Common.{◌≡◌, option_map}
use Rattle.bridge_model.specs.Roots.{outcome_in}
use Rattle.bridge_model.specs.Sides.{state_of}
use Rattle.bridge_tables.specs.Roots.{outcome_of}
use Rattle.bridge_endpoint.proofs.EntryLemmas.{to_now}
use Rattle.bridge_endpoint.proofs.endpoint.Endpoint.outcome.Goals as goal

pub returns : goal.returns
returns c = to_now (λ g s. option_map (λ o. outcome_of o.now) c.outcome.result ≡ outcome_in (state_of c.args.root s.tables.roots)) c.self.invariant c.self.view_is c.outcome.ensures
