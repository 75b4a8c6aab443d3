use Rattle.std.proofs.Common.{◌≤◌, length, subst}
use Rattle.bridge_endpoint.specs.Journals.{Endpoint, setting_at}
use Rattle.bridge_endpoint.proofs.endpoint.Endpoint.registry.Goals as goal

pub returns-clause-sound : goal.returns-clause-sound
returns-clause-sound c = c.self.invariant.set_up.sound

pub returns-clause-tag : goal.returns-clause-tag
returns-clause-tag c = subst (λ (x : Endpoint). length (setting_at x).tag ≤ 32) c.self.view_is c.self.invariant.tag.short
