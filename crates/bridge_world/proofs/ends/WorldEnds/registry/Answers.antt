use Rattle.std.proofs.Common.{◌≡◌, ◌≤◌, length}
use Rattle.bridge_world.specs.Joined.{end_at}
use Rattle.bridge_world.proofs.EndCalls.{seen_by}
use Rattle.bridge_world.proofs.ends.WorldEnds.registry.Goals as goal

pub returns-clause-same : goal.returns-clause-same
returns-clause-same c = seen_by c.end_of.result.now (end_at c.args.self.now c.args.side) c.end_of.ensures.setting c.end_of.ensures.side (λ g s. c.registry.result.now ≡ g.registry) c.registry.ensures.same

pub returns-clause-tag : goal.returns-clause-tag
returns-clause-tag c = seen_by c.end_of.result.now (end_at c.args.self.now c.args.side) c.end_of.ensures.setting c.end_of.ensures.side (λ g s. length g.tag ≤ 32) c.registry.ensures.tag
