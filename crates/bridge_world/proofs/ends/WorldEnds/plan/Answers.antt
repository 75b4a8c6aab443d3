use Rattle.std.proofs.Common.{◌≡◌}
use Rattle.plan_types.specs.Plans.{plan_of}
use Rattle.bridge_world.specs.Joined.{end_at}
use Rattle.bridge_world.proofs.EndCalls.{seen_by}
use Rattle.bridge_world.proofs.ends.WorldEnds.plan.Goals as goal

pub returns : goal.returns
returns c = seen_by c.end_of.result.now (end_at c.args.self.now c.args.side) c.end_of.ensures.setting c.end_of.ensures.side (λ g s. plan_of c.plan.result.now ≡ g.plan) c.plan.ensures
