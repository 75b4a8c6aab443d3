use Rattle.std.proofs.Common.{◌∙◌, ap}
use Rattle.bridge_endpoint.specs.Entering.{draining}
use Rattle.bridge_world.specs.Joined.{end_at}
use Rattle.bridge_world.proofs.RunsLaws.{keeps_drained, keeps_lost}
use Rattle.bridge_world.proofs.world.World.drain_some.Goals as goal

pub returns-in_err-drain-clause-runs : goal.returns-in_err-drain-clause-runs
returns-in_err-drain-clause-runs c = keeps_lost (end_at c.args.self.now c.args.side) (end_at c.drain.new.self c.args.side) c.in_err-drain.ensures.lost

pub returns-clause-drained : goal.returns-clause-drained
returns-clause-drained c = c.in_ok-drain.ensures.entered ∙ ap (λ bytes. draining bytes (end_at c.args.self.now c.args.side)) c.in_ok-drain.ensures.bytes

pub returns-clause-runs : goal.returns-clause-runs
returns-clause-runs c = keeps_drained c.in_ok-drain.field-0.items (end_at c.args.self.now c.args.side) (end_at c.drain.new.self c.args.side) c.in_ok-drain.ensures.entered
