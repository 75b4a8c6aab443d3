use Rattle.bridge_world.specs.Joined.{end_at}
use Rattle.bridge_world.proofs.RunsLaws.{keeps_applied}
use Rattle.bridge_world.proofs.world.World.apply_nth.Goals as goal

pub returns-in-Ok-clause-runs : goal.returns-in-Ok-clause-runs
returns-in-Ok-clause-runs c = keeps_applied c.apply.result c.in-Ok-Some.done.job.tid (end_at c.args.self.now c.args.side) (end_at c.apply.new.self c.args.side) c.apply.ensures.entered

pub returns-clause-runs : goal.returns-clause-runs
returns-clause-runs c = keeps_applied c.apply.result c.in-Ok-Some.done.job.tid (end_at c.args.self.now c.args.side) (end_at c.apply.new.self c.args.side) c.apply.ensures.entered
