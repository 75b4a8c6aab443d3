use Rattle.bridge_endpoint.specs.Journals.{side_at}
use Rattle.bridge_model.specs.Steps.{is_no_memory}
use Rattle.bridge_world.specs.Joined.{end_at}
use Rattle.bridge_world.proofs.RunsLaws.{keeps_where, other_stays}
use Rattle.bridge_world.proofs.world.World.lacks_memory.Goals as goal

pub returns-clause-runs : goal.returns-clause-runs
returns-clause-runs c =
    let e = end_at c.args.self.now c.args.side in
    keeps_where (is_no_memory (side_at e).cause) e (end_at c.run_out.new.self c.args.side) c.run_out.ensures.entered c.run_out.ensures.kept

pub returns-clause-other : goal.returns-clause-other
returns-clause-other c = other_stays c.args.side c.args.self.now c.run_out.new.self c.run_out.ensures.history
