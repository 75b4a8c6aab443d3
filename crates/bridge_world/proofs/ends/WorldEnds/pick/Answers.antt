use Rattle.std.proofs.Common.{◌≡◌, IfOk}
use Rattle.std.specs.Option.{option_map}
use Rattle.bridge_model.specs.Answers.{pick}
use Rattle.plan_types.specs.Frames.{job_of}
use Rattle.bridge_world.specs.Joined.{end_at}
use Rattle.bridge_world.proofs.EndCalls.{seen_by}
use Rattle.bridge_world.proofs.ends.WorldEnds.pick.Goals as goal

pub returns : goal.returns
returns c = seen_by c.end_of.result.now (end_at c.args.self.now c.args.side) c.end_of.ensures.setting c.end_of.ensures.side (λ g s. IfOk c.pick.result (λ j. option_map job_of j ≡ pick g c.args.tid.now s)) c.pick.ensures
