use Rattle.std.proofs.Common.{◌≡◌}
use Rattle.std.specs.Option.{option_map}
use Rattle.bridge_model.specs.Answers.{ready_at}
use Rattle.bridge_world.specs.Joined.{end_at}
use Rattle.bridge_world.proofs.EndCalls.{seen_by}
use Rattle.bridge_world.proofs.ends.WorldEnds.ready.Goals as goal

pub returns : goal.returns
returns c = seen_by c.end_of.result.now (end_at c.args.self.now c.args.side) c.end_of.ensures.setting c.end_of.ensures.side (λ g s. option_map (λ tid. tid.now) c.ready.result ≡ ready_at s c.args.nth) c.ready.ensures
