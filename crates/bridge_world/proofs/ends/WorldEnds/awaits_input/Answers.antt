use Rattle.std.proofs.Common.{◌≡◌}
use Rattle.bridge_model.specs.Answers.{awaits_input}
use Rattle.bridge_world.specs.Joined.{end_at}
use Rattle.bridge_world.proofs.EndCalls.{seen_by}
use Rattle.bridge_world.proofs.ends.WorldEnds.awaits_input.Goals as goal

pub returns : goal.returns
returns c = seen_by c.end_of.result.now (end_at c.args.self.now c.args.side) c.end_of.ensures.setting c.end_of.ensures.side (λ g s. c.awaits_input.result ≡ awaits_input s) c.awaits_input.ensures
