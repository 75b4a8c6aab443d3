use Rattle.std.proofs.Common.{◌≡◌}
use Rattle.bridge_model.specs.Answers.{counts_of}
use Rattle.bridge_endpoint.specs.Telling.{counts_told}
use Rattle.bridge_world.specs.Joined.{end_at}
use Rattle.bridge_world.proofs.EndCalls.{seen_by}
use Rattle.bridge_world.proofs.ends.WorldEnds.counts.Goals as goal

pub returns : goal.returns
returns c = seen_by c.end_of.result.now (end_at c.args.self.now c.args.side) c.end_of.ensures.setting c.end_of.ensures.side (λ g s. counts_told c.counts.result ≡ counts_of g s) c.counts.ensures
