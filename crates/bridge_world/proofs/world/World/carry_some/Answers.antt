use Rattle.std.proofs.Common.{take}
use Rattle.bridge_endpoint.specs.Journals.{setting_at, side_at}
use Rattle.bridge_model.specs.Answers.{next_cut}
use Rattle.bridge_world.specs.Joined.{end_at, on_the_way}
use Rattle.bridge_world.proofs.DeedLaws.{fed_so}
use Rattle.bridge_world.proofs.DoingLemmas.{ok_then}
use Rattle.bridge_world.proofs.RunsLaws.{keeps_fed}
use Rattle.bridge_world.proofs.world.World.carry_some.Goals as goal

pub returns-clause-carried : goal.returns-clause-carried
returns-clause-carried c =
    let e = end_at c.args.self.now c.args.side in
    let piece = take c.args.cut (on_the_way c.args.self.now c.args.side) in
    ok_then c.carried.result
    (λ room up some. fed_so (setting_at e) (side_at e) piece up some c.feed_first-fed.result e (end_at c.feed_first-fed.new.self c.args.side) c.feed_first-fed.ensures.answer c.feed_first-fed.ensures.unbroken room c.feed_first-fed.ensures.entered)
    c.carried.ensures

pub returns-clause-runs : goal.returns-clause-runs
returns-clause-runs c =
    let e = end_at c.args.self.now c.args.side in
    let piece = take c.args.cut (on_the_way c.args.self.now c.args.side) in
    keeps_fed c.feed_first-fed.result (next_cut (side_at e) piece) e (end_at c.feed_first-fed.new.self c.args.side) c.feed_first-fed.ensures.entered
