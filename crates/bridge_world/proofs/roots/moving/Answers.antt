use Rattle.std.proofs.Common.{◌≤◌, ◌∙◌, arith, length, sym}
use Rattle.bridge_endpoint.specs.Journals.{setting_at, side_at}
use Rattle.bridge_world.proofs.SteppingLemmas.{all_counted, as_counted, more_counted}
use Rattle.bridge_world.proofs.roots.moving.Goals as goal

pub loop-run-preserved-then-not-moves : goal.loop-run-preserved-then-not-moves
loop-run-preserved-then-not-moves c =
    record {
      counted = as_counted (setting_at c.args.end.now) (side_at c.args.end.now) c.args.runs.now c.loop-run.run-index c.run-item.result c.loop-run-test.true c.run-item.is c.loop-run.count _ (sym c.moves.ensures ∙ c.if-not-moves.true) c.loop-run.invariant.counted;
      within = c.loop-run.invariant.within;
    }

pub loop-run-preserved : goal.loop-run-preserved
loop-run-preserved c =
    record {
      counted = more_counted (setting_at c.args.end.now) (side_at c.args.end.now) c.args.runs.now c.loop-run.run-index c.run-item.result c.loop-run-test.true c.run-item.is c.loop-run.count c.saturating_add-count.result _ (sym c.moves.ensures ∙ c.if-not-moves.false) c.saturating_add-count.ensures c.loop-run.invariant.counted;
      within = omega (arith, c.saturating_add-count.ensures);
    }

pub returns : goal.returns
returns c =
    let end : length c.args.runs.now ≤ c.loop-run.run-index = omega (arith, c.loop-run-test.false) in
    all_counted (setting_at c.args.end.now) (side_at c.args.end.now) c.args.runs.now c.loop-run.run-index end c.loop-run.count _ c.loop-run.invariant.within c.loop-run.invariant.counted
