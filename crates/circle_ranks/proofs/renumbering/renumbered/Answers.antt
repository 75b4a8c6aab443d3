use Rattle.std.proofs.Common.{◌∙◌, get_or}
use Rattle.std.proofs.lemmas.List.{get_or_default}
use Rattle.circle_ranks.proofs.LoopLemmas.{no_targets, targets_more}
use Rattle.circle_ranks.proofs.renumbering.renumbered.Goals as goal

pub loop-target-init : goal.loop-target-init
loop-target-init c = c.new-row.ensures.items ∙ no_targets c.args.numbers.now

pub loop-target-preserved : goal.loop-target-preserved
loop-target-preserved c =
    let i = c.loop-target.target-index in
    let target = get_or c.args.targets.now i 0 in
    targets_more c.args.numbers.now c.args.targets.now c.loop-target.row.items c.add_number.new.row.items i target
    c.loop-target-test.true (get_or_default c.args.targets.now i 0 target c.loop-target-test.true) c.loop-target.invariant c.in_ok-add_number.ensures
