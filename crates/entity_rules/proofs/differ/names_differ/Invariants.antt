use Rattle.entity_rules.proofs.Different.{Differ}
use Rattle.entity_rules.proofs.differ.names_differ.Given as goal

abbrev pub invariant-loop-left : goal.invariant-loop-left
invariant-loop-left l = Differ l.names l.items l.left

abbrev pub decreases-loop-left : goal.decreases-loop-left
decreases-loop-left l = l.left
