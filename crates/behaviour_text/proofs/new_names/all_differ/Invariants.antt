use Rattle.behaviour_text.proofs.Different.{Differ}
use Rattle.behaviour_text.proofs.new_names.all_differ.Given as goal

abbrev pub invariant-loop-left : goal.invariant-loop-left
invariant-loop-left l = Differ l.behind l.names l.left

abbrev pub decreases-loop-left : goal.decreases-loop-left
decreases-loop-left l = l.left
