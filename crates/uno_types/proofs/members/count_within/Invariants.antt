use denote.Text.{Utf8}
use denote.Shadow.{shadow}
use Rattle.uno_types.proofs.MemberLemmas.{Counts}
use Rattle.uno_types.proofs.members.count_within.Given as goal

abbrev pub invariant-loop-left : goal.invariant-loop-left
invariant-loop-left l = shadow (Utf8 l.at) × Counts l.registry l.fn.name l.at l.levels l.left l.count

abbrev pub decreases-loop-left : goal.decreases-loop-left
decreases-loop-left l = l.left
