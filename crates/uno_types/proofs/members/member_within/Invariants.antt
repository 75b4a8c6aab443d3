use denote.Text.{Utf8}
use denote.Shadow.{shadow}
use Rattle.uno_types.proofs.MemberLemmas.{Narrows}
use Rattle.uno_types.proofs.members.member_within.Given as goal

abbrev pub invariant-loop-left : goal.invariant-loop-left
invariant-loop-left l = shadow (Utf8 l.at) × Narrows l.registry l.fn.name l.at l.levels l.left l.end l.place

abbrev pub decreases-loop-left : goal.decreases-loop-left
decreases-loop-left l = l.left
