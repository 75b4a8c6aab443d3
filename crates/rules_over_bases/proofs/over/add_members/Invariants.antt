use Rattle.std.proofs.Common.{take, true}
use Rattle.std.specs.List.{flat_map}
use Rattle.uno_entities.specs.Entities.{member_of}
use Rattle.rules_over_bases.specs.OwnNames.{names_of_member}
use Rattle.rules_over_bases.specs.Seen.{Sees}
use Rattle.rules_over_bases.proofs.over.add_members.Given as goal

abbrev pub invariant-loop-member : goal.invariant-loop-member
invariant-loop-member l = Sees l.fn.seen l.seen (flat_map (λ m. names_of_member (member_of m)) (take l.member-index l.members)) true
