use Rattle.std.proofs.Common.{◌≡◌, ◌+◌, ◌-◌, ◌^◌, ◌≤◌, min, map, drop}
use Rattle.uno_entities.specs.Counts.{functions_in}
use Rattle.uno_entities.specs.Entities.{member_of}
use Rattle.uno_entities.proofs.functions.functions_of_members.Given as goal

abbrev pub invariant-loop-member : goal.invariant-loop-member
invariant-loop-member l =
    (min (l.total + functions_in (map member_of (drop l.member-index l.members))) (2 ^ 64 - 1) ≡ min (functions_in (map member_of l.members)) (2 ^ 64 - 1)) × (l.total ≤ 2 ^ 64 - 1)
