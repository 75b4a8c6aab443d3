use Rattle.std.specs.Prelude.{◌≡◌, map, take}
use Rattle.uno_entities.specs.Entities.{member_of}
use Rattle.uno_entities.proofs.entity_copies.copy_members.Given as goal

abbrev pub invariant-loop-member : goal.invariant-loop-member
invariant-loop-member l = map member_of l.copies.items ≡ map member_of (take l.member-index l.members)
