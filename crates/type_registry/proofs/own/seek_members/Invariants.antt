use Rattle.std.specs.Prelude.{◌≡◌, ◌+◌, length, map, take}
use Rattle.std.specs.List.{flat_map}
use Rattle.uno_entities.specs.Entities.{member_of}
use Rattle.type_registry.specs.Own.{functions_in}
use Rattle.type_registry.proofs.own.seek_members.Given as goal

abbrev pub invariant-loop-member : goal.invariant-loop-member
invariant-loop-member l = l.number ≡ length (flat_map (functions_in l.group l.owner) (map member_of (take l.member-index l.members))) + l.left
