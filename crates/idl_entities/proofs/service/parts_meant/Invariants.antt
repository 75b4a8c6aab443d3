use Rattle.std.proofs.Common.{◌≡◌, map, take}
use Rattle.idl_entities.specs.Telling.{parts_told}
use Rattle.idl_trees.specs.Members.{service_member_of}
use Rattle.uno_entities.specs.Entities.{part_of}
use Rattle.idl_entities.proofs.service.parts_meant.Given as goal

abbrev pub invariant-loop-member : goal.invariant-loop-member
invariant-loop-member g l = map part_of l.parts.items ≡ parts_told (g.M.Meanings.telling l.meanings) (map service_member_of (take l.member-index l.members))
