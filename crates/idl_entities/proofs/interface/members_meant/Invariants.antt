use Rattle.std.proofs.Common.{◌≡◌, map, take}
use Rattle.idl_entities.specs.Telling.{members_told}
use Rattle.idl_trees.specs.Members.{interface_member_of}
use Rattle.uno_entities.specs.Entities.{member_of}
use Rattle.idl_entities.proofs.interface.members_meant.Given as goal

abbrev pub invariant-loop-member : goal.invariant-loop-member
invariant-loop-member g l = map member_of l.meant.items ≡ members_told (g.M.Meanings.telling l.meanings) (map interface_member_of (take l.member-index l.members))
