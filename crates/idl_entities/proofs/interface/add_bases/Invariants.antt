use Rattle.std.proofs.Common.{◌≡◌, ◌++◌, map, take}
use Rattle.std.specs.List.{filter_map}
use Rattle.idl_entities.specs.Telling.{base_told}
use Rattle.idl_trees.specs.Members.{interface_member_of}
use Rattle.uno_entities.specs.Entities.{base_of}
use Rattle.idl_entities.proofs.interface.add_bases.Given as goal

abbrev pub invariant-loop-member : goal.invariant-loop-member
invariant-loop-member g l = map base_of l.bases.items
    ≡ map base_of l.fn.bases.items ++ filter_map (base_told (g.M.Meanings.telling l.meanings)) (map interface_member_of (take l.member-index l.members))
