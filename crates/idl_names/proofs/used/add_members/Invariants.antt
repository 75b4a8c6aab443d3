use Rattle.std.proofs.Common.{◌≡◌, ◌++◌, map, take}
use Rattle.std.specs.List.{flat_map}
use Rattle.idl_meaning_model.specs.Uses.{member_paths}
use Rattle.idl_trees.specs.Members.{interface_member_of}
use Rattle.idl_names.specs.Used.{all_used_of, entities_used}
use Rattle.idl_names.proofs.used.add_members.Given as goal

abbrev pub invariant-loop-member : goal.invariant-loop-member
invariant-loop-member l = all_used_of l.used.items ≡ all_used_of l.fn.used.items ++ entities_used (flat_map member_paths (map interface_member_of (take l.member-index l.members)))
