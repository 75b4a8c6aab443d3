use Rattle.std.proofs.Common.{map, take}
use Rattle.std.specs.List.{flat_map}
use Rattle.idl_repeated_names.specs.Meeting.{Meets, calls_named}
use Rattle.idl_trees.specs.Members.{interface_member_of}
use Rattle.idl_repeated_names.proofs.own.meet_methods.Given as goal

abbrev pub invariant-loop-member : goal.invariant-loop-member
invariant-loop-member l = Meets l.fn.twins l.twins (flat_map calls_named (map interface_member_of (take l.member-index l.members)))
