use Rattle.std.proofs.Common.{map, take}
use Rattle.idl_repeated_names.specs.Meeting.{Asks, parameters_named}
use Rattle.idl_trees.specs.Members.{interface_member_of}
use Rattle.idl_repeated_names.proofs.lists.ask_methods.Given as goal

abbrev pub invariant-loop-member : goal.invariant-loop-member
invariant-loop-member l = Asks l.fn.twins l.twins (map parameters_named (map interface_member_of (take l.member-index l.members)))
