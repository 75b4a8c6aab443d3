use Rattle.std.proofs.Common.{map, take}
use Rattle.std.specs.List.{flat_map}
use Rattle.idl_repeated_names.specs.Meeting.{Meets, method_named}
use Rattle.uno_entities.specs.Entities.{member_of}
use Rattle.idl_repeated_names.proofs.own.meet_members.Given as goal

abbrev pub invariant-loop-member : goal.invariant-loop-member
invariant-loop-member l = Meets l.fn.twins l.twins (flat_map method_named (map member_of (take l.member-index l.members)))
