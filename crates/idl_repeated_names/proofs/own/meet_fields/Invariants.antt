use Rattle.std.proofs.Common.{map, take}
use Rattle.std.specs.List.{flat_map}
use Rattle.idl_repeated_names.specs.Meeting.{Meets, line_named}
use Rattle.idl_trees.specs.Members.{fields_of}
use Rattle.idl_repeated_names.proofs.own.meet_fields.Given as goal

abbrev pub invariant-loop-line : goal.invariant-loop-line
invariant-loop-line l = Meets l.fn.twins l.twins (flat_map line_named (map fields_of (take l.line-index l.fields)))
