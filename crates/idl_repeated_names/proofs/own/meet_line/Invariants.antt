use Rattle.std.proofs.Common.{map, take}
use Rattle.idl_repeated_names.specs.Meeting.{Meets, at_id}
use Rattle.idl_trees.specs.Names.{id_of}
use Rattle.idl_repeated_names.proofs.own.meet_line.Given as goal

abbrev pub invariant-loop-name : goal.invariant-loop-name
invariant-loop-name l = Meets l.fn.twins l.twins (map at_id (map id_of (take l.name-index l.names)))
