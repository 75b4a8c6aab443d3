use Rattle.std.proofs.Common.{map, take}
use Rattle.idl_repeated_names.specs.Meeting.{Asks, arguments_named}
use Rattle.idl_trees.specs.Members.{constructor_of}
use Rattle.idl_repeated_names.proofs.lists.ask_each_constructor.Given as goal

abbrev pub invariant-loop-constructor : goal.invariant-loop-constructor
invariant-loop-constructor l = Asks l.fn.twins l.twins (map arguments_named (map constructor_of (take l.constructor-index l.constructors)))
