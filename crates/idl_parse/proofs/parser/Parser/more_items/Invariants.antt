use Rattle.std.proofs.Common.{length, map}
use Rattle.idl_model.specs.GrammarReading.{item}
use Rattle.idl_trees.specs.Members.{item_of}
use Rattle.idl_parse.proofs.OtherLoops.{HasItems}
use Rattle.idl_parse.proofs.parser.Parser.more_items.Given as goal

abbrev pub invariant-loop-self : goal.invariant-loop-self
invariant-loop-self l = HasItems (item 64) (map item_of l.fn.items.items) l.fn.self (map item_of l.items.items) l.self

abbrev pub decreases-loop-self : goal.decreases-loop-self
decreases-loop-self l = length l.self
