use Rattle.std.proofs.Common.{is_some, length, map}
use Rattle.grammar_model.specs.Readings.{many}
use Rattle.idl_model.specs.GrammarReading.{def}
use Rattle.idl_trees.specs.Trees.{def_of}
use Rattle.idl_parse.proofs.Loops.{Comes}
use Rattle.idl_parse.proofs.parser.Parser.tree.Given as goal

abbrev pub invariant-loop-self : goal.invariant-loop-self
invariant-loop-self l = Comes is_some (def 64 64 64) (many is_some (def 64 64 64) l.fn.self) (map def_of l.defs.items) l.fn.self l.self

abbrev pub decreases-loop-self : goal.decreases-loop-self
decreases-loop-self l = length l.self
