use Rattle.std.proofs.Common.{◌+◌, ◌*◌, codes, length, map}
use Rattle.grammar_model.specs.Readings.{many}
use Rattle.idl_model.specs.GrammarReading.{def, is_open}
use Rattle.idl_trees.specs.Trees.{def_of}
use Rattle.idl_parse.proofs.Loops.{Comes}
use Rattle.idl_parse.proofs.parser.Parser.+def.Given as goal

abbrev pub decreases-def : goal.decreases-def
decreases-def l = 3 * l.modules + 2

abbrev pub decreases-defs : goal.decreases-defs
decreases-defs l = 3 * l.modules + 1

abbrev pub decreases-defs_within : goal.decreases-defs_within
decreases-defs_within l = 3 * l.modules + 3

abbrev pub invariant-defs_within-loop-self : goal.invariant-defs_within-loop-self
invariant-defs_within-loop-self l =
    let item = def 64 64 l.modules in
    Comes (is_open (codes "}")) item (many (is_open (codes "}")) item l.fn.self) (map def_of l.all.items) l.fn.self l.self

abbrev pub decreases-defs_within-loop-self : goal.decreases-defs_within-loop-self
decreases-defs_within-loop-self l = length l.self
