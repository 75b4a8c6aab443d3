use Rattle.std.proofs.Common.{codes, length, map}
use Rattle.grammar_model.specs.Loops.{with_front}
use Rattle.grammar_model.specs.Readings.{many, ◌<&◌}
use Rattle.idl_model.specs.GrammarReading.{flag, is_one_of, mark}
use Rattle.idl_trees.specs.Members.{flag_of}
use Rattle.idl_parse.specs.Flags.{flags_beside}
use Rattle.idl_parse.proofs.Loops.{Comes}
use Rattle.idl_parse.proofs.parser.Parser.flags_before.Given as goal

abbrev pub invariant-loop-flagged : goal.invariant-loop-flagged
invariant-loop-flagged l =
    let table = flags_beside l.flagged in
    let item = flag table <& mark (codes ",") in
    Comes (is_one_of table) item (with_front (map flag_of l.fn.all.items) (many (is_one_of table) item l.fn.self)) (map flag_of l.all.items) l.fn.self l.self

abbrev pub decreases-loop-flagged : goal.decreases-loop-flagged
decreases-loop-flagged l = length l.self
