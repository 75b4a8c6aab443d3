use Rattle.std.proofs.Common.{codes, length, map}
use Rattle.grammar_model.specs.Loops.{with_front}
use Rattle.grammar_model.specs.Readings.{many, ◌&>◌}
use Rattle.idl_model.specs.GrammarReading.{is_mark, mark}
use Rattle.idl_parse.proofs.Loops.{Comes}
use Rattle.idl_parse.proofs.parser.Parser.others.Given as goal

abbrev pub invariant-loop-self : goal.invariant-loop-self
invariant-loop-self g l = Comes (is_mark (codes ",")) (mark (codes ",") &> g.R.Rule.reads)
    (with_front (map g.R.Rule.plain l.fn.all.items) (many (is_mark (codes ",")) (mark (codes ",") &> g.R.Rule.reads) l.fn.self))
    (map g.R.Rule.plain l.all.items) l.fn.self l.self

abbrev pub decreases-loop-self : goal.decreases-loop-self
decreases-loop-self g l = length l.self
