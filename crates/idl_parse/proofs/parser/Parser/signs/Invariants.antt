use Rattle.std.proofs.Common.{length, map}
use Rattle.grammar_model.specs.Readings.{many, one}
use Rattle.idl_model.specs.Grammar.{of_marks, sign_marks}
use Rattle.idl_model.specs.GrammarReading.{is_mark_of}
use Rattle.idl_trees.specs.Expressions.{sign_of}
use Rattle.idl_parse.proofs.Loops.{Comes}
use Rattle.idl_parse.proofs.parser.Parser.signs.Given as goal

abbrev pub invariant-loop-self : goal.invariant-loop-self
invariant-loop-self l =
    let sign = one (λ t. of_marks sign_marks t.word) in
    Comes (is_mark_of sign_marks) sign (many (is_mark_of sign_marks) sign l.fn.self) (map sign_of l.signs.items) l.fn.self l.self

abbrev pub decreases-loop-self : goal.decreases-loop-self
decreases-loop-self l = length l.self
