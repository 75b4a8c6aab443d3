use Rattle.std.proofs.Common.{◌≡◌, ◌<◌, true, false, length}
use Rattle.grammar_model.specs.Readings.{next, one}
use Rattle.idl_model.specs.Grammar.{of_marks, sign_marks}
use Rattle.idl_model.specs.GrammarReading.{is_mark_of}
use Rattle.idl_trees.specs.Expressions.{sign_of}
use Rattle.idl_parse.proofs.Loops.{starts_empty, one_more, ended, fails, handed_over}
use Rattle.idl_parse.proofs.parser.Parser.signs.Goals as goal

pub loop-self-init : goal.loop-self-init
loop-self-init c =
    starts_empty (is_mark_of sign_marks) (one (λ t. of_marks sign_marks t.word)) sign_of c.new-signs.result.items c.args.self.now c.new-signs.ensures.items

pub loop-self-preserved : goal.loop-self-preserved
loop-self-preserved c =
    let on : true ≡ is_mark_of sign_marks (next c.loop-self.self) = c.loop-self-test.ensures.is in
    one_more (is_mark_of sign_marks) (one (λ t. of_marks sign_marks t.word)) sign_of _ c.loop-self.signs.items _ c.in_ok-one.one c.args.self.now
    c.loop-self.self c.sign.new.self
    c.loop-self.invariant on c.in_ok-one.ensures.gives c.in_ok-one.ensures.shorter c.in_ok-push.ensures.items

pub returns-in_err-one-clause-gives : goal.returns-in_err-one-clause-gives
returns-in_err-one-clause-gives c =
    let on : true ≡ is_mark_of sign_marks (next c.loop-self.self) = c.loop-self-test.ensures.is in
    let some : 0 < length c.loop-self.self = c.loop-self-test.ensures.some in
    handed_over _ c.from_residual.result c.in_err-one.field-0.0 _ _ c.from_residual.ensures
    (fails (is_mark_of sign_marks) (one (λ t. of_marks sign_marks t.word)) _ _ c.args.self.now c.loop-self.self _ c.loop-self.invariant on some
    c.in_err-one.ensures.gives)

pub returns-clause-gives : goal.returns-clause-gives
returns-clause-gives c =
    let off : false ≡ is_mark_of sign_marks (next c.loop-self.self) = c.loop-self-test.ensures.is in
    ended (is_mark_of sign_marks) (one (λ t. of_marks sign_marks t.word)) _ _ c.args.self.now c.loop-self.self c.loop-self.invariant off
