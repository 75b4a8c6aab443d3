use Rattle.std.proofs.Common.{◌≡◌, ◌<◌, ◌-◌, true, false, length}
use Rattle.grammar_model.specs.Readings.{next, ◌&◌}
use Rattle.idl_model.specs.GrammarReading.{group_at}
use Rattle.idl_trees.specs.Expressions.{operand_of}
use Rattle.idl_parse.specs.Levels.{begins_operator, operator, within_levels}
use Rattle.idl_parse.proofs.Loops.{starts_empty, one_more, ended, fails, handed_over}
use Rattle.idl_parse.proofs.parser.Parser.+expr.Goals as goal

pub operands-loop-self-init : goal.operands-loop-self-init
operands-loop-self-init t c =
    starts_empty (begins_operator (5 - c.args.levels)) (operator (5 - c.args.levels) & within_levels c.args.levels (group_at c.args.depth)) operand_of
    c.new-operands.result.items
    c.args.self.now c.new-operands.ensures.items

pub operands-loop-self-preserved : goal.operands-loop-self-preserved
operands-loop-self-preserved t c =
    let on : true ≡ begins_operator (5 - c.args.levels) (next c.loop-self.self) = c.loop-self-test.ensures.is in
    one_more (begins_operator (5 - c.args.levels)) (operator (5 - c.args.levels) & within_levels c.args.levels (group_at c.args.depth)) operand_of _
    c.loop-self.operands.items _
    c.in_ok-one.one c.args.self.now c.loop-self.self c.operand.new.self c.loop-self.invariant on c.in_ok-one.ensures.gives c.in_ok-one.ensures.shorter
    c.in_ok-push.ensures.items

pub operands-returns-in_err-one-clause-gives : goal.operands-returns-in_err-one-clause-gives
operands-returns-in_err-one-clause-gives t c =
    let on : true ≡ begins_operator (5 - c.args.levels) (next c.loop-self.self) = c.loop-self-test.ensures.is in
    let some : 0 < length c.loop-self.self = c.loop-self-test.ensures.some in
    handed_over _ c.from_residual.result c.in_err-one.field-0.0 _ _ c.from_residual.ensures
    (fails (begins_operator (5 - c.args.levels)) (operator (5 - c.args.levels) & within_levels c.args.levels (group_at c.args.depth)) _ _ c.args.self.now
    c.loop-self.self _
    c.loop-self.invariant on some c.in_err-one.ensures.gives)

pub operands-returns-clause-gives : goal.operands-returns-clause-gives
operands-returns-clause-gives t c =
    let off : false ≡ begins_operator (5 - c.args.levels) (next c.loop-self.self) = c.loop-self-test.ensures.is in
    ended (begins_operator (5 - c.args.levels)) (operator (5 - c.args.levels) & within_levels c.args.levels (group_at c.args.depth)) _ _ c.args.self.now
    c.loop-self.self
    c.loop-self.invariant off
