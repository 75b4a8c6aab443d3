use Rattle.std.proofs.Common.{◌+◌, ◌-◌, ◌*◌, length, map}
use Rattle.grammar_model.specs.Readings.{many, ◌&◌}
use Rattle.idl_model.specs.GrammarReading.{group_at}
use Rattle.idl_trees.specs.Expressions.{operand_of}
use Rattle.idl_parse.specs.Levels.{begins_operator, operator, within_levels}
use Rattle.idl_parse.proofs.Loops.{Comes}
use Rattle.idl_parse.proofs.parser.Parser.+expr.Given as goal

-- an expression in parentheses is one parenthesis further in; of the others each calls those behind it
abbrev pub decreases-chain : goal.decreases-chain
decreases-chain l = 32 * l.depth + 4 * l.levels + 4

abbrev pub decreases-operands : goal.decreases-operands
decreases-operands l = 32 * l.depth + 4 * l.levels + 6

abbrev pub decreases-operand : goal.decreases-operand
decreases-operand l = 32 * l.depth + 4 * l.levels + 5

abbrev pub decreases-signed : goal.decreases-signed
decreases-signed l = 32 * l.depth + 3

abbrev pub decreases-atom : goal.decreases-atom
decreases-atom l = 32 * l.depth + 2

abbrev pub decreases-parentheses : goal.decreases-parentheses
decreases-parentheses l = 32 * l.depth + 1

abbrev pub decreases-group : goal.decreases-group
decreases-group l = 32 * l.depth

abbrev pub invariant-operands-loop-self : goal.invariant-operands-loop-self
invariant-operands-loop-self l =
    let begins = begins_operator (5 - l.levels) in
    let item = operator (5 - l.levels) & within_levels l.levels (group_at l.depth) in
    Comes begins item (many begins item l.fn.self) (map operand_of l.operands.items) l.fn.self l.self

abbrev pub decreases-operands-loop-self : goal.decreases-operands-loop-self
decreases-operands-loop-self l = length l.self
