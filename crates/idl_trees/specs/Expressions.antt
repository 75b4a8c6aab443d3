-- Expressions as plain trees.
use Rattle.std.specs.Prelude.{List, map}
use Rattle.idl_model.specs.Trees as plain
use Rattle.idl_trees.specs.Names.{path_of}
use Rattle.idl_trees.specs.declared.expr.Expr.{Expr}
use Rattle.idl_trees.specs.declared.expr.Expr.TheOpen.{Expr-F, Operand-F}
use Rattle.idl_trees.specs.declared.expr.Expr.TheFolds.{fold-Expr, fold-Operand}
use Rattle.idl_trees.specs.declared.expr.Operand.{Operand}
use Rattle.idl_trees.specs.declared.expr.Operator.{Operator}
use Rattle.idl_trees.specs.declared.expr.Operator.TheVariants as operator
use Rattle.idl_trees.specs.declared.expr.Sign.{Sign}
use Rattle.idl_trees.specs.declared.expr.Sign.TheVariants as sign

abbrev pub operator_of : Operator → plain.Operator
operator_of operator.BitOr = plain.bit_or
operator_of operator.BitXor = plain.bit_xor
operator_of operator.BitAnd = plain.bit_and
operator_of operator.ShiftLeft = plain.shift_left
operator_of operator.ShiftRight = plain.shift_right
operator_of operator.Plus = plain.plus
operator_of operator.Minus = plain.minus
operator_of operator.Times = plain.times
operator_of operator.DividedBy = plain.divided_by
operator_of operator.Remainder = plain.remainder

abbrev pub sign_of : Sign → plain.Sign
sign_of sign.Positive = plain.positive
sign_of sign.Negative = plain.negative
sign_of sign.Complement = plain.complement

-- one level, with the expressions inside already seen as their plain trees
abbrev pub expr_step : Expr-F plain.Expr (plain.Operator × plain.Expr) → plain.Expr
expr_step (Expr-F.Number n) = plain.number n
expr_step (Expr-F.Truth b) = plain.truth b
expr_step (Expr-F.Constant path) = plain.constant (path_of path)
expr_step (Expr-F.Parentheses e) = plain.parentheses e.value
expr_step (Expr-F.Signed signs e) = plain.signed (map sign_of signs.items) e.value
expr_step (Expr-F.Chain e es) = plain.chain e.value (plain.operands es.items)

abbrev pub operand_step : Operand-F plain.Expr (plain.Operator × plain.Expr) → plain.Operator × plain.Expr
operand_step o = (operator_of o.operator, o.value)

abbrev pub expr_of : Expr → plain.Expr
expr_of = fold-Expr plain.Expr (plain.Operator × plain.Expr) expr_step operand_step

abbrev pub operand_of : Operand → plain.Operator × plain.Expr
operand_of = fold-Operand plain.Expr (plain.Operator × plain.Expr) expr_step operand_step

-- what stands in a chain behind its first operand
abbrev pub operands_of : List Operand → plain.Operands
operands_of os = plain.operands (map operand_of os)
