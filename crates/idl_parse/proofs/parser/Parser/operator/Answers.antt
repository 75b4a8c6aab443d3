use Rattle.std.proofs.Common.{sym, subst}
use Rattle.idl_trees.specs.Expressions.{operator_of}
use Rattle.idl_parse.specs.Reading.{Gives}
use Rattle.idl_parse.proofs.ExprLemmas.{shift_read, mark_read}
use Rattle.idl_parse.proofs.parser.Parser.operator.Goals as goal

pub returns-then-level-eq-SHIFTS-clause-gives : goal.returns-then-level-eq-SHIFTS-clause-gives
returns-then-level-eq-SHIFTS-clause-gives c =
    subst (λ read. Gives operator_of c.shift.result c.shift.new.self read) (sym (shift_read c.args.level c.args.self.now c.if-level-eq-SHIFTS.true))
    c.shift.ensures.gives

pub returns-clause-gives : goal.returns-clause-gives
returns-clause-gives c =
    subst (λ read. Gives operator_of c.one_mark.result c.one_mark.new.self read) (sym (mark_read c.args.level c.args.self.now c.if-level-eq-SHIFTS.false))
    c.one_mark.ensures.gives
