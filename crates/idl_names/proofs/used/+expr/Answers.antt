use Rattle.idl_trees.specs.Expressions.{operand_of}
use Rattle.idl_names.specs.Used.{all_used_of}
use Rattle.idl_names.proofs.UsedLemmas.{each_operand, no_operand}
use Rattle.idl_names.proofs.used.+expr.Goals as goal

pub add_operands-loop-operand-init : goal.add_operands-loop-operand-init
add_operands-loop-operand-init t c = no_operand (all_used_of c.args.used.now.items)

pub add_operands-loop-operand-preserved : goal.add_operands-loop-operand-preserved
add_operands-loop-operand-preserved t c =
    each_operand operand_of c.args.operands.now c.loop-operand.operand-index c.operand-item.result _ _ _ c.loop-operand-test.true c.operand-item.is c.loop-operand.invariant
    c.in_ok-add_operand.ensures
