use Rattle.std.proofs.Common.{◌≡◌, length, map}
use Rattle.idl_model.specs.Values.{signs_applied}
use Rattle.idl_trees.specs.Expressions.{sign_of}
use Rattle.idl_const.proofs.apply.signed.Given as goal

abbrev pub invariant-loop-last : goal.invariant-loop-last
invariant-loop-last l = signs_applied (map sign_of l.left) l.value ≡ signs_applied (map sign_of l.signs) l.operand

abbrev pub decreases-loop-last : goal.decreases-loop-last
decreases-loop-last l = length l.left
