use Rattle.std.specs.Prelude.{◌≡◌, drop, length}
use Rattle.plan_model.specs.Evaluation.{same_values}
use Rattle.uno_values.specs.Values.{plains_of}
use Rattle.behaviour.proofs.comparison.+same.Given as goal

-- all so far are equal
abbrev pub invariant-same_values-loop-value : goal.invariant-same_values-loop-value
invariant-same_values-loop-value l = record {
  at : l.place ≡ l.value-index;
  as_many : length l.left ≡ length l.right;
  equal : same_values (plains_of (drop l.value-index l.left)) (plains_of (drop l.value-index l.right)) ≡ same_values (plains_of l.left) (plains_of l.right);
}
