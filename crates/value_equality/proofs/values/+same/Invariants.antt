use Rattle.std.specs.Prelude.{◌≡◌, ◌↔◌, drop, length}
use Rattle.uno_values.specs.Values.{plains_of}
use Rattle.value_equality.proofs.values.+same.Given as goal

-- all so far are equal
abbrev pub invariant-same_values-loop-x : goal.invariant-same_values-loop-x
invariant-same_values-loop-x l = record {
  at : l.place ≡ l.x-index;
  as_many : length l.xs ≡ length l.ys;
  both : plains_of (drop l.x-index l.xs) ≡ plains_of (drop l.x-index l.ys) ↔ plains_of l.xs ≡ plains_of l.ys;
}
