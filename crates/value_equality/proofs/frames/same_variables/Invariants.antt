use Rattle.std.specs.Prelude.{◌≡◌, ◌↔◌, drop, length}
use Rattle.plan_types.specs.Frames.{variables_of}
use Rattle.value_equality.proofs.frames.same_variables.Given as goal

-- all so far are equal
abbrev pub invariant-loop-x : goal.invariant-loop-x
invariant-loop-x l = record {
  at : l.place ≡ l.x-index;
  as_many : length l.xs ≡ length l.ys;
  both : variables_of (drop l.x-index l.xs) ≡ variables_of (drop l.x-index l.ys) ↔ variables_of l.xs ≡ variables_of l.ys;
}
