use Rattle.std.specs.Prelude.{◌≡◌, map}
use Rattle.plan_model.specs.Frames.{nth_tid}
use Rattle.call_stacks.specs.Rows.{rows_of, stack_of, stacks_of}
use Rattle.call_stacks.proofs.stack.nth.Given as goal

abbrev pub invariant-loop-stack : goal.invariant-loop-stack
invariant-loop-stack l = nth_tid (map stack_of l.stack-iterator) l.left ≡ nth_tid (stacks_of (rows_of l.stacks.entries)) l.nth
