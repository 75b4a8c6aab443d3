use Rattle.std.specs.Prelude.{◌≡◌, ◌+◌, ◌≤◌, length, map, drop}
use Rattle.std.specs.Vec.{vec_capacity, vec_len}
use Rattle.behaviour.specs.Roots.{run_of}
use Rattle.bridge_model.specs.RootRuns.{puts_outs}
use Rattle.frame_variables.specs.Given.{left}
use Rattle.plan_types.specs.Expressions.{argument_of}
use Rattle.uno_values.specs.Values.{plain_of}
use Rattle.root_runs.specs.Keeping.{KeepsLines}
use Rattle.root_runs.proofs.outcomes.take_outs.Given as goal

-- what the other arguments put behind the first ones is what all put
abbrev pub invariant-loop-argument : goal.invariant-loop-argument
invariant-loop-argument l = record {
  room : vec_len l.run.loose + length l.arguments ≤ vec_capacity l.run.loose + l.argument-index;
  taken : puts_outs (map argument_of (drop l.argument-index l.arguments)) (left l.given) (run_of l.run) ≡ puts_outs (map argument_of l.arguments) (map plain_of l.fn.outs.items) (run_of l.fn.run);
  lines : KeepsLines l.fn.run l.run;
}
