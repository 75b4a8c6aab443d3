use Rattle.std.specs.Prelude.{◌≡◌}
use Rattle.std.specs.Vec.{vec_len}
use Rattle.behaviour.specs.Roots.{run_of}
use Rattle.root_runs.proofs.loose.open_loose.Given as goal

-- the root is as it was
abbrev pub invariant-loop-alloc : goal.invariant-loop-alloc
invariant-loop-alloc l = record { same : run_of l.run ≡ run_of l.fn.run; root : l.run.root ≡ l.fn.run.root }

abbrev pub decreases-loop-alloc : goal.decreases-loop-alloc
decreases-loop-alloc l = vec_len l.run.loose
