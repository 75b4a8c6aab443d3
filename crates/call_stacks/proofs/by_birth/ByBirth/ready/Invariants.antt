use Rattle.std.specs.Prelude.{◌≡◌, ◌-◌, ◌^◌, ◌≤◌}
use Rattle.plan_model.specs.Frames.{nth_tid, ready}
use Rattle.call_stacks.specs.Rows.{rows_of, stacks_of}
use Rattle.call_stacks.proofs.ReadyLaws.{ready_from}
use Rattle.call_stacks.proofs.by_birth.ByBirth.ready.Given as goal

abbrev pub invariant-loop-birth : goal.invariant-loop-birth
invariant-loop-birth l =
    let rows = rows_of l.self-inside.entries.entries in
    record { same : nth_tid (ready_from l.from rows) l.left ≡ nth_tid (ready (stacks_of rows)) l.nth; within : l.from ≤ 2 ^ 64 - 1 }

abbrev pub decreases-loop-birth : goal.decreases-loop-birth
decreases-loop-birth l = 2 ^ 64 - l.from
