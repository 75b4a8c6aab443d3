use Rattle.std.proofs.Common.{◌≡◌, ◌≤◌, ◌++◌, string_bytes}
use Rattle.std.specs.List.{flat_map, range_with_len}
use Rattle.report_model.specs.Drills.{thread_text}
use Rattle.uno_run.proofs.drill_plans.push_threads.Given as goal

abbrev pub invariant-loop-thread : goal.invariant-loop-thread
invariant-loop-thread l = (string_bytes l.text ≡ string_bytes l.fn.text ++ flat_map (thread_text l.rounds l.seed) (range_with_len 0 l.thread)) × (l.thread ≤ 4)
