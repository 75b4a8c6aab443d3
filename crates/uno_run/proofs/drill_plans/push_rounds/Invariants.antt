use Rattle.std.proofs.Common.{◌≡◌, ◌≤◌, ◌++◌, string_bytes}
use Rattle.std.specs.List.{flat_map, range_with_len}
use Rattle.report_model.specs.Drills.{round_in}
use Rattle.uno_run.proofs.drill_plans.push_rounds.Given as goal

abbrev pub invariant-loop-round : goal.invariant-loop-round
invariant-loop-round l = (string_bytes l.text ≡ string_bytes l.fn.text ++ flat_map (round_in l.seed l.thread) (range_with_len 0 l.round)) × (l.round ≤ l.rounds)
