use Rattle.std.proofs.Common.{◌≡◌, ◌++◌, drop, string_bytes}
use Rattle.std.specs.List.{flat_map}
use Rattle.behaviour.specs.Roots.{run_of}
use Rattle.report_model.specs.Reports.{root_text}
use Rattle.uno_report.proofs.report.push_roots.Given as goal

abbrev pub invariant-loop-run : goal.invariant-loop-run
invariant-loop-run l =
    string_bytes l.text ++ flat_map (λ r. root_text l.side_name (run_of r)) (drop l.run-index l.runs) ≡ string_bytes l.fn.text ++ flat_map (λ r. root_text l.side_name (run_of r)) l.runs
