use Rattle.std.proofs.Common.{◌≡◌, ◌++◌, drop, string_bytes}
use Rattle.std.specs.List.{flat_map}
use Rattle.report_model.specs.Reports.{line_text}
use Rattle.uno_report.proofs.report.push_lines.Given as goal

abbrev pub invariant-loop-line : goal.invariant-loop-line
invariant-loop-line l = string_bytes l.text ++ flat_map (line_text l.side_name) (drop l.line-index l.lines) ≡ string_bytes l.fn.text ++ flat_map (line_text l.side_name) l.lines
