use Rattle.std.proofs.Common.{◌≡◌, ◌-◌, length}
use Rattle.plan_reading_model.specs.Parts.{paths_on}
use Rattle.plan_lines.specs.Fronts.{behind_paths}
use Rattle.plan_lines.proofs.blocks.push_paths.Given as goal

abbrev pub invariant-loop : goal.invariant-loop
invariant-loop l = behind_paths l.paths.items (paths_on (length l.bytes - l.counter) l.rest) ≡ behind_paths l.fn.paths.items (paths_on (length l.bytes) l.bytes)
