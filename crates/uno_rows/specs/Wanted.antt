-- What must come of the runs of a row.
use Rattle.std.specs.Prelude.{ℕ, List, Bool, ◌==◌, ◌&&◌, bytes_eq}
use Rattle.uno_rows.specs.declared.runs.outcome.Outcome.{Outcome}
use Rattle.uno_rows.specs.declared.runs.row.Row.{Row}

-- whether the status, what is left of the input, and what the run wrote on the errors and the output, are those of the row, whose output has these bytes
abbrev pub is_wanted : Row → (bytes : List ℕ) → Outcome → Bool
is_wanted row bytes outcome =
    outcome.status == row.status
    && (outcome.left == row.left
    && (bytes_eq outcome.errors.now row.errors.now
    && bytes_eq outcome.output.now bytes))
