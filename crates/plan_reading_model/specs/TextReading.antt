-- What comes of a text, line by line: its plan, or the first line that is wrong and why.
use Rattle.std.specs.Prelude.{ℕ, Bool, true, false, List, [], ◌∷◌, length, Option, None, Some, Result, Ok, Err}
use Rattle.uno_model.specs.Entities.{Entity}
use Rattle.plan_model.specs.Building.{behind}
use Rattle.plan_model.specs.Contexts.{Context, opening}
use Rattle.plan_model.specs.Keeps.{reason_of, at_end, is_too_large, Wrong}
use Rattle.plan_model.specs.Lines.{Line}
use Rattle.plan_model.specs.Plans.{Plan}
use Rattle.plan_model.specs.PlanText.{Numbered, begins_plan, lines_behind, lines_of}
use Rattle.plan_model.specs.declared.line_reason.LineReason.{LineReason}
use Rattle.plan_model.specs.declared.line_reason.LineReason.TheVariants.{Form, Limit}
use Rattle.plan_reading_model.specs.LineReading.{line_at}

abbrev pub wrong : ℕ → LineReason → Result Plan Wrong
wrong n why = Err (record { line = n; reason = why })

abbrev pub or_behind : ℕ → Option LineReason → Result Plan Wrong → Result Plan Wrong
or_behind n (Some why) out = wrong n why
or_behind n None out = out

-- a text that says no line is wrong; a line that is not wrong hands on to those behind it
abbrev pub of_line : List Entity → Context → ℕ → Option Line → (Line → Result Plan Wrong) → Result Plan Wrong
of_line reg c n None later = wrong n Form
of_line reg c n (Some l) later = or_behind n (reason_of reg c l) (later l)

-- what comes of the lines that are left of a text whose last line has this number
unfoldable pub comes : List Entity → ℕ → Context → List Numbered → Result Plan Wrong
comes reg last c [] = at_end last c
comes reg last c (n ∷ ns) = of_line reg c n.number (line_at reg n.text) (λ l. comes reg last (behind reg l c) ns)

abbrev pub verdict_by : List Entity → (too_large begins : Bool) → List (List ℕ) → Result Plan Wrong
verdict_by reg true begins ls = wrong 0 Limit
verdict_by reg false false ls = wrong 1 Form
verdict_by reg false true ls = comes reg (length ls) opening (lines_behind ls)

-- what comes of a text
unfoldable pub verdict : List Entity → List ℕ → Result Plan Wrong
verdict reg text = verdict_by reg (is_too_large text) (begins_plan (lines_of text)) (lines_of text)
