-- Runs of several parts: functions behind `get:` or `set:`, and types of two words.
use Rattle.std.specs.Prelude.{ℕ, ◌==◌, ◌++◌, List, [], ◌∷◌, take, drop, Option, None, Some, if◌then◌else◌}
use Rattle.uno_model.specs.Names.{goes_on_identifier}
use Rattle.plan_reading_model.specs.Parts.{run, joined, is_accessor_front, is_second_word}

abbrev pub function_run : List ℕ → List ℕ × List ℕ
function_run bytes =
    if is_accessor_front (take 4 bytes) then joined (take 4 bytes) (run goes_on_identifier (drop 4 bytes)) else run goes_on_identifier bytes

-- the second word of an unsigned type behind a blank, where it stands there
abbrev pub second_in : List ℕ × List ℕ → Option (List ℕ × List ℕ)
second_in x = if is_second_word x.0 then Some x else None

unfoldable pub second_at : List ℕ → Option (List ℕ × List ℕ)
second_at [] = None
second_at (c ∷ cs) = if c == 32 then second_in (run goes_on_identifier cs) else None

-- a first word and what stands behind it, with the second word where it stands there
abbrev pub with_second_at : List ℕ × List ℕ → Option (List ℕ × List ℕ) → List ℕ × List ℕ
with_second_at first None = first
with_second_at first (Some x) = (first.0 ++ (32 ∷ x.0), x.1)
