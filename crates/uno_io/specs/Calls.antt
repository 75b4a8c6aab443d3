-- The calls of a stream in memory: which are to fail, the number of the next, and how many failed.
use Rattle.std.specs.Prelude.{ℕ, ◌+◌, ◌-◌, ◌^◌, List, min}

pub record Calls : Type 0 where
  pub failing : List ℕ
  pub calls : ℕ
  pub faults : ℕ

-- one more, but for a count that stands at the last value of its type
abbrev pub raised : ℕ → ℕ
raised n = min (n + 1) (2 ^ 64 - 1)

-- after a call that did what was asked
abbrev pub passed : Calls → Calls
passed c = record { failing = c.failing; calls = raised c.calls; faults = c.faults }

-- after a call that failed
abbrev pub failed : Calls → Calls
failed c = record { failing = c.failing; calls = raised c.calls; faults = raised c.faults }
