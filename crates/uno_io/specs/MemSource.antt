-- A source in memory: the bytes that it will give, in which pieces, and which of its calls fail.
use Rattle.std.specs.Prelude.{ℕ, List, length, drop, min}
use Rattle.uno_io.specs.Calls.{raised}
use Rattle.uno_io.specs.Sizes.{limit, turned}

pub record Supply : Type 0 where
  -- the bytes that were not given yet
  pub left : List ℕ
  -- the greatest lengths of the next pieces, round and round
  pub sizes : List ℕ
  -- the numbers of the calls that fail
  pub failing : List ℕ
  -- the number of the next call
  pub calls : ℕ
  -- how often it has failed
  pub faults : ℕ

-- a source that was not read yet
abbrev pub fresh : List ℕ → List ℕ → List ℕ → Supply
fresh bytes sizes failing = record { left = bytes; sizes = sizes; failing = failing; calls = 0; faults = 0 }

-- how long the next piece is: as long as its size, the room for it and what is left allow
abbrev pub piece_len : Supply → ℕ → ℕ
piece_len s room = min (limit s.sizes room) (length s.left)

-- after a piece of n bytes
abbrev pub gave : Supply → ℕ → Supply
gave s n = record { left = drop n s.left; sizes = turned s.sizes; failing = s.failing; calls = raised s.calls; faults = s.faults }

-- after a call that failed: no byte and no size is used up
abbrev pub missed : Supply → Supply
missed s = record { left = s.left; sizes = s.sizes; failing = s.failing; calls = raised s.calls; faults = raised s.faults }
