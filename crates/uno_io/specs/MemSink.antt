-- A sink in memory: what it took, the room that it has, and which of its calls fail.
use Rattle.std.specs.Prelude.{◌≡◌, ℕ, ◌+◌, ◌<◌, ◌≤◌, ◌⊎◌, Bool, true, false, List, [], ◌++◌, length, Contains}
use Rattle.uno_io.specs.Calls.{raised}

pub record Store : Type 0 where
  pub taken : List ℕ
  -- how many bytes it can hold without asking for memory
  pub room : ℕ
  -- the numbers of the calls that fail
  pub failing : List ℕ
  -- the number of the next call
  pub calls : ℕ
  -- how often it has failed
  pub faults : ℕ
  pub closed : Bool

-- a sink that was not written yet
abbrev pub empty : ℕ → List ℕ → Store
empty room failing = record { taken = []; room = room; failing = failing; calls = 0; faults = 0; closed = false }

-- why a write of n bytes may fail: it is listed, the sink is closed, or it wants more than the room
abbrev pub MayFail : Store → ℕ → Type 0
MayFail s n = Contains s.failing s.calls ⊎ ((s.closed ≡ true) ⊎ (s.room < length s.taken + n))

-- after a write of the piece
pub record Took (old new : Store) (piece : List ℕ) : Type 0 where
  pub taken : new.taken ≡ old.taken ++ piece
  pub room : old.room ≤ new.room
  pub failing : new.failing ≡ old.failing
  pub calls : new.calls ≡ raised old.calls
  pub faults : new.faults ≡ old.faults
  pub closed : new.closed ≡ old.closed

-- after a write that failed
pub record Refused (old new : Store) : Type 0 where
  pub taken : new.taken ≡ old.taken
  pub room : old.room ≤ new.room
  pub failing : new.failing ≡ old.failing
  pub calls : new.calls ≡ raised old.calls
  pub faults : new.faults ≡ raised old.faults
  pub closed : new.closed ≡ old.closed
