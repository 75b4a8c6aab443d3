-- The streams of the process, and what a contract sees of them.
use Rattle.std.specs.Prelude.{ℕ, Bool, List, Option}

-- what its reader has left, where the reader tells, and how often it failed
pub record Inflow : Type 0 where
  pub left : Option (List ℕ)
  pub faults : ℕ

-- what its writer holds, where the writer tells, how often it failed, and whether it was closed
pub record Outflow : Type 0 where
  pub taken : Option (List ℕ)
  pub faults : ℕ
  pub closed : Bool
