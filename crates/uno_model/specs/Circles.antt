-- Ways from node to node, and that none comes back to where it began.
use Rattle.std.specs.Prelude.{◌≡◌, ℕ, zero, suc, Bool, false, ◌⊎◌, List, Contains}
use Rattle.std.specs.List.{list_all}

-- the one leads to the other, by one step or more
pub data Leads {X : Type 0} (next : X → List X) : X → X → Type 0 where
  step : (a b : X) → Contains (next a) b → Leads next a b
  on : (a b c : X) → Contains (next a) b → Leads next b c → Leads next a c

-- no node leads back to itself
abbrev pub HasNoCircle : {X : Type 0} → (X → List X) → Type 0
HasNoCircle {X = X} next = (a : X) → Leads next a a → ⊥

-- every way on from a node is shorter than this
unfoldable pub ends_within : {X : Type 0} → (X → List X) → ℕ → X → Bool
ends_within next zero a = false
ends_within next (suc d) a = list_all (ends_within next d) (next a)

-- each node on the ways from here that leads anywhere is in the list
abbrev pub HasAll : {X : Type 0} → (X → List X) → List X → X → Type 0
HasAll {X = X} next left a = (b : X) → (a ≡ b) ⊎ Leads next a b → (c : X) → Contains (next b) c → Contains left b
