-- A graph of numbered nodes: where each leads, and which is the first that leads back to itself.
use Rattle.std.specs.Prelude.{ℕ, ◌<◌, List, [], length, map, get_or, Vec}
use Rattle.std.specs.declared.alloc.Global.{Global}
use Rattle.uno_model.specs.Circles.{Leads}

-- the lists behind the rows of a graph
abbrev pub targets_of : List (Vec ℕ Global) → List (List ℕ)
targets_of rows = map (λ row. row.items) rows

-- the nodes to which a node leads, in order; what is no node leads nowhere
unfoldable pub targets : List (List ℕ) → ℕ → List ℕ
targets g node = get_or g node []

-- the node leads back to itself, and none before it does
pub record IsFirstOnCircle (g : List (List ℕ)) (node : ℕ) : Type 0 where
  pub within : node < length g
  pub circle : Leads (targets g) node node
  pub first : (i : ℕ) → i < node → ¬ Leads (targets g) i i
