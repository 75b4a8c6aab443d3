-- Nodes of a graph that lead back to themselves, and the least rank of one.
use Rattle.std.specs.Prelude.{◌≡◌, ℕ, ◌≤◌, List, Contains}
use Rattle.uno_model.specs.Circles.{Leads}
use Rattle.circle_search.specs.Graph.{targets}
use Rattle.circle_ranks.specs.declared.node.Node.{Node}

abbrev pub IsOnCircle : List (List ℕ) → Node → Type 0
IsOnCircle g n = Leads (targets g) n.number n.number

abbrev pub NoneOnCircle : List (List ℕ) → List Node → Type 0
NoneOnCircle g nodes = (n : Node) → Contains nodes n → ¬ IsOnCircle g n

-- one of the nodes on a circle has the rank, and no other on one has a lesser rank
pub record IsLeastOnCircle (g : List (List ℕ)) (nodes : List Node) (least : ℕ) : Type 0 where
  pub node : Node
  pub one : Contains nodes node
  pub rank : node.rank ≡ least
  pub circle : IsOnCircle g node
  pub first : (other : Node) → Contains nodes other → IsOnCircle g other → least ≤ other.rank
