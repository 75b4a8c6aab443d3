-- A graph with its nodes in another order, in which a node may stand more than once: it is known by where it stands first.
use Rattle.std.specs.Prelude.{◌≡◌, ℕ, zero, suc, ◌<◌, ◌≤◌, List, [], ◌∷◌, ◌++◌, length, map, get_or, set, slice_get, nat_lt, if◌then◌else◌}
use Rattle.std.specs.List.{filter_map}
use Rattle.circle_search.specs.Graph.{targets}
use Rattle.circle_ranks.specs.declared.node.Node.{Node}

-- the numbers below one
unfoldable pub below : ℕ → List ℕ
below zero = []
below (suc n) = below n ++ n ∷ []

-- a list with another element at a place, if it has that place
abbrev pub set_within : List ℕ → ℕ → ℕ → List ℕ
set_within xs place x = if nat_lt place (length xs) then set xs place x else xs

-- the node that stands at a place is known by a place that is no further on, and stands there too
pub record IsKnown (order numbers : List ℕ) (k : ℕ) : Type 0 where
  pub first : get_or numbers (get_or order k 0) 0 ≤ k
  pub same : get_or order (get_or numbers (get_or order k 0) 0) 0 ≡ get_or order k 0

-- so it is of each node of a graph of so many
pub record AreFirst (count : ℕ) (order numbers : List ℕ) : Type 0 where
  pub long : length numbers ≡ count
  pub known : (k : ℕ) → k < length order → get_or order k 0 < count → IsKnown order numbers k

unfoldable pub renumbered : List ℕ → List ℕ → List ℕ
renumbered numbers nodes = filter_map (slice_get numbers) nodes

unfoldable pub graph_in_order : List (List ℕ) → List ℕ → List ℕ → List (List ℕ)
graph_in_order g order numbers = map (λ node. renumbered numbers (targets g node)) order

-- these nodes come first, and then all
pub record IsOrdered (g : List (List ℕ)) (nodes : List Node) (ordered : List (List ℕ)) : Type 0 where
  pub order : List ℕ
  pub numbers : List ℕ
  pub listed : order ≡ map (λ n. n.number) nodes ++ below (length g)
  pub numbered : AreFirst (length g) order numbers
  pub rows : ordered ≡ graph_in_order g order numbers
