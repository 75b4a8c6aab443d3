-- An order of the nodes of a graph in which each stands behind those to which it leads.
use Rattle.std.specs.Prelude.{◌≡◌, ◌⊎◌, ℕ, ◌<◌, List, length, take, get_or, Contains}
use Rattle.uno_model.specs.Circles.{Leads}
use Rattle.circle_search.specs.Graph.{targets}

-- a target of a node stands before it, or leads back to it
abbrev pub StandBehind : List (List ℕ) → List ℕ → Type 0
StandBehind g order = (i t : ℕ) → i < length order → t < length g → Contains (targets g (get_or order i 0)) t
    → Contains (take i order) t ⊎ Leads (targets g) t (get_or order i 0)

-- all nodes stand there, as many as there are, so each once
pub record EndsFirst (g : List (List ℕ)) (order : List ℕ) : Type 0 where
  pub all : (node : ℕ) → node < length g → Contains order node
  pub count : length order ≡ length g
  pub behind : StandBehind g order
