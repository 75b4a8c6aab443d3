-- How far a walk has come: what was reached, the way, and the nodes that it has left.
use Rattle.std.specs.Prelude.{◌≡◌, ◌⊎◌, ℕ, suc, ◌+◌, ◌-◌, ◌<◌, Bool, true, false, not, List, [], ◌∷◌, ◌++◌, length, get_or, slice_get, set, Some, Contains, if◌then◌else◌}
use Rattle.uno_model.specs.Circles.{Leads}
use Rattle.circle_search.specs.Graph.{targets}
use Rattle.graph_order.specs.Order.{StandBehind}
use Rattle.graph_order.specs.declared.walk.Step.{Step}
use Rattle.graph_order.specs.declared.walk.Walk.{Walk}

abbrev pub is_reached : List Bool → ℕ → Bool
is_reached reached node = get_or reached node false

-- it is a node, and was not reached
abbrev pub is_new : List Bool → ℕ → Bool
is_new reached node = not (get_or reached node true)

-- how many nodes were not reached
unfoldable pub fresh : List Bool → ℕ
fresh [] = 0
fresh (true ∷ reached) = fresh reached
fresh (false ∷ reached) = suc (fresh reached)

-- each node of the way leads to those behind it, and what was reached stands on the way or was left
pub record Ways (g : List (List ℕ)) (reached : List Bool) (way : List Step) (order : List ℕ) : Type 0 where
  pub long : length reached ≡ length g
  pub on : (i j : ℕ) (d : Step) → i < j → j < length way → Leads (targets g) (get_or way i d).node (get_or way j d).node
  pub known : (node : ℕ) → is_reached reached node ≡ true → Contains order node ⊎ ((k : ℕ) × (k < length way) × ((d : Step) → (get_or way k d).node ≡ node))
  pub behind : StandBehind g order
  pub count : fresh reached + (length way + length order) ≡ length g

-- the targets that were looked at were reached
abbrev pub Looked : List (List ℕ) → List Bool → List Step → Type 0
Looked g reached way =
    (k : ℕ) (d : Step) (j t : ℕ) → k < length way → j < (get_or way k d).looked_at → slice_get (targets g (get_or way k d).node) j ≡ Some t → t < length g → is_reached reached t ≡ true

pub record Fine (g : List (List ℕ)) (reached : List Bool) (way : List Step) (order : List ℕ) : Type 0 where
  pub ways : Ways g reached way order
  pub looked : Looked g reached way

abbrev pub IsFine : List (List ℕ) → Walk → Type 0
IsFine g walk = Fine g walk.reached.items walk.way.items walk.order.items

-- it is so with a step that was taken from the end of the way
abbrev pub IsFineWith : List (List ℕ) → Walk → Step → Type 0
IsFineWith g walk step = Fine g walk.reached.items (walk.way.items ++ step ∷ []) walk.order.items

-- what was reached stays so
abbrev pub StayReached : List Bool → List Bool → Type 0
StayReached old new = (node : ℕ) → is_reached old node ≡ true → is_reached new node ≡ true

-- ---- what steps change

abbrev pub first_step : ℕ → Step
first_step node = record { node = node; looked_at = 0 }

abbrev pub reached_with : Bool → List Bool → ℕ → List Bool
reached_with b reached node = if b then set reached node true else reached

abbrev pub way_with : Bool → List Step → ℕ → List Step
way_with b way node = if b then way ++ first_step node ∷ [] else way

pub record Enters (old : Walk) (node : ℕ) (new : Walk) : Type 0 where
  pub reached : new.reached.items ≡ reached_with (is_new old.reached.items node) old.reached.items node
  pub way : new.way.items ≡ way_with (is_new old.reached.items node) old.way.items node
  pub order : new.order.items ≡ old.order.items

-- ---- what is left to do

unfoldable pub fresh_work : List (List ℕ) → List Bool → ℕ
fresh_work [] reached = 0
fresh_work (row ∷ g) [] = 0
fresh_work (row ∷ g) (true ∷ reached) = fresh_work g reached
fresh_work (row ∷ g) (false ∷ reached) = suc (length row) + fresh_work g reached

abbrev pub step_work : List (List ℕ) → Step → ℕ
step_work g s = suc (length (targets g s.node) - s.looked_at)

unfoldable pub way_work : List (List ℕ) → List Step → ℕ
way_work g [] = 0
way_work g (s ∷ way) = step_work g s + way_work g way

abbrev pub work : List (List ℕ) → Walk → ℕ
work g walk = fresh_work g walk.reached.items + way_work g walk.way.items

abbrev pub work_with : List (List ℕ) → Walk → Step → ℕ
work_with g walk step = fresh_work g walk.reached.items + way_work g (walk.way.items ++ step ∷ [])
