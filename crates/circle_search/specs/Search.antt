-- How far a search has come: what marks and trail say of the graph, and what is left to do.
use Rattle.std.specs.Prelude.{◌≡◌, ◌≢◌, ℕ, ◌+◌, ◌<◌, ◌≤◌, ◌⊎◌, Bool, true, false, ◌||◌, cond, nat_eq, nat_lt, List, [], ◌∷◌, length, map, get_or, All, Contains}
use Rattle.std.specs.List.{AllPairs, list_any}
use Rattle.uno_model.specs.Circles.{Leads}
use Rattle.circle_search.specs.declared.mark.Mark.{Mark}
use Rattle.circle_search.specs.declared.mark.Mark.TheVariants.{New, Open, OffCircle, OnCircle}
use Rattle.circle_search.specs.declared.trail.Edge.{Edge}
use Rattle.circle_search.specs.declared.trail.Trail.{Trail}
use Rattle.circle_search.specs.Graph.{targets}

-- the edges from a place to these targets
abbrev pub edges : ℕ → List ℕ → List Edge
edges place targets = map (λ t. record { place = place; target = t }) targets

-- the node stands there
abbrev pub IsAt : List ℕ → ℕ → ℕ → Type 0
IsAt nodes place node = (place < length nodes) × (get_or nodes place 0 ≡ node)

-- what is left leads to what is left alone
abbrev pub is_left : Mark → Bool
is_left New = false
is_left (Open place) = false
is_left OffCircle = true
is_left OnCircle = true

-- the marks are those of the graph and of the open nodes
pub record MarksHold (g : List (List ℕ)) (marks : List Mark) (nodes : List ℕ) : Type 0 where
  pub long : length marks ≡ length g
  pub on : (i : ℕ) → get_or marks i OffCircle ≡ OnCircle → Leads (targets g) i i
  pub off : (i : ℕ) → get_or marks i OffCircle ≡ OffCircle → ¬ Leads (targets g) i i
  pub closed : (i t : ℕ) → is_left (get_or marks i OffCircle) ≡ true → Contains (targets g i) t → is_left (get_or marks t OffCircle) ≡ true
  -- exactly what is open is on the trail, at its place
  pub opened : (i p : ℕ) → get_or marks i OffCircle ≡ Open p → IsAt nodes p i
  pub marked : (i p : ℕ) → IsAt nodes p i → get_or marks i OffCircle ≡ Open p

-- the one place is in the group of the other, or in one behind it
abbrev pub IsNotBefore : List ℕ → ℕ → ℕ → Type 0
IsNotBefore starts place other = (k : ℕ) → k < length starts → get_or starts k 0 ≤ other → get_or starts k 0 ≤ place

-- each open node leads to those behind it, and to those before it in its group; the groups begin at the starts, the first at 0
pub record GroupsHold (g : List (List ℕ)) (nodes : List ℕ) (starts : List ℕ) : Type 0 where
  pub on : (i j : ℕ) → i < j → j < length nodes → Leads (targets g) (get_or nodes i 0) (get_or nodes j 0)
  pub back : (i j : ℕ) → i < j → j < length nodes → IsNotBefore starts i j → Leads (targets g) (get_or nodes j 0) (get_or nodes i 0)
  pub first : 0 < length nodes → IsAt starts 0 0
  pub rising : AllPairs (λ a b. a < b) starts
  pub within : (k : ℕ) → k < length starts → get_or starts k 0 < length nodes

-- the target of the node at the place was left, waits, or stands in a group that is not before
abbrev pub IsSeen : List Mark → List ℕ → List ℕ → List Edge → ℕ → ℕ → Type 0
IsSeen marks nodes starts waiting place target =
    (is_left (get_or marks target OffCircle) ≡ true)
    ⊎ (Contains waiting (record { place = place; target = target }) ⊎ ((p : ℕ) × IsAt nodes p target × IsNotBefore starts p place))

-- the edges that wait are of open nodes, in their order
pub record EdgesHold (g : List (List ℕ)) (nodes : List ℕ) (waiting : List Edge) : Type 0 where
  pub within : All (λ e. e.place < length nodes) waiting
  pub source : All (λ e. Contains (targets g (get_or nodes e.place 0)) e.target) waiting
  pub order : AllPairs (λ a b. a.place ≤ b.place) waiting

-- what marks and trail say is so, and no target of an open node is forgotten
pub record Fine (g : List (List ℕ)) (marks : List Mark) (nodes : List ℕ) (starts : List ℕ) (waiting : List Edge) : Type 0 where
  pub of_marks : MarksHold g marks nodes
  pub of_groups : GroupsHold g nodes starts
  pub of_edges : EdgesHold g nodes waiting
  pub seen : (place target : ℕ) → place < length nodes → Contains (targets g (get_or nodes place 0)) target → IsSeen marks nodes starts waiting place target

abbrev pub IsFine : List (List ℕ) → Trail → Type 0
IsFine g trail = Fine g trail.marks.items trail.nodes.items trail.starts.items trail.waiting.items

-- the starts up to a place are so many
pub record IsCut (place : ℕ) (starts : List ℕ) (count : ℕ) : Type 0 where
  pub within : count ≤ length starts
  pub kept : (k : ℕ) → k < count → get_or starts k 0 ≤ place
  pub others : (k : ℕ) → count ≤ k → k < length starts → place < get_or starts k 0

abbrev pub leads_to_itself : List (List ℕ) → ℕ → Bool
leads_to_itself g node = list_any (λ t. nat_eq t node) (targets g node)

-- the mark of nodes that lead to each other, or of one node
abbrev pub mark_of_group : List (List ℕ) → List ℕ → Mark
mark_of_group g group = cond (nat_lt 1 (length group) || leads_to_itself g (get_or group 0 0)) OnCircle OffCircle

-- these nodes have the mark, and all others theirs
pub record IsMarked (nodes : List ℕ) (mark : Mark) (before after : List Mark) : Type 0 where
  pub long : length after ≡ length before
  pub these : (k : ℕ) → k < length nodes → get_or after (get_or nodes k 0) OffCircle ≡ mark
  pub others : (i : ℕ) → ((k : ℕ) → k < length nodes → get_or nodes k 0 ≢ i) → get_or after i OffCircle ≡ get_or before i OffCircle

-- what is new afterwards was new before
abbrev pub StayReached : List Mark → List Mark → Type 0
StayReached before after = (i : ℕ) → get_or after i OffCircle ≡ New → get_or before i OffCircle ≡ New

-- each mark says whether the node leads back to itself
pub record MarksAreRight (g : List (List ℕ)) (marks : List Mark) : Type 0 where
  pub long : length marks ≡ length g
  pub on : (i : ℕ) → get_or marks i OffCircle ≡ OnCircle → Leads (targets g) i i
  pub off : (i : ℕ) → get_or marks i OffCircle ≢ OnCircle → ¬ Leads (targets g) i i

-- for a new node, its targets and one
abbrev pub mark_work : List ℕ → Mark → ℕ
mark_work row New = length row + 1
mark_work row _ = 0

-- for all nodes
unfoldable pub new_work : List (List ℕ) → List Mark → ℕ
new_work [] marks = 0
new_work (row ∷ g) [] = 0
new_work (row ∷ g) (m ∷ marks) = mark_work row m + new_work g marks

-- how much there is left to do
abbrev pub work : List (List ℕ) → Trail → ℕ
work g trail = length trail.waiting.items + length trail.nodes.items + new_work g trail.marks.items
