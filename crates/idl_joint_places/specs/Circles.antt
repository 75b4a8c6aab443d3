-- Declarations, constants and items that lead back to themselves, as nodes of a graph.
use Rattle.std.specs.Prelude.{◌≡◌, ℕ, suc, List, [], ◌∷◌, ◌++◌, map, Option, None, MatchOption, option_map, slice_get, Some, Contains, if◌then◌else◌}
use Rattle.circle_ranks.specs.Ranks.{IsLeastOnCircle, NoneOnCircle}
use Rattle.circle_ranks.specs.declared.node.Node.{Node}
use Rattle.circle_search.specs.Graph.{targets}
use Rattle.idl_joint_places.specs.Ranks.{place_ranked}
use Rattle.idl_meaning_model.specs.ConstantsMeant.{leads_to_valued}
use Rattle.idl_meaning_model.specs.Declarations.{Declared, Valued, full_name, is_forward}
use Rattle.idl_model.specs.Places as plain
use Rattle.idl_model.specs.Places.{IsLeast}
use Rattle.idl_model.specs.Trees.{Declaration, constants, enum}
use Rattle.idl_rules_model.specs.Circles.{entity_comes_back, value_comes_back}
use Rattle.idl_trees.specs.Names.{place_of}
use Rattle.idl_trees.specs.declared.place.Place.{Place}
use Rattle.uno_model.specs.Entities.{Entity}
use Rattle.uno_model.specs.Places as uno

-- the least of these places, and none where there are none
abbrev pub FindsLeast : List plain.Place → Option Place → Type 0
FindsLeast places found = MatchOption found (places ≡ []) (λ place. IsLeast (place_of place) places)

-- the name of a declaration whose entity is on a circle, and that of a constant or an item
unfoldable pub entity_circle : List Entity → Declared → List plain.Place
entity_circle reg d = if is_forward d.body then [] else (if entity_comes_back reg (full_name d) then d.name.place ∷ [] else [])

unfoldable pub value_circle : List Valued → Valued → List plain.Place
value_circle vs v = if value_comes_back vs v then v.name.place ∷ [] else []

-- ---- nodes

-- nodes as numbers with places
abbrev pub node_of : Node → ℕ × plain.Place
node_of n = (n.number, place_ranked n.rank)

abbrev pub nodes_of : List Node → List (ℕ × plain.Place)
nodes_of nodes = map node_of nodes

abbrev pub AddsNodes : List Node → List (ℕ × plain.Place) → List Node → Type 0
AddsNodes old more new = nodes_of new ≡ nodes_of old ++ more

-- the place of a declaration's entity, with that of its name
unfoldable pub node_there : List Entity → Declared → Option (ℕ × plain.Place)
node_there reg d = if is_forward d.body then None else option_map (λ n. (n, d.name.place)) (uno.place_of (full_name d) reg)

-- places with their numbers
unfoldable pub numbered : ℕ → List plain.Place → List (ℕ × plain.Place)
numbered n [] = []
numbered n (p ∷ ps) = (n, p) ∷ numbered (suc n) ps

-- what is found is the place of the least rank
abbrev pub IsRanked : List (List ℕ) → List Node → Option Place → Type 0
IsRanked g nodes found = MatchOption found (NoneOnCircle g nodes) (λ place. (rank : ℕ) × IsLeastOnCircle g nodes rank × (place_of place ≡ place_ranked rank))

-- ---- constants and items

-- the graph leads from each constant and item, by where it stands, to those to which it leads
pub record LeadsAmong (vs : List Valued) (g : List (List ℕ)) : Type 0 where
  pub on : (i : ℕ) (v w : Valued) → slice_get vs i ≡ Some v → Contains (leads_to_valued vs v) w → (t : ℕ) × (slice_get vs t ≡ Some w) × Contains (targets g i) t
  pub only : (i t : ℕ) (v : Valued) → slice_get vs i ≡ Some v → Contains (targets g i) t → (w : Valued) × (slice_get vs t ≡ Some w) × Contains (leads_to_valued vs v) w
  pub within : (i t : ℕ) → Contains (targets g i) t → (v : Valued) × (slice_get vs i ≡ Some v)

-- the places of names of constants and items
abbrev pub value_places_in : Declaration → List plain.Place
value_places_in (constants cs) = map (λ c. c.name.place) cs
value_places_in (enum items) = map (λ i. i.name.place) items
value_places_in _ = []
