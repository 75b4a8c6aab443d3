-- The places of names in a registry, and the graph of what leads to what, by places.
use Rattle.std.specs.Prelude.{ℕ, suc, List, [], ◌∷◌, map, Option, None, Some, if◌then◌else◌}
use Rattle.std.specs.Str.{bytes_eq}
use Rattle.uno_model.specs.Entities.{Entity}
use Rattle.uno_model.specs.Registry.{leads_to_body}

-- one place further on
abbrev pub further : Option ℕ → Option ℕ
further None = None
further (Some i) = Some (suc i)

-- the place of the entity of a name
unfoldable pub place_of : List ℕ → List Entity → Option ℕ
place_of name [] = None
place_of name (e ∷ es) = if bytes_eq name e.name then Some 0 else further (place_of name es)

-- the places of those names that are there
abbrev pub with_place : Option ℕ → List ℕ → List ℕ
with_place None places = places
with_place (Some i) places = i ∷ places

abbrev pub places_of : List Entity → List (List ℕ) → List ℕ
places_of reg [] = []
places_of reg (name ∷ names) = with_place (place_of name reg) (places_of reg names)

-- for each entity the places to which it leads
abbrev pub graph_of : List Entity → List (List ℕ)
graph_of reg = map (λ e. places_of reg (leads_to_body (Some e))) reg
