-- The graph of what leads to what, by places.
use Rattle.std.specs.Prelude.{ℕ, List, [], map}
use Rattle.uno_model.specs.Entities.{Entity}
use Rattle.uno_model.specs.Kinds.{Kind}
use Rattle.uno_model.specs.Kinds as kd
use Rattle.uno_model.specs.Places.{places_of}
use Rattle.registry_text_model.specs.NoCircles.{led_on, names_in}

-- for each entity the places to which it leads
abbrev pub rows_of : List Entity → List (List ℕ)
rows_of reg = map (λ e. places_of reg (led_on reg e.body)) reg

-- the name that a type is, if it is no sequence
abbrev pub word_names : Kind → List (List ℕ)
word_names (kd.sequence k) = []
word_names k = names_in k
