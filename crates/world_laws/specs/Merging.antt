-- Two ends that are joined: their entries as one history, in the order that the marks of both tell, and the bytes on their way.
use Rattle.std.specs.Prelude.{◌≡◌, ℕ, suc, List, [], ◌∷◌, ◌++◌, length, take, drop, map, if◌then◌else◌}
use Rattle.bridge_model.specs.Entries.{Entry}
use Rattle.bridge_model.specs.Histories.{bytes_fed, bytes_drained}
use Rattle.world_model.specs.Worlds.{Event, entries_of, is_at}
use Rattle.world_model.specs.declared.side.Side.{Side}
use Rattle.world_model.specs.declared.side.Side.TheVariants.{A, B}

-- ---- one history

abbrev pub event_at : Side → Entry → Event
event_at s e = record { side = s; entry = e }

abbrev pub events_at : Side → List Entry → List Event
events_at s es = map (λ e. event_at s e) es

-- each entry of B has the place that its mark says; those of A stand in the others, in their order
unfoldable pub put_in : List ℕ → List Entry → List Event → List Event
put_in [] es events = events
put_in (n ∷ ns) [] events = events
put_in (n ∷ ns) (e ∷ es) events = put_in ns es (take n events ++ (event_at B e ∷ drop n events))

-- the places of a side's events, from this one on
unfoldable pub places_of : Side → ℕ → List Event → List ℕ
places_of s n [] = []
places_of s n (e ∷ es) = if is_at s e.side then n ∷ places_of s (suc n) es else places_of s (suc n) es

-- two journals, whose marks are the places of their entries in one history
pub record AreMerged (es : List Event) (a b : List Entry) (at_a at_b : List ℕ) : Type 0 where
  pub entries_a : entries_of A es ≡ a
  pub entries_b : entries_of B es ≡ b
  pub marks_a : at_a ≡ places_of A 0 es
  pub marks_b : at_b ≡ places_of B 0 es

-- ---- the bytes on their way

-- those that a journal's entries fed, and those that they drained
unfoldable pub bytes_in : List Entry → List ℕ
bytes_in [] = []
bytes_in (e ∷ es) = bytes_fed e ++ bytes_in es

unfoldable pub bytes_out : List Entry → List ℕ
bytes_out [] = []
bytes_out (e ∷ es) = bytes_drained e ++ bytes_out es

-- to a side: what the other drained without what it was fed
abbrev pub way_to : Side → List Event → List ℕ
way_to A es = drop (length (bytes_in (entries_of A es))) (bytes_out (entries_of B es))
way_to B es = drop (length (bytes_in (entries_of B es))) (bytes_out (entries_of A es))

-- what an event feeds behind a history is next on its way
abbrev pub FeedsNext : List Event → Event → Type 0
FeedsNext es e = bytes_fed e.entry ≡ take (length (bytes_fed e.entry)) (way_to e.side es)

-- so it is of each event behind a front
unfoldable pub EachFeedsNext : (front : List Event) → List Event → Type 0
EachFeedsNext front [] = Unit
EachFeedsNext front (e ∷ es) = FeedsNext front e × EachFeedsNext (front ++ e ∷ []) es
