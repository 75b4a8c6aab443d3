-- A run of two ends by their messages alone: at each step one of them makes an entry, which brings it no message, or the first of those in flight. Which bytes brought
-- it is not asked, and no byte, slot or memory is compared. So a message arrives wherever bytes can carry it within the limits of an end, and nowhere else; bytes that bring
-- none may be any, also such as break the bridge; and each history on bytes is such a run.
use Rattle.std.specs.Prelude.{◌≡◌, ◌⊎◌, true, Some, List, [], ◌∷◌, ◌++◌}
use Rattle.bridge_model.specs.Entries.{Entry}
use Rattle.bridge_model.specs.Histories.{told_more}
use Rattle.bridge_model.specs.Settings.{Setting}
use Rattle.bridge_model.specs.Sides.{stands}
use Rattle.bridge_model.specs.Steps.{Turn, step}
use Rattle.world_model.specs.Flights.{flight, IsNext}
use Rattle.world_model.specs.Worlds.{Settings, of_a, of_b, End, moved, World, opening_world, Event}
use Rattle.world_model.specs.declared.side.Side.TheVariants.{A, B}

-- a step of the one, before which the other was as it is; behind a message that comes the bridge stands
pub record Moves (g : Setting) (one other : End) (e : Entry) (after : End) : Type 0 where
  pub turn : Turn
  pub does : step g one.now.side e ≡ Some turn
  pub comes : IsNext g.registry (flight other.now one.now) turn.got
  pub whole : (turn.got ≡ []) ⊎ (stands turn.side ≡ true)
  pub becomes : after ≡ moved one (told_more one.now e turn)

-- the worlds to which a history of events leads so
pub data Meets (g : Settings) : List Event → World → Type 0 where
  begins : Meets g [] (opening_world g)
  a_moves : (es : List Event) → (w : World) → (e : Entry) → (after : End) → Meets g es w → Moves (of_a g) w.a w.b e after
      → Meets g (es ++ record { side = A; entry = e } ∷ []) (record { a = after; b = w.b })
  b_moves : (es : List Event) → (w : World) → (e : Entry) → (after : End) → Meets g es w → Moves (of_b g) w.b w.a e after
      → Meets g (es ++ record { side = B; entry = e } ∷ []) (record { a = w.a; b = after })
