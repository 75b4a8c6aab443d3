-- Balance and Standing: of each pair of the one, what it sent is what came back, what is held, and what is on its way.
use Rattle.std.specs.Prelude.{◌≡◌, ℕ, ◌+◌, List, true}
use Rattle.uno_model.specs.Entities.{Entity}
use Rattle.table_model.specs.Pair.{Pair}
use Rattle.bridge_model.specs.Histories.{Told}
use Rattle.bridge_model.specs.References.{is_held}
use Rattle.bridge_model.specs.Settings.{Setting, is_own}
use Rattle.bridge_laws.specs.Counting.{total, one_if, places, releases_of}
use Rattle.bridge_laws.specs.Standing.{Stands}
use Rattle.world_model.specs.Flights.{flight}

-- whether an end holds a pair, as a number
abbrev pub held_by : Pair → Told → ℕ
held_by p y = one_if (is_held p.oid p.face y.side.tables)

-- the places of what was sent are the releases that came, the places on their way, the one that is held, and the releases on their way
abbrev pub IsBalanced : List Entity → (x y : Told) → Pair → Type 0
IsBalanced reg x y p =
    total (places reg p) x.said
    ≡ total (releases_of p) x.got + (total (places reg p) (flight x y) + (held_by p y + total (releases_of p) (flight y x)))

-- of each pair of the one
abbrev pub Balance : Setting → (x y : Told) → Type 0
Balance g x y = (p : Pair) → is_own g p.oid ≡ true → IsBalanced g.registry x y p

-- behind each message in flight to the one that uses the pair stands a release of it, or the other holds it still
abbrev pub IsStanding : (x y : Told) → Pair → Type 0
IsStanding x y p = Stands p (held_by p y) (flight y x)

-- of each pair of the one
abbrev pub Standing : Setting → (x y : Told) → Type 0
Standing g x y = (p : Pair) → is_own g p.oid ≡ true → IsStanding x y p
