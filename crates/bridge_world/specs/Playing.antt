-- What the moves of two joined ends do to their history and to their roots.
use Rattle.std.specs.Prelude.{◌≡◌, ℕ, List, map, Option, None, Some, slice_get}
use Rattle.rand_pcg.specs.Lcg.{Lcg}
use Rattle.behaviour.specs.Roots.{run_of}
use Rattle.bridge_core.specs.declared.side.Side.{Side}
use Rattle.bridge_journal.specs.Logs.{entry_of}
use Rattle.bridge_journal.specs.declared.entry.Entry.{Entry as Kept}
use Rattle.world_laws.specs.Standing.{AllStandAt}
use Rattle.world_model.specs.Moves.{Move, Progress, moves}
use Rattle.world_model.specs.Pairs.{Pairing, does, generator_of, plays}
use Rattle.world_model.specs.Worlds.{Event, of_a, of_b, entries_of}
use Rattle.world_model.specs.declared.side.Side.TheVariants.{A, B}
use Rattle.bridge_world.specs.Joined.{Joined, settings_of, side_of, world_of}
use Rattle.bridge_world.specs.declared.runs.Runs.{Runs}

-- ---- roots

abbrev pub progress_of : Runs → Progress
progress_of r = record { a = map run_of r.a.items; b = map run_of r.b.items }

-- those of both ends stand for the history
pub record StandForHistory (j : Joined) (p : Progress) : Type 0 where
  pub a : AllStandAt (of_a (settings_of j)) (entries_of A j.events) p.a
  pub b : AllStandAt (of_b (settings_of j)) (entries_of B j.events) p.b

-- ---- moves

abbrev pub moves_of : Joined → Progress → List Move
moves_of j p = moves (settings_of j) (world_of j) p

-- two ends with their roots, and what draws the next move
abbrev pub pairing_of : Joined → Progress → Option Lcg → Pairing
pairing_of j p x = record { world = world_of j; events = j.events; runs = p; generator = x }

-- the move at a place was done
pub record MovesSo (cut nth : ℕ) (j k : Joined) (p q : Progress) : Type 0 where
  pub move : Move
  pub there : slice_get (moves_of j p) nth ≡ Some move
  pub same : (k.a ≡ j.a) × (k.b ≡ j.b)
  pub does : does (settings_of j) cut (pairing_of j p None) move ≡ Some (pairing_of k q None)

-- moves that a seed draws were done, until none was left or an end reached a limit
pub record PlaysSo (seed : Option ℕ) (cut : ℕ) (j k : Joined) (p q : Progress) : Type 0 where
  pub steps : ℕ
  pub last : Pairing
  pub plays : plays steps (settings_of j) cut (pairing_of j p (generator_of seed)) ≡ Some last
  pub same : (k.a ≡ j.a) × (k.b ≡ j.b)
  pub events : k.events ≡ last.events
  pub runs : q ≡ last.runs

-- ---- entries

-- an entry as an event of its side
abbrev pub event_of : Side → Kept → Event
event_of s e = record { side = side_of s; entry = entry_of e }
