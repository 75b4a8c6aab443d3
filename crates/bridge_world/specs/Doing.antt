-- What a deed does to one of two ends that are joined, and what is known of both.
use Rattle.std.specs.Prelude.{◌≡◌, ℕ, List, Option, Some, slice_get, slice_set}
use Rattle.bridge_core.specs.declared.side.Side.{Side}
use Rattle.bridge_core.specs.declared.side.Side.TheVariants as code
use Rattle.bridge_endpoint.specs.Journals.{Endpoint, setting_at, side_at, told_at}
use Rattle.bridge_model.specs.Entries.{Entry}
use Rattle.bridge_model.specs.Histories.{Told}
use Rattle.bridge_model.specs.RootRuns.{moved, root_moves}
use Rattle.bridge_model.specs.Settings.{Setting}
use Rattle.bridge_core.specs.Moving.{with_any}
use Rattle.world_laws.specs.Standing.{AllStandAt}
use Rattle.move_choice.specs.Choosing.{IsDeed}
use Rattle.move_choice.specs.declared.choices.Deed as named
use Rattle.world_model.specs.Moves.{Deed, Move, Progress, at, deeds, done, steps, stepping}
use Rattle.plan_model.specs.Roots.{Run}
use Rattle.report_model.specs.Pairs.{AlwaysKeep}
use Rattle.world_model.specs.Worlds.{Runs, of_a, of_b, pipe}
use Rattle.bridge_world.specs.Joined.{Grows, Joined, end_at, on_the_way, settings_of, side_of, world_of}

-- ---- each of the two, by the history of both

abbrev pub other_of : Side → Side
other_of code.A = code.B
other_of code.B = code.A

abbrev pub setting_in : Joined → Side → Setting
setting_in j code.A = of_a (settings_of j)
setting_in j code.B = of_b (settings_of j)

abbrev pub told_in : Joined → Side → Told
told_in j code.A = (world_of j).a.now
told_in j code.B = (world_of j).b.now

abbrev pub runs_in : Progress → Side → List Run
runs_in p code.A = p.a
runs_in p code.B = p.b

-- the history leads each end to where its own entries lead it, and what is on its way to an end is in its pipe
pub record IsKnown (j : Joined) : Type 0 where
  pub runs : Runs (settings_of j) j.events (world_of j)
  pub keeps : AlwaysKeep (settings_of j) j.events
  pub setting : (s : Side) → setting_in j s ≡ setting_at (end_at j s)
  pub told : (s : Side) → told_in j s ≡ told_at (end_at j s)
  pub way : (s : Side) → pipe (told_in j (other_of s)) (told_in j s) ≡ on_the_way j s

-- ---- deeds

abbrev pub deeds_in : Joined → Side → List Run → List Deed
deeds_in j s rs = deeds (setting_in j s) (setting_in j (other_of s)) (told_in j s) (told_in j (other_of s)) rs

abbrev pub IsDeedIn : Joined → Side → List Run → Deed → named.Deed → Type 0
IsDeedIn j s rs d deed = IsDeed (setting_in j s) (told_in j s) rs d deed

-- a deed was done at an end: with its entry, if it makes one, and with its runs
pub record IsDone (cut : ℕ) (s : Side) (d : Deed) (j k : Joined) (before after : List Run) : Type 0 where
  pub entry : Option Entry
  pub does : done (setting_in j s) cut (told_in j s) (told_in j (other_of s)) before d ≡ Some (record { entry = entry; runs = after })
  pub entered : end_at k s ≡ with_any entry (end_at j s)
  pub grows : Grows s j k

-- a root moved: the one at this place among those that move
pub record HasStepped (nth : ℕ) (e f : Endpoint) (before after : List Run) : Type 0 where
  pub place : ℕ
  pub run : Run
  pub next : Run
  pub entry : Option Entry
  pub moves : slice_get (stepping (setting_at e) (side_at e) 0 before) nth ≡ Some (steps place)
  pub there : slice_get before place ≡ Some run
  pub step : root_moves (setting_at e) (side_at e) run ≡ moved next entry
  pub set : after ≡ slice_set before place next
  pub entered : f ≡ with_any entry e

-- a move was done: a deed of one end, and the other stayed
pub record IsMoved (cut : ℕ) (m : Move) (j k : Joined) (p q : Progress) : Type 0 where
  pub side : Side
  pub deed : Deed
  pub is : m ≡ at (side_of side) deed
  pub does : IsDone cut side deed j k (runs_in p side) (runs_in q side)
  pub rest : runs_in q (other_of side) ≡ runs_in p (other_of side)

-- ---- roots

-- runs that stand for the entries of an end
abbrev pub StandThere : Endpoint → List Run → Type 0
StandThere e rs = AllStandAt (setting_at e) e.entries rs

-- an end went on with entries of no root
abbrev pub KeepsRuns : Endpoint → Endpoint → Type 0
KeepsRuns e f = (rs : List Run) → StandThere e rs → StandThere f rs

-- those of both ends
pub record BothStand (j : Joined) (p : Progress) : Type 0 where
  pub a : StandThere (end_at j code.A) p.a
  pub b : StandThere (end_at j code.B) p.b
