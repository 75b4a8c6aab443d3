-- What two joined ends come to where their moves are done until none is left: their history, what holds of it, and what is written of it.
use Rattle.std.specs.Prelude.{◌≡◌, ℕ, false, true, List, [], ◌++◌, Option, Some}
use Rattle.std.specs.List.{AllByRecursion}
use Rattle.plan_model.specs.Roots.{Run}
use Rattle.bridge_model.specs.Answers.{Counts, counts_of}
use Rattle.bridge_model.specs.Entries.{Entry}
use Rattle.bridge_model.specs.RootRuns.{finished, root_moves}
use Rattle.bridge_model.specs.Settings.{Setting}
use Rattle.bridge_model.specs.Sides.{Side}
use Rattle.bridge_laws.specs.Lines.{Lines}
use Rattle.world_model.specs.Moves.{moves}
use Rattle.world_model.specs.Pairs.{Pairing, IsPaired, has_full}
use Rattle.report_model.specs.Drills.{summary}
use Rattle.report_model.specs.Reports.{both_reports}
use Rattle.world_laws.specs.Kept.{BothKeep}
use Rattle.world_model.specs.Worlds.{Settings, of_a, of_b, World, Event, Runs, entries_of}
use Rattle.world_model.specs.declared.side.Side.TheVariants.{A, B}

-- ---- what holds of the history

-- the roots of an end are finished, and have the lines of their statements, each as the entries of the end have it
pub record AreDone (g : Setting) (s : Side) (es : List Entry) (rs : List Run) : Type 0 where
  pub finished : AllByRecursion (λ (r : Run). root_moves g s r ≡ finished) rs
  pub lines : AllByRecursion (λ (r : Run). Lines g es r.root r.place r.lines) rs

-- at each moment of a history each object that was sent out and came home is itself, each identity and interface has one proxy at most, no object that the other end holds is gone,
-- and each answer is the call's own, or the bridge was disposed, or its stream ended or failed
abbrev pub AlwaysKeep : Settings → List Event → Type 0
AlwaysKeep g es = (front behind : List Event) → es ≡ front ++ behind → (w : World) → Runs g front w → BothKeep g front w

-- a pair that comes to its end, where no end reaches a limit
pub record EndsWell (g : Settings) (seed : Option ℕ) (cut : ℕ) (last : Pairing) : Type 0 where
  pub paired : IsPaired g seed cut last
  pub within : has_full last.world ≡ false
  pub history : Runs g last.events last.world
  pub keeps : AlwaysKeep g last.events
  pub none_left : moves g last.world last.runs ≡ []
  pub done_a : AreDone (of_a g) last.world.a.now.side (entries_of A last.events) last.runs.a
  pub done_b : AreDone (of_b g) last.world.b.now.side (entries_of B last.events) last.runs.b

-- ---- what is written of it

abbrev pub counts_a : Settings → Pairing → Counts
counts_a g p = counts_of (of_a g) p.world.a.now.side

abbrev pub counts_b : Settings → Pairing → Counts
counts_b g p = counts_of (of_b g) p.world.b.now.side

abbrev pub pair_report : Settings → Pairing → List ℕ
pair_report g p = both_reports p.runs (counts_a g p) (counts_b g p)

pub record IsPairReport (g : Settings) (seed : Option ℕ) (cut : ℕ) (text : List ℕ) : Type 0 where
  pub last : Pairing
  pub ends : EndsWell g seed cut last
  pub written : text ≡ pair_report g last

-- the summary of a drill is one of the same history, by its own seed
pub record IsSummary (rounds seed : ℕ) (g : Settings) (text : List ℕ) : Type 0 where
  pub last : Pairing
  pub ends : EndsWell g (Some seed) 65536 last
  pub written : text ≡ summary rounds seed last.runs (counts_a g last) (counts_b g last)

-- ---- a limit

-- an end of a pair reaches one, with which the history ends
pub record ReachesLimit (g : Settings) (seed : Option ℕ) (cut : ℕ) : Type 0 where
  pub last : Pairing
  pub paired : IsPaired g seed cut last
  pub full : has_full last.world ≡ true
  pub history : Runs g last.events last.world
  pub keeps : AlwaysKeep g last.events
