-- Of a pair: each outcome among the lines of a root is that of the very call that its statement made.
use Rattle.std.specs.Prelude.{◌≡◌, ℕ, List, ◌++◌, Option}
use Rattle.plan_model.specs.Roots.{Run}
use Rattle.bridge_model.specs.Entries.{Entry}
use Rattle.plan_model.specs.Statements.{RootStatement}
use Rattle.bridge_model.specs.Sides.{Outcome, Side}
use Rattle.world_laws.specs.Ends.{near_of}
use Rattle.bridge_laws.specs.Lines.{Lines, first, silent, line, Says, is_skipped_line, is_null_line, compares, takes, makes, is_gone, is_full, IsAt}
use Rattle.bridge_laws.specs.RootCalls.{IsOfItsCall}
use Rattle.world_laws.specs.Kept.{IsAccounted}
use Rattle.world_model.specs.Worlds.{Settings, Event, entries_of}
use Rattle.world_model.specs.declared.side.Side as which_side

-- an outcome that a root had behind these entries of its end: it is that of the call which its statement began; and it came to the root as each outcome of two joined ends does
pub record IsItsCalls (g : Settings) (which : which_side.Side) (es : List Event) (front : List Entry) (r : Run) (o : Outcome) : Type 0 where
  pub call : IsOfItsCall (near_of which g) front r o
  pub before : List Event
  pub later : List Event
  pub events : before ++ later ≡ es
  pub entries : entries_of which before ≡ front
  pub came : IsAccounted g which before r.root o

-- a line that tells an outcome tells such a one
abbrev pub TellsItsCalls : (g : Settings) (which : which_side.Side) (es : List Event) (root place : ℕ) (ls : List (List ℕ)) (at : IsAt (near_of which g) (entries_of which es) root place ls)
    → {z : Side} {s : RootStatement} {e : Option Entry} {text : List ℕ} → Says (near_of which g) z at.run s e text → Type 0
TellsItsCalls g which es root place ls at (is_skipped_line skips) = Unit
TellsItsCalls g which es root place ls at (is_null_line unskipped null) = Unit
TellsItsCalls g which es root place ls at (compares a b is unskipped) = Unit
TellsItsCalls g which es root place ls at (takes o has) = IsItsCalls g which es at.front at.run o
TellsItsCalls g which es root place ls at (makes m is up) = Unit
TellsItsCalls g which es root place ls at (is_gone begun down) = Unit
TellsItsCalls g which es root place ls at (is_full begun up full) = Unit

-- so do all of these lines
unfoldable pub AllTellTheirCalls : (g : Settings) (which : which_side.Side) (es : List Event) (root n : ℕ) (ls : List (List ℕ)) → Lines (near_of which g) (entries_of which es) root n ls → Type 0
AllTellTheirCalls g which es root n' ls' first = Unit
AllTellTheirCalls g which es root n' ls' (silent place ls s e at there says next before) = AllTellTheirCalls g which es root place ls before
AllTellTheirCalls g which es root n' ls' (line place ls s e text at there says next before) =
    TellsItsCalls g which es root place ls at says × AllTellTheirCalls g which es root place ls before

-- the lines of a run are those of its history, and tell the outcomes of its calls
pub record TellsItsOutcomes (g : Settings) (which : which_side.Side) (es : List Event) (r : Run) : Type 0 where
  pub lines : Lines (near_of which g) (entries_of which es) r.root r.place r.lines
  pub tell : AllTellTheirCalls g which es r.root r.place r.lines lines
