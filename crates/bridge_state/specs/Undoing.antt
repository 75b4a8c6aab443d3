-- What is left of a side when its bridge ends for want of memory, and how what an entry began is taken back before that.
use Rattle.std.specs.Prelude.{ℕ, List, [], ◌∷◌, map}
use Rattle.bridge_model.specs.Sides.{RootState, Side, Tables, nothing_came, nothing_goes, on_tables}
use Rattle.bridge_tables.specs.EndTables.{lasts, with_frames_made}
use Rattle.bridge_frames.specs.Answered.{answered_root, takes_back_root}
use Rattle.bridge_state.specs.declared.hearing.Trace.{Trace}

-- what frames hold goes, and so do the stacks, what came in and what goes out
abbrev pub remains : Side → Side
remains s = record s { tables = lasts s.tables; stacks = []; incoming = nothing_came; outgoing = nothing_goes }

-- the same, but for how many frames began
abbrev pub rests : Side → Side
rests s = on_tables (with_frames_made 0) (remains s)

-- of the roots that were answered the last one is the first to be taken back
unfoldable pub takes_roots_back : List (ℕ × RootState) → Tables → Tables
takes_roots_back [] t = t
takes_roots_back (a ∷ rest) t = takes_back_root a.0 a.1 (takes_roots_back rest t)

abbrev pub undone : Trace → Side → Side
undone x s = on_tables (takes_roots_back (map answered_root x.answered.items)) s

-- what a trace takes back
abbrev pub takes_back : Trace → Side → Side
takes_back x s = on_tables (with_frames_made x.frames_made) (undone x s)
