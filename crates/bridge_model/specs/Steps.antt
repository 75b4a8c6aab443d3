-- The step of a side: where an entry may stand, and what it does.
use Rattle.std.specs.Prelude.{ℕ, suc, ◌+◌, Bool, true, false, not, ◌&&◌, ◌||◌, nat_lt, ◌==◌, List, [], ◌∷◌, ◌++◌, length, drop, replicate, Option, None, Some, if◌then◌else◌}
use Rattle.std.specs.List.{list_all}
use Rattle.message_model.specs.Messages.{Message}
use Rattle.uno_model.specs.Values.{Plain}
use Rattle.plan_model.specs.Asking.{Effect, disposes}
use Rattle.plan_model.specs.Frames.{Body, Frame, body, frames_of}
use Rattle.plan_model.specs.Plans.{Plan, first_objects}
use Rattle.bridge_model.specs.Applying.{applies, effect_at}
use Rattle.bridge_model.specs.Ends.{ends_by, runs_out}
use Rattle.bridge_model.specs.Entries.{Entry, fed, ended, failed, asked, called, queried, made, dropped, applied, took, reaped, drained, disposed, full, no_memory, counts}
use Rattle.bridge_model.specs.Feeding.{Hearing, heard_nothing, feeds, ends_part}
use Rattle.bridge_model.specs.Going.{drains, are_next, reaps}
use Rattle.bridge_model.specs.Objects.{makes_all, lowest}
use Rattle.bridge_model.specs.References.{refs_of_values}
use Rattle.bridge_model.specs.Roots.{holds_each, holds_pair, root_calls, root_queries, root_asks, root_makes, root_drops, root_takes, is_idle, outcome_in}
use Rattle.bridge_model.specs.Settings.{Setting, is_told}
use Rattle.bridge_model.specs.Sides.{Object, idle, Outcome, Tables, Incoming, nothing_came, nothing_goes, Side, stands, state_of}
use Rattle.bridge_model.specs.Stacks.{with_unwound}
use Rattle.bridge_model.specs.declared.cause.Cause.{Cause}
use Rattle.bridge_model.specs.declared.cause.Cause.TheVariants as cause

-- ---- the beginning

abbrev pub no_objects : Plan → Tables
no_objects p =
    record {
      objects = [];
      objects_made = 0;
      frames_made = 0;
      holdings = [];
      stubs = [];
      roots = replicate (length p.threads) idle;
      unsaid = [];
    }

-- the exported objects are there, and the service manager and the singletons behind them
unfoldable pub opening : Setting → Side
opening g =
    record {
      tables = makes_all g (first_objects g.plan) (no_objects g.plan);
      stacks = [];
      incoming = nothing_came;
      outgoing = nothing_goes;
      entries = 0;
      cause = None;
    }

-- ---- limits

-- entries that count, and bytes that are fed
unfoldable pub most_entries : ℕ
most_entries = 1000000

unfoldable pub most_fed : ℕ
most_fed = 67108864

abbrev pub fed_count : Incoming → ℕ
fed_count i = i.place + length i.held

abbrev pub has_entries : Side → Bool
has_entries s = not (nat_lt s.entries most_entries)

abbrev pub has_fed : Side → Bool
has_fed s = not (nat_lt (fed_count s.incoming) most_fed)

-- ---- where an entry may stand

-- all bytes but the last one
abbrev pub but_last : List ℕ → List ℕ
but_last [] = []
but_last (b ∷ []) = []
but_last (b ∷ (c ∷ cs)) = b ∷ but_last (c ∷ cs)

abbrev pub is_some_bytes : List ℕ → Bool
is_some_bytes [] = false
is_some_bytes (b ∷ bytes) = true

-- a piece is not empty, keeps within the limit, and no byte of it but its last ends a block or a refused header
abbrev pub may_feed : List ℕ → Incoming → Bool
may_feed b i = is_some_bytes b && (not (nat_lt most_fed (fed_count i + length b)) && not (ends_part (i.held ++ but_last b)))

-- roots are those of the plan, and one that begins a call is idle
abbrev pub is_root : Setting → ℕ → Bool
is_root g root = nat_lt 0 root && not (nat_lt (length g.plan.threads) root)

abbrev pub may_begin : Setting → ℕ → Side → Bool
may_begin g root s = is_root g root && is_idle (state_of root s.tables.roots)

-- a root holds what it gives as arguments, each told as own or foreign by its identity
abbrev pub may_give : Setting → ℕ → List Plain → Side → Bool
may_give g root args s = holds_each root (refs_of_values args) s.tables && list_all (is_told g) (refs_of_values args)

-- the method at the top of a thread and the frames below it
pub record Picked : Type 0 where
  pub method : Body
  pub below : List Frame

abbrev pub picked_in : List Frame → Option Picked
picked_in (body b ∷ fs) = Some (record { method = b; below = fs })
picked_in fs = None

unfoldable pub picked : List ℕ → Side → Option Picked
picked tid s = picked_in (frames_of tid s.stacks)

abbrev pub is_picked : Option Picked → Bool
is_picked None = false
is_picked (Some p) = true

abbrev pub is_outcome : Option Outcome → Bool
is_outcome None = false
is_outcome (Some o) = true

abbrev pub is_numbered : ℕ → Option Object → Bool
is_numbered n None = false
is_numbered n (Some o) = n == o.number

abbrev pub is_no_memory : Option Cause → Bool
is_no_memory (Some cause.NoMemory) = true
is_no_memory c = false

-- one equation an entry
unfoldable pub may : Setting → Side → Entry → Bool
may g s (fed b) = stands s && (not (has_entries s) && may_feed b s.incoming)
may g s ended = stands s
may g s failed = stands s
may g s (asked root name wanted) = stands s && (not (has_entries s) && may_begin g root s)
may g s (called root oid face function args) =
    stands s && (not (has_entries s) && (may_begin g root s && (holds_pair root oid face s.tables && may_give g root args s)))
may g s (queried root oid face wanted) = stands s && (not (has_entries s) && (may_begin g root s && holds_pair root oid face s.tables))
may g s (made root behaviour wanted) = stands s && (not (has_entries s) && is_root g root)
may g s (dropped root oid face) = holds_pair root oid face s.tables
may g s (applied tid) = not (has_entries s) && is_picked (picked tid s)
may g s (took root) = is_outcome (outcome_in (state_of root s.tables.roots))
may g s (reaped object) = is_numbered object (lowest g s.tables)
may g s (drained b) = is_some_bytes b && (not (is_no_memory s.cause) && are_next g b s)
may g s disposed = stands s
may g s full = stands s && (has_entries s || has_fed s)
may g s no_memory = not (is_no_memory s.cause)

-- ---- what it does

abbrev pub applies_effect : Setting → List ℕ → Picked → Effect → Side → Side
applies_effect g tid p disposes s = ends_by cause.Disposed s
applies_effect g tid p e s = with_unwound tid (applies g tid p.method p.below e s.tables) s

abbrev pub applies_picked : Setting → List ℕ → Option Picked → Side → Side
applies_picked g tid None s = s
applies_picked g tid (Some p) s = applies_effect g tid p (effect_at g tid p.method p.below s.tables) s

abbrev pub reaps_some : Setting → Option Object → Side → Side
reaps_some g None s = s
reaps_some g (Some o) s = reaps g o s

-- one equation an entry, where it may stand
unfoldable pub does : Setting → Entry → Side → Hearing
does g (fed b) s = feeds g b s
does g ended s = heard_nothing (ends_by cause.Ended s)
does g failed s = heard_nothing (ends_by cause.Failed s)
does g (asked root name wanted) s = heard_nothing (root_asks g root name wanted s)
does g (called root oid face function args) s = heard_nothing (root_calls g root oid face function args s)
does g (queried root oid face wanted) s = heard_nothing (root_queries g root oid face wanted s)
does g (made root behaviour wanted) s = heard_nothing (root_makes g root behaviour wanted s)
does g (dropped root oid face) s = heard_nothing (root_drops g root oid face s)
does g (applied tid) s = heard_nothing (applies_picked g tid (picked tid s) s)
does g (took root) s = heard_nothing (root_takes root s)
does g (reaped object) s = heard_nothing (reaps_some g (lowest g s.tables) s)
does g (drained b) s = heard_nothing (drains g (length b) s)
does g disposed s = heard_nothing (ends_by cause.Disposed s)
does g full s = heard_nothing (ends_by cause.Full s)
does g no_memory s = heard_nothing (runs_out s.cause s)

-- ---- the step

-- the side after an entry, the messages that it got, and those that it said
pub record Turn : Type 0 where
  pub side : Side
  pub got : List Message
  pub said : List Message

abbrev pub counted : Entry → Side → Side
counted e s = if counts e then record s { entries = suc s.entries } else s

-- what is said stands behind what was there; a drain says nothing
abbrev pub said_by : Entry → (before after : List Message) → List Message
said_by (drained b) before after = []
said_by e before after = drop (length before) after

abbrev pub turn : Entry → Side → Hearing → Turn
turn e s x = record { side = counted e x.side; got = x.got; said = said_by e s.tables.unsaid x.side.tables.unsaid }

-- there is none where the entry may not stand
unfoldable pub step : Setting → Side → Entry → Option Turn
step g s e = if may g s e then Some (turn e s (does g e s)) else None
