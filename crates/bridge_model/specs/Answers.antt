-- What the calls of an end answer: functions of its side. A call that changes something answers what its entry says.
use Rattle.std.specs.Prelude.{ℕ, ◌+◌, ◌-◌, Bool, true, false, not, ◌&&◌, ◌||◌, List, [], ◌∷◌, ◌++◌, length, take, Option, None, Some, if◌then◌else◌}
use Rattle.std.specs.List.{list_any}
use Rattle.std.specs.Option.{option_map}
use Rattle.urp_model.specs.declared.reason.Reason.{Reason}
use Rattle.table_model.specs.Holdings.{Hold, Holdings}
use Rattle.table_model.specs.Pair.{is_pair}
use Rattle.plan_model.specs.Frames.{Frame, outgoing, Stack, Job, nth_tid, ready, first_frame}
use Rattle.bridge_model.specs.Applying.{job_of}
use Rattle.bridge_model.specs.Entries.{Entry, fed, asked, called, queried, made}
use Rattle.bridge_model.specs.Feeding.{ends_part}
use Rattle.bridge_model.specs.Going.{waiting_bytes}
use Rattle.bridge_model.specs.Objects.{lowest}
use Rattle.bridge_model.specs.Roots.{outcome_in}
use Rattle.bridge_model.specs.Settings.{Setting, is_own}
use Rattle.bridge_model.specs.Sides.{Outcome, Incoming, Side, stands, state_of}
use Rattle.bridge_model.specs.Steps.{most_fed, fed_count, has_entries, has_fed, may, does, Picked, picked, is_no_memory}
use Rattle.bridge_model.specs.declared.cause.Cause.{Cause}
use Rattle.bridge_model.specs.declared.cause.Cause.TheVariants as cause

-- ---- pieces

-- the least prefix that ends a block or a refused header, or all, behind what is held of the open block
unfoldable pub cut : (held piece : List ℕ) → List ℕ
cut held [] = []
cut held (b ∷ bytes) = if ends_part (held ++ b ∷ []) then b ∷ [] else b ∷ cut (held ++ b ∷ []) bytes

-- as much of a piece as the limit of fed bytes leaves
abbrev pub within_limit : Incoming → List ℕ → List ℕ
within_limit i piece = take (most_fed - fed_count i) piece

abbrev pub next_cut : Side → List ℕ → List ℕ
next_cut s piece = cut s.incoming.held (within_limit s.incoming piece)

-- a piece of which so many bytes were taken; one with which the bridge breaks; a limit; an end that came before; want of memory
pub data FeedAnswer : Type 0 where
  taken : ℕ → FeedAnswer
  broken : Reason → ℕ → FeedAnswer
  at_limit : FeedAnswer
  gone : FeedAnswer
  no_room : FeedAnswer

abbrev pub is_some_piece : List ℕ → Bool
is_some_piece [] = false
is_some_piece (b ∷ bytes) = true

abbrev pub feed_is_full : Side → List ℕ → Bool
feed_is_full s piece = has_entries s || (is_some_piece piece && has_fed s)

-- what a piece that is taken is answered, by the cause behind it
abbrev pub after_feeding : List ℕ → Option Cause → FeedAnswer
after_feeding b (Some (cause.Broken why place)) = broken why place
after_feeding b c = taken (length b)

abbrev pub feed_standing : Setting → Side → List ℕ → FeedAnswer
feed_standing g s [] = taken 0
feed_standing g s (b ∷ bytes) = after_feeding (next_cut s (b ∷ bytes)) (does g (fed (next_cut s (b ∷ bytes))) s).side.cause

abbrev pub at_end : Option Cause → FeedAnswer → FeedAnswer
at_end None a = a
at_end (Some cause.NoMemory) a = no_room
at_end (Some c) a = gone

unfoldable pub feed_answer : Setting → Side → List ℕ → FeedAnswer
feed_answer g s piece = at_end s.cause (if feed_is_full s piece then at_limit else feed_standing g s piece)

-- ---- what a root begins

-- it waits; it is answered already; it does not hold what it names; a limit; an end that came before; want of memory
pub data Begun : Type 0 where
  started : Begun
  answered_already : Begun
  not_held : Begun
  at_limit_too : Begun
  gone_already : Begun
  no_room_left : Begun

-- the root of an entry that begins a call
abbrev pub root_of : Entry → ℕ
root_of (asked root name wanted) = root
root_of (called root oid face function args) = root
root_of (queried root oid face wanted) = root
root_of (made root behaviour wanted) = root
root_of e = 0

abbrev pub by_outcome : Option Outcome → Begun
by_outcome None = started
by_outcome (Some o) = answered_already

abbrev pub begun_standing : Setting → Side → Entry → Begun
begun_standing g s e = if may g s e then by_outcome (outcome_in (state_of (root_of e) (does g e s).side.tables.roots)) else not_held

abbrev pub begun_at_end : Option Cause → Begun → Begun
begun_at_end None a = a
begun_at_end (Some cause.NoMemory) a = no_room_left
begun_at_end (Some c) a = gone_already

-- of a root that is idle
unfoldable pub begun : Setting → Side → Entry → Begun
begun g s e = begun_at_end s.cause (if has_entries s then at_limit_too else begun_standing g s e)

-- ---- what can be done next

-- the thread at a place among those whose top is a method, oldest first
abbrev pub ready_at : Side → ℕ → Option (List ℕ)
ready_at s n = nth_tid (ready s.stacks) n

abbrev pub job_picked : Setting → List ℕ → Side → Option Picked → Option Job
job_picked g tid s None = None
job_picked g tid s (Some p) = Some (job_of g tid p.method p.below s.tables)

unfoldable pub pick : Setting → List ℕ → Side → Option Job
pick g tid s = job_picked g tid s (picked tid s)

abbrev pub may_reap : Setting → Side → Option ℕ
may_reap g s = option_map (λ o. o.number) (lowest g s.tables)

-- the next bytes, so many of them or all
unfoldable pub drained_next : Setting → ℕ → Side → List ℕ
drained_next g most s = if is_no_memory s.cause then [] else take most (waiting_bytes g s)

abbrev pub bytes_wait : Setting → Side → Bool
bytes_wait g s = not (is_no_memory s.cause) && is_some_piece (waiting_bytes g s)

-- ---- counts

pub record Counts : Type 0 where
  pub stubs : ℕ
  pub proxies : ℕ
  pub objects : ℕ

abbrev pub is_among : Hold → Holdings → Bool
is_among h hs = list_any (λ other. is_pair h.pair other.pair) hs

-- the pairs of the peer's that are held, each once
unfoldable pub proxies : Setting → Holdings → ℕ
proxies g [] = 0
proxies g (h ∷ hs) = if is_own g h.pair.oid || is_among h hs then proxies g hs else 1 + proxies g hs

-- a bridge that has ended has no proxies
unfoldable pub counts_of : Setting → Side → Counts
counts_of g s =
    record {
      stubs = length s.tables.stubs;
      proxies = if stands s then proxies g s.tables.holdings else 0;
      objects = length s.tables.objects;
    }

-- ---- rest

-- no part of a block is held, no byte waits, and no stack is there
abbrev pub is_none_left : List Stack → Bool
is_none_left [] = true
is_none_left (x ∷ xs) = false

abbrev pub at_rest : Setting → Side → Bool
at_rest g s = not (is_some_piece s.incoming.held) && (not (bytes_wait g s) && is_none_left s.stacks)

abbrev pub waits_for_peer : Stack → Bool
waits_for_peer x = of_top (first_frame x.frames)
  where
    of_top : Option Frame → Bool
    of_top (Some (outgoing o)) = true
    of_top f = false

-- the bridge stands, and a part of a block is held or a call that went out is not answered
abbrev pub awaits_input : Side → Bool
awaits_input s = stands s && (is_some_piece s.incoming.held || list_any waits_for_peer s.stacks)
