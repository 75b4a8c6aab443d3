-- A side: all that an end of a bridge keeps between two entries of its journal.
use Rattle.std.specs.Prelude.{ℕ, zero, suc, Bool, true, false, List, [], Option, None, Some, slice_get, slice_set, unwrap_or}
use Rattle.message_model.specs.Headers.{Heard, nothing_heard}
use Rattle.message_model.specs.Messages.{Answer, Message}
use Rattle.message_model.specs.WritingMessages.{Spoken, nothing_spoken}
use Rattle.uno_model.specs.Values.{Plain}
use Rattle.table_model.specs.Holdings.{Holdings}
use Rattle.table_model.specs.Stubs.{Stubs}
use Rattle.plan_model.specs.Frames.{Stack}
use Rattle.bridge_model.specs.declared.cause.Cause.{Cause}

-- an object that lives: its number, its behaviour, and the values of its fields in their order
pub record Object : Type 0 where
  pub number : ℕ
  pub behaviour : ℕ
  pub fields : List Plain

-- what a root gets: the answer to its call, that the bridge has ended, or that there was no memory
pub data Outcome : Type 0 where
  answer : Answer → Outcome
  disposed : Cause → Outcome
  no_memory : Outcome

-- whether a root has nothing open, waits for the answer to a call or to a query for an interface, or has an outcome that it did not take
pub data RootState : Type 0 where
  idle : RootState
  waits_call : RootState
  waits_query : (wanted : List ℕ) → RootState
  answered : Outcome → RootState

-- what messages and frames change: the living objects in the order in which they were made, how many were made, and how many frames; who holds which pair; the
-- stubs; the states of the roots in order; and the messages that were said and are not spelled
pub record Tables : Type 0 where
  pub objects : List Object
  pub objects_made : ℕ
  pub frames_made : ℕ
  pub holdings : Holdings
  pub stubs : Stubs
  pub roots : List RootState
  pub unsaid : List Message

-- what came in: how many bytes stand before the open block, the bytes of that block so far, and what is remembered of the peer's messages
pub record Incoming : Type 0 where
  pub place : ℕ
  pub held : List ℕ
  pub heard : Heard

-- what goes out: the bytes that are spelled and not drained, and what is remembered of the messages that were spelled
pub record Outgoing : Type 0 where
  pub ready : List ℕ
  pub spoken : Spoken

-- with the stacks of its threads, how many entries it has that count, and why the bridge has ended, where it has
pub record Side : Type 0 where
  pub tables : Tables
  pub stacks : List Stack
  pub incoming : Incoming
  pub outgoing : Outgoing
  pub entries : ℕ
  pub cause : Option Cause

abbrev pub nothing_came : Incoming
nothing_came = record { place = 0; held = []; heard = nothing_heard }

abbrev pub nothing_goes : Outgoing
nothing_goes = record { ready = []; spoken = nothing_spoken }

-- whether the bridge stands
abbrev pub stands_by : Option Cause → Bool
stands_by None = true
stands_by (Some cause) = false

abbrev pub stands : Side → Bool
stands s = stands_by s.cause

-- ---- parts of a side

abbrev pub with_tables : Tables → Side → Side
with_tables t s = record s { tables = t }

abbrev pub on_tables : (Tables → Tables) → Side → Side
on_tables change s = record s { tables = change s.tables }

abbrev pub with_stacks : List Stack → Side → Side
with_stacks stacks s = record s { stacks = stacks }

-- ---- roots, which are numbered from 1

-- a root that is not there is idle
unfoldable pub state_of : ℕ → List RootState → RootState
state_of zero states = idle
state_of (suc n) states = unwrap_or (slice_get states n) idle

unfoldable pub states_with : ℕ → RootState → List RootState → List RootState
states_with zero state states = states
states_with (suc n) state states = slice_set states n state

abbrev pub with_root : ℕ → RootState → Tables → Tables
with_root root state t = record t { roots = states_with root state t.roots }
