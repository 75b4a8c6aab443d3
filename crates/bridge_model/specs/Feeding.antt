-- Bytes that come in: how they are cut into blocks, and how the messages of a block are read and received, one after the other.
use Rattle.std.specs.Prelude.{ℕ, zero, suc, ◌+◌, ◌-◌, Bool, true, false, not, ◌&&◌, ◌||◌, nat_lt, ◌==◌, List, [], ◌∷◌, ◌++◌, length, take, drop, Option, None, Some, Result, Ok, Err, if◌then◌else◌}
use Rattle.std.specs.Int.{w32, from_be_bytes}
use Rattle.message_model.specs.Headers.{Heard}
use Rattle.message_model.specs.Messages.{Message}
use Rattle.message_model.specs.ReadingMessages.{message_at}
use Rattle.message_model.specs.ReadingStreams.{reason_of}
use Rattle.urp_model.specs.PlacedBlocks.{largest_size}
use Rattle.urp_model.specs.declared.fault.Fault.{Fault}
use Rattle.urp_model.specs.declared.reason.Reason.{Reason}
use Rattle.urp_model.specs.declared.reason.Reason.TheVariants.{TooLarge, NoMessages, LeftOver}
use Rattle.bridge_model.specs.Ends.{ends_by}
use Rattle.bridge_model.specs.Receiving.{refusal, receives}
use Rattle.bridge_model.specs.Settings.{Setting}
use Rattle.bridge_model.specs.Sides.{Side}
use Rattle.bridge_model.specs.Stacks.{waits_of}
use Rattle.bridge_model.specs.declared.cause.Cause.TheVariants as cause

-- ---- blocks

-- what the header of a block says: the bytes of its messages, and how many these are
abbrev pub size_said : List ℕ → ℕ
size_said bytes = from_be_bytes w32 (take 4 bytes)

abbrev pub count_said : List ℕ → ℕ
count_said bytes = from_be_bytes w32 (take 4 (drop 4 bytes))

abbrev pub has_header : List ℕ → Bool
has_header bytes = not (nat_lt (length bytes) 8)

-- a header that is refused, as soon as it is whole
unfoldable pub header_fault : List ℕ → Option Reason
header_fault bytes =
    if has_header bytes then (if nat_lt largest_size (size_said bytes) then Some TooLarge else (if count_said bytes == 0 then Some NoMessages else None))
    else None

-- a block is whole
unfoldable pub block_stands : List ℕ → Bool
block_stands bytes = has_header bytes && not (nat_lt (length bytes) (8 + size_said bytes))

abbrev pub is_some_reason : Option Reason → Bool
is_some_reason None = false
is_some_reason (Some why) = true

-- bytes that end a block, or a header that is refused
unfoldable pub ends_part : List ℕ → Bool
ends_part bytes = is_some_reason (header_fault bytes) || block_stands bytes

-- ---- messages

-- a side, and the messages that it got
pub record Hearing : Type 0 where
  pub side : Side
  pub got : List Message

-- the bridge ends, since what begins at this place breaks the protocol
abbrev pub breaks : Reason → ℕ → Hearing → Hearing
breaks why place x = record { side = ends_by (cause.Broken why place) x.side; got = x.got }

abbrev pub remembers : Heard → Side → Side
remembers heard s = record s { incoming = record s.incoming { heard = heard } }

-- a message more is got
abbrev pub gets : Setting → Message → Heard → Hearing → Hearing
gets g m heard x = record { side = receives g m (remembers heard x.side); got = x.got ++ m ∷ [] }

-- behind the last message of a block nothing stands
abbrev pub block_ends : ℕ → List ℕ → Hearing → Hearing
block_ends front [] x = x
block_ends front (b ∷ bytes) x = breaks LeftOver front x

-- what is done behind a message: with the place and the bytes of the next one
abbrev pub Next : Type 0
Next = ℕ → List ℕ → Hearing → Hearing

abbrev pub hears_tested : Setting → Next → ℕ → ℕ → Message × Heard × List ℕ → Option Reason → Hearing → Hearing
hears_tested g more place next read None x = more next read.2 (gets g read.0 read.1 x)
hears_tested g more place next read (Some why) x = breaks why place x

abbrev pub hears_read : Setting → Next → ℕ → List ℕ → Result (Message × Heard × List ℕ) Fault → Hearing → Hearing
hears_read g more place bytes (Err fault) x = breaks (reason_of fault) place x
hears_read g more place bytes (Ok read) x = hears_tested g more place (place + (length bytes - length read.2)) read (refusal g x.side read.0) x

-- so many messages, the first of which stands at this place, of a block that begins at `front`; each is read under the calls that wait before it
unfoldable pub hears : Setting → ℕ → (front place : ℕ) → List ℕ → Hearing → Hearing
hears g zero front place bytes x = block_ends front bytes x
hears g (suc n) front place bytes x =
    hears_read g (hears g n front) place bytes (message_at g.registry (waits_of x.side.stacks) x.side.incoming.heard bytes) x

-- ---- pieces

abbrev pub heard_nothing : Side → Hearing
heard_nothing s = record { side = s; got = [] }

abbrev pub holds_bytes : List ℕ → Side → Side
holds_bytes bytes s = record s { incoming = record s.incoming { held = bytes } }

-- a block is taken: the next one begins behind it
abbrev pub takes_block : List ℕ → Side → Side
takes_block bytes s = record s { incoming = record s.incoming { place = s.incoming.place + length bytes; held = [] } }

abbrev pub feeds_whole : Setting → List ℕ → Side → Hearing
feeds_whole g bytes s = hears g (count_said bytes) s.incoming.place (s.incoming.place + 8) (drop 8 bytes) (heard_nothing (takes_block bytes s))

abbrev pub feeds_part : Setting → List ℕ → Option Reason → Side → Hearing
feeds_part g bytes (Some why) s = breaks why s.incoming.place (heard_nothing s)
feeds_part g bytes None s = if block_stands bytes then feeds_whole g bytes s else heard_nothing (holds_bytes bytes s)

-- the bytes of the open block with a piece more
unfoldable pub feeds : Setting → List ℕ → Side → Hearing
feeds g piece s = feeds_part g (s.incoming.held ++ piece) (header_fault (s.incoming.held ++ piece)) s
