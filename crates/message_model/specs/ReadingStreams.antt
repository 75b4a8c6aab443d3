-- What a reader makes of the body of a block that says how many messages it has, and of a stream: the messages that it reads, what it remembers after them,
-- and the first fault with its place.
use Rattle.std.specs.Prelude.{◌≡◌, ◌≢◌, ℕ, zero, suc, ◌+◌, ◌-◌, ◌<◌, List, [], ◌∷◌, ◌++◌, length, Option, None, Some, option_map, Result, Ok, Err}
use Rattle.uno_model.specs.Entities.{Entity}
use Rattle.urp_model.specs.PlacedBlocks.{PlacedBlock, spell_blocks}
use Rattle.urp_model.specs.declared.fault.Fault.{Fault}
use Rattle.urp_model.specs.declared.fault.Fault.TheVariants.{Short, Bad}
use Rattle.urp_model.specs.declared.reason.Reason.{Reason}
use Rattle.urp_model.specs.declared.reason.Reason.TheVariants.{ShortMessage, LeftOver}
use Rattle.message_model.specs.Calls.{Waits}
use Rattle.message_model.specs.Headers.{Heard}
use Rattle.message_model.specs.Messages.{Message}
use Rattle.message_model.specs.ReadingMessages.{message_at}
use Rattle.message_model.specs.Streams.{SpellsBody, SpellsStream}

-- ---- what waits

-- the calls that wait for their answers, from the messages that were read before
abbrev pub Awaiting : Type 0
Awaiting = List Message → Waits

-- so before each of these messages, the first of which is read next
unfoldable pub along : Awaiting → List Message → List Waits
along waits [] = []
along waits (m ∷ ms) = waits [] ∷ along (λ ns. waits (m ∷ ns)) ms

-- and before each message of these blocks
unfoldable pub along_blocks : Awaiting → List (List Message) → List (List Waits)
along_blocks waits [] = []
along_blocks waits (ms ∷ mss) = along waits ms ∷ along_blocks (λ ns. waits (ms ++ ns)) mss

-- the messages of blocks, one after the other
unfoldable pub joined : List (List Message) → List Message
joined [] = []
joined (ms ∷ mss) = ms ++ joined mss

-- ---- a body

-- bytes stand behind the last message, the first of them at this offset; or the message that begins at this offset is not read, for this reason. An offset
-- counts from the front of the body
pub data BodyFault : Type 0 where
  left_over : ℕ → BodyFault
  unread : Reason → ℕ → BodyFault

-- where a fault begins
abbrev pub offset_of : BodyFault → ℕ
offset_of (left_over offset) = offset
offset_of (unread reason offset) = offset

-- the messages that are read, what is remembered after them, and the fault that stands behind them, if there is one
pub record BodyRead : Type 0 where
  pub messages : List Message
  pub heard : Heard
  pub fault : Option BodyFault

-- why a message is not read that is short or breaks the protocol: a short one runs past the body
abbrev pub reason_of : Fault → Reason
reason_of Short = ShortMessage
reason_of (Bad reason) = reason

-- a fault behind so many bytes more
abbrev pub further_in : ℕ → BodyFault → BodyFault
further_in n (left_over offset) = left_over (n + offset)
further_in n (unread reason offset) = unread reason (n + offset)

-- one message of so many bytes before what is read behind it
abbrev pub with_first : Message → ℕ → BodyRead → BodyRead
with_first m n others = record { messages = m ∷ others.messages; heard = others.heard; fault = option_map (further_in n) others.fault }

-- behind the last message nothing may stand
abbrev pub body_end : Heard → List ℕ → BodyRead
body_end heard [] = record { messages = []; heard = heard; fault = None }
body_end heard (b ∷ bytes) = record { messages = []; heard = heard; fault = Some (left_over 0) }

-- a message, and what is read behind it; or it is not read
abbrev pub body_with : (Message → Heard → List ℕ → BodyRead) → Heard → List ℕ → Result (Message × Heard × List ℕ) Fault → BodyRead
body_with others heard bytes (Err fault) = record { messages = []; heard = heard; fault = Some (unread (reason_of fault) 0) }
body_with others heard bytes (Ok x) = with_first x.0 (length bytes - length x.2) (others x.0 x.1 x.2)

-- a body of so many messages
unfoldable pub body_at : List Entity → Awaiting → ℕ → Heard → List ℕ → BodyRead
body_at reg waits zero heard bytes = body_end heard bytes
body_at reg waits (suc n) heard bytes = body_with (λ m. body_at reg (λ ms. waits (m ∷ ms)) n) heard bytes (message_at reg (waits []) heard bytes)

-- the offset of the message that stands behind the first n ones: how many bytes these have
abbrev pub offset_with : (Message → Heard → List ℕ → ℕ) → List ℕ → Result (Message × Heard × List ℕ) Fault → ℕ
offset_with others bytes (Err fault) = 0
offset_with others bytes (Ok x) = (length bytes - length x.2) + others x.0 x.1 x.2

unfoldable pub offset_at : List Entity → Awaiting → ℕ → Heard → List ℕ → ℕ
offset_at reg waits zero heard bytes = 0
offset_at reg waits (suc n) heard bytes = offset_with (λ m. offset_at reg (λ ms. waits (m ∷ ms)) n) bytes (message_at reg (waits []) heard bytes)

-- ---- what a body is

-- what stands behind the messages of a body: nothing, and they are all; bytes, though they are all; or the next one, which is not read
abbrev pub Ends : List Entity → Awaiting → ℕ → List Message → Heard → List ℕ → ℕ → Option BodyFault → Type 0
Ends reg waits count ms heard rest offset None = (length ms ≡ count) × (rest ≡ [])
Ends reg waits count ms heard rest offset (Some (left_over at)) = (at ≡ offset) × (length ms ≡ count) × (rest ≢ [])
Ends reg waits count ms heard rest offset (Some (unread reason at)) =
    (at ≡ offset) × (length ms < count) × ((fault : Fault) × (message_at reg (waits ms) heard rest ≡ Err fault) × (reason ≡ reason_of fault))

-- a fault that more bytes in the body do not mend: each but that of a message that runs past it
abbrev pub IsFinal : BodyFault → Type 0
IsFinal (left_over offset) = Unit
IsFinal (unread reason offset) = reason ≢ ShortMessage

-- a body of so many messages has these at its front, and behind them what is said
pub record IsBodyRead (reg : List Entity) (waits : Awaiting) (count : ℕ) (heard : Heard) (body : List ℕ) (read : BodyRead) : Type 0 where
  pub front : List ℕ
  pub rest : List ℕ
  pub split : body ≡ front ++ rest
  pub spelled : SpellsBody reg (along waits read.messages) front heard read.messages read.heard
  pub ends : Ends reg waits count read.messages read.heard rest (length front) read.fault

-- these messages stand at the front of a body, and what stands behind them begins at their offset
pub record BeginsWith (reg : List Entity) (waits : Awaiting) (heard : Heard) (body : List ℕ) (ms : List Message) : Type 0 where
  pub front : List ℕ
  pub rest : List ℕ
  pub between : Heard
  pub split : body ≡ front ++ rest
  pub spelled : SpellsBody reg (along waits ms) front heard ms between
  pub offset : offset_at reg waits (length ms) heard body ≡ length front

-- ---- a stream

-- why a stream is refused, and the place counted from 0 in all its bytes
pub record StreamFault : Type 0 where
  pub reason : Reason
  pub place : ℕ

-- the place of a fault in a block: of bytes behind its messages that of the block's first byte, and of a message that of the message's first byte, which
-- stands behind the eight bytes of the header
abbrev pub placed : ℕ → BodyFault → StreamFault
placed place (left_over offset) = record { reason = LeftOver; place = place }
placed place (unread reason offset) = record { reason = reason; place = place + 8 + offset }

-- the messages that are read, what is remembered after them, and the fault behind them, if there is one
pub record StreamRead : Type 0 where
  pub messages : List Message
  pub heard : Heard
  pub fault : Option StreamFault

-- the messages of a block before what is read behind it
abbrev pub with_block : List Message → StreamRead → StreamRead
with_block ms others = record { messages = ms ++ others.messages; heard = others.heard; fault = others.fault }

-- a block, and where it has no fault what is read behind it
abbrev pub stream_with : (List Message → Heard → StreamRead) → ℕ → List Message → Heard → Option BodyFault → StreamRead
stream_with others place ms heard None = with_block ms (others ms heard)
stream_with others place ms heard (Some fault) = record { messages = ms; heard = heard; fault = Some (placed place fault) }

abbrev pub stream_of : (List Message → Heard → StreamRead) → ℕ → BodyRead → StreamRead
stream_of others place read = stream_with others place read.messages read.heard read.fault

-- blocks, one after the other
unfoldable pub stream_at : List Entity → Awaiting → Heard → List PlacedBlock → StreamRead
stream_at reg waits heard [] = record { messages = []; heard = heard; fault = None }
stream_at reg waits heard (b ∷ blocks) =
    stream_of (λ ms between. stream_at reg (λ ns. waits (ms ++ ns)) between blocks) b.place (body_at reg waits b.count heard b.body)

-- ---- what a stream is

-- the blocks are these messages in order
pub record IsWholeStream (reg : List Entity) (waits : Awaiting) (heard : Heard) (blocks : List PlacedBlock) (read : StreamRead) : Type 0 where
  pub messages : List (List Message)
  pub joins : read.messages ≡ joined messages
  pub spelled : SpellsStream reg (along_blocks waits messages) (spell_blocks blocks) heard messages read.heard

-- some blocks are messages in order, and the block behind them has some messages and then a fault
pub record IsBrokenStream (reg : List Entity) (waits : Awaiting) (heard : Heard) (blocks : List PlacedBlock) (read : StreamRead) (fault : StreamFault) : Type 0 where
  pub before : List PlacedBlock
  pub broken : PlacedBlock
  pub after : List PlacedBlock
  pub messages : List (List Message)
  pub last : List Message
  pub between : Heard
  pub within : BodyFault
  pub splits : blocks ≡ before ++ broken ∷ after
  pub joins : read.messages ≡ joined messages ++ last
  pub spelled : SpellsStream reg (along_blocks waits messages) (spell_blocks before) heard messages between
  pub breaks : IsBodyRead reg (λ ms. waits (joined messages ++ ms)) broken.count between broken.body (record { messages = last; heard = read.heard; fault = Some within })
  pub at : fault ≡ placed broken.place within

-- blocks are these messages, up to the first fault
abbrev pub IsReadUpTo : List Entity → Awaiting → Heard → List PlacedBlock → StreamRead → Option StreamFault → Type 0
IsReadUpTo reg waits heard blocks read None = IsWholeStream reg waits heard blocks read
IsReadUpTo reg waits heard blocks read (Some fault) = IsBrokenStream reg waits heard blocks read fault

abbrev pub IsStreamRead : List Entity → Awaiting → Heard → List PlacedBlock → StreamRead → Type 0
IsStreamRead reg waits heard blocks read = IsReadUpTo reg waits heard blocks read read.fault
