-- What bytes say, from their front: a message, what the reader remembers after it, and the bytes behind it; or the first fault.
use Rattle.std.specs.Prelude.{ℕ, ◌-◌, ◌==◌, ◌&&◌, nat_lt, not, Bool, true, false, List, [], ◌∷◌, Option, None, Some, Result, Ok, Err, if◌then◌else◌}
use Rattle.std.specs.Int.{w16, from_be_bytes}
use Rattle.uno_model.specs.Entities.{Entity}
use Rattle.uno_model.specs.Functions.{Function}
use Rattle.uno_model.specs.Kinds.{Kind, interface_of}
use Rattle.uno_model.specs.Kinds as kd
use Rattle.urp_model.specs.NamedKinds.{is_any}
use Rattle.urp_model.specs.Parts.{◌>>=◌, judged, byte_at, number_at}
use Rattle.urp_model.specs.Reading.{members_at, value_at}
use Rattle.urp_model.specs.ReadingNames.{kind_at, oid_at, tid_at}
use Rattle.urp_model.specs.Tables.{Table, Tables, with_types, with_tids}
use Rattle.urp_model.specs.declared.fault.Fault.{Fault}
use Rattle.urp_model.specs.declared.fault.Fault.TheVariants.{Bad}
use Rattle.urp_model.specs.declared.reason.Reason.TheVariants.{BadFlags, NoLast, NotInterface, UnknownFunction, Acquire, OneWay, NobodyWaits, BadAny}
use Rattle.urp_model.specs.declared.reason.Reason.TheVariants.{BadException}
use Rattle.message_model.specs.Calls.{acquire_number, release_number, numbered, argument_kinds, out_kinds, may_raise, Waiting, Waits, waiting}
use Rattle.message_model.specs.Headers.{Heard, hearing, has, new_type_flag, new_oid_flag, new_tid_flag, wide_flag, more_flag, exception_flag, Opening}
use Rattle.message_model.specs.Headers.{Target, oid_text}
use Rattle.message_model.specs.Messages.{Answer, returned, raised, Message, request, release, reply}

-- ---- openings of requests

-- a function's number in two bytes, or in one
unfoldable pub function_at : Bool → List ℕ → Result (ℕ × List ℕ) Fault
function_at true bytes = number_at w16 bytes
function_at false bytes = byte_at bytes

-- the second byte of flags, of which the two high bits (MUSTREPLY, SYNCHRONOUS) say together that an answer comes; no such byte says that none does
unfoldable pub answered_at : Bool → List ℕ → Result (Bool × List ℕ) Fault
answered_at false bytes = Ok (false, bytes)
answered_at true bytes = do
  flags ← byte_at bytes
  if nat_lt flags.0 0x40 then Ok (false, flags.1) else (if nat_lt flags.0 0xC0 then Err (Bad BadFlags) else Ok (true, flags.1))

-- behind the flags of a long header: whether an answer comes, and the function
unfoldable pub long_opening_at : ℕ → List ℕ → Result (Opening × List ℕ) Fault
long_opening_at flags bytes = do
  answered ← answered_at (has more_flag flags) bytes
  function ← function_at (has wide_flag flags) answered.1
  Ok (
    record {
      function = function.0;
      answered = answered.0;
      new_type = has new_type_flag flags;
      new_oid = has new_oid_flag flags;
      new_tid = has new_tid_flag flags;
    },
    function.1,
  )

-- a short header has a function and nothing new
abbrev pub short_opening : ℕ → Opening
short_opening function = record { function = function; answered = false; new_type = false; new_oid = false; new_tid = false }

-- a short header of two bytes, which are 0x4000 and the function
unfoldable pub two_byte_opening_at : ℕ → List ℕ → Result (Opening × List ℕ) Fault
two_byte_opening_at first bytes = do
  second ← byte_at bytes
  Ok (short_opening (from_be_bytes w16 (first ∷ second.0 ∷ []) - 0x4000), second.1)

-- a request begins with its function, where the byte is below 0x40; with two bytes, where it is below 0x80; with flags, where its two high bits (LONGHEADER, REQUEST)
-- are set
unfoldable pub opening_at : ℕ → List ℕ → Result (Opening × List ℕ) Fault
opening_at first bytes =
    if nat_lt first 0x40 then Ok (short_opening first, bytes) else (if nat_lt first 0x80 then two_byte_opening_at first bytes else long_opening_at first bytes)

-- ---- targets

-- a part of a header stands in the bytes where it is new, and is the last one of its kind where not
unfoldable pub new_or_last_at : {X : Type 0} → Bool → Option X → (Table → List ℕ → Result (X × Table × List ℕ) Fault) → Table → List ℕ → Result (X × Table × List ℕ) Fault
new_or_last_at true last r table bytes = r table bytes
new_or_last_at false last r table bytes = do
  x ← judged NoLast last
  Ok (x, table, bytes)

-- the identity of an object, empty for null
unfoldable pub oid_text_at : Table → List ℕ → Result (List ℕ × Table × List ℕ) Fault
oid_text_at table bytes = do
  oid ← oid_at table bytes
  Ok (oid_text oid.0, oid.1, oid.2)

-- the type, the object and the thread of a request
unfoldable pub target_at : List Entity → Opening → Heard → List ℕ → Result (Target × Heard × List ℕ) Fault
target_at reg opening heard bytes = do
  k ← new_or_last_at opening.new_type heard.last.kind (kind_at reg) heard.tables.types bytes
  oid ← new_or_last_at opening.new_oid heard.last.oid oid_text_at heard.tables.oids k.2
  tid ← new_or_last_at opening.new_tid heard.last.tid tid_at heard.tables.tids oid.2
  Ok (
    record { kind = k.0; oid = oid.0; tid = tid.0 },
    record {
      tables = record { types = k.1; oids = oid.1; tids = tid.1 };
      last = record { kind = Some k.0; oid = Some oid.0; tid = Some tid.0 };
    },
    tid.2,
  )

-- ---- requests

-- a release, which has no answer and no arguments
unfoldable pub release_at : Bool → List ℕ → Target → Heard → List ℕ → Result (Message × Heard × List ℕ) Fault
release_at true face target heard bytes = Err (Bad OneWay)
release_at false face target heard bytes = Ok (release target.tid target.oid face, heard, bytes)

-- the arguments of a call
unfoldable pub arguments_at : List Entity → Function → List ℕ → ℕ → Target → Heard → List ℕ → Result (Message × Heard × List ℕ) Fault
arguments_at reg f face function target heard bytes = do
  args ← members_at (value_at 64 reg) (argument_kinds f) heard.tables bytes
  Ok (request target.tid target.oid face function args.0, hearing heard args.1, args.2)

-- a call of a function of the interface; a one-way one has to be sent as one that has an answer
unfoldable pub call_at : List Entity → Opening → List ℕ → Target → Heard → List ℕ → Result (Message × Heard × List ℕ) Fault
call_at reg opening face target heard bytes = do
  f ← judged UnknownFunction (numbered reg face opening.function)
  if f.oneway && not opening.answered then Err (Bad OneWay) else arguments_at reg f face opening.function target heard bytes

-- behind the header of a request to an interface
unfoldable pub asked_at : List Entity → Opening → List ℕ → Target → Heard → List ℕ → Result (Message × Heard × List ℕ) Fault
asked_at reg opening face target heard bytes =
    if opening.function == release_number then release_at opening.answered face target heard bytes
    else (if opening.function == acquire_number then Err (Bad Acquire) else call_at reg opening face target heard bytes)

-- a request, of which this byte is the first
unfoldable pub request_at : List Entity → Heard → ℕ → List ℕ → Result (Message × Heard × List ℕ) Fault
request_at reg heard first bytes = do
  opening ← opening_at first bytes
  target ← target_at reg opening.0 heard opening.1
  face ← judged NotInterface (interface_of target.0.kind)
  asked_at reg opening.0 face target.0 target.1 target.2

-- ---- replies

-- the result of a call, and the values of its [out] and [inout] parameters
unfoldable pub returned_at : List Entity → Function → Tables → List ℕ → Result (Answer × Tables × List ℕ) Fault
returned_at reg f s bytes = do
  value ← value_at 64 reg f.result_kind s bytes
  outs ← members_at (value_at 64 reg) (out_kinds f) value.1 value.2
  Ok (returned value.0 outs.0, outs.1, outs.2)

-- the exception that an any holds, one level further in
unfoldable pub exception_at : List Entity → Function → Kind → Tables → List ℕ → Result (Answer × Tables × List ℕ) Fault
exception_at reg f k s bytes =
    if may_raise reg f k then (do
      value ← value_at 63 reg k s bytes
      Ok (raised k value.0, value.1, value.2))
    else Err (Bad BadException)

-- an any with an exception that the function may raise, of which the type is judged before its value
unfoldable pub raised_at : List Entity → Function → Tables → List ℕ → Result (Answer × Tables × List ℕ) Fault
raised_at reg f s bytes = do
  k ← kind_at reg s.types bytes
  if is_any k.0 then Err (Bad BadAny) else exception_at reg f k.0 (with_types s k.1) k.2

-- the answer to a call of a function
unfoldable pub answer_at : Bool → List Entity → Function → Tables → List ℕ → Result (Answer × Tables × List ℕ) Fault
answer_at true reg f s bytes = raised_at reg f s bytes
answer_at false reg f s bytes = returned_at reg f s bytes

-- the function of a call that waits
abbrev pub awaited : List Entity → Option Waiting → Option (Waiting × Function)
awaited reg None = None
awaited reg (Some call) = with_call (numbered reg call.face call.function)
  where
    with_call : Option Function → Option (Waiting × Function)
    with_call None = None
    with_call (Some f) = Some (call, f)

-- after a reply on a thread
abbrev pub hearing_tid : Heard → List ℕ → Tables → Heard
hearing_tid heard tid s = record { tables = s; last = record { kind = heard.last.kind; oid = heard.last.oid; tid = Some tid } }

-- a reply with these flags, to the call for which its thread waits
unfoldable pub reply_at : List Entity → Waits → Heard → ℕ → List ℕ → Result (Message × Heard × List ℕ) Fault
reply_at reg waits heard flags bytes = do
  tid ← new_or_last_at (has new_tid_flag flags) heard.last.tid tid_at heard.tables.tids bytes
  call ← judged NobodyWaits (awaited reg (waiting tid.0 waits))
  answer ← answer_at (has exception_flag flags) reg call.1 (with_tids heard.tables tid.1) tid.2
  Ok (reply tid.0 call.0.face call.0.function answer.0, hearing_tid heard tid.0 answer.1, answer.2)

-- ---- messages

-- whether a first byte is that of a reply: its highest bit (LONGHEADER) is set, and the next one (REQUEST) is not
abbrev pub opens_reply : ℕ → Bool
opens_reply first = not (nat_lt first 0x80) && nat_lt first 0xC0

-- a message
unfoldable pub message_at : List Entity → Waits → Heard → List ℕ → Result (Message × Heard × List ℕ) Fault
message_at reg waits heard bytes = do
  first ← byte_at bytes
  if opens_reply first.0 then reply_at reg waits heard first.0 first.1 else request_at reg heard first.0 first.1
