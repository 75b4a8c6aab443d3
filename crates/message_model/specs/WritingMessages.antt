-- The one spelling of a message that a sender chooses, and what it remembers afterwards: a part of a header that is the last one of its kind is left out, and a
-- header is short where it can be (URP specification, messages).
use Rattle.std.specs.Prelude.{ℕ, ◌+◌, ◌*◌, nat_lt, ◌||◌, not, Bool, true, false, List, [], ◌∷◌, ◌++◌, Option, None, Some, if◌then◌else◌}
use Rattle.std.specs.Int.{w16, to_be_bytes, from_bool}
use Rattle.std.specs.List.{flat_map}
use Rattle.std.specs.Str.{bytes_eq}
use Rattle.uno_model.specs.Entities.{Entity}
use Rattle.uno_model.specs.Kinds.{Kind}
use Rattle.uno_model.specs.Kinds as kd
use Rattle.uno_model.specs.Values.{Plain, any, plains}
use Rattle.urp_model.specs.Blocks.{spell_block}
use Rattle.urp_model.specs.Held.{used}
use Rattle.urp_model.specs.Writing.{Names, HeldNames, no_names, holding_tids, kind_spelling, kind_after, name_spelling, after, afters, spelling, spellings}
use Rattle.message_model.specs.Calls.{release_number, numbered, is_oneway}
use Rattle.message_model.specs.Headers.{Last, nothing_said, new_type_flag, new_oid_flag, new_tid_flag, wide_flag, more_flag, exception_flag}
use Rattle.message_model.specs.Messages.{Answer, returned, raised, Message, request, release, reply}

-- what a sender remembers of a direction: the names that it holds, and what it named last
pub record Spoken : Type 0 where
  pub names : HeldNames
  pub last : Last

abbrev pub nothing_spoken : Spoken
nothing_spoken = record { names = no_names; last = nothing_said }

-- ---- what is new

-- a name is not the last one of its kind
abbrev pub is_new : List ℕ → Option (List ℕ) → Bool
is_new name None = true
is_new name (Some last) = not (bytes_eq name last)

-- an interface is not the last type
abbrev pub is_new_face : List ℕ → Option Kind → Bool
is_new_face face (Some (kd.interface last)) = not (bytes_eq face last)
is_new_face face _ = true

-- what is written of a part of a header, and what is held after it
abbrev pub if_new : Bool → List ℕ → List ℕ
if_new true b = b
if_new false b = []

abbrev pub held_if_new : Bool → Names → Names → Names
held_if_new true written held = written
held_if_new false written held = held

-- ---- headers of requests

-- a request has more flags only where a one-way function is called, to say that an answer comes all the same
pub record Heading : Type 0 where
  pub function : ℕ
  pub answered : Bool
  pub tid : List ℕ
  pub oid : List ℕ
  pub face : List ℕ

-- whether a header cannot be short: something is new, more flags are needed, or the function is above 16,383
abbrev pub is_long : Heading → Last → Bool
is_long h last = is_new_face h.face last.kind || (is_new h.oid last.oid || (is_new h.tid last.tid || (h.answered || nat_lt 16383 h.function)))

-- the flags of a long header
abbrev pub long_flags : Heading → Last → ℕ
long_flags h last =
    0xC0 + (from_bool (is_new_face h.face last.kind) * new_type_flag + (from_bool (is_new h.oid last.oid) * new_oid_flag + (from_bool (is_new h.tid last.tid) * new_tid_flag
    + (from_bool (nat_lt 255 h.function) * wide_flag + from_bool h.answered * more_flag))))

-- a function in two bytes where it is above 255, and else in one
abbrev pub function_bytes : ℕ → List ℕ
function_bytes function = if nat_lt 255 function then to_be_bytes w16 function else function ∷ []

-- a short header: the function in one byte where it is below 64, and else 0x4000 and the function in two
abbrev pub short_bytes : ℕ → List ℕ
short_bytes function = if nat_lt function 64 then function ∷ [] else to_be_bytes w16 (0x4000 + function)

-- how a request begins: flags, the two high bits where an answer comes to a one-way call, and the function; or a short header
unfoldable pub opening_spelling : Heading → Last → List ℕ
opening_spelling h last =
    if is_long h last then long_flags h last ∷ (if_new h.answered (0xC0 ∷ []) ++ function_bytes h.function) else short_bytes h.function

-- the type, the object and the thread of a request, where they are new
unfoldable pub target_spelling : Heading → Spoken → List ℕ
target_spelling h spoken =
    if_new (is_new_face h.face spoken.last.kind) (kind_spelling (kd.interface h.face) spoken.names.types)
    ++ (if_new (is_new h.oid spoken.last.oid) (name_spelling h.oid spoken.names.oids)
    ++ if_new (is_new h.tid spoken.last.tid) (name_spelling h.tid spoken.names.tids))

-- what is remembered after the header of a request
unfoldable pub after_target : Heading → Spoken → Spoken
after_target h spoken = record {
  names = record {
    types = held_if_new (is_new_face h.face spoken.last.kind) (kind_after (kd.interface h.face) spoken.names.types) spoken.names.types;
    oids = held_if_new (is_new h.oid spoken.last.oid) (used h.oid spoken.names.oids) spoken.names.oids;
    tids = held_if_new (is_new h.tid spoken.last.tid) (used h.tid spoken.names.tids) spoken.names.tids;
  };
  last = record { kind = Some (kd.interface h.face); oid = Some h.oid; tid = Some h.tid };
}

-- the header of a request, and what it carries
abbrev pub request_spelling : Heading → List Plain → Spoken → List ℕ
request_spelling h args spoken = opening_spelling h spoken.last ++ (target_spelling h spoken ++ spellings (plains args) (after_target h spoken).names)

abbrev pub after_request : Heading → List Plain → Spoken → Spoken
after_request h args spoken = record { names = afters (plains args) (after_target h spoken).names; last = (after_target h spoken).last }

-- ---- replies

-- an answer: the result and the other values, or an any with the exception
unfoldable pub answer_spelling : Answer → HeldNames → List ℕ
answer_spelling (returned v outs) h = spelling v h ++ spellings (plains outs) (after v h)
answer_spelling (raised k v) h = spelling (any k v) h

unfoldable pub after_answer : Answer → HeldNames → HeldNames
after_answer (returned v outs) h = afters (plains outs) (after v h)
after_answer (raised k v) h = after (any k v) h

abbrev pub is_raised : Answer → Bool
is_raised (returned v outs) = false
is_raised (raised k v) = true

-- the flags of a reply
abbrev pub reply_flags : Bool → Bool → ℕ
reply_flags with_exception new_tid = 0x80 + (from_bool with_exception * exception_flag + from_bool new_tid * new_tid_flag)

-- what is held after the thread of a reply
abbrev pub after_thread : List ℕ → Spoken → HeldNames
after_thread tid spoken = holding_tids spoken.names (held_if_new (is_new tid spoken.last.tid) (used tid spoken.names.tids) spoken.names.tids)

-- flags, the thread where it is new, and the answer
unfoldable pub reply_spelling : List ℕ → Answer → Spoken → List ℕ
reply_spelling tid answer spoken =
    reply_flags (is_raised answer) (is_new tid spoken.last.tid)
    ∷ (if_new (is_new tid spoken.last.tid) (name_spelling tid spoken.names.tids) ++ answer_spelling answer (after_thread tid spoken))

unfoldable pub after_reply : List ℕ → Answer → Spoken → Spoken
after_reply tid answer spoken = record {
  names = after_answer answer (after_thread tid spoken);
  last = record { kind = spoken.last.kind; oid = spoken.last.oid; tid = Some tid };
}

-- ---- messages

-- the header of a call and of a release; a call of a one-way function is sent as one that has an answer
abbrev pub call_heading : List Entity → List ℕ → List ℕ → List ℕ → ℕ → Heading
call_heading reg tid oid face function = record { function = function; answered = is_oneway (numbered reg face function); tid = tid; oid = oid; face = face }

abbrev pub release_heading : List ℕ → List ℕ → List ℕ → Heading
release_heading tid oid face = record { function = release_number; answered = false; tid = tid; oid = oid; face = face }

-- a message
unfoldable pub message_spelling : List Entity → Message → Spoken → List ℕ
message_spelling reg (request tid oid face function args) spoken = request_spelling (call_heading reg tid oid face function) args spoken
message_spelling reg (release tid oid face) spoken = request_spelling (release_heading tid oid face) [] spoken
message_spelling reg (reply tid face function answer) spoken = reply_spelling tid answer spoken

-- what is remembered after it
unfoldable pub after_message : List Entity → Message → Spoken → Spoken
after_message reg (request tid oid face function args) spoken = after_request (call_heading reg tid oid face function) args spoken
after_message reg (release tid oid face) spoken = after_request (release_heading tid oid face) [] spoken
after_message reg (reply tid face function answer) spoken = after_reply tid answer spoken

-- messages one after the other: the body of each, and what is remembered after all
unfoldable pub bodies_spelling : List Entity → List Message → Spoken → List (List ℕ)
bodies_spelling reg [] spoken = []
bodies_spelling reg (m ∷ ms) spoken = message_spelling reg m spoken ∷ bodies_spelling reg ms (after_message reg m spoken)

unfoldable pub after_messages : List Entity → List Message → Spoken → Spoken
after_messages reg [] spoken = spoken
after_messages reg (m ∷ ms) spoken = after_messages reg ms (after_message reg m spoken)

-- each in a block of its own
abbrev pub messages_spelling : List Entity → List Message → Spoken → List ℕ
messages_spelling reg ms spoken = flat_map (spell_block 1) (bodies_spelling reg ms spoken)
