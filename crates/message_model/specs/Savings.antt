-- What a sender's spelling saves against the weight: names that are held where they are used, parts of headers that are left out, and short headers.
use Rattle.std.specs.Prelude.{◌≡◌, ℕ, ◌+◌, ◌-◌, ◌<◌, nat_lt, not, Bool, true, false, List, [], ◌∷◌, if◌then◌else◌}
use Rattle.std.specs.Int.{from_bool}
use Rattle.uno_model.specs.Entities.{Entity}
use Rattle.uno_model.specs.Kinds as kd
use Rattle.uno_model.specs.Weights.{text_weight, kind_weight}
use Rattle.urp_model.specs.Held.{holds, used}
use Rattle.urp_model.specs.Writing.{Names, HeldNames}
use Rattle.message_model.specs.Headers.{Last}
use Rattle.message_model.specs.Messages.{Message, request, release, reply}
use Rattle.message_model.specs.Said.{Uses, message_uses}
use Rattle.message_model.specs.Sayable.{name_weight}
use Rattle.message_model.specs.WritingMessages.{Spoken, is_new, is_new_face, Heading, is_long, call_heading, release_heading}

-- ---- names

-- what is held after these uses, of which the newest is the first, where this was held before them
unfoldable pub held_on : List (List ℕ) → Names → Names
held_on [] held = held
held_on (name ∷ uses) held = used name (held_on uses held)

-- what uses save, where each of a name that is held saves what this says of it
unfoldable pub saved_by : (List ℕ → ℕ) → List (List ℕ) → Names → ℕ
saved_by saving [] held = 0
saved_by saving (name ∷ uses) held = (if holds name (held_on uses held) then saving name else 0) + saved_by saving uses held

-- a type that is held is written without its name, and an object or a thread with an empty one
abbrev pub type_saving : List ℕ → ℕ
type_saving name = text_weight name

abbrev pub name_saving : List ℕ → ℕ
name_saving name = text_weight name - 1

abbrev pub uses_saved : Uses → HeldNames → ℕ
uses_saved uses held = saved_by type_saving uses.types held.types + (saved_by name_saving uses.oids held.oids + saved_by name_saving uses.tids held.tids)

-- each name is new where it is used
unfoldable pub AreNewUses : List (List ℕ) → Names → Type 0
AreNewUses [] held = Unit
AreNewUses (name ∷ uses) held = (holds name (held_on uses held) ≡ false) × AreNewUses uses held

-- ---- headers

-- a part of a header that is the last one of its kind is left out
abbrev pub left_out : Bool → ℕ → ℕ
left_out true weight = 0
left_out false weight = weight

-- of the four bytes that the beginning of a request has at most, a long header saves one where no answer comes to a one-way call, and one where its function is
-- below 256; a short one saves three, or two where its function is above 63
unfoldable pub opening_saved : Heading → Last → ℕ
opening_saved h last = if is_long h last then from_bool (not h.answered) + from_bool (not (nat_lt 255 h.function)) else (if nat_lt h.function 64 then 3 else 2)

-- the header of a request saves that, and the parts that are left out
abbrev pub heading_saved : Heading → Last → ℕ
heading_saved h last =
    opening_saved h last
    + (left_out (is_new_face h.face last.kind) (kind_weight (kd.interface h.face)) + (left_out (is_new h.oid last.oid) (name_weight h.oid) + left_out (is_new h.tid last.tid) (name_weight h.tid)))

abbrev pub header_saved : List Entity → Message → Last → ℕ
header_saved reg (request tid oid face function args) last = heading_saved (call_heading reg tid oid face function) last
header_saved reg (release tid oid face) last = heading_saved (release_heading tid oid face) last
header_saved reg (reply tid face function answer) last = left_out (is_new tid last.tid) (name_weight tid)

-- a header is at its longest: all of it is new; a request has two bytes of flags, and of its function
pub record IsLongest (h : Heading) (last : Last) : Type 0 where
  pub face : is_new_face h.face last.kind ≡ true
  pub oid : is_new h.oid last.oid ≡ true
  pub tid : is_new h.tid last.tid ≡ true
  pub answered : h.answered ≡ true
  pub wide : 255 < h.function

abbrev pub HasLongestHeader : List Entity → Message → Last → Type 0
HasLongestHeader reg (request tid oid face function args) last = IsLongest (call_heading reg tid oid face function) last
HasLongestHeader reg (release tid oid face) last = IsLongest (release_heading tid oid face) last
HasLongestHeader reg (reply tid face function answer) last = is_new tid last.tid ≡ true

-- ---- messages

-- what a message saves, before which this is remembered
unfoldable pub message_saved : List Entity → Message → Spoken → ℕ
message_saved reg m spoken = header_saved reg m spoken.last + uses_saved (message_uses m spoken.last) spoken.names

-- each name in a message is new where it is used, and its header is at its longest
pub record IsAllNew (reg : List Entity) (m : Message) (spoken : Spoken) : Type 0 where
  pub header : HasLongestHeader reg m spoken.last
  pub types : AreNewUses (message_uses m spoken.last).types spoken.names.types
  pub oids : AreNewUses (message_uses m spoken.last).oids spoken.names.oids
  pub tids : AreNewUses (message_uses m spoken.last).tids spoken.names.tids
