-- Which announcements the bytes of messages make: those of a header's type, object and thread, and those of the values. Lists of them have the newest first.
use Rattle.std.specs.Prelude.{ℕ, Bool, true, false, List, [], ◌∷◌, Option}
use mathlib.Core.Logic.{inl, inr}
use Rattle.uno_model.specs.Entities.{Entity}
use Rattle.uno_model.specs.Functions.{Function}
use Rattle.urp_model.specs.Announcing.{Announcements, no_announcements, of_types, before_them, kind_announces, name_announces, oid_announces, each_announces, value_announces}
use Rattle.urp_model.specs.Slots.{Announcement}
use Rattle.urp_model.specs.Spelling.{IsThreadName, SpellsKind, SpellsTid, Spells}
use Rattle.urp_model.specs.Tables.{Table, Tables, with_types, with_tids}
use Rattle.message_model.specs.Calls.{argument_kinds, out_kinds, Waits}
use Rattle.message_model.specs.Headers.{Heard, has, new_tid_flag, exception_flag, Opening, Target}
use Rattle.message_model.specs.Messages.{Answer, Message}
use Rattle.message_model.specs.SpellingMessages.{SpellsNewOrLast, SpellsOidText, SpellsTarget, SpellsAsked, a_release, a_call, SpellsRequest, SpellsAnswer, SpellsReply, SpellsMessage}
use Rattle.message_model.specs.Streams.{SpellsBody, SpellsStream}

-- announcements of threads alone
abbrev pub of_tids : List Announcement → Announcements
of_tids tids = record { types = []; oids = []; tids = tids }

-- ---- headers

-- a part of a header announces where it is new
abbrev pub new_announces : {X : Type 0} (S : Table → X → List ℕ → Table → Type 0) → ((table : Table) (x : X) (b : List ℕ) (after : Table) → S table x b after → List Announcement)
    → (new : Bool) (last : Option X) (table : Table) (x : X) (b : List ℕ) (after : Table) → SpellsNewOrLast new last S table x b after → List Announcement
new_announces S announces true last table x b after spelled = announces table x b after spelled
new_announces S announces false last table x b after spelled = []

abbrev pub oid_text_announces : (table : Table) (x b : List ℕ) (after : Table) → SpellsOidText table x b after → List Announcement
oid_text_announces table x b after (oid, is, spelled) = oid_announces table oid b after spelled

abbrev pub tid_announces : (table : Table) (tid b : List ℕ) (after : Table) → SpellsTid table tid b after → List Announcement
tid_announces table tid b after spelled = name_announces IsThreadName table tid b after spelled

-- the type, the object and the thread of a request
unfoldable pub target_announces : (reg : List Entity) (o : Opening) (heard : Heard) (target : Target) (b : List ℕ) (after : Heard) → SpellsTarget reg o heard target b after → Announcements
target_announces reg o heard target b after h = record {
  types = new_announces (SpellsKind reg) (kind_announces reg) o.new_type heard.last.kind heard.tables.types target.kind h.p after.tables.types h.kind;
  oids = new_announces SpellsOidText oid_text_announces o.new_oid heard.last.oid heard.tables.oids target.oid h.q after.tables.oids h.oid;
  tids = new_announces SpellsTid tid_announces o.new_tid heard.last.tid heard.tables.tids target.tid h.r after.tables.tids h.tid;
}

-- ---- requests

-- the arguments of a call
unfoldable pub asked_announces : (reg : List Entity) (o : Opening) (target : Target) (heard : Heard) (m : Message) (b : List ℕ) (after : Heard)
    → SpellsAsked reg o target heard m b after → Announcements
asked_announces reg o target heard m b after (a_release face is function answered said none same) = no_announcements
asked_announces reg o target heard m b after (a_call face f args s is no_release no_acquire found oneway said spelled same) =
    each_announces (Spells 64 reg) (value_announces 64 reg) (argument_kinds f) heard.tables s args b spelled

unfoldable pub request_announces : (reg : List Entity) (heard : Heard) (m : Message) (b : List ℕ) (after : Heard) → SpellsRequest reg heard m b after → Announcements
request_announces reg heard m b after h =
    before_them (asked_announces reg h.opening h.target h.between m h.r after h.asks) (target_announces reg h.opening heard h.target h.q h.between h.targets)

-- ---- replies

unfoldable pub answer_announces : (exception : Bool) (reg : List Entity) (f : Function) (s : Tables) (answer : Answer) (b : List ℕ) (t : Tables)
    → SpellsAnswer exception reg f s answer b t → Announcements
answer_announces true reg f s answer b t (k, v, p, q, after, said, split, type, may, spelled) =
    before_them (value_announces 63 reg k (with_types s after) t v q spelled) (of_types (kind_announces reg s.types k p after type))
answer_announces false reg f s answer b t (v, outs, p, q, u, said, split, value, others) =
    before_them (each_announces (Spells 64 reg) (value_announces 64 reg) (out_kinds f) u t outs q others) (value_announces 64 reg f.result_kind s u v p value)

unfoldable pub reply_announces : (reg : List Entity) (waits : Waits) (heard : Heard) (m : Message) (b : List ℕ) (after : Heard) → SpellsReply reg waits heard m b after → Announcements
reply_announces reg waits heard m b after h =
    before_them (answer_announces (has exception_flag h.flags) reg h.function (with_tids heard.tables h.tids) h.answer h.q after.tables h.answers)
    (of_tids (new_announces SpellsTid tid_announces (has new_tid_flag h.flags) heard.last.tid heard.tables.tids h.tid h.p h.tids h.thread))

-- ---- messages

unfoldable pub message_announces : (reg : List Entity) (waits : Waits) (heard : Heard) (m : Message) (b : List ℕ) (after : Heard) → SpellsMessage reg waits heard m b after
    → Announcements
message_announces reg waits heard m b after (inl asked) = request_announces reg heard m b after asked
message_announces reg waits heard m b after (inr answered) = reply_announces reg waits heard m b after answered

-- the messages of a body, and of a stream
unfoldable pub body_announces : (reg : List Entity) (ws : List Waits) (bytes : List ℕ) (heard : Heard) (ms : List Message) (after : Heard) → SpellsBody reg ws bytes heard ms after
    → Announcements
unfolding SpellsBody
body_announces reg [] bytes heard [] after spelled = no_announcements
body_announces reg [] bytes heard (m ∷ ms) after spelled = absurd spelled
body_announces reg (waits ∷ ws) bytes heard [] after spelled = absurd spelled
body_announces reg (waits ∷ ws) bytes heard (m ∷ ms) after (used, rest, between, is, first, others) =
    before_them (body_announces reg ws rest between ms after others) (message_announces reg waits heard m used between first)

unfoldable pub stream_announces : (reg : List Entity) (wss : List (List Waits)) (bytes : List ℕ) (heard : Heard) (mss : List (List Message)) (after : Heard)
    → SpellsStream reg wss bytes heard mss after → Announcements
unfolding SpellsStream
stream_announces reg [] bytes heard [] after spelled = no_announcements
stream_announces reg [] bytes heard (ms ∷ mss) after spelled = absurd spelled
stream_announces reg (ws ∷ wss) bytes heard [] after spelled = absurd spelled
stream_announces reg (ws ∷ wss) bytes heard (ms ∷ mss) after (body, rest, between, is, block, first, others) =
    before_them (stream_announces reg wss rest between mss after others) (body_announces reg ws body heard ms between first)
