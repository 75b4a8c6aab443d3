-- Which bytes spell a message: a relation between what a reader remembers before, the message, its bytes, and what is remembered after.
use Rattle.std.specs.Prelude.{◌≡◌, ◌≢◌, ℕ, ◌+◌, ◌<◌, ◌≤◌, ◌⊎◌, Bool, true, false, List, [], ◌∷◌, ◌++◌, Option, Some}
use Rattle.std.specs.Int.{w16, from_be_bytes}
use Rattle.uno_model.specs.Entities.{Entity}
use Rattle.uno_model.specs.Functions.{Function}
use Rattle.uno_model.specs.Kinds.{Kind}
use Rattle.uno_model.specs.Kinds as kd
use Rattle.uno_model.specs.Values.{Plain}
use Rattle.urp_model.specs.Spelling.{IsNumber, SpellsKind, SpellsOid, SpellsTid, SpellsEach, Spells}
use Rattle.urp_model.specs.Tables.{Table, Tables, with_types, with_tids}
use Rattle.message_model.specs.Calls.{acquire_number, release_number, numbered, argument_kinds, out_kinds, may_raise, Waiting, Waits, waiting}
use Rattle.message_model.specs.Headers.{Heard, hearing, has, new_type_flag, new_oid_flag, new_tid_flag, wide_flag, more_flag, exception_flag, Opening}
use Rattle.message_model.specs.Headers.{Target, oid_text}
use Rattle.message_model.specs.Messages.{Answer, returned, raised, Message, request, release, reply}
use Rattle.message_model.specs.ReadingMessages.{short_opening, hearing_tid}

-- ---- headers

-- a function's number in two bytes, or in one
abbrev pub SpellsFunction : Bool → ℕ → List ℕ → Type 0
SpellsFunction true function b = IsNumber w16 b function
SpellsFunction false function b = b ≡ function ∷ []

-- the second byte of flags has both of its two high bits where an answer comes, and none where not; where there is no such byte, none comes
abbrev pub SpellsAnswered : Bool → Bool → List ℕ → Type 0
SpellsAnswered true answered b = (flags : ℕ) × (b ≡ flags ∷ []) × (((flags < 0x40) × (answered ≡ false)) ⊎ ((0xC0 ≤ flags) × (answered ≡ true)))
SpellsAnswered false answered b = (b ≡ []) × (answered ≡ false)

-- how a request begins
pub data SpellsOpening (o : Opening) (b : List ℕ) : Type 0 where
  -- the function in one byte below 64
  short : (function : ℕ) → function < 64 → o ≡ short_opening function → b ≡ function ∷ [] → SpellsOpening o b
  -- two bytes, which are 0x4000 and the function
  two_bytes : (first second function : ℕ) → 0x40 ≤ first → first < 0x80 → function + 0x4000 ≡ from_be_bytes w16 (first ∷ second ∷ []) → o ≡ short_opening function
      → b ≡ first ∷ second ∷ [] → SpellsOpening o b
  -- flags, of which the two highest are set and say what is new, and the function
  long : (flags : ℕ) (p q : List ℕ) → 0xC0 ≤ flags → b ≡ flags ∷ (p ++ q) → SpellsAnswered (has more_flag flags) o.answered p → SpellsFunction (has wide_flag flags) o.function q
      → o.new_type ≡ has new_type_flag flags → o.new_oid ≡ has new_oid_flag flags → o.new_tid ≡ has new_tid_flag flags → SpellsOpening o b

-- a part of a header stands in the bytes where it is new, and is the last one of its kind where not
abbrev pub SpellsNewOrLast : {X : Type 0} → Bool → Option X → (Table → X → List ℕ → Table → Type 0) → Table → X → List ℕ → Table → Type 0
SpellsNewOrLast true last S table x b after = S table x b after
SpellsNewOrLast false last S table x b after = (last ≡ Some x) × (b ≡ []) × (after ≡ table)

-- the identity of an object, empty for null
abbrev pub SpellsOidText : Table → List ℕ → List ℕ → Table → Type 0
SpellsOidText table x b after = (oid : Option (List ℕ)) × (x ≡ oid_text oid) × SpellsOid table oid b after

-- the type, the object and the thread of a request
pub record SpellsTarget (reg : List Entity) (o : Opening) (heard : Heard) (target : Target) (b : List ℕ) (after : Heard) : Type 0 where
  pub p : List ℕ
  pub q : List ℕ
  pub r : List ℕ
  pub whole : b ≡ p ++ (q ++ r)
  pub kind : SpellsNewOrLast o.new_type heard.last.kind (SpellsKind reg) heard.tables.types target.kind p after.tables.types
  pub oid : SpellsNewOrLast o.new_oid heard.last.oid SpellsOidText heard.tables.oids target.oid q after.tables.oids
  pub tid : SpellsNewOrLast o.new_tid heard.last.tid SpellsTid heard.tables.tids target.tid r after.tables.tids
  pub remembered : after.last ≡ record { kind = Some target.kind; oid = Some target.oid; tid = Some target.tid }

-- ---- requests

-- what stands behind the header: nothing at a release, and the arguments at a call of a function
pub data SpellsAsked (reg : List Entity) (o : Opening) (target : Target) (heard : Heard) (m : Message) (b : List ℕ) (after : Heard) : Type 0 where
  a_release : (face : List ℕ) → target.kind ≡ kd.interface face → o.function ≡ release_number → o.answered ≡ false → m ≡ release target.tid target.oid face → b ≡ []
      → after ≡ heard → SpellsAsked reg o target heard m b after
  a_call : (face : List ℕ) (f : Function) (args : List Plain) (s : Tables) → target.kind ≡ kd.interface face → o.function ≢ release_number → o.function ≢ acquire_number
      → numbered reg face o.function ≡ Some f → (f.oneway ≡ true → o.answered ≡ true) → m ≡ request target.tid target.oid face o.function args
      → SpellsEach (Spells 64 reg) (argument_kinds f) heard.tables args b s → after ≡ hearing heard s → SpellsAsked reg o target heard m b after

-- a request
pub record SpellsRequest (reg : List Entity) (heard : Heard) (m : Message) (b : List ℕ) (after : Heard) : Type 0 where
  pub opening : Opening
  pub target : Target
  pub between : Heard
  pub p : List ℕ
  pub q : List ℕ
  pub r : List ℕ
  pub whole : b ≡ p ++ (q ++ r)
  pub opens : SpellsOpening opening p
  pub targets : SpellsTarget reg opening heard target q between
  pub asks : SpellsAsked reg opening target between m r after

-- ---- replies

-- the answer to a call of a function: an any with an exception that it may raise, or its result and the values of its [out] and [inout] parameters
abbrev pub SpellsAnswer : Bool → List Entity → Function → Tables → Answer → List ℕ → Tables → Type 0
SpellsAnswer true reg f s answer b t =
    (k : Kind) × (v : Plain) × (p : List ℕ) × (q : List ℕ) × (after : Table) × (answer ≡ raised k v) × (b ≡ p ++ q) × SpellsKind reg s.types k p after × (may_raise reg f k ≡ true)
    × Spells 63 reg k (with_types s after) v q t
SpellsAnswer false reg f s answer b t =
    (v : Plain) × (outs : List Plain) × (p : List ℕ) × (q : List ℕ) × (u : Tables) × (answer ≡ returned v outs) × (b ≡ p ++ q) × Spells 64 reg f.result_kind s v p u
    × SpellsEach (Spells 64 reg) (out_kinds f) u outs q t

-- a reply: its flags, of which the highest is set and the next is not, its thread, and the answer to the call for which that thread waits
pub record SpellsReply (reg : List Entity) (waits : Waits) (heard : Heard) (m : Message) (b : List ℕ) (after : Heard) : Type 0 where
  pub flags : ℕ
  pub tid : List ℕ
  pub tids : Table
  pub call : Waiting
  pub function : Function
  pub answer : Answer
  pub p : List ℕ
  pub q : List ℕ
  pub whole : b ≡ flags ∷ (p ++ q)
  pub marked : (0x80 ≤ flags) × (flags < 0xC0)
  pub thread : SpellsNewOrLast (has new_tid_flag flags) heard.last.tid SpellsTid heard.tables.tids tid p tids
  pub waited : waiting tid waits ≡ Some call
  pub called : numbered reg call.face call.function ≡ Some function
  pub answers : SpellsAnswer (has exception_flag flags) reg function (with_tids heard.tables tids) answer q after.tables
  pub said : m ≡ reply tid call.face call.function answer
  pub remembered : after ≡ hearing_tid heard tid after.tables

-- ---- messages

-- a request or a reply
abbrev pub SpellsMessage : List Entity → Waits → Heard → Message → List ℕ → Heard → Type 0
SpellsMessage reg waits heard m b after = SpellsRequest reg heard m b after ⊎ SpellsReply reg waits heard m b after
