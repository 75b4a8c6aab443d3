-- Which messages may be said, what they weigh, and what they are where they arrive.
use Rattle.std.specs.Prelude.{◌≡◌, ◌≢◌, ℕ, ◌+◌, ◌^◌, ◌<◌, ◌≤◌, IsTrue, List, [], ◌∷◌, length, Option, None, Some}
use Rattle.std.specs.Str.{IsUtf8}
use Rattle.uno_model.specs.Entities.{Entity}
use Rattle.uno_model.specs.Fits.{Fits, FitEach, IsIdentity, IsInterface}
use Rattle.uno_model.specs.Functions.{Function}
use Rattle.uno_model.specs.Kinds.{Kind}
use Rattle.uno_model.specs.Kinds as kd
use Rattle.uno_model.specs.Values.{Plain, any, plains, depth, depth_in}
use Rattle.uno_model.specs.Weights.{text_weight, kind_weight, weight, weights}
use Rattle.uno_model.specs.Spellable.{IsSpellable, AreSpellable}
use Rattle.urp_model.specs.Carried.{carried, AllCorrespond}
use Rattle.message_model.specs.Calls.{acquire_number, release_number, numbered, argument_kinds, out_kinds, may_raise, Waits, waiting}
use Rattle.message_model.specs.Headers.{Heard}
use Rattle.message_model.specs.Messages.{Answer, returned, raised, Message, request, release, reply}
use Rattle.message_model.specs.WritingMessages.{Spoken}

-- ---- what may be said

-- the identity of a thread has 1 to 1,024 bytes
pub record IsThread (tid : List ℕ) : Type 0 where
  pub some : 1 ≤ length tid
  pub bounded : length tid ≤ 1024

-- a function of the interface that is called like others: it is neither acquire nor release
pub record IsCalled (reg : List Entity) (face : List ℕ) (function : ℕ) (f : Function) : Type 0 where
  pub interface : IsInterface reg face
  pub found : numbered reg face function ≡ Some f
  pub small : function < 2 ^ 16
  pub no_acquire : function ≢ acquire_number
  pub no_release : function ≢ release_number

-- values that fit these types, nested at most 64 deep
pub record Fill (reg : List Entity) (vs : List Plain) (ks : List Kind) : Type 0 where
  pub fit : FitEach reg (plains vs) ks
  pub deep : depth_in (plains vs) ≤ 64

-- an answer to a function: a result and values that fit, or an exception that it may raise, as an any
abbrev pub AnswerFits : List Entity → Function → Answer → Type 0
AnswerFits reg f (returned v outs) = Fits reg v f.result_kind × (depth v ≤ 64) × Fill reg outs (out_kinds f)
AnswerFits reg f (raised k v) = IsTrue (may_raise reg f k) × Fits reg (any k v) kd.any × (depth (any k v) ≤ 64)

-- what may be said of a message, apart from its weight
abbrev pub MayBeSaid : List Entity → Message → Type 0
MayBeSaid reg (request tid oid face function args) = (f : Function) × IsCalled reg face function f × IsThread tid × IsIdentity oid × Fill reg args (argument_kinds f)
MayBeSaid reg (release tid oid face) = IsInterface reg face × IsThread tid × IsIdentity oid
MayBeSaid reg (reply tid face function answer) = (f : Function) × IsCalled reg face function f × IsThread tid × AnswerFits reg f answer

-- ---- what it weighs

-- a name of an object or a thread that is written out, with its slot
abbrev pub name_weight : List ℕ → ℕ
name_weight name = text_weight name + 2

-- the header of a request with two bytes of flags, a function of two bytes, and each name written out
abbrev pub heading_weight : List ℕ → List ℕ → List ℕ → ℕ
heading_weight tid oid face = 4 + (kind_weight (kd.interface face) + (name_weight oid + name_weight tid))

abbrev pub answer_weight : Answer → ℕ
answer_weight (returned v outs) = weight v + weights (plains outs)
answer_weight (raised k v) = weight (any k v)

-- the length of the body of a message where each name in it is written out
abbrev pub message_weight : Message → ℕ
message_weight (request tid oid face function args) = heading_weight tid oid face + weights (plains args)
message_weight (release tid oid face) = heading_weight tid oid face
message_weight (reply tid face function answer) = 1 + (name_weight tid + answer_weight answer)

-- ---- which of it the bytes can carry

-- each number is in the range of its type, and each text and identity is UTF-8
abbrev pub AnswerSpellable : Answer → Type 0
AnswerSpellable (returned v outs) = IsSpellable v × AreSpellable (plains outs)
AnswerSpellable (raised k v) = IsSpellable v

abbrev pub MessageSpellable : Message → Type 0
MessageSpellable (request tid oid face function args) = IsUtf8 oid × AreSpellable (plains args)
MessageSpellable (release tid oid face) = IsUtf8 oid
MessageSpellable (reply tid face function answer) = AnswerSpellable answer

-- ---- what arrives

-- values as they arrive at these types
unfoldable pub carried_each : List Entity → List Plain → List Kind → List Plain
carried_each reg [] ks = []
carried_each reg (v ∷ vs) [] = v ∷ vs
carried_each reg (v ∷ vs) (k ∷ ks) = carried reg v k ∷ carried_each reg vs ks

-- the types of the arguments, of the other values and of the result of a function, where it is there
abbrev pub arguments_of : Option Function → List Kind
arguments_of None = []
arguments_of (Some f) = argument_kinds f

abbrev pub outs_of : Option Function → List Kind
outs_of None = []
outs_of (Some f) = out_kinds f

abbrev pub result_of : Option Function → Kind
result_of None = kd.void
result_of (Some f) = f.result_kind

-- an answer to a function as it arrives
abbrev pub answer_arrived : List Entity → Option Function → Answer → Answer
answer_arrived reg f (returned v outs) = returned (carried reg v (result_of f)) (carried_each reg outs (outs_of f))
answer_arrived reg f (raised k v) = raised k (carried reg v k)

-- a message as it arrives: each object in its values is one of the peer's, under the interface at its place
unfoldable pub arrived : List Entity → Message → Message
arrived reg (request tid oid face function args) = request tid oid face function (carried_each reg args (arguments_of (numbered reg face function)))
arrived reg (release tid oid face) = release tid oid face
arrived reg (reply tid face function answer) = reply tid face function (answer_arrived reg (numbered reg face function) answer)

-- a reader waits for what a message answers
abbrev pub IsAwaited : Waits → Message → Type 0
IsAwaited waits (reply tid face function answer) = waiting tid waits ≡ Some (record { face = face; function = function })
IsAwaited waits _ = Unit

-- what a reader remembers answers to what a sender remembers: each name that is held is what its slot means, and the last ones are the same
pub record MemoriesCorrespond (heard : Heard) (spoken : Spoken) : Type 0 where
  pub names : AllCorrespond heard.tables spoken.names
  pub last : heard.last ≡ spoken.last
