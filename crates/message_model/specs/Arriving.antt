-- What a message is that was read from bytes, and what is remembered after it.
use Rattle.std.specs.Prelude.{◌≡◌, ◌≢◌, ℕ, ◌^◌, ◌<◌, ◌⊎◌, IsTrue, List, [], Some}
use Rattle.std.specs.Str.{IsUtf8}
use Rattle.uno_model.specs.Entities.{Entity}
use Rattle.uno_model.specs.Fits.{IsIdentity, IsInterface}
use Rattle.uno_model.specs.Functions.{Function}
use Rattle.uno_model.specs.Kinds.{Kind}
use Rattle.uno_model.specs.Types.{is_type}
use Rattle.uno_model.specs.Values.{Plain}
use Rattle.urp_model.specs.Carried.{MeansOnly, MeansIdentities, MeansTexts}
use Rattle.message_model.specs.Calls.{acquire_number, release_number, numbered, argument_kinds, Waits, waiting, Waiting}
use Rattle.message_model.specs.Headers.{Heard}
use Rattle.message_model.specs.Messages.{Answer, Message, request, release, reply}
use Rattle.message_model.specs.Sayable.{Fill, AnswerFits, IsThread}

-- an identity of an object, or the empty one, which is null
abbrev pub IsObject : List ℕ → Type 0
IsObject oid = (oid ≡ []) ⊎ IsIdentity oid

-- each slot of objects means an identity, and of threads that of a thread; the last type is one of the registry, the last object an identity or null, and the
-- last thread one
pub record IsHeard (reg : List Entity) (heard : Heard) : Type 0 where
  pub oids : MeansIdentities heard.tables.oids
  pub tids : MeansOnly IsThread heard.tables.tids
  pub kind : (k : Kind) → heard.last.kind ≡ Some k → IsTrue (is_type reg k)
  pub oid : (oid : List ℕ) → heard.last.oid ≡ Some oid → IsObject oid
  pub tid : (tid : List ℕ) → heard.last.tid ≡ Some tid → IsThread tid

-- a request calls a function of an interface of the registry, neither acquire nor release, and its arguments fit and are nested at most 64 deep
pub record RequestFits (reg : List Entity) (oid face : List ℕ) (function : ℕ) (args : List Plain) : Type 0 where
  pub f : Function
  pub interface : IsInterface reg face
  pub found : numbered reg face function ≡ Some f
  pub no_release : function ≢ release_number
  pub no_acquire : function ≢ acquire_number
  pub object : IsObject oid
  pub fill : Fill reg args (argument_kinds f)

-- a release names an interface of the registry
pub record ReleaseFits (reg : List Entity) (oid face : List ℕ) : Type 0 where
  pub interface : IsInterface reg face
  pub object : IsObject oid

-- a reply answers a function that is there, and its values fit and are nested at most 64 deep
pub record ReplyFits (reg : List Entity) (face : List ℕ) (function : ℕ) (answer : Answer) : Type 0 where
  pub f : Function
  pub found : numbered reg face function ≡ Some f
  pub fits : AnswerFits reg f answer

-- a message that was read, on its thread
abbrev pub MessageFits : List Entity → Message → Type 0
MessageFits reg (request tid oid face function args) = IsThread tid × RequestFits reg oid face function args
MessageFits reg (release tid oid face) = IsThread tid × ReleaseFits reg oid face
MessageFits reg (reply tid face function answer) = IsThread tid × ReplyFits reg face function answer

-- ---- which of it the bytes can carry

-- each slot of objects means a text, and the last object is one
pub record HearsTexts (heard : Heard) : Type 0 where
  pub oids : MeansTexts heard.tables.oids
  pub oid : (oid : List ℕ) → heard.last.oid ≡ Some oid → IsUtf8 oid

-- the function of a message, where it has one, has a number of two bytes
abbrev pub HasSmallFunction : Message → Type 0
HasSmallFunction (request tid oid face function args) = function < 2 ^ 16
HasSmallFunction (release tid oid face) = Unit
HasSmallFunction (reply tid face function answer) = function < 2 ^ 16

-- and so has that of each call that waits
abbrev pub AwaitSmallFunctions : Waits → Type 0
AwaitSmallFunctions waits = (tid : List ℕ) (call : Waiting) → waiting tid waits ≡ Some call → call.function < 2 ^ 16
