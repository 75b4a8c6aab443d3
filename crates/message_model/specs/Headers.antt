-- The headers of messages: what their bytes say, and what both ends remember of them (URP specification, messages).
use Rattle.std.specs.Prelude.{ℕ, ◌==◌, not, Bool, List, [], Option, None, Some, bit_and}
use Rattle.uno_model.specs.Kinds.{Kind}
use Rattle.urp_model.specs.Tables.{Tables, no_tables}

-- the last type, object and thread that a direction named; those of requests and, for the thread, of replies too
pub record Last : Type 0 where
  pub kind : Option Kind
  pub oid : Option (List ℕ)
  pub tid : Option (List ℕ)

abbrev pub nothing_said : Last
nothing_said = record { kind = None; oid = None; tid = None }

-- what a reader remembers of a direction
pub record Heard : Type 0 where
  pub tables : Tables
  pub last : Last

abbrev pub nothing_heard : Heard
nothing_heard = record { tables = no_tables; last = nothing_said }

-- after values, which change what slots mean and nothing else
abbrev pub hearing : Heard → Tables → Heard
hearing heard s = record { tables = s; last = heard.last }

-- a flag is set in a byte of flags
abbrev pub has : ℕ → ℕ → Bool
has flag flags = not (bit_and flags flag == 0)

-- the flags of a request: its type (NEWTYPE), object (NEWOID) or thread (NEWTID) is new; its function has two bytes (FUNCTIONID16); more flags follow (MOREFLAGS)
abbrev pub new_type_flag : ℕ
new_type_flag = 0x20

abbrev pub new_oid_flag : ℕ
new_oid_flag = 0x10

abbrev pub new_tid_flag : ℕ
new_tid_flag = 0x08

abbrev pub wide_flag : ℕ
wide_flag = 0x04

abbrev pub more_flag : ℕ
more_flag = 0x01

-- the flag of a reply that says that it is an exception (EXCEPTION)
abbrev pub exception_flag : ℕ
exception_flag = 0x20

-- how a request begins: its function, whether it is sent as one that has an answer though it is one-way, and which parts of its header are new
pub record Opening : Type 0 where
  pub function : ℕ
  pub answered : Bool
  pub new_type : Bool
  pub new_oid : Bool
  pub new_tid : Bool

-- whom a request calls: a type, an object and a thread
pub record Target : Type 0 where
  pub kind : Kind
  pub oid : List ℕ
  pub tid : List ℕ

-- the identity that a header names, which is empty for null
abbrev pub oid_text : Option (List ℕ) → List ℕ
oid_text None = []
oid_text (Some oid) = oid
