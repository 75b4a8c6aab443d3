-- The parts of a message, each judged when it is whole: bytes, numbers, lengths, texts, names and slots. Numbers have their high byte first.
use Rattle.std.specs.Prelude.{ℕ, ◌==◌, ◌||◌, nat_lt, Bool, List, [], ◌∷◌, length, take, drop, Option, None, Some, Result, Ok, Err, if◌then◌else◌}
use Rattle.std.specs.Int.{Width, w16, w32, byte_len, from_be_bytes}
use Rattle.std.specs.Str.{is_utf8}
use Rattle.urp_model.specs.declared.fault.Fault.{Fault}
use Rattle.urp_model.specs.declared.fault.Fault.TheVariants.{Short, Bad}
use Rattle.urp_model.specs.declared.reason.Reason.{Reason}
use Rattle.urp_model.specs.declared.reason.Reason.TheVariants.{LongName, BadText, BadSlot}

-- what is read next, where there was no fault before it
infixl 10 ◌>>=◌
abbrev pub ◌>>=◌ : {A B : Type 0} → Result A Fault → (A → Result B Fault) → Result B Fault
(Ok x) >>= f = f x
(Err e) >>= f = Err e

-- where a judgement gives nothing, the part breaks the protocol for this reason
abbrev pub judged : {A : Type 0} → Reason → Option A → Result A Fault
judged reason None = Err (Bad reason)
judged reason (Some x) = Ok x

-- the next n bytes, which are whole only if they are all there
abbrev pub part : ℕ → List ℕ → Result (List ℕ × List ℕ) Fault
part n bytes = if nat_lt (length bytes) n then Err Short else Ok (take n bytes, drop n bytes)

-- the next byte
unfoldable pub byte_at : List ℕ → Result (ℕ × List ℕ) Fault
byte_at [] = Err Short
byte_at (b ∷ bytes) = Ok (b, bytes)

-- a number of so many bytes
unfoldable pub number_at : Width → List ℕ → Result (ℕ × List ℕ) Fault
number_at w bytes = do
  raw ← part (byte_len w) bytes
  Ok (from_be_bytes w raw.0, raw.1)

-- a compressed number: below 255 one byte; FF and four bytes of any number
unfoldable pub length_at : List ℕ → Result (ℕ × List ℕ) Fault
length_at bytes = do
  first ← byte_at bytes
  if first.0 == 255 then number_at w32 first.1 else Ok (first.0, first.1)

-- a length, and that many bytes
unfoldable pub raw_at : List ℕ → Result (List ℕ × List ℕ) Fault
raw_at bytes = do
  n ← length_at bytes
  part n.0 n.1

-- a text: its length, and its bytes, which are UTF-8
unfoldable pub text_at : List ℕ → Result (List ℕ × List ℕ) Fault
text_at bytes = do
  raw ← raw_at bytes
  if is_utf8 raw.0 then Ok (raw.0, raw.1) else Err (Bad BadText)

-- a name of at most so many bytes: its length is judged before its bytes are there
unfoldable pub name_at : ℕ → List ℕ → Result (List ℕ × List ℕ) Fault
name_at limit bytes = do
  n ← length_at bytes
  if nat_lt limit n.0 then Err (Bad LongName) else part n.0 n.1

-- the name of a type or of an object: at most 4,096 bytes, which are UTF-8
unfoldable pub text_name_at : List ℕ → Result (List ℕ × List ℕ) Fault
text_name_at bytes = do
  raw ← name_at 4096 bytes
  if is_utf8 raw.0 then Ok (raw.0, raw.1) else Err (Bad BadText)

-- one of the 256 slots, or 65,535 for none
abbrev pub is_slot : ℕ → Bool
is_slot slot = nat_lt slot 256 || (slot == 65535)

-- a slot, in two bytes
unfoldable pub slot_at : List ℕ → Result (ℕ × List ℕ) Fault
slot_at bytes = do
  n ← number_at w16 bytes
  if is_slot n.0 then Ok (n.0, n.1) else Err (Bad BadSlot)
