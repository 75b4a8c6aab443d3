-- Values that code can hold.
use Rattle.std.specs.Prelude.{ℕ, ◌^◌, ◌<◌, List, slice_index, FitsSigned}
use Rattle.std.specs.Int.{w8, w16, w32, w64}
use Rattle.std.specs.Str.{IsUtf8}
use Rattle.uno_model.specs.Values.{Ref, null, own, peer, Plain, Plains, char, byte, short, unsigned_short, long, unsigned_long}
use Rattle.uno_model.specs.Values.{hyper, unsigned_hyper, str, any, enum, tuple, list, bytes, ref, none, more}

-- an identity is UTF-8
abbrev pub IsSpellableRef : Ref → Type 0
IsSpellableRef null = Unit
IsSpellableRef (own oid face) = IsUtf8 oid
IsSpellableRef (peer oid face) = IsUtf8 oid

-- each is a byte
abbrev pub AreBytes : List ℕ → Type 0
AreBytes b = (i : ℕ) → slice_index b i < 2 ^ 8

-- each number is in the range of its type, each text and identity is UTF-8, and the elements of a sequence of bytes are bytes
unfoldable mutual
  pub IsSpellable : Plain → Type 0
  IsSpellable (char n) = n < 2 ^ 16
  IsSpellable (byte n) = FitsSigned w8 n
  IsSpellable (short n) = FitsSigned w16 n
  IsSpellable (unsigned_short n) = n < 2 ^ 16
  IsSpellable (long n) = FitsSigned w32 n
  IsSpellable (unsigned_long n) = n < 2 ^ 32
  IsSpellable (hyper n) = FitsSigned w64 n
  IsSpellable (unsigned_hyper n) = n < 2 ^ 64
  IsSpellable (str s) = IsUtf8 s
  IsSpellable (any k v) = IsSpellable v
  IsSpellable (enum name n) = FitsSigned w32 n
  IsSpellable (tuple name vs) = AreSpellable vs
  IsSpellable (list k vs) = AreSpellable vs
  IsSpellable (bytes b) = AreBytes b
  IsSpellable (ref r) = IsSpellableRef r
  IsSpellable _ = Unit

  pub AreSpellable : Plains → Type 0
  AreSpellable none = Unit
  AreSpellable (more v vs) = IsSpellable v × AreSpellable vs
