-- The weight of a value: how many bytes it takes on the wire where each name in it is written out with its slot.
use Rattle.std.specs.Prelude.{ℕ, suc, ◌+◌, Bool, nat_lt, List, length, if◌then◌else◌}
use Rattle.uno_model.specs.Kinds.{Kind, name_of}
use Rattle.uno_model.specs.Kinds as kd
use Rattle.uno_model.specs.Values.{Ref, null, own, peer, Plain, Plains, void, char, boolean, byte, short, unsigned_short, long}
use Rattle.uno_model.specs.Values.{unsigned_long, hyper, unsigned_hyper, str, kind, any, enum, tuple, list, bytes, ref, none, more}

-- a compressed number is one byte, or FF and four
abbrev pub compressed_weight : ℕ → ℕ
compressed_weight n = if nat_lt n 255 then 1 else 5

-- a length, and the bytes
abbrev pub text_weight : List ℕ → ℕ
text_weight s = compressed_weight (length s) + length s

-- a class, and for what is no simple type a slot and a name
abbrev pub kind_weight : Kind → ℕ
kind_weight (kd.enum name) = 3 + text_weight name
kind_weight (kd.struct name) = 3 + text_weight name
kind_weight (kd.exception name) = 3 + text_weight name
kind_weight (kd.interface name) = 3 + text_weight name
kind_weight (kd.sequence k) = 3 + text_weight (name_of (kd.sequence k))
kind_weight _ = 1

-- an identity, and a slot
abbrev pub ref_weight : Ref → ℕ
ref_weight null = 3
ref_weight (own oid face) = text_weight oid + 2
ref_weight (peer oid face) = text_weight oid + 2

-- how many values there are
abbrev pub count : Plains → ℕ
count none = 0
count (more v vs) = suc (count vs)

-- the bytes of a value, each name in it written out
unfoldable mutual
  pub weight : Plain → ℕ
  weight void = 0
  weight (char n) = 2
  weight (boolean b) = 1
  weight (byte n) = 1
  weight (short n) = 2
  weight (unsigned_short n) = 2
  weight (long n) = 4
  weight (unsigned_long n) = 4
  weight (hyper n) = 8
  weight (unsigned_hyper n) = 8
  weight (str s) = text_weight s
  weight (kind k) = kind_weight k
  weight (any k v) = kind_weight k + weight v
  weight (enum name n) = 4
  weight (tuple name vs) = weights vs
  weight (list k vs) = compressed_weight (count vs) + weights vs
  weight (bytes b) = text_weight b
  weight (ref r) = ref_weight r

  pub weights : Plains → ℕ
  weights none = 0
  weights (more v vs) = weight v + weights vs
