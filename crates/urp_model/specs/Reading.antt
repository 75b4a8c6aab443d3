-- What bytes say, from their front: a value of a type, what the slots mean after it, and the bytes behind it; or the first fault.
use Rattle.std.specs.Prelude.{ℕ, zero, suc, ◌==◌, nat_lt, List, [], ◌∷◌, Option, None, Some, Result, Ok, Err, if◌then◌else◌}
use Rattle.std.specs.Int.{w8, w16, w32, w64, cast_signed}
use Rattle.uno_model.specs.Entities.{Entity}
use Rattle.uno_model.specs.Fits.{member_kinds}
use Rattle.uno_model.specs.Kinds.{Kind}
use Rattle.uno_model.specs.Kinds as kd
use Rattle.uno_model.specs.Values.{Ref, null, peer, Plain, plains}
use Rattle.uno_model.specs.Values as plain
use Rattle.urp_model.specs.NamedKinds.{is_any, is_byte}
use Rattle.urp_model.specs.Parts.{◌>>=◌, byte_at, number_at, length_at, raw_at, text_at}
use Rattle.urp_model.specs.ReadingNames.{kind_at, oid_at}
use Rattle.urp_model.specs.Tables.{Tables, with_types, with_oids}
use Rattle.urp_model.specs.declared.fault.Fault.{Fault}
use Rattle.urp_model.specs.declared.fault.Fault.TheVariants.{Bad}
use Rattle.urp_model.specs.declared.reason.Reason.TheVariants.{BadBoolean, BadAny, Deep}

-- the reference to an object of the peer, under the interface that the type names
abbrev pub ref_of : Option (List ℕ) → List ℕ → Ref
ref_of None face = null
ref_of (Some oid) face = peer oid face

-- from what the slots mean and the bytes: a value, what the slots mean after it, and the bytes behind it
abbrev pub Reads : Type 0
Reads = Tables → List ℕ → Result (Plain × Tables × List ℕ) Fault

-- so many values of one type
unfoldable pub elements_at : Reads → ℕ → Tables → List ℕ → Result (List Plain × Tables × List ℕ) Fault
elements_at r zero s bs = Ok ([], s, bs)
elements_at r (suc n) s bs = do
  first ← r s bs
  others ← elements_at r n first.1 first.2
  Ok (first.0 ∷ others.0, others.1, others.2)

-- a value of each of these types
unfoldable pub members_at : (Kind → Reads) → List Kind → Tables → List ℕ → Result (List Plain × Tables × List ℕ) Fault
members_at r [] s bs = Ok ([], s, bs)
members_at r (k ∷ ks) s bs = do
  first ← r k s bs
  others ← members_at r ks first.1 first.2
  Ok (first.0 ∷ others.0, others.1, others.2)

-- the bytes of a sequence of them
unfoldable pub bytes_at : Reads
bytes_at s bs = do
  raw ← raw_at bs
  Ok (plain.bytes raw.0, s, raw.1)

-- a sequence of other elements: their count, and each of them
unfoldable pub list_at : Reads → Kind → Reads
list_at r k s bs = do
  n ← length_at bs
  vs ← elements_at r n.0 s n.1
  Ok (plain.list k (plains vs.0), vs.1, vs.2)

-- a struct or an exception: its members in order, those of its base first
unfoldable pub tuple_at : (Kind → Reads) → List Kind → List ℕ → Reads
tuple_at r ks name s bs = do
  vs ← members_at r ks s bs
  Ok (plain.tuple name (plains vs.0), vs.1, vs.2)

-- what an any holds
unfoldable pub content_at : (Kind → Reads) → Kind → Reads
content_at r k s bs = do
  v ← r k s bs
  Ok (plain.any k v.0, v.1, v.2)

-- any value: its type, which is not any itself, and the value
unfoldable pub any_at : List Entity → (Kind → Reads) → Reads
any_at reg r s bs = do
  k ← kind_at reg s.types bs
  if is_any k.0 then Err (Bad BadAny) else content_at r k.0 (with_types s k.1) k.2

-- a value of a type, where r reads the values one level further in
unfoldable pub value_step : List Entity → (Kind → Reads) → Kind → Reads
value_step reg r kd.void s bs = Ok (plain.void, s, bs)
value_step reg r kd.char s bs = do
  n ← number_at w16 bs
  Ok (plain.char n.0, s, n.1)
value_step reg r kd.boolean s bs = do
  b ← byte_at bs
  if nat_lt b.0 2 then Ok (plain.boolean (b.0 == 1), s, b.1) else Err (Bad BadBoolean)
value_step reg r kd.byte s bs = do
  b ← byte_at bs
  Ok (plain.byte (cast_signed w8 b.0), s, b.1)
value_step reg r kd.short s bs = do
  n ← number_at w16 bs
  Ok (plain.short (cast_signed w16 n.0), s, n.1)
value_step reg r kd.unsigned_short s bs = do
  n ← number_at w16 bs
  Ok (plain.unsigned_short n.0, s, n.1)
value_step reg r kd.long s bs = do
  n ← number_at w32 bs
  Ok (plain.long (cast_signed w32 n.0), s, n.1)
value_step reg r kd.unsigned_long s bs = do
  n ← number_at w32 bs
  Ok (plain.unsigned_long n.0, s, n.1)
value_step reg r kd.hyper s bs = do
  n ← number_at w64 bs
  Ok (plain.hyper (cast_signed w64 n.0), s, n.1)
value_step reg r kd.unsigned_hyper s bs = do
  n ← number_at w64 bs
  Ok (plain.unsigned_hyper n.0, s, n.1)
value_step reg r kd.str s bs = do
  text ← text_at bs
  Ok (plain.str text.0, s, text.1)
value_step reg r kd.kind s bs = do
  t ← kind_at reg s.types bs
  Ok (plain.kind t.0, with_types s t.1, t.2)
value_step reg r kd.any s bs = any_at reg r s bs
value_step reg r (kd.enum name) s bs = do
  n ← number_at w32 bs
  Ok (plain.enum name (cast_signed w32 n.0), s, n.1)
value_step reg r (kd.struct name) s bs = tuple_at r (member_kinds reg name) name s bs
value_step reg r (kd.exception name) s bs = tuple_at r (member_kinds reg name) name s bs
value_step reg r (kd.interface face) s bs = do
  oid ← oid_at s.oids bs
  Ok (plain.ref (ref_of oid.0 face), with_oids s oid.1, oid.2)
value_step reg r (kd.sequence k) s bs = if is_byte k then bytes_at s bs else list_at (r k) k s bs

-- a value of a type, of which at most so many levels stand in one another
unfoldable pub value_at : ℕ → List Entity → Kind → Reads
value_at zero reg k s bs = Err (Bad Deep)
value_at (suc levels) reg k s bs = value_step reg (value_at levels reg) k s bs
