-- Which values fit a type.
use Rattle.std.specs.Prelude.{◌≡◌, ◌≢◌, ℕ, ◌≤◌, ◌⊎◌, Bool, true, false, not, ◌&&◌, ◌||◌, nat_lt, IsTrue, List, [], ◌∷◌, length, map}
use Rattle.uno_model.specs.Codes.{same_kind}
use Rattle.uno_model.specs.Kinds.{Kind}
use Rattle.uno_model.specs.Kinds as kd
use Rattle.uno_model.specs.Entities.{Entity, Field}
use Rattle.uno_model.specs.Reaches.{is_base_of}
use Rattle.uno_model.specs.Registry.{IsBaseOf, all_members}
use Rattle.uno_model.specs.Types.{is_type}
use Rattle.uno_model.specs.Values.{Ref, null, own, peer, Plain, Plains, void, char, boolean, byte, short, unsigned_short, long}
use Rattle.uno_model.specs.Values.{unsigned_long, hyper, unsigned_hyper, str, kind, any, enum, tuple, list, bytes, ref, none, more}

-- a type of the registry, and an interface of it
abbrev pub IsInterface : List Entity → List ℕ → Type 0
IsInterface reg name = IsTrue (is_type reg (kd.interface name))

-- an identity has 1 to 4,096 bytes
pub record IsIdentity (oid : List ℕ) : Type 0 where
  pub some : 1 ≤ length oid
  pub bounded : length oid ≤ 4096

-- an object, held under one interface, fits another one: that is the same, or a base of it
pub record HeldFits (reg : List Entity) (oid face wanted : List ℕ) : Type 0 where
  pub identity : IsIdentity oid
  pub held : IsInterface reg face
  pub reached : IsBaseOf reg wanted face

-- null fits each interface, an object those to which its own is assignable
abbrev pub InterfaceFits : List Entity → List ℕ → Ref → Type 0
InterfaceFits reg wanted null = IsInterface reg wanted
InterfaceFits reg wanted (own oid face) = HeldFits reg oid face wanted
InterfaceFits reg wanted (peer oid face) = HeldFits reg oid face wanted

-- a reference fits no type but interfaces
abbrev pub RefFits : List Entity → Kind → Ref → Type 0
RefFits reg (kd.interface wanted) r = InterfaceFits reg wanted r
RefFits reg k r = ⊥

-- a struct or an exception of that name
abbrev pub IsTupleKind : List ℕ → Kind → Type 0
IsTupleKind name k = (k ≡ kd.struct name) ⊎ (k ≡ kd.exception name)

-- the types of the members of a struct or an exception
abbrev pub member_kinds : List Entity → List ℕ → List Kind
member_kinds reg name = map (λ f. f.kind) (all_members reg name)

-- a value fits its own type, and each type that it names is one of the registry; an any holds no any
unfoldable mutual
  pub Fits : List Entity → Plain → Kind → Type 0
  Fits reg void k = k ≡ kd.void
  Fits reg (char n) k = k ≡ kd.char
  Fits reg (boolean b) k = k ≡ kd.boolean
  Fits reg (byte n) k = k ≡ kd.byte
  Fits reg (short n) k = k ≡ kd.short
  Fits reg (unsigned_short n) k = k ≡ kd.unsigned_short
  Fits reg (long n) k = k ≡ kd.long
  Fits reg (unsigned_long n) k = k ≡ kd.unsigned_long
  Fits reg (hyper n) k = k ≡ kd.hyper
  Fits reg (unsigned_hyper n) k = k ≡ kd.unsigned_hyper
  Fits reg (str s) k = k ≡ kd.str
  Fits reg (kind t) k = (k ≡ kd.kind) × IsTrue (is_type reg t)
  Fits reg (any t v) k = (k ≡ kd.any) × (t ≢ kd.any) × IsTrue (is_type reg t) × Fits reg v t
  Fits reg (enum name n) k = (k ≡ kd.enum name) × IsTrue (is_type reg k)
  Fits reg (tuple name vs) k = IsTupleKind name k × IsTrue (is_type reg k) × FitEach reg vs (member_kinds reg name)
  Fits reg (list t vs) k = (k ≡ kd.sequence t) × (t ≢ kd.byte) × IsTrue (is_type reg k) × FitAll reg vs t
  Fits reg (bytes b) k = k ≡ kd.sequence kd.byte
  Fits reg (ref r) k = RefFits reg k r

  -- each value fits the type at its place, and there are no more of the one than of the other
  pub FitEach : List Entity → Plains → List Kind → Type 0
  FitEach reg none [] = Unit
  FitEach reg none (k ∷ ks) = ⊥
  FitEach reg (more v vs) [] = ⊥
  FitEach reg (more v vs) (k ∷ ks) = Fits reg v k × FitEach reg vs ks

  -- each value fits the one type
  pub FitAll : List Entity → Plains → Kind → Type 0
  FitAll reg none k = Unit
  FitAll reg (more v vs) k = Fits reg v k × FitAll reg vs k

-- ---- the same, as tests

abbrev pub is_identity : List ℕ → Bool
is_identity oid = nat_lt 0 (length oid) && nat_lt (length oid) 4097

abbrev pub object_fits : List Entity → List ℕ → List ℕ → List ℕ → Bool
object_fits reg oid face wanted = is_identity oid && (is_type reg (kd.interface face) && is_base_of reg wanted face)

abbrev pub interface_fits : List Entity → List ℕ → Ref → Bool
interface_fits reg wanted null = is_type reg (kd.interface wanted)
interface_fits reg wanted (own oid face) = object_fits reg oid face wanted
interface_fits reg wanted (peer oid face) = object_fits reg oid face wanted

abbrev pub ref_fits : List Entity → Kind → Ref → Bool
ref_fits reg (kd.interface wanted) r = interface_fits reg wanted r
ref_fits reg k r = false

abbrev pub is_tuple_kind : List ℕ → Kind → Bool
is_tuple_kind name k = same_kind k (kd.struct name) || same_kind k (kd.exception name)

unfoldable mutual
  pub does_fit : List Entity → Plain → Kind → Bool
  does_fit reg void k = same_kind k kd.void
  does_fit reg (char n) k = same_kind k kd.char
  does_fit reg (boolean b) k = same_kind k kd.boolean
  does_fit reg (byte n) k = same_kind k kd.byte
  does_fit reg (short n) k = same_kind k kd.short
  does_fit reg (unsigned_short n) k = same_kind k kd.unsigned_short
  does_fit reg (long n) k = same_kind k kd.long
  does_fit reg (unsigned_long n) k = same_kind k kd.unsigned_long
  does_fit reg (hyper n) k = same_kind k kd.hyper
  does_fit reg (unsigned_hyper n) k = same_kind k kd.unsigned_hyper
  does_fit reg (str s) k = same_kind k kd.str
  does_fit reg (kind t) k = same_kind k kd.kind && is_type reg t
  does_fit reg (any t v) k = same_kind k kd.any && (not (same_kind t kd.any) && (is_type reg t && does_fit reg v t))
  does_fit reg (enum name n) k = same_kind k (kd.enum name) && is_type reg k
  does_fit reg (tuple name vs) k = is_tuple_kind name k && (is_type reg k && do_fit_each reg vs (member_kinds reg name))
  does_fit reg (list t vs) k = same_kind k (kd.sequence t) && (not (same_kind t kd.byte) && (is_type reg k && do_fit_all reg vs t))
  does_fit reg (bytes b) k = same_kind k (kd.sequence kd.byte)
  does_fit reg (ref r) k = ref_fits reg k r

  pub do_fit_each : List Entity → Plains → List Kind → Bool
  do_fit_each reg none [] = true
  do_fit_each reg none (k ∷ ks) = false
  do_fit_each reg (more v vs) [] = false
  do_fit_each reg (more v vs) (k ∷ ks) = does_fit reg v k && do_fit_each reg vs ks

  pub do_fit_all : List Entity → Plains → Kind → Bool
  do_fit_all reg none k = true
  do_fit_all reg (more v vs) k = does_fit reg v k && do_fit_all reg vs k
