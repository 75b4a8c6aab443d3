-- Which announcements the bytes of a value make: each name that they write out, with its slot. Lists of them have the newest first.
use Rattle.std.specs.Prelude.{ℕ, zero, suc, nat_lt, Bool, true, false, List, [], ◌∷◌, ◌++◌, Option, None, Some, if◌then◌else◌}
use Rattle.uno_model.specs.Entities.{Entity}
use Rattle.uno_model.specs.Fits.{member_kinds}
use Rattle.uno_model.specs.Kinds.{Kind, name_of}
use Rattle.uno_model.specs.Kinds as kd
use Rattle.uno_model.specs.Values.{Plain}
use Rattle.urp_model.specs.NamedKinds.{is_byte}
use Rattle.urp_model.specs.Slots.{Announcement, Means}
use Rattle.urp_model.specs.Spelling.{IsTextName, SpellsKind, simple, SpellsName, SpellsOid, Spelled, SpellsAll, SpellsEach, SpellsSequence, SpellsTuple, SpellsStep, Spells}
use Rattle.urp_model.specs.Spelling as spell
use Rattle.urp_model.specs.Tables.{Table, Tables, with_types}

-- announcements of types, of objects and of threads
pub record Announcements : Type 0 where
  pub types : List Announcement
  pub oids : List Announcement
  pub tids : List Announcement

abbrev pub no_announcements : Announcements
no_announcements = record { types = []; oids = []; tids = [] }

abbrev pub of_types : List Announcement → Announcements
of_types types = record { types = types; oids = []; tids = [] }

abbrev pub of_oids : List Announcement → Announcements
of_oids oids = record { types = []; oids = oids; tids = [] }

-- announcements, and behind them those that came before
abbrev pub before_them : Announcements → Announcements → Announcements
before_them new old = record { types = new.types ++ old.types; oids = new.oids ++ old.oids; tids = new.tids ++ old.tids }

-- the tables mean what was announced
pub record AllMean (s : Tables) (all : Announcements) : Type 0 where
  pub types : Means s.types all.types
  pub oids : Means s.oids all.oids
  pub tids : Means s.tids all.tids

-- ---- names

-- a name that is written out with one of the 256 slots; the number 65,535 announces nothing
unfoldable pub announced_at : ℕ → List ℕ → List Announcement
announced_at slot name = if nat_lt slot 256 then record { slot = slot; name = name } ∷ [] else []

-- a type
unfoldable pub kind_announces : (reg : List Entity) (table : Table) (k : Kind) (b : List ℕ) (after : Table) → SpellsKind reg table k b after → List Announcement
kind_announces reg table k b after (simple is split same) = []
kind_announces reg table k b after (spell.held q slot other is split slot_is meant same) = []
kind_announces reg table k b after (spell.written q p slot other is split slot_is name_is same) = announced_at slot (name_of k)

-- the identity of a thread, and of an object that is not null
unfoldable pub name_announces : (IsName : List ℕ → List ℕ → Type 0) (table : Table) (name b : List ℕ) (after : Table) → SpellsName IsName table name b after → List Announcement
name_announces IsName table name b after (spell.SpellsName.held p q slot split name_is slot_is meant same) = []
name_announces IsName table name b after (spell.SpellsName.written p q slot some split name_is slot_is same) = announced_at slot name

unfoldable pub oid_announces : (table : Table) (oid : Option (List ℕ)) (b : List ℕ) (after : Table) → SpellsOid table oid b after → List Announcement
oid_announces table None b after spelled = []
oid_announces table (Some oid) b after spelled = name_announces IsTextName table oid b after spelled.0

-- ---- values

-- what the bytes announce that S says spell a value
abbrev pub Announces : (Kind → Spelled) → Type 0
Announces S = (k : Kind) (s t : Tables) (x : Plain) (b : List ℕ) → S k s x b t → Announcements

-- values one after the other, of one type and of these types
unfoldable pub all_announce : (S : Kind → Spelled) → Announces S → (k : Kind) (s t : Tables) (xs : List Plain) (b : List ℕ) → SpellsAll (S k) s xs b t → Announcements
unfolding SpellsAll
all_announce S each k s t [] b spelled = no_announcements
all_announce S each k s t (x ∷ xs) b (p, q, u, split, first, others) = before_them (all_announce S each k u t xs q others) (each k s u x p first)

unfoldable pub each_announces : (S : Kind → Spelled) → Announces S → (ks : List Kind) (s t : Tables) (xs : List Plain) (b : List ℕ) → SpellsEach S ks s xs b t → Announcements
unfolding SpellsEach
each_announces S each [] s t xs b spelled = no_announcements
each_announces S each (k ∷ ks) s t xs b (y, ys, p, q, u, parts, split, first, others) = before_them (each_announces S each ks u t ys q others) (each k s u y p first)

-- a sequence: bytes announce nothing
abbrev pub sequence_announces : (S : Kind → Spelled) → Announces S → (bytes : Bool) (k : Kind) (s t : Tables) (x : Plain) (b : List ℕ) → SpellsSequence bytes (S k) k s x b t
    → Announcements
sequence_announces S each true k s t x b spelled = no_announcements
sequence_announces S each false k s t x b (vs, p, q, is, split, long, spelled) = all_announce S each k s t vs q spelled

-- a struct or an exception
abbrev pub tuple_announces : (S : Kind → Spelled) → Announces S → (ks : List Kind) (name : List ℕ) (s t : Tables) (x : Plain) (b : List ℕ) → SpellsTuple S ks name s x b t → Announcements
tuple_announces S each ks name s t x b (vs, is, spelled) = each_announces S each ks s t vs b spelled

-- a value: types, objects, what an any holds, members and elements
unfoldable pub step_announces : (reg : List Entity) (S : Kind → Spelled) → Announces S → Announces (SpellsStep reg S)
unfolding SpellsStep
step_announces reg S each kd.kind s t x b (k, after, is, spelled, same) = of_types (kind_announces reg s.types k b after spelled)
step_announces reg S each kd.any s t x b (k, v, p, q, after, is, split, type, other, inside) =
    before_them (each k (with_types s after) t v q inside) (of_types (kind_announces reg s.types k p after type))
step_announces reg S each (kd.struct name) s t x b spelled = tuple_announces S each (member_kinds reg name) name s t x b spelled
step_announces reg S each (kd.exception name) s t x b spelled = tuple_announces S each (member_kinds reg name) name s t x b spelled
step_announces reg S each (kd.interface face) s t x b (oid, after, is, spelled, same) = of_oids (oid_announces s.oids oid b after spelled)
step_announces reg S each (kd.sequence k) s t x b spelled = sequence_announces S each (is_byte k) k s t x b spelled
step_announces reg S each k s t x b spelled = no_announcements

unfoldable pub value_announces : (levels : ℕ) (reg : List Entity) → Announces (Spells levels reg)
unfolding Spells
value_announces zero reg k s t x b spelled = no_announcements
value_announces (suc levels) reg k s t x b spelled = step_announces reg (Spells levels reg) (value_announces levels reg) k s t x b spelled
