-- What the tables mean after a value is what all announcements mean, those of its bytes in front of those before it.
use Rattle.std.proofs.Common.{◌≡◌, ℕ, zero, suc, nat_lt, Bool, true, false, List, [], ◌∷◌, ◌++◌, Option, None, Some, sym, subst, if◌then◌else◌, append_assoc}
use Rattle.uno_model.specs.Entities.{Entity}
use Rattle.uno_model.specs.Fits.{member_kinds}
use Rattle.uno_model.specs.Kinds.{Kind, name_of}
use Rattle.uno_model.specs.Kinds as kd
use Rattle.uno_model.specs.Values.{Plain}
use Rattle.urp_model.specs.Announcing.{Announcements, no_announcements, of_types, of_oids, before_them, AllMean, announced_at, kind_announces, name_announces, oid_announces}
use Rattle.urp_model.specs.Announcing.{Announces, all_announce, each_announces, sequence_announces, step_announces, value_announces}
use Rattle.urp_model.specs.NamedKinds.{is_byte}
use Rattle.urp_model.specs.Slots.{Announcement, Means, announced}
use Rattle.urp_model.specs.Spelling.{IsTextName, SpellsKind, simple, SpellsName, SpellsOid, Spelled, SpellsAll, SpellsEach, SpellsSequence, SpellsTuple, SpellsStep, Spells}
use Rattle.urp_model.specs.Spelling as spell
use Rattle.urp_model.specs.Tables.{Table, Tables, no_tables, noted, with_types}
use Rattle.urp_model.proofs.TableLaws.{means_nothing, means_next}

-- before any announcement
pub all_mean_nothing : AllMean no_tables no_announcements
unfolding no_tables
all_mean_nothing = record { types = means_nothing; oids = means_nothing; tids = means_nothing }

-- ---- names

noted_means : (slot : ℕ) (name : List ℕ) (table : Table) (old : List Announcement) → Means table old → Means (noted slot name table) (announced_at slot name ++ old)
unfolding noted announced_at
noted_means slot name table old means = elim (nat_lt slot 256) as (λ t. Means (if t then announced slot name table else table) ((if t then record { slot = slot; name = name } ∷ [] else []) ++ old)) [
  | true ↦ means_next table old slot name means
  | false ↦ means
]

-- what a table means after names that announce
abbrev pub Follows : Table → Table → List Announcement → Type 0
Follows table after new = (old : List Announcement) → Means table old → Means after (new ++ old)

pub kind_follows : (reg : List Entity) (table : Table) (k : Kind) (b : List ℕ) (after : Table) (spelled : SpellsKind reg table k b after)
    → Follows table after (kind_announces reg table k b after spelled)
unfolding kind_announces
kind_follows reg table k b after (simple is split same) old means = subst (λ t. Means t old) (sym same) means
kind_follows reg table k b after (spell.held q slot other is split slot_is meant same) old means = subst (λ t. Means t old) (sym same) means
kind_follows reg table k b after (spell.written q p slot other is split slot_is name_is same) old means =
    subst (λ t. Means t (announced_at slot (name_of k) ++ old)) (sym same) (noted_means slot (name_of k) table old means)

pub name_follows : (IsName : List ℕ → List ℕ → Type 0) (table : Table) (name b : List ℕ) (after : Table) (spelled : SpellsName IsName table name b after)
    → Follows table after (name_announces IsName table name b after spelled)
unfolding name_announces
name_follows IsName table name b after (spell.SpellsName.held p q slot split name_is slot_is meant same) old means = subst (λ t. Means t old) (sym same) means
name_follows IsName table name b after (spell.SpellsName.written p q slot some split name_is slot_is same) old means =
    subst (λ t. Means t (announced_at slot name ++ old)) (sym same) (noted_means slot name table old means)

pub oid_follows : (table : Table) (oid : Option (List ℕ)) (b : List ℕ) (after : Table) (spelled : SpellsOid table oid b after)
    → Follows table after (oid_announces table oid b after spelled)
unfolding oid_announces
oid_follows table None b after spelled old means = subst (λ t. Means t old) (sym spelled.5) means
oid_follows table (Some oid) b after spelled old means = name_follows IsTextName table oid b after spelled.0 old means

-- ---- values

-- the three tables after what announces
abbrev pub AllFollow : Tables → Tables → Announcements → Type 0
AllFollow s t new = (old : Announcements) → AllMean s old → AllMean t (before_them new old)

-- nothing is announced
pub nothing_follows : (s t : Tables) → t ≡ s → AllFollow s t no_announcements
nothing_follows s t same old means = subst (λ u. AllMean u old) (sym same) means

-- one after the other
pub both_follow : (s u t : Tables) (first second : Announcements) → AllFollow s u first → AllFollow u t second → AllFollow s t (before_them second first)
both_follow s u t first second f g old means =
    let all = g (before_them first old) (f old means) in
    record {
      types = subst (Means t.types) (sym (append_assoc second.types first.types old.types)) all.types;
      oids = subst (Means t.oids) (sym (append_assoc second.oids first.oids old.oids)) all.oids;
      tids = subst (Means t.tids) (sym (append_assoc second.tids first.tids old.tids)) all.tids;
    }

-- types and objects alone
pub types_follow : (s : Tables) (after : Table) (new : List Announcement) → Follows s.types after new → AllFollow s (with_types s after) (of_types new)
types_follow s after new f old means = record { types = f old.types means.types; oids = means.oids; tids = means.tids }

oids_follow : (s t : Tables) (after : Table) (new : List Announcement) → t ≡ record { types = s.types; oids = after; tids = s.tids } → Follows s.oids after new → AllFollow s t (of_oids new)
oids_follow s t after new same f old means =
    subst (λ u. AllMean u (before_them (of_oids new) old)) (sym same) (record { types = means.types; oids = f old.oids means.oids; tids = means.tids })

abbrev pub EachFollows : (S : Kind → Spelled) → Announces S → Type 0
EachFollows S each = (k : Kind) (s t : Tables) (x : Plain) (b : List ℕ) (spelled : S k s x b t) → AllFollow s t (each k s t x b spelled)

module _ (S : Kind → Spelled) (each : Announces S) (h : EachFollows S each) where
  all_follow : (k : Kind) (s t : Tables) (xs : List Plain) (b : List ℕ) (spelled : SpellsAll (S k) s xs b t) → AllFollow s t (all_announce S each k s t xs b spelled)
  unfolding SpellsAll all_announce
  all_follow k s t [] b spelled = nothing_follows s t spelled.1
  all_follow k s t (x ∷ xs) b (p, q, u, split, first, others) =
      both_follow s u t (each k s u x p first) (all_announce S each k u t xs q others) (h k s u x p first) (all_follow k u t xs q others)

  pub each_follow : (ks : List Kind) (s t : Tables) (xs : List Plain) (b : List ℕ) (spelled : SpellsEach S ks s xs b t) → AllFollow s t (each_announces S each ks s t xs b spelled)
  unfolding SpellsEach each_announces
  each_follow [] s t xs b spelled = nothing_follows s t spelled.2
  each_follow (k ∷ ks) s t xs b (y, ys, p, q, u, parts, split, first, others) =
      both_follow s u t (each k s u y p first) (each_announces S each ks u t ys q others) (h k s u y p first) (each_follow ks u t ys q others)

  sequence_follows : (bytes : Bool) (k : Kind) (s t : Tables) (x : Plain) (b : List ℕ) (spelled : SpellsSequence bytes (S k) k s x b t)
      → AllFollow s t (sequence_announces S each bytes k s t x b spelled)
  sequence_follows true k s t x b spelled = nothing_follows s t spelled.3
  sequence_follows false k s t x b (vs, p, q, is, split, long, spelled) = all_follow k s t vs q spelled

  step_follows : (reg : List Entity) → EachFollows (SpellsStep reg S) (step_announces reg S each)
  unfolding SpellsStep step_announces
  step_follows reg kd.void s t x b p = nothing_follows s t p.2
  step_follows reg kd.char s t x b p = nothing_follows s t p.3
  step_follows reg kd.boolean s t x b p = nothing_follows s t p.1
  step_follows reg kd.byte s t x b p = nothing_follows s t p.3
  step_follows reg kd.short s t x b p = nothing_follows s t p.3
  step_follows reg kd.unsigned_short s t x b p = nothing_follows s t p.3
  step_follows reg kd.long s t x b p = nothing_follows s t p.3
  step_follows reg kd.unsigned_long s t x b p = nothing_follows s t p.3
  step_follows reg kd.hyper s t x b p = nothing_follows s t p.3
  step_follows reg kd.unsigned_hyper s t x b p = nothing_follows s t p.3
  step_follows reg kd.str s t x b p = nothing_follows s t p.3
  step_follows reg kd.kind s t x b (k, after, is, spelled, same) =
      subst (λ u. AllFollow s u (of_types (kind_announces reg s.types k b after spelled))) (sym same)
      (types_follow s after (kind_announces reg s.types k b after spelled) (kind_follows reg s.types k b after spelled))
  step_follows reg kd.any s t x b (k, v, p, q, after, is, split, type, other, inside) =
      let next : Tables = with_types s after in
      both_follow s next t (of_types (kind_announces reg s.types k p after type)) (each k next t v q inside)
      (types_follow s after (kind_announces reg s.types k p after type) (kind_follows reg s.types k p after type)) (h k next t v q inside)
  step_follows reg (kd.enum name) s t x b p = nothing_follows s t p.3
  step_follows reg (kd.struct name) s t x b (vs, is, spelled) = each_follow (member_kinds reg name) s t vs b spelled
  step_follows reg (kd.exception name) s t x b (vs, is, spelled) = each_follow (member_kinds reg name) s t vs b spelled
  step_follows reg (kd.interface face) s t x b (oid, after, is, spelled, same) =
      oids_follow s t after (oid_announces s.oids oid b after spelled) same (oid_follows s.oids oid b after spelled)
  step_follows reg (kd.sequence k) s t x b p = sequence_follows (is_byte k) k s t x b p

pub value_follows : (levels : ℕ) (reg : List Entity) → EachFollows (Spells levels reg) (value_announces levels reg)
unfolding Spells value_announces
value_follows zero reg k s t x b spelled = absurd spelled
value_follows (suc levels) reg k s t x b spelled = step_follows (Spells levels reg) (value_announces levels reg) (value_follows levels reg) reg k s t x b spelled
