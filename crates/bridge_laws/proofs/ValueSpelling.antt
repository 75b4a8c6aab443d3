-- Values that bytes can carry: lists of them, their references, defaults, and the identities that an end gives.
use Rattle.std.proofs.Common.{◌≡◌, ℕ, zero, suc, ◌+◌, ◌/◌, ◌%◌, ◌==◌, ◌<◌, Bool, true, false, nat_lt, if◌then◌else◌, List, [], ◌∷◌, ◌++◌, map, codes, Option, Some, refl, arith, FitsSigned, flat_map, length}
use Rattle.std.specs.Fmt.{decimal, digits, digits_onto, digit_glyph}
use Rattle.std.specs.Int.{w32}
use Rattle.std.specs.List.{AllByRecursion}
use Rattle.std.specs.Str.{IsUtf8, bytes_eq}
use Rattle.std.proofs.lemmas.Bool.{lt-ltb, and_from}
use Rattle.std.proofs.lemmas.Str.{IsUtf8-append}
use Rattle.uno_model.specs.Codes.{same_kind}
use Rattle.uno_model.specs.Defaults.{items_in, items_of, first_number, default_with, default_within, default_of_kind}
use Rattle.uno_model.specs.Entities.{Entity, Item}
use Rattle.uno_model.specs.Fits.{member_kinds}
use Rattle.uno_model.specs.Kinds.{Kind}
use Rattle.uno_model.specs.Kinds as kd
use Rattle.uno_model.specs.Registry.{find_entity}
use Rattle.uno_model.specs.Spellable.{IsSpellableRef, IsSpellable, AreSpellable}
use Rattle.uno_model.specs.Values.{Ref, Plain, Plains, plains, refs, refs_in}
use Rattle.uno_model.specs.Values as v
use Rattle.urp_model.proofs.Utf8Laws.{are_ascii, utf8_of_ascii}
use Rattle.bridge_model.specs.References.{refs_of_values}
use Rattle.bridge_model.specs.Settings.{Setting, own_oid}
use Rattle.bridge_laws.specs.Texts.{AreSmallItems}

-- ---- lists

pub all_append : {X : Type 0} (P : X → Type 0) (xs ys : List X) → AllByRecursion P xs → AllByRecursion P ys → AllByRecursion P (xs ++ ys)
all_append P [] ys all also = also
all_append P (x ∷ xs) ys all also = (all.0, all_append P xs ys all.1 also)

pub all_map : {X Y : Type 0} (P : Y → Type 0) (f : X → Y) → ((x : X) → P (f x)) → (xs : List X) → AllByRecursion P (map f xs)
all_map P f each [] = tt
all_map P f each (x ∷ xs) = (each x, all_map P f each xs)

-- ---- values

abbrev pub AllSpellable : List Plain → Type 0
AllSpellable xs = AllByRecursion IsSpellable xs

pub as_plains : (xs : List Plain) → AllSpellable xs → AreSpellable (plains xs)
unfolding AreSpellable
as_plains [] all = tt
as_plains (x ∷ xs) all = (all.0, as_plains xs all.1)

pub from_plains : (xs : List Plain) → AreSpellable (plains xs) → AllSpellable xs
unfolding AreSpellable
from_plains [] all = tt
from_plains (x ∷ xs) all = (all.0, from_plains xs all.1)

-- ---- references

abbrev pub RefsSpellable : List Ref → Type 0
RefsSpellable rs = AllByRecursion IsSpellableRef rs

object_spellable : (r : Ref) → IsSpellableRef r → RefsSpellable (refs (v.ref r))
unfolding refs
object_spellable v.null fine = tt
object_spellable (v.own oid face) fine = (fine, tt)
object_spellable (v.peer oid face) fine = (fine, tt)

mutual
  unfolding refs refs_in IsSpellable AreSpellable

  pub refs_spellable : (x : Plain) → IsSpellable x → RefsSpellable (refs x)
  refs_spellable (v.any k x) fine = refs_spellable x fine
  refs_spellable (v.tuple name xs) fine = refs_in_spellable xs fine
  refs_spellable (v.list k xs) fine = refs_in_spellable xs fine
  refs_spellable (v.ref r) fine = object_spellable r fine
  refs_spellable x fine = tt

  refs_in_spellable : (xs : Plains) → AreSpellable xs → RefsSpellable (refs_in xs)
  refs_in_spellable v.none fine = tt
  refs_in_spellable (v.more x xs) fine = all_append IsSpellableRef (refs x) (refs_in xs) (refs_spellable x fine.0) (refs_in_spellable xs fine.1)

pub values_refs : (xs : List Plain) → AllSpellable xs → RefsSpellable (refs_of_values xs)
unfolding refs_of_values
values_refs [] all = tt
values_refs (x ∷ xs) all = all_append IsSpellableRef (refs x) (flat_map refs xs) (refs_spellable x all.0) (values_refs xs all.1)

pub ref_spellable : (r : Ref) → IsSpellableRef r → IsSpellable (v.ref r)
unfolding IsSpellable
ref_spellable r fine = fine

pub ref_in : (r : Ref) → IsSpellable (v.ref r) → IsSpellableRef r
unfolding IsSpellable
ref_in r fine = fine

-- ---- identities of this end

glyph_ascii : (d : ℕ) → d < 10 → nat_lt (digit_glyph false d) 128 ≡ true
glyph_ascii d small = by_test (nat_lt d 10)
  where
    by_test : (b : Bool) → nat_lt (if b then 48 + d else (87 + d)) 128 ≡ true
    by_test true = lt-ltb (48 + d) 128 (omega arith)
    by_test false = lt-ltb (87 + d) 128 (omega arith)

ascii_by : (b : Bool) (xs ys : List ℕ) → are_ascii xs ≡ true → are_ascii ys ≡ true → are_ascii (if b then xs else ys) ≡ true
ascii_by true xs ys here behind = here
ascii_by false xs ys here behind = behind

digits_ascii : (k n : ℕ) (acc : List ℕ) → are_ascii acc ≡ true → are_ascii (digits_onto k 10 false n acc) ≡ true
digits_ascii zero n acc fine = fine
digits_ascii (suc k) n acc fine =
    let first : nat_lt (digit_glyph false (n % 10)) 128 ≡ true = glyph_ascii (n % 10) (omega arith) in
    let more = and_from (nat_lt (digit_glyph false (n % 10)) 128) (are_ascii acc) first fine in
    ascii_by (n / 10 == 0) (digit_glyph false (n % 10) ∷ acc) (digits_onto k 10 false (n / 10) (digit_glyph false (n % 10) ∷ acc)) more (digits_ascii k (n / 10) (digit_glyph false (n % 10) ∷ acc) more)

decimal_utf8 : (n : ℕ) → IsUtf8 (decimal n)
unfolding digits
decimal_utf8 n = utf8_of_ascii (digits_onto 64 10 false n []) (digits_ascii 64 n [] refl)

pub own_utf8 : (g : Setting) → IsUtf8 g.tag → (n : ℕ) → IsUtf8 (own_oid g n)
unfolding own_oid
own_utf8 g tag n = IsUtf8-append (g.tag ++ codes ";") (decimal n) (IsUtf8-append g.tag (codes ";") tag (utf8_of_ascii (codes ";") refl)) (decimal_utf8 n)

-- ---- defaults

pub empty_utf8 : IsUtf8 []
empty_utf8 = utf8_of_ascii [] refl

first_small : (items : List Item) → AllByRecursion (λ (i : Item). FitsSigned w32 i.number) items → FitsSigned w32 (first_number items)
first_small [] all = omega arith
first_small (i ∷ items) all = all.0

small_by : (b : Bool) (e : Entity) (behind : Option Entity) → FitsSigned w32 (first_number (items_in e.body)) → FitsSigned w32 (first_number (items_of behind))
    → FitsSigned w32 (first_number (items_of (if b then Some e else behind)))
small_by true e behind here there = here
small_by false e behind here there = there

found_small : (name : List ℕ) (reg : List Entity) → AreSmallItems reg → FitsSigned w32 (first_number (items_of (find_entity name reg)))
unfolding find_entity
found_small name [] all = omega arith
found_small name (e ∷ reg) all = small_by (bytes_eq name e.name) e (find_entity name reg) (first_small (items_in e.body) all.0) (found_small name reg all.1)

module _ (reg : List Entity) (items : AreSmallItems reg) where
  sequence_default : (b : Bool) (k : Kind) → IsSpellable (if b then v.bytes [] else v.list k v.none)
  unfolding IsSpellable AreSpellable
  sequence_default true k = λ i. omega arith
  sequence_default false k = tt

  default_step : (named : List ℕ → Plain) → ((name : List ℕ) → IsSpellable (named name)) → (k : Kind) → IsSpellable (default_with reg named k)
  unfolding IsSpellable AreSpellable
  default_step named each kd.void = tt
  default_step named each kd.char = omega arith
  default_step named each kd.boolean = tt
  default_step named each kd.byte = omega arith
  default_step named each kd.short = omega arith
  default_step named each kd.unsigned_short = omega arith
  default_step named each kd.long = omega arith
  default_step named each kd.unsigned_long = omega arith
  default_step named each kd.hyper = omega arith
  default_step named each kd.unsigned_hyper = omega arith
  default_step named each kd.str = empty_utf8
  default_step named each kd.kind = tt
  default_step named each kd.any = tt
  default_step named each (kd.enum name) = found_small name reg items
  default_step named each (kd.struct name) = each name
  default_step named each (kd.exception name) = each name
  default_step named each (kd.interface name) = tt
  default_step named each (kd.sequence k) = sequence_default (same_kind k kd.byte) k

  tuple_none : (name : List ℕ) → IsSpellable (v.tuple name v.none)
  unfolding IsSpellable AreSpellable
  tuple_none name = tt

  tuple_of : (name : List ℕ) (xs : List Plain) → AllSpellable xs → IsSpellable (v.tuple name (plains xs))
  unfolding IsSpellable
  tuple_of name xs all = as_plains xs all

  within_spellable : (levels : ℕ) (k : Kind) → IsSpellable (default_within levels reg k)
  unfolding default_within
  within_spellable zero k = default_step (λ name. v.tuple name v.none) tuple_none k
  within_spellable (suc levels) k =
      default_step (λ name. v.tuple name (plains (map (default_within levels reg) (member_kinds reg name))))
      (λ name. tuple_of name (map (default_within levels reg) (member_kinds reg name)) (all_map IsSpellable (default_within levels reg) (within_spellable levels) (member_kinds reg name))) k

  pub default_spellable : (k : Kind) → IsSpellable (default_of_kind reg k)
  unfolding default_of_kind
  default_spellable k = within_spellable (suc (suc (length reg))) k
