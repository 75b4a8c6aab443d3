-- What is spelled as a type is one of the registry, and what is spelled as an object is an identity.
use Rattle.std.proofs.Common.{◌≡◌, ◌≢◌, ℕ, ◌≤◌, nat_le, nat_lt, Bool, true, false, ◌&&◌, List, [], ◌∷◌, length, get_or, set}
use Rattle.std.proofs.Common.{replicate, None, Some, refl, sym, ◌∙◌, ap, subst, ◌⊎◌, inl, inr, if◌then◌else◌, arith}
use Rattle.std.proofs.lemmas.Bool.{and_parts, and_from, leb-true, le-leb, ltb-true, cases_eq, cases_lt}
use Rattle.std.proofs.lemmas.List.{get_or-set_same, get_or-set_other, set_past, get_or-replicate}
use Rattle.uno_model.specs.Entities.{Entity}
use Rattle.uno_model.specs.Fits.{IsIdentity}
use Rattle.uno_model.specs.Kinds.{Kind, name_of, nesting}
use Rattle.uno_model.specs.Kinds as kd
use Rattle.uno_model.specs.Sound.{kind_known, elements_storable, is_storable, is_namable}
use Rattle.uno_model.specs.Types.{is_type, is_formed}
use Rattle.urp_model.specs.Carried.{MeansOnly, MeansIdentities}
use Rattle.urp_model.specs.NamedKinds.{is_simple}
use Rattle.urp_model.specs.Spelling.{IsTextName, Spelled, SpellsKind, simple, SpellsName, SpellsOid, SpellsAll, SpellsEach}
use Rattle.urp_model.specs.Spelling.{SpellsBytes, SpellsList, SpellsSequence, SpellsTuple, SpellsStep, Spells}
use Rattle.urp_model.specs.Spelling as spell
use Rattle.urp_model.specs.Slots.{no_meanings, announced}
use Rattle.urp_model.specs.Tables.{Table, no_tables, meaning, noted}
use Rattle.uno_model.proofs.Options.{same_some, none_some}

-- ---- types

-- a simple type is one of the registry
simple_type : (reg : List Entity) (k : Kind) → is_simple k ≡ true → is_type reg k ≡ true
simple_type reg (kd.enum name) is = absurd cc
simple_type reg (kd.struct name) is = absurd cc
simple_type reg (kd.exception name) is = absurd cc
simple_type reg (kd.interface name) is = absurd cc
simple_type reg (kd.sequence k) is = absurd cc
simple_type reg _ is = refl

-- what is spelled as a type is one of the registry
pub spelled_type : (reg : List Entity) (table : Table) (k : Kind) (b : List ℕ) (after : Table) → SpellsKind reg table k b after → is_type reg k ≡ true
spelled_type reg table k b after (simple is split same) = simple_type reg k is
spelled_type reg table k b after (spell.held q slot other is split slot_is meant same) = is
spelled_type reg table k b after (spell.written q p slot other is split slot_is name_is same) = is

-- the elements of a sequence that is a type are of a type
pub element_type : (reg : List Entity) (t : Kind) → is_type reg (kd.sequence t) ≡ true → is_type reg t ≡ true
element_type reg t is =
    let parts = and_parts (is_formed reg (kd.sequence t)) (is_namable (kd.sequence t)) is in
    let formed = and_parts (kind_known reg t) (is_storable t && elements_storable t) parts.0 in
    let named = and_parts (nat_le (length (name_of (kd.sequence t))) 4096) (nat_le (nesting (kd.sequence t)) 64) parts.1 in
    let long : length (name_of (kd.sequence t)) ≤ 4096 = leb-true (length (name_of (kd.sequence t))) 4096 named.0 in
    let deep : nesting (kd.sequence t) ≤ 64 = leb-true (nesting (kd.sequence t)) 64 named.1 in
    and_from (is_formed reg t) (is_namable t)
    (and_from (kind_known reg t) (elements_storable t) formed.0 (and_parts (is_storable t) (elements_storable t) formed.1).1)
    (and_from (nat_le (length (name_of t)) 4096) (nat_le (nesting t) 64) (le-leb (length (name_of t)) 4096 (omega arith)) (le-leb (nesting t) 64 (omega arith)))

-- ---- objects

-- what a slot means after a name was noted is that name, or what it meant
meaning_noted : (at slot : ℕ) (name oid : List ℕ) (table : Table) → meaning at (noted slot name table) ≡ Some oid → (name ≡ oid) ⊎ (meaning at table ≡ Some oid)
unfolding meaning noted announced
meaning_noted at slot name oid table = by_slot (nat_lt slot 256)
  where
    at_same : (t : Bool) → at ≡ slot → (if t then get_or (set table slot (Some name)) at None else None) ≡ Some oid
        → (name ≡ oid) ⊎ ((if t then get_or table at None else None) ≡ Some oid)
    at_same false same is = absurd (none_some is)
    at_same true same is = elim (cases_lt slot (length table)) [
      | inl inside ↦ inl (same_some (sym (get_or-set_same table slot (Some name) None inside) ∙ ap (λ i. get_or (set table slot (Some name)) i None) (sym same) ∙ is))
      | inr past ↦ inr (ap (λ l. get_or l at None) (sym (set_past table slot (Some name) past)) ∙ is)
    ]

    at_other : (t : Bool) → (at ≡ slot → ⊥) → (if t then get_or (set table slot (Some name)) at None else None) ≡ Some oid
        → (name ≡ oid) ⊎ ((if t then get_or table at None else None) ≡ Some oid)
    at_other false other is = absurd (none_some is)
    at_other true other is = inr (sym (get_or-set_other table slot at (Some name) None other) ∙ is)

    by_slot : (t : Bool) → (if nat_lt at 256 then get_or (if t then set table slot (Some name) else table) at None else None) ≡ Some oid
        → (name ≡ oid) ⊎ ((if nat_lt at 256 then get_or table at None else None) ≡ Some oid)
    by_slot false is = inr is
    by_slot true is = elim (cases_eq at slot) [ inl same ↦ at_same (nat_lt at 256) same is | inr other ↦ at_other (nat_lt at 256) other is ]

-- names that are read and are not empty have a property, and so has what slots mean
module _ (P : List ℕ → Type 0) where
  noted_only : (slot : ℕ) (name : List ℕ) (table : Table) → P name → MeansOnly P table → MeansOnly P (noted slot name table)
  noted_only slot name table is each at other meant = elim (meaning_noted at slot name other table meant) [ inl same ↦ subst P same is | inr before ↦ each at other before ]

  pub name_fits : (IsName : List ℕ → List ℕ → Type 0) → ((p name : List ℕ) → name ≢ [] → IsName p name → P name) → (table : Table) (name b : List ℕ) (after : Table)
      → SpellsName IsName table name b after → MeansOnly P table → P name × MeansOnly P after
  name_fits IsName fits table name b after (spell.SpellsName.held p q slot split name_is slot_is meant same) each = (each slot name meant, subst (MeansOnly P) (sym same) each)
  name_fits IsName fits table name b after (spell.SpellsName.written p q slot some split name_is slot_is same) each =
      let is = fits p name some name_is in
      (is, subst (MeansOnly P) (sym same) (noted_only slot name table is each))

  -- before any announcement no slot means anything
  pub nothing_meant : MeansOnly P no_meanings
  unfolding no_meanings meaning
  nothing_meant slot name = by_slot (nat_lt slot 256) refl
    where
      by_slot : (t : Bool) → nat_lt slot 256 ≡ t → (if t then get_or (replicate 256 None) slot None else None) ≡ Some name → P name
      by_slot false high is = absurd (none_some is)
      by_slot true low is = absurd (none_some (sym (get_or-replicate 256 slot None None (ltb-true slot 256 low)) ∙ is))

-- a name that is not empty, and no longer than a name may be
identity_is : (p oid : List ℕ) → oid ≢ [] → IsTextName p oid → IsIdentity oid
identity_is p [] some text = absurd (some refl)
identity_is p (b ∷ oid) some text = record { some = omega arith; bounded = text.1 }

-- what is spelled as an object is an identity, and the slots mean identities after it
pub oid_fits : (table : Table) (oid b : List ℕ) (after : Table) → SpellsName IsTextName table oid b after → MeansIdentities table → IsIdentity oid × MeansIdentities after
oid_fits = name_fits IsIdentity IsTextName identity_is

pub no_identities : MeansIdentities no_tables.oids
unfolding no_tables
no_identities = nothing_meant IsIdentity
