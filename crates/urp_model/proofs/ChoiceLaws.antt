-- What a sender writes of a value spells it as it arrives, case by case.
use Rattle.std.proofs.Common.{◌≡◌, ◌≢◌, ℕ, suc, ◌^◌, ◌<◌, true, false, List, [], ◌∷◌, ◌++◌, length, Option, None, Some, refl, sym, ap, subst, inl, inr, arith}
use Rattle.std.specs.List.{list_all}
use Rattle.std.specs.Str.{IsUtf8}
use Rattle.uno_model.specs.Entities.{Entity}
use Rattle.uno_model.specs.Fits.{Fits, HeldFits, IsTupleKind, member_kinds}
use Rattle.uno_model.specs.Kinds.{Kind}
use Rattle.uno_model.specs.Kinds as kd
use Rattle.uno_model.specs.Recast.{recast, recast_each, recast_all}
use Rattle.uno_model.specs.Sound.{is_named}
use Rattle.uno_model.specs.Types.{is_type}
use Rattle.uno_model.specs.Values.{Ref, null, own, peer, Plain, Plains, none, more, plains}
use Rattle.uno_model.specs.Values as plain
use Rattle.uno_model.specs.Weights.{count}
use Rattle.uno_model.specs.Spellable.{IsSpellableRef}
use Rattle.urp_model.specs.Carried.{abroad, abroad_each, carried, Corresponds, AllCorrespond}
use Rattle.urp_model.specs.NamedKinds.{is_byte}
use Rattle.urp_model.specs.Spelling.{SpellsAll, SpellsEach, SpellsSequence, SpellsStep, Spells}
use Rattle.urp_model.specs.Tables.{Tables, with_types, with_oids}
use Rattle.urp_model.specs.Writing.{HeldNames, compressed, holding_types, kind_spelling, kind_after, name_spelling, after, afters, spelling, spellings}
use Rattle.urp_model.proofs.PieceLaws.{number_2, compressed_is, measured_is, no_name_is, kind_is, oid_is}

module _ (reg : List Entity) where
  -- a value of a type is spelled as it arrives, and the reader's tables go on to answer
  abbrev pub Carries : ℕ → Kind → Tables → Plain → HeldNames → Type 0
  Carries d k s v h = (t : Tables) × Spells d reg k s (carried reg v k) (spelling v h) t × AllCorrespond t (after v h)

  -- the same of values of one type, and of a value of each of these types
  abbrev pub CarriesAll : ℕ → Kind → Tables → Plains → HeldNames → Type 0
  CarriesAll d k s vs h =
      (xs : List Plain) × (t : Tables) × (plains xs ≡ abroad_each (recast_all reg vs k)) × (length xs ≡ count vs) × SpellsAll (Spells d reg k) s xs (spellings vs h) t × AllCorrespond t (afters vs h)

  abbrev pub CarriesEach : ℕ → List Kind → Tables → Plains → HeldNames → Type 0
  CarriesEach d ks s vs h =
      (xs : List Plain) × (t : Tables) × (plains xs ≡ abroad_each (recast_each reg vs ks)) × SpellsEach (Spells d reg) ks s xs (spellings vs h) t × AllCorrespond t (afters vs h)

  -- tables of which one was replaced
  types_replaced : (s : Tables) (h : HeldNames) (table : List (Option (List ℕ))) (names : List (List ℕ × ℕ)) → AllCorrespond s h → Corresponds table names
      → AllCorrespond (with_types s table) (holding_types h names)
  types_replaced s h table names c new = record { types = new; oids = c.oids; tids = c.tids }

  module _ (named : list_all is_named reg ≡ true) (d : ℕ) (s : Tables) (h : HeldNames) (c : AllCorrespond s h) where
    -- a type
    pub kind_case : (k t : Kind) → k ≡ kd.kind → is_type reg t ≡ true → Carries (suc d) k s (plain.kind t) h
    unfolding recast abroad spelling after Spells SpellsStep
    kind_case k t at is =
        let w = kind_is reg s.types t h.types named is c.types in
        subst (λ j. Carries (suc d) j s (plain.kind t) h) (sym at)
        (with_types s w.0, (t, w.0, refl, w.1, refl), types_replaced s h w.0 (kind_after t h.types) c w.2)

    -- any value
    pub any_case : (k t : Kind) (v : Plain) → k ≡ kd.any → t ≢ kd.any → is_type reg t ≡ true
        → ((u : Tables) (g : HeldNames) → AllCorrespond u g → Carries d t u v g) → Carries (suc d) k s (plain.any t v) h
    unfolding recast abroad spelling after Spells SpellsStep
    any_case k t v at other is inside =
        let w = kind_is reg s.types t h.types named is c.types in
        let x = inside (with_types s w.0) (holding_types h (kind_after t h.types)) (types_replaced s h w.0 (kind_after t h.types) c w.2) in
        subst (λ j. Carries (suc d) j s (plain.any t v) h) (sym at)
        (x.0, (t, carried reg v t, kind_spelling t h.types, spelling v (holding_types h (kind_after t h.types)), w.0, refl, refl, w.1, other, x.1), x.2)

    -- a struct or an exception
    pub tuple_case : (k : Kind) (name : List ℕ) (vs : Plains) → IsTupleKind name k → CarriesEach d (member_kinds reg name) s vs h → Carries (suc d) k s (plain.tuple name vs) h
    unfolding recast abroad spelling after Spells SpellsStep
    tuple_case k name vs at x = elim at [
      | inl struct ↦ subst (λ j. Carries (suc d) j s (plain.tuple name vs) h) (sym struct) (x.1, (x.0, ap (plain.tuple name) (sym x.2), x.3), x.4)
      | inr exception ↦ subst (λ j. Carries (suc d) j s (plain.tuple name vs) h) (sym exception) (x.1, (x.0, ap (plain.tuple name) (sym x.2), x.3), x.4)
    ]

    -- a sequence
    not_byte : (t : Kind) → t ≢ kd.byte → is_byte t ≡ false
    not_byte kd.byte other = absurd (other refl)
    not_byte _ other = refl

    pub list_case : (k t : Kind) (vs : Plains) → k ≡ kd.sequence t → t ≢ kd.byte → count vs < 2 ^ 32 → CarriesAll d t s vs h → Carries (suc d) k s (plain.list t vs) h
    unfolding recast abroad spelling after Spells SpellsStep
    list_case k t vs at other few x =
        let counted = subst (λ (n : ℕ). n < 2 ^ 32) (sym x.3) few in
        subst (λ j. Carries (suc d) j s (plain.list t vs) h) (sym at) (
          x.1,
          subst (λ b. SpellsSequence b (Spells d reg t) t s (carried reg (plain.list t vs) (kd.sequence t)) (spelling (plain.list t vs) h) x.1) (sym (not_byte t other))
              (x.0, compressed (length x.0), spellings vs h, ap (plain.list t) (sym x.2), ap (λ n. compressed n ++ spellings vs h) (sym x.3), compressed_is (length x.0) counted, x.4),
          x.5,
        )

    pub bytes_case : (k : Kind) (raw : List ℕ) → k ≡ kd.sequence kd.byte → length raw < 2 ^ 32 → Carries (suc d) k s (plain.bytes raw) h
    unfolding recast abroad spelling after Spells SpellsStep
    bytes_case k raw at few = subst (λ j. Carries (suc d) j s (plain.bytes raw) h) (sym at) (s, (raw, refl, measured_is raw few, refl), c)

    -- an object
    oid_carried : (oid face wanted : List ℕ) → HeldFits reg oid face wanted → IsUtf8 oid
        → (t : Tables) × SpellsStep reg (Spells d reg) (kd.interface wanted) s (plain.ref (peer oid wanted)) (name_spelling oid h.oids) t
        × AllCorrespond t (after (plain.ref (own oid face)) h)
    unfolding after SpellsStep
    oid_carried oid face wanted fits text =
        let w = oid_is oid s.oids h.oids fits.identity.some fits.identity.bounded text c.oids in
        (with_oids s w.0, (Some oid, w.0, refl, w.1, refl), record { types = c.types; oids = w.2; tids = c.tids })

    pub ref_case : (r : Ref) (k : Kind) → Fits reg (plain.ref r) k → IsSpellableRef r → Carries (suc d) k s (plain.ref r) h
    unfolding Fits recast abroad spelling after Spells SpellsStep
    ref_case null (kd.interface wanted) fits text = (with_oids s s.oids, (None, s.oids, refl, (0 ∷ [], 255 ∷ 255 ∷ [], refl, no_name_is, number_2 65535 (omega arith), refl), refl), c)
    ref_case (own oid face) (kd.interface wanted) fits text = oid_carried oid face wanted fits text
    ref_case (peer oid face) (kd.interface wanted) fits text = oid_carried oid face wanted fits text
    ref_case _ _ fits text = absurd fits
