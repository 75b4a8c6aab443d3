-- What bytes spell can be written again: each number is in the range of its type, and each text and identity is UTF-8.
use Rattle.std.proofs.Common.{◌≡◌, ℕ, zero, suc, ◌<◌, ◌^◌, Bool, true, false, nat_lt, List, [], ◌∷◌, ◌++◌, Option, None, Some, refl, sym, subst, inl, inr, arith}
use Rattle.std.specs.Prelude.{FitsSigned}
use Rattle.std.specs.Int.{w8, w16, w32, w64, cast_signed}
use Rattle.std.specs.Str.{IsUtf8}
use Rattle.std.proofs.lemmas.Bool.{ltb-true, ltb-false}
use Rattle.uno_model.specs.Entities.{Entity}
use Rattle.uno_model.specs.Fits.{member_kinds}
use Rattle.uno_model.specs.Kinds.{Kind}
use Rattle.uno_model.specs.Kinds as kd
use Rattle.uno_model.specs.Spellable.{IsSpellable, AreSpellable}
use Rattle.uno_model.specs.Values.{Plain, plains}
use Rattle.uno_model.specs.Values as plain
use Rattle.urp_model.specs.Blocks.{AreBytes}
use Rattle.urp_model.specs.Carried.{MeansTexts}
use Rattle.urp_model.specs.NamedKinds.{is_byte}
use Rattle.urp_model.specs.Reading.{ref_of}
use Rattle.urp_model.specs.Spelling.{IsNumber, IsTextName, Spelled, SpellsOid, SpellsAll, SpellsEach, SpellsSequence, SpellsTuple, SpellsStep, Spells}
use Rattle.urp_model.specs.Tables.{Table, Tables, no_tables}
use Rattle.urp_model.proofs.FittingLaws.{name_fits, nothing_meant}

-- ---- bytes and numbers

-- the parts of bytes are bytes
pub bytes_front : (p q : List ℕ) → AreBytes (p ++ q) → AreBytes p
bytes_front [] q bytes i = omega arith
bytes_front (b ∷ p) q bytes zero = bytes 0
bytes_front (b ∷ p) q bytes (suc i) = bytes_front p q (λ k. bytes (suc k)) i

pub bytes_back : (p q : List ℕ) → AreBytes (p ++ q) → AreBytes q
bytes_back [] q bytes = bytes
bytes_back (b ∷ p) q bytes = bytes_back p q (λ k. bytes (suc k))

pub bytes_parts : (b p q : List ℕ) → b ≡ p ++ q → AreBytes b → AreBytes p × AreBytes q
bytes_parts b p q split bytes = let both = subst AreBytes split bytes in (bytes_front p q both, bytes_back p q both)

-- a number of bytes is in the range that they have
pub small_2 : (b : List ℕ) (n : ℕ) → AreBytes b → IsNumber w16 b n → n < 2 ^ 16
small_2 b n bytes is = omega (arith, is.1, bytes 0, bytes 1)

small_4 : (b : List ℕ) (n : ℕ) → AreBytes b → IsNumber w32 b n → n < 2 ^ 32
small_4 b n bytes is = omega (arith, is.1, bytes 0, bytes 1, bytes 2, bytes 3)

small_8 : (b : List ℕ) (n : ℕ) → AreBytes b → IsNumber w64 b n → n < 2 ^ 64
small_8 b n bytes is = omega (arith, is.1, bytes 0, bytes 1, bytes 2, bytes 3, bytes 4, bytes 5, bytes 6, bytes 7)

signed_1 : (n : ℕ) → n < 2 ^ 8 → FitsSigned w8 (cast_signed w8 n)
signed_1 n low = by_sign (nat_lt n (2 ^ 7)) refl
  where
    by_sign : (t : Bool) → nat_lt n (2 ^ 7) ≡ t → FitsSigned w8 (cast_signed w8 n)
    by_sign true small = rw small (record { sfits = ltb-true n (2 ^ 7) small })
    by_sign false high = let above = ltb-false n (2 ^ 7) high in rw high (record { sfits = omega arith })

signed_2 : (n : ℕ) → n < 2 ^ 16 → FitsSigned w16 (cast_signed w16 n)
signed_2 n low = by_sign (nat_lt n (2 ^ 15)) refl
  where
    by_sign : (t : Bool) → nat_lt n (2 ^ 15) ≡ t → FitsSigned w16 (cast_signed w16 n)
    by_sign true small = rw small (record { sfits = ltb-true n (2 ^ 15) small })
    by_sign false high = let above = ltb-false n (2 ^ 15) high in rw high (record { sfits = omega arith })

signed_4 : (n : ℕ) → n < 2 ^ 32 → FitsSigned w32 (cast_signed w32 n)
signed_4 n low = by_sign (nat_lt n (2 ^ 31)) refl
  where
    by_sign : (t : Bool) → nat_lt n (2 ^ 31) ≡ t → FitsSigned w32 (cast_signed w32 n)
    by_sign true small = rw small (record { sfits = ltb-true n (2 ^ 31) small })
    by_sign false high = let above = ltb-false n (2 ^ 31) high in rw high (record { sfits = omega arith })

signed_8 : (n : ℕ) → n < 2 ^ 64 → FitsSigned w64 (cast_signed w64 n)
signed_8 n low = by_sign (nat_lt n (2 ^ 63)) refl
  where
    by_sign : (t : Bool) → nat_lt n (2 ^ 63) ≡ t → FitsSigned w64 (cast_signed w64 n)
    by_sign true small = rw small (record { sfits = ltb-true n (2 ^ 63) small })
    by_sign false high = let above = ltb-false n (2 ^ 63) high in rw high (record { sfits = omega arith })

-- ---- objects

pub no_texts : MeansTexts no_tables.oids
unfolding no_tables
no_texts = nothing_meant IsUtf8

-- the identity of an object is a text, and so is what the slots mean after it
pub oid_spellable : (table : Table) (oid : Option (List ℕ)) (face b : List ℕ) (after : Table) → MeansTexts table → SpellsOid table oid b after
    → IsSpellable (plain.ref (ref_of oid face)) × MeansTexts after
unfolding IsSpellable
oid_spellable table None face b after each spelled = (tt, subst MeansTexts (sym spelled.5) each)
oid_spellable table (Some oid) face b after each spelled = name_fits IsUtf8 IsTextName (λ p name some is. is.0.1) table oid b after spelled.0 each

-- ---- values

-- a value that can be written, and slots that mean texts
abbrev pub Spellable : Plain → Tables → Type 0
Spellable x t = IsSpellable x × MeansTexts t.oids

abbrev pub GivesSpellable : (Kind → Spelled) → Type 0
GivesSpellable S = (k : Kind) (s t : Tables) (x : Plain) (b : List ℕ) → AreBytes b → MeansTexts s.oids → S k s x b t → Spellable x t

module _ (S : Kind → Spelled) (h : GivesSpellable S) where
  all_spellable : (k : Kind) (xs : List Plain) (s t : Tables) (b : List ℕ) → AreBytes b → MeansTexts s.oids → SpellsAll (S k) s xs b t
      → AreSpellable (plains xs) × MeansTexts t.oids
  unfolding SpellsAll AreSpellable
  all_spellable k [] s t b bytes each spelled = (tt, subst (λ (u : Tables). MeansTexts u.oids) (sym spelled.1) each)
  all_spellable k (x ∷ xs) s t b bytes each spelled =
      let parts = bytes_parts b spelled.0 spelled.1 spelled.3 bytes in
      let first = h k s spelled.2 x spelled.0 parts.0 each spelled.4 in
      let others = all_spellable k xs spelled.2 t spelled.1 parts.1 first.1 spelled.5 in
      ((first.0, others.0), others.1)

  pub each_spellable : (ks : List Kind) (xs : List Plain) (s t : Tables) (b : List ℕ) → AreBytes b → MeansTexts s.oids → SpellsEach S ks s xs b t
      → AreSpellable (plains xs) × MeansTexts t.oids
  unfolding SpellsEach AreSpellable
  each_spellable [] xs s t b bytes each spelled =
      subst (λ ys. AreSpellable (plains ys) × MeansTexts t.oids) (sym spelled.0) (tt, subst (λ (u : Tables). MeansTexts u.oids) (sym spelled.2) each)
  each_spellable (k ∷ ks) xs s t b bytes each spelled =
      let parts = bytes_parts b spelled.2 spelled.3 spelled.6 bytes in
      let first = h k s spelled.4 spelled.0 spelled.2 parts.0 each spelled.7 in
      let others = each_spellable ks spelled.1 spelled.4 t spelled.3 parts.1 first.1 spelled.8 in
      subst (λ ys. AreSpellable (plains ys) × MeansTexts t.oids) (sym spelled.5) ((first.0, others.0), others.1)

  -- a value of one part
  leaf : (x y : Plain) (s t : Tables) → x ≡ y → t ≡ s → IsSpellable y → MeansTexts s.oids → Spellable x t
  leaf x y s t is same fits each = (subst IsSpellable (sym is) fits, subst (λ (u : Tables). MeansTexts u.oids) (sym same) each)

  tuple_spellable : (ks : List Kind) (name : List ℕ) (s t : Tables) (x : Plain) (b : List ℕ) → AreBytes b → MeansTexts s.oids → SpellsTuple S ks name s x b t → Spellable x t
  unfolding IsSpellable
  tuple_spellable ks name s t x b bytes each spelled =
      let vs = each_spellable ks spelled.0 s t b bytes each spelled.2 in
      (subst IsSpellable (sym spelled.1) vs.0, vs.1)

  sequence_spellable : (k : Kind) (s t : Tables) (x : Plain) (b : List ℕ) → AreBytes b → MeansTexts s.oids → (of_bytes : Bool) → SpellsSequence of_bytes (S k) k s x b t → Spellable x t
  unfolding IsSpellable
  sequence_spellable k s t x b bytes each true spelled =
      leaf x (plain.bytes spelled.0) s t spelled.1 spelled.3 (bytes_parts b spelled.2.0 spelled.0 spelled.2.1 bytes).1 each
  sequence_spellable k s t x b bytes each false spelled =
      let vs = all_spellable k spelled.0 s t spelled.2 (bytes_parts b spelled.1 spelled.2 spelled.4 bytes).1 each spelled.6 in
      (subst IsSpellable (sym spelled.3) vs.0, vs.1)

  one_byte : (b : List ℕ) (n : ℕ) → AreBytes b → b ≡ n ∷ [] → n < 2 ^ 8
  one_byte b n bytes is = (subst AreBytes is bytes) 0

  step_spellable : (reg : List Entity) → GivesSpellable (SpellsStep reg S)
  unfolding SpellsStep IsSpellable
  step_spellable reg kd.void s t x b bytes each p = leaf x plain.void s t p.0 p.2 tt each
  step_spellable reg kd.char s t x b bytes each p = leaf x (plain.char p.0) s t p.1 p.3 (small_2 b p.0 bytes p.2) each
  step_spellable reg kd.boolean s t x b bytes each p = elim p.0 [
    | inl f ↦ leaf x (plain.boolean false) s t f.0 p.1 tt each
    | inr f ↦ leaf x (plain.boolean true) s t f.0 p.1 tt each
  ]
  step_spellable reg kd.byte s t x b bytes each p = leaf x (plain.byte (cast_signed w8 p.0)) s t p.1 p.3 (signed_1 p.0 (one_byte b p.0 bytes p.2)) each
  step_spellable reg kd.short s t x b bytes each p = leaf x (plain.short (cast_signed w16 p.0)) s t p.1 p.3 (signed_2 p.0 (small_2 b p.0 bytes p.2)) each
  step_spellable reg kd.unsigned_short s t x b bytes each p = leaf x (plain.unsigned_short p.0) s t p.1 p.3 (small_2 b p.0 bytes p.2) each
  step_spellable reg kd.long s t x b bytes each p = leaf x (plain.long (cast_signed w32 p.0)) s t p.1 p.3 (signed_4 p.0 (small_4 b p.0 bytes p.2)) each
  step_spellable reg kd.unsigned_long s t x b bytes each p = leaf x (plain.unsigned_long p.0) s t p.1 p.3 (small_4 b p.0 bytes p.2) each
  step_spellable reg kd.hyper s t x b bytes each p = leaf x (plain.hyper (cast_signed w64 p.0)) s t p.1 p.3 (signed_8 p.0 (small_8 b p.0 bytes p.2)) each
  step_spellable reg kd.unsigned_hyper s t x b bytes each p = leaf x (plain.unsigned_hyper p.0) s t p.1 p.3 (small_8 b p.0 bytes p.2) each
  step_spellable reg kd.str s t x b bytes each p = leaf x (plain.str p.0) s t p.1 p.3 p.2.1 each
  step_spellable reg kd.kind s t x b bytes each p =
      (subst IsSpellable (sym p.2) tt, subst (λ (u : Tables). MeansTexts u.oids) (sym p.4) each)
  step_spellable reg kd.any s t x b bytes each (k, v, p, q, after, at, split, type, other, inside) =
      let w = h k (record { types = after; oids = s.oids; tids = s.tids }) t v q (bytes_parts b p q split bytes).1 each inside in
      (subst IsSpellable (sym at) w.0, w.1)
  step_spellable reg (kd.enum name) s t x b bytes each p =
      leaf x (plain.enum name (cast_signed w32 p.0)) s t p.1 p.3 (signed_4 p.0 (small_4 b p.0 bytes p.2)) each
  step_spellable reg (kd.struct name) s t x b bytes each p = tuple_spellable (member_kinds reg name) name s t x b bytes each p
  step_spellable reg (kd.exception name) s t x b bytes each p = tuple_spellable (member_kinds reg name) name s t x b bytes each p
  step_spellable reg (kd.interface face) s t x b bytes each p =
      let o = oid_spellable s.oids p.0 face b p.1 each p.3 in
      (subst IsSpellable (sym p.2) o.0, subst (λ (u : Tables). MeansTexts u.oids) (sym p.4) o.1)
  step_spellable reg (kd.sequence k) s t x b bytes each p = sequence_spellable k s t x b bytes each (is_byte k) p

pub value_spellable : (reg : List Entity) (d : ℕ) → GivesSpellable (Spells d reg)
unfolding Spells
value_spellable reg zero k s t x b bytes each spelled = absurd spelled
value_spellable reg (suc d) k s t x b bytes each spelled = step_spellable (Spells d reg) (value_spellable reg d) reg k s t x b bytes each spelled
