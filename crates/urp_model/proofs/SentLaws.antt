-- What a sender writes of a value spells it as it arrives.
use Rattle.std.proofs.Common.{◌≡◌, ℕ, ℤ, zero, suc, ◌^◌, ◌<◌, ◌≤◌, true, false, List, [], ◌∷◌, length, refl, sym, ap, subst, inl, inr, arith, FitsSigned}
use Rattle.std.specs.List.{list_all}
use Rattle.std.specs.Int.{Width, w8, w16, w32, w64, cast_unsigned, cast_signed}
use Rattle.std.proofs.lemmas.Int.{to_z-of_z}
use Rattle.uno_model.specs.Entities.{Entity}
use Rattle.uno_model.specs.Fits.{Fits, FitEach, FitAll, member_kinds}
use Rattle.uno_model.specs.Kinds.{Kind}
use Rattle.uno_model.specs.Kinds as kd
use Rattle.uno_model.specs.Recast.{recast, recast_each, recast_all}
use Rattle.uno_model.specs.Sound.{is_named}
use Rattle.uno_model.specs.Values.{Plain, Plains, depth, depth_in, void, char, boolean, byte, short, unsigned_short, long}
use Rattle.uno_model.specs.Values.{unsigned_long, hyper, unsigned_hyper, str, kind, any, enum, tuple, list, bytes, ref, none, more}
use Rattle.uno_model.specs.Weights.{count}
use Rattle.uno_model.specs.Spellable.{IsSpellable, AreSpellable}
use Rattle.urp_model.specs.Carried.{abroad, abroad_each, carried, AllCorrespond}
use Rattle.urp_model.specs.Spelling.{SpellsAll, SpellsEach, SpellsStep, Spells}
use Rattle.urp_model.specs.Tables.{Tables}
use Rattle.urp_model.specs.Writing.{HeldNames, after, afters, spelling, spellings}
use Rattle.urp_model.proofs.ChoiceLaws.{Carries, CarriesAll, CarriesEach, kind_case, any_case, tuple_case, list_case, bytes_case, ref_case}
use Rattle.urp_model.proofs.PieceLaws.{number_2, number_4, number_8, signed_2, signed_4, signed_8, measured_is}

-- texts, counts and raw bytes are below 2 ^ 32
unfoldable mutual
  pub IsMeasurable : Plain → Type 0
  IsMeasurable (str s) = length s < 2 ^ 32
  IsMeasurable (bytes b) = length b < 2 ^ 32
  IsMeasurable (any k v) = IsMeasurable v
  IsMeasurable (tuple name vs) = AreMeasurable vs
  IsMeasurable (list k vs) = (count vs < 2 ^ 32) × AreMeasurable vs
  IsMeasurable _ = Unit

  pub AreMeasurable : Plains → Type 0
  AreMeasurable none = Unit
  AreMeasurable (more v vs) = IsMeasurable v × AreMeasurable vs

-- each value has a depth
some_depth : (v : Plain) → 1 ≤ depth v
unfolding depth
some_depth (any k v) = omega arith
some_depth (tuple name vs) = omega arith
some_depth (list k vs) = omega arith
some_depth _ = omega arith

-- a number of bytes that is read again
signed_back : (w : Width) (z : ℤ) → FitsSigned w z → z ≡ cast_signed w (cast_unsigned w z)
signed_back w z fits = sym (to_z-of_z w z fits)

module _ (reg : List Entity) (named : list_all is_named reg ≡ true) where
  -- a value of one part leaves the tables as they are
  leaf : (d : ℕ) (k j : Kind) (s : Tables) (v : Plain) (h : HeldNames) → k ≡ j → Carries reg d j s v h → Carries reg d k s v h
  leaf d k j s v h at x = subst (λ i. Carries reg d i s v h) (sym at) x

  mutual
    unfolding recast recast_each recast_all abroad abroad_each spelling spellings after afters Spells SpellsStep SpellsAll SpellsEach Fits FitEach
        FitAll IsSpellable AreSpellable IsMeasurable AreMeasurable depth depth_in

    pub value_sent : (v : Plain) (d : ℕ) (k : Kind) (s : Tables) (h : HeldNames) → depth v ≤ d → Fits reg v k → IsSpellable v → IsMeasurable v
        → AllCorrespond s h → Carries reg d k s v h
    value_sent v zero k s h deep fits ranged sized c = let some = some_depth v in absurd (omega arith)
    value_sent void (suc d) k s h deep fits ranged sized c = leaf (suc d) k kd.void s void h fits (s, (refl, refl, refl), c)
    value_sent (char n) (suc d) k s h deep fits ranged sized c = leaf (suc d) k kd.char s (char n) h fits (s, (n, refl, number_2 n ranged, refl), c)
    value_sent (boolean true) (suc d) k s h deep fits ranged sized c = leaf (suc d) k kd.boolean s (boolean true) h fits (s, (inr (refl, refl), refl), c)
    value_sent (boolean false) (suc d) k s h deep fits ranged sized c = leaf (suc d) k kd.boolean s (boolean false) h fits (s, (inl (refl, refl), refl), c)
    value_sent (byte n) (suc d) k s h deep fits ranged sized c = leaf (suc d) k kd.byte s (byte n) h fits (s, (cast_unsigned w8 n, ap byte (signed_back w8 n ranged), refl, refl), c)
    value_sent (short n) (suc d) k s h deep fits ranged sized c =
        leaf (suc d) k kd.short s (short n) h fits
        (s, (cast_unsigned w16 n, ap short (signed_back w16 n ranged), number_2 (cast_unsigned w16 n) (signed_2 n ranged), refl), c)
    value_sent (long n) (suc d) k s h deep fits ranged sized c =
        leaf (suc d) k kd.long s (long n) h fits
        (s, (cast_unsigned w32 n, ap long (signed_back w32 n ranged), number_4 (cast_unsigned w32 n) (signed_4 n ranged), refl), c)
    value_sent (hyper n) (suc d) k s h deep fits ranged sized c =
        leaf (suc d) k kd.hyper s (hyper n) h fits
        (s, (cast_unsigned w64 n, ap hyper (signed_back w64 n ranged), number_8 (cast_unsigned w64 n) (signed_8 n ranged), refl), c)
    value_sent (unsigned_short n) (suc d) k s h deep fits ranged sized c = leaf (suc d) k kd.unsigned_short s (unsigned_short n) h fits (s, (n, refl, number_2 n ranged, refl), c)
    value_sent (unsigned_long n) (suc d) k s h deep fits ranged sized c = leaf (suc d) k kd.unsigned_long s (unsigned_long n) h fits (s, (n, refl, number_4 n ranged, refl), c)
    value_sent (unsigned_hyper n) (suc d) k s h deep fits ranged sized c = leaf (suc d) k kd.unsigned_hyper s (unsigned_hyper n) h fits (s, (n, refl, number_8 n ranged, refl), c)
    value_sent (str text) (suc d) k s h deep fits ranged sized c = leaf (suc d) k kd.str s (str text) h fits (s, (text, refl, (measured_is text sized, ranged), refl), c)
    value_sent (enum name n) (suc d) k s h deep fits ranged sized c =
        leaf (suc d) k (kd.enum name) s (enum name n) h fits.0
        (s, (cast_unsigned w32 n, ap (enum name) (signed_back w32 n ranged), number_4 (cast_unsigned w32 n) (signed_4 n ranged), refl), c)
    value_sent (kind t) (suc d) k s h deep fits ranged sized c = kind_case reg named d s h c k t fits.0 fits.1
    value_sent (any t v) (suc d) k s h deep fits ranged sized c =
        any_case reg named d s h c k t v fits.0 fits.1 fits.2 (λ u g. value_sent v d t u g (omega arith) fits.3 ranged sized)
    value_sent (tuple name vs) (suc d) k s h deep fits ranged sized c =
        tuple_case reg named d s h c k name vs fits.0 (each_sent vs d (member_kinds reg name) s h (omega arith) fits.2 ranged sized c)
    value_sent (list t vs) (suc d) k s h deep fits ranged sized c =
        list_case reg named d s h c k t vs fits.0 fits.1 sized.0 (all_sent vs d t s h (omega arith) fits.3 ranged sized.1 c)
    value_sent (bytes raw) (suc d) k s h deep fits ranged sized c = bytes_case reg named d s h c k raw fits sized
    value_sent (ref r) (suc d) k s h deep fits ranged sized c = ref_case reg named d s h c r k fits ranged

    pub all_sent : (vs : Plains) (d : ℕ) (k : Kind) (s : Tables) (h : HeldNames) → depth_in vs ≤ d → FitAll reg vs k → AreSpellable vs → AreMeasurable vs → AllCorrespond s h
        → CarriesAll reg d k s vs h
    all_sent none d k s h deep fits ranged sized c = ([], s, refl, refl, (refl, refl), c)
    all_sent (more v vs) d k s h deep fits ranged sized c =
        let first = value_sent v d k s h (omega arith) fits.0 ranged.0 sized.0 c in
        let others = all_sent vs d k first.0 (after v h) (omega arith) fits.1 ranged.1 sized.1 first.2 in (
          carried reg v k ∷ others.0,
          others.1,
          ap (more (carried reg v k)) others.2,
          ap suc others.3,
          (spelling v h, spellings vs (after v h), first.0, refl, first.1, others.4),
          others.5,
        )

    pub each_sent : (vs : Plains) (d : ℕ) (ks : List Kind) (s : Tables) (h : HeldNames) → depth_in vs ≤ d → FitEach reg vs ks → AreSpellable vs → AreMeasurable vs → AllCorrespond s h
        → CarriesEach reg d ks s vs h
    each_sent none d [] s h deep fits ranged sized c = ([], s, refl, (refl, refl, refl), c)
    each_sent none d (k ∷ ks) s h deep fits ranged sized c = absurd fits
    each_sent (more v vs) d [] s h deep fits ranged sized c = absurd fits
    each_sent (more v vs) d (k ∷ ks) s h deep fits ranged sized c =
        let first = value_sent v d k s h (omega arith) fits.0 ranged.0 sized.0 c in
        let others = each_sent vs d ks first.0 (after v h) (omega arith) fits.1 ranged.1 sized.1 first.2 in (
          carried reg v k ∷ others.0,
          others.1,
          ap (more (carried reg v k)) others.2,
          (carried reg v k, others.0, spelling v h, spellings vs (after v h), first.0, refl, refl, first.1, others.3),
          others.4,
        )
