-- A value that bytes spell at a type fits it, and is nested no deeper than was allowed.
use Rattle.std.proofs.Common.{◌≡◌, ◌≢◌, ℕ, zero, suc, ◌≤◌, Bool, true, false, List, [], ◌∷◌, Option, None, Some, refl, sym, ◌∙◌, ap, subst, inl, inr, arith}
use Rattle.std.specs.List.{list_all}
use Rattle.std.proofs.lemmas.Bool.{and_parts}
use Rattle.uno_model.specs.Entities.{Entity}
use Rattle.uno_model.specs.Fits.{Fits, FitEach, FitAll, IsTupleKind, member_kinds}
use Rattle.uno_model.specs.Kinds.{Kind}
use Rattle.uno_model.specs.Kinds as kd
use Rattle.uno_model.specs.Sound.{IsSound, is_storable}
use Rattle.uno_model.specs.Types.{is_type}
use Rattle.uno_model.specs.Values.{Plain, plains, depth, depth_in, null, peer}
use Rattle.uno_model.specs.Values as plain
use Rattle.urp_model.specs.Carried.{MeansIdentities}
use Rattle.urp_model.specs.NamedKinds.{is_byte}
use Rattle.urp_model.specs.Reading.{ref_of}
use Rattle.urp_model.specs.Spelling.{Spelled, SpellsOid, SpellsAll, SpellsEach, SpellsSequence, SpellsTuple, SpellsStep, Spells}
use Rattle.urp_model.specs.Tables.{Table, Tables, with_oids}
use Rattle.urp_model.proofs.FittingLaws.{spelled_type, element_type, oid_fits}
use Rattle.uno_model.proofs.MemberKindLaws.{members_ruled}
use Rattle.uno_model.proofs.UsedKindLaws.{is_member}

module _ (reg : List Entity) (sound : IsSound reg) where
  -- a value of a type, so deep at most, and that the slots mean identities after it
  pub record Arrived (d : ℕ) (k : Kind) (x : Plain) (t : Tables) : Type 0 where
    pub fits : Fits reg x k
    pub deep : depth x ≤ d
    pub oids : MeansIdentities t.oids

  -- what is spelled so arrives
  abbrev pub Arrives : ℕ → (Kind → Spelled) → Type 0
  Arrives d S = (k : Kind) (s t : Tables) (x : Plain) (b : List ℕ) → is_type reg k ≡ true → MeansIdentities s.oids → S k s x b t → Arrived d k x t

  module _ (d : ℕ) (S : Kind → Spelled) (h : Arrives d S) where
    -- values one after the other
    all_arrive : (k : Kind) (xs : List Plain) (s t : Tables) (b : List ℕ) → is_type reg k ≡ true → MeansIdentities s.oids → SpellsAll (S k) s xs b t
        → FitAll reg (plains xs) k × (depth_in (plains xs) ≤ d) × MeansIdentities t.oids
    unfolding SpellsAll FitAll depth_in
    all_arrive k [] s t b is each spelled = (tt, omega arith, subst (λ (u : Tables). MeansIdentities u.oids) (sym spelled.1) each)
    all_arrive k (x ∷ xs) s t b is each spelled =
        let first = h k s spelled.2 x spelled.0 is each spelled.4 in
        let others = all_arrive k xs spelled.2 t spelled.1 is first.oids spelled.5 in
        ((first.fits, others.0), omega (arith, first.deep), others.2)

    each_arrives : (ks : List Kind) (xs : List Plain) (s t : Tables) (b : List ℕ) → list_all (is_member reg) ks ≡ true → MeansIdentities s.oids → SpellsEach S ks s xs b t
        → FitEach reg (plains xs) ks × (depth_in (plains xs) ≤ d) × MeansIdentities t.oids
    unfolding SpellsEach FitEach depth_in
    each_arrives [] xs s t b are each spelled =
        subst (λ ys. FitEach reg (plains ys) [] × (depth_in (plains ys) ≤ d) × MeansIdentities t.oids) (sym spelled.0)
        (tt, omega arith, subst (λ (u : Tables). MeansIdentities u.oids) (sym spelled.2) each)
    each_arrives (k ∷ ks) xs s t b are each spelled =
        let p = and_parts (is_member reg k) (list_all (is_member reg) ks) are in
        let first = h k s spelled.4 spelled.0 spelled.2 (and_parts (is_storable k) (is_type reg k) p.0).1 each spelled.7 in
        let others = each_arrives ks spelled.1 spelled.4 t spelled.3 p.1 first.oids spelled.8 in
        subst (λ ys. FitEach reg (plains ys) (k ∷ ks) × (depth_in (plains ys) ≤ d) × MeansIdentities t.oids) (sym spelled.5)
        ((first.fits, others.0), omega (arith, first.deep), others.2)

    -- a value of one part
    leaf : (k : Kind) (x y : Plain) (s t : Tables) → x ≡ y → t ≡ s → Fits reg y k → depth y ≤ 1 → MeansIdentities s.oids → Arrived (suc d) k x t
    leaf k x y s t is same fits deep each = record {
      fits = subst (λ z. Fits reg z k) (sym is) fits;
      deep = subst (λ z. depth z ≤ suc d) (sym is) (omega arith);
      oids = subst (λ (u : Tables). MeansIdentities u.oids) (sym same) each;
    }

    -- a struct or an exception
    tuple_arrives : (k : Kind) (name : List ℕ) (s t : Tables) (x : Plain) (b : List ℕ) → IsTupleKind name k → is_type reg k ≡ true → MeansIdentities s.oids
        → SpellsTuple S (member_kinds reg name) name s x b t → Arrived (suc d) k x t
    unfolding Fits depth
    tuple_arrives k name s t x b at is each spelled =
        let vs = each_arrives (member_kinds reg name) spelled.0 s t b (members_ruled reg sound name) each spelled.2 in
        record {
          fits = subst (λ z. Fits reg z k) (sym spelled.1) (at, is, vs.0);
          deep = subst (λ z. depth z ≤ suc d) (sym spelled.1) (omega (arith, vs.1));
          oids = vs.2;
        }

    -- a sequence
    byte_is : (k : Kind) → is_byte k ≡ true → k ≡ kd.byte
    byte_is kd.byte is = refl
    byte_is _ is = absurd cc

    not_byte : (k : Kind) → is_byte k ≡ false → k ≢ kd.byte
    not_byte k other is = let bad : true ≡ false = ap is_byte (sym is) ∙ other in cc

    sequence_arrives : (k : Kind) (s t : Tables) (x : Plain) (b : List ℕ) → is_type reg (kd.sequence k) ≡ true → MeansIdentities s.oids
        → (bytes : Bool) → is_byte k ≡ bytes → SpellsSequence bytes (S k) k s x b t → Arrived (suc d) (kd.sequence k) x t
    unfolding Fits depth
    sequence_arrives k s t x b is each true are spelled = leaf (kd.sequence k) x (plain.bytes spelled.0) s t spelled.1 spelled.3 (ap kd.sequence (byte_is k are)) (omega arith) each
    sequence_arrives k s t x b is each false others spelled =
        let vs = all_arrive k spelled.0 s t spelled.2 (element_type reg k is) each spelled.6 in
        record {
          fits = subst (λ z. Fits reg z (kd.sequence k)) (sym spelled.3) (refl, not_byte k others, is, vs.0);
          deep = subst (λ z. depth z ≤ suc d) (sym spelled.3) (omega (arith, vs.1));
          oids = vs.2;
        }

    -- a reference
    ref_arrives : (face : List ℕ) (s t : Tables) (x : Plain) (b : List ℕ) (oid : Option (List ℕ)) (after : Table) → is_type reg (kd.interface face) ≡ true → MeansIdentities s.oids
        → x ≡ plain.ref (ref_of oid face) → SpellsOid s.oids oid b after → t ≡ with_oids s after → Arrived (suc d) (kd.interface face) x t
    unfolding Fits depth
    ref_arrives face s t x b None after is each at spelled same = record {
      fits = subst (λ z. Fits reg z (kd.interface face)) (sym at) is;
      deep = subst (λ z. depth z ≤ suc d) (sym at) (omega arith);
      oids = subst (λ (u : Tables). MeansIdentities u.oids) (sym same) (subst MeansIdentities (sym spelled.5) each);
    }
    ref_arrives face s t x b (Some oid) after is each at spelled same =
        let o = oid_fits s.oids oid b after spelled.0 each in
        record {
          fits = subst (λ z. Fits reg z (kd.interface face)) (sym at) (record { identity = o.0; held = is; reached = inl refl });
          deep = subst (λ z. depth z ≤ suc d) (sym at) (omega arith);
          oids = subst (λ (u : Tables). MeansIdentities u.oids) (sym same) o.1;
        }

    step_arrives : Arrives (suc d) (SpellsStep reg S)
    unfolding SpellsStep Fits depth
    step_arrives kd.void s t x b is each p = leaf kd.void x plain.void s t p.0 p.2 refl (omega arith) each
    step_arrives kd.char s t x b is each p = leaf kd.char x (plain.char p.0) s t p.1 p.3 refl (omega arith) each
    step_arrives kd.boolean s t x b is each p = elim p.0 [
      | inl f ↦ leaf kd.boolean x (plain.boolean false) s t f.0 p.1 refl (omega arith) each
      | inr f ↦ leaf kd.boolean x (plain.boolean true) s t f.0 p.1 refl (omega arith) each
    ]
    step_arrives kd.byte s t x b is each p = leaf kd.byte x _ s t p.1 p.3 refl (omega arith) each
    step_arrives kd.short s t x b is each p = leaf kd.short x _ s t p.1 p.3 refl (omega arith) each
    step_arrives kd.unsigned_short s t x b is each p = leaf kd.unsigned_short x _ s t p.1 p.3 refl (omega arith) each
    step_arrives kd.long s t x b is each p = leaf kd.long x _ s t p.1 p.3 refl (omega arith) each
    step_arrives kd.unsigned_long s t x b is each p = leaf kd.unsigned_long x _ s t p.1 p.3 refl (omega arith) each
    step_arrives kd.hyper s t x b is each p = leaf kd.hyper x _ s t p.1 p.3 refl (omega arith) each
    step_arrives kd.unsigned_hyper s t x b is each p = leaf kd.unsigned_hyper x _ s t p.1 p.3 refl (omega arith) each
    step_arrives kd.str s t x b is each p = leaf kd.str x _ s t p.1 p.3 refl (omega arith) each
    step_arrives kd.kind s t x b is each p = record {
      fits = subst (λ z. Fits reg z kd.kind) (sym p.2) (refl, spelled_type reg s.types p.0 b p.1 p.3);
      deep = subst (λ z. depth z ≤ suc d) (sym p.2) (omega arith);
      oids = subst (λ (u : Tables). MeansIdentities u.oids) (sym p.4) each;
    }
    step_arrives kd.any s t x b is each (k, v, p, q, after, at, split, type, other, inside) =
        let type_is = spelled_type reg s.types k p after type in
        let w = h k (record { types = after; oids = s.oids; tids = s.tids }) t v q type_is each inside in
        record {
          fits = subst (λ z. Fits reg z kd.any) (sym at) (refl, other, type_is, w.fits);
          deep = subst (λ z. depth z ≤ suc d) (sym at) (omega (arith, w.deep));
          oids = w.oids;
        }
    step_arrives (kd.enum name) s t x b is each p = leaf (kd.enum name) x _ s t p.1 p.3 (refl, is) (omega arith) each
    step_arrives (kd.struct name) s t x b is each p = tuple_arrives (kd.struct name) name s t x b (inl refl) is each p
    step_arrives (kd.exception name) s t x b is each p = tuple_arrives (kd.exception name) name s t x b (inr refl) is each p
    step_arrives (kd.interface face) s t x b is each p = ref_arrives face s t x b p.0 p.1 is each p.2 p.3 p.4
    step_arrives (kd.sequence k) s t x b is each p = sequence_arrives k s t x b is each (is_byte k) refl p

  pub value_arrives : (d : ℕ) → Arrives d (Spells d reg)
  unfolding Spells
  value_arrives zero k s t x b is each spelled = absurd spelled
  value_arrives (suc d) k s t x b is each spelled = step_arrives d (Spells d reg) (value_arrives d) k s t x b is each spelled
