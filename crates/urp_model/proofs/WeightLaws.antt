-- A sender's spelling of a value has at most as many bytes as the value weighs, and just as many where each name is new.
use Rattle.std.proofs.Common.{◌≡◌, ℕ, ◌+◌, ◌≤◌, nat_lt, Bool, true, false, List, [], ◌∷◌, ◌++◌, length, refl, sym, ◌∙◌, ap, if◌then◌else◌, arith}
use Rattle.std.proofs.lemmas.List.{length-append}
use Rattle.std.specs.Int.{w32, to_be_bytes}
use Rattle.uno_model.specs.Kinds.{Kind, name_of}
use Rattle.uno_model.specs.Kinds as kd
use Rattle.uno_model.specs.TypeClasses.{class_code, class_of}
use Rattle.uno_model.specs.Values.{Ref, null, own, peer, Plain, Plains, str, kind, any, tuple, list, bytes, ref, none, more}
use Rattle.uno_model.specs.Weights.{compressed_weight, text_weight, kind_weight, ref_weight, count, weight, weights}
use Rattle.urp_model.specs.Carried.{IsNewKind, IsNewRef, IsNew, AreNew}
use Rattle.urp_model.specs.Held.{holds, slot_for}
use Rattle.urp_model.specs.NamedKinds.{is_simple}
use Rattle.urp_model.specs.Writing.{Names, HeldNames, holding_types, compressed, measured, slot_bytes, kind_written}
use Rattle.urp_model.specs.Writing.{kind_spelling, kind_after, name_spelling, ref_spelling, after, spelling, spellings}

-- ---- parts

pub compressed_some : (n : ℕ) → 1 ≤ compressed_weight n
compressed_some n = by_test (nat_lt n 255)
  where
    by_test : (t : Bool) → 1 ≤ (if t then 1 else 5)
    by_test true = omega arith
    by_test false = omega arith

pub compressed_long : (n : ℕ) → length (compressed n) ≡ compressed_weight n
unfolding compressed
compressed_long n = by_test (nat_lt n 255)
  where
    by_test : (t : Bool) → length (if t then n ∷ [] else 255 ∷ to_be_bytes w32 n) ≡ (if t then 1 else 5)
    by_test true = refl
    by_test false = refl

pub measured_long : (raw : List ℕ) → length (measured raw) ≡ text_weight raw
unfolding measured
measured_long raw = length-append (compressed (length raw)) raw ∙ ap (λ n. n + length raw) (compressed_long (length raw))

pub slot_long : (slot : ℕ) → length (slot_bytes slot) ≡ 2
unfolding slot_bytes
slot_long slot = refl

-- ---- types

pub simple_weight : (k : Kind) → is_simple k ≡ true → kind_weight k ≡ 1
simple_weight (kd.enum name) is = absurd cc
simple_weight (kd.struct name) is = absurd cc
simple_weight (kd.exception name) is = absurd cc
simple_weight (kd.interface name) is = absurd cc
simple_weight (kd.sequence k) is = absurd cc
simple_weight _ is = refl

pub named_weight : (k : Kind) → is_simple k ≡ false → kind_weight k ≡ 3 + text_weight (name_of k)
named_weight (kd.enum name) is = refl
named_weight (kd.struct name) is = refl
named_weight (kd.exception name) is = refl
named_weight (kd.interface name) is = refl
named_weight (kd.sequence k) is = refl
named_weight _ is = absurd cc

pub written_long : (k : Kind) (slot : ℕ) → length (kind_written k slot) ≡ 3 + text_weight (name_of k)
unfolding kind_written
written_long k slot = omega (arith, length-append (slot_bytes slot) (measured (name_of k)), slot_long slot, measured_long (name_of k))

module _ (k : Kind) (held : Names) where
  -- the class and a slot, or all of it
  by_held : (t : Bool)
      → length (if t then class_code (class_of k) ∷ slot_bytes (slot_for (name_of k) held) else kind_written k (slot_for (name_of k) held)) ≤ 3 + text_weight (name_of k)
  by_held true = omega (arith, slot_long (slot_for (name_of k) held))
  by_held false = omega (arith, written_long k (slot_for (name_of k) held))

  pub kind_bounded : length (kind_spelling k held) ≤ kind_weight k
  unfolding kind_spelling
  kind_bounded = by_simple (is_simple k) refl
    where
      by_simple : (t : Bool) → is_simple k ≡ t
          → length (if t then class_code (class_of k) ∷ [] else
          (if holds (name_of k) held then class_code (class_of k) ∷ slot_bytes (slot_for (name_of k) held) else kind_written k
          (slot_for (name_of k) held))) ≤ kind_weight k
      by_simple true is = omega (arith, simple_weight k is)
      by_simple false is = let bound = by_held (holds (name_of k) held) in omega (arith, named_weight k is)

  pub kind_exact : IsNewKind k held → length (kind_spelling k held) ≡ kind_weight k
  unfolding kind_spelling
  kind_exact fresh = by_simple (is_simple k) refl
    where
      by_simple : (t : Bool) → is_simple k ≡ t
          → length (if t then class_code (class_of k) ∷ [] else
          (if holds (name_of k) held then class_code (class_of k) ∷ slot_bytes (slot_for (name_of k) held) else kind_written k
          (slot_for (name_of k) held))) ≡ kind_weight k
      by_simple true is = sym (simple_weight k is)
      by_simple false is = rw (fresh is) (written_long k (slot_for (name_of k) held) ∙ sym (named_weight k is))

-- ---- objects

module _ (oid : List ℕ) (held : Names) where
  pub oid_bounded : length (name_spelling oid held) ≤ text_weight oid + 2
  unfolding name_spelling
  oid_bounded = by_test (holds oid held)
    where
      by_test : (t : Bool) → length ((if t then 0 ∷ [] else measured oid) ++ slot_bytes (slot_for oid held)) ≤ text_weight oid + 2
      by_test true = omega (arith, slot_long (slot_for oid held), compressed_some (length oid))
      by_test false = omega (arith, length-append (measured oid) (slot_bytes (slot_for oid held)), slot_long (slot_for oid held), measured_long oid)

  oid_exact : holds oid held ≡ false → length (name_spelling oid held) ≡ text_weight oid + 2
  unfolding name_spelling
  oid_exact fresh = rw fresh (omega (arith, length-append (measured oid) (slot_bytes (slot_for oid held)), slot_long (slot_for oid held), measured_long oid))

ref_bounded : (r : Ref) (held : Names) → length (ref_spelling r held) ≤ ref_weight r
ref_bounded null held = omega arith
ref_bounded (own oid face) held = oid_bounded oid held
ref_bounded (peer oid face) held = oid_bounded oid held

ref_exact : (r : Ref) (held : Names) → IsNewRef r held → length (ref_spelling r held) ≡ ref_weight r
ref_exact null held fresh = refl
ref_exact (own oid face) held fresh = oid_exact oid held fresh
ref_exact (peer oid face) held fresh = oid_exact oid held fresh

-- ---- values

mutual
  unfolding spelling spellings weight weights

  pub value_bounded : (v : Plain) (h : HeldNames) → length (spelling v h) ≤ weight v
  value_bounded (str s) h = omega (arith, measured_long s)
  value_bounded (kind k) h = kind_bounded k h.types
  value_bounded (any k v) h =
      let g = holding_types h (kind_after k h.types) in
      omega (arith, length-append (kind_spelling k h.types) (spelling v g), kind_bounded k h.types, value_bounded v g)
  value_bounded (tuple name vs) h = values_bounded vs h
  value_bounded (list k vs) h = omega (arith, length-append (compressed (count vs)) (spellings vs h), compressed_long (count vs), values_bounded vs h)
  value_bounded (bytes b) h = omega (arith, measured_long b)
  value_bounded (ref r) h = ref_bounded r h.oids
  value_bounded _ h = omega arith

  pub values_bounded : (vs : Plains) (h : HeldNames) → length (spellings vs h) ≤ weights vs
  values_bounded none h = omega arith
  values_bounded (more v vs) h = omega (arith, length-append (spelling v h) (spellings vs (after v h)), value_bounded v h, values_bounded vs (after v h))

mutual
  unfolding spelling spellings weight weights IsNew AreNew

  pub value_exact : (v : Plain) (h : HeldNames) → IsNew v h → length (spelling v h) ≡ weight v
  value_exact (str s) h fresh = measured_long s
  value_exact (kind k) h fresh = kind_exact k h.types fresh
  value_exact (any k v) h fresh =
      let g = holding_types h (kind_after k h.types) in
      omega (arith, length-append (kind_spelling k h.types) (spelling v g), kind_exact k h.types fresh.0, value_exact v g fresh.1)
  value_exact (tuple name vs) h fresh = values_exact vs h fresh
  value_exact (list k vs) h fresh = omega (arith, length-append (compressed (count vs)) (spellings vs h), compressed_long (count vs), values_exact vs h fresh)
  value_exact (bytes b) h fresh = measured_long b
  value_exact (ref r) h fresh = ref_exact r h.oids fresh
  value_exact _ h fresh = refl

  pub values_exact : (vs : Plains) (h : HeldNames) → AreNew vs h → length (spellings vs h) ≡ weights vs
  values_exact none h fresh = refl
  values_exact (more v vs) h fresh = omega (arith, length-append (spelling v h) (spellings vs (after v h)), value_exact v h fresh.0, values_exact vs (after v h) fresh.1)
