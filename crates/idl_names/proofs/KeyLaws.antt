-- Keys of paths: a number and a name, which are compared one after the other.
use Rattle.std.proofs.Common.{◌≡◌, refl, ap, ◌∙◌, ℕ, Bool, true, false, ◌&&◌, ◌==◌, nat_lt, List, Option, cond, arith}
use Rattle.std.specs.Borrow.{Bor}
use Rattle.std.specs.BTreeMap as tree
use Rattle.std.specs.BTreeMap.{BTreeMap}
use Rattle.std.specs.Cmp.Lexicographic.{slice_cmp, bytes_decides, nat_list_eq_equiv}
use Rattle.std.specs.Ordering.{nat_cmp, ordering_then, is_eq}
use Rattle.std.specs.Str.{bytes_eq}
use Rattle.std.specs.declared.cmp.Ordering.{Ordering}
use Rattle.std.specs.declared.cmp.Ordering.TheVariants.{Less, Equal, Greater}
use Rattle.std.proofs.lemmas.Bool.{ltb-true, eqb-true, eq-eqb}
use Rattle.std.proofs.lemmas.Map.Text.{is_eq-slice_cmp}
use Rattle.idl_names.specs.Paths.{Inside, is_same, number_at}

both_equal : (a b : Ordering) → is_eq (ordering_then a b) ≡ is_eq a && is_eq b
both_equal Less b = refl
both_equal Equal b = refl
both_equal Greater b = refl

same_number : (x y : ℕ) → is_eq (nat_cmp x y) ≡ (x == y)
same_number x y = by_less (nat_lt x y) refl (x == y) refl
  where
    by_less : (less : Bool) → nat_lt x y ≡ less → (same : Bool) → (x == y) ≡ same → is_eq (cond less Less (cond same Equal Greater)) ≡ same
    by_less true is true also = let low = ltb-true x y is in let one = eqb-true x y also in absurd (omega (arith, low, one))
    by_less true is false also = refl
    by_less false is true also = refl
    by_less false is false also = refl

pub same_key : (m o : Inside) → is_eq (ordering_then (nat_cmp m.0 o.0) (slice_cmp nat_cmp m.1 o.1)) ≡ is_same m o
same_key m o = both_equal (nat_cmp m.0 o.0) (slice_cmp nat_cmp m.1 o.1) ∙ (λ i. same_number m.0 o.0 i && is_eq-slice_cmp m.1 o.1 i)

both : (a b : Bool) → (a && b) ≡ true → (a ≡ true) × (b ≡ true)
both true true is = (refl, refl)
both true false is = absurd (cc)
both false b is = absurd (cc)

pub same_is : (m o : Inside) → is_same m o ≡ true → m ≡ o
same_is m o is =
    let parts = both (m.0 == o.0) (bytes_eq m.1 o.1) is in
    let numbers = eqb-true m.0 o.0 parts.0 in
    let names = (bytes_decides m.1 o.1).0 parts.1 in
    λ i. (numbers i, names i)

pub same_self : (m : Inside) → is_same m m ≡ true
same_self m = (λ i. eq-eqb m.0 m.0 refl i && nat_list_eq_equiv.refl m.1 i)

abbrev pub key_cmp : ℕ × Bor (List ℕ) → ℕ × Bor (List ℕ) → Ordering
key_cmp x y = ordering_then (nat_cmp x.0 y.0) (slice_cmp nat_cmp x.1.now y.1.now)

-- after a number is noted for one key, all others have the numbers that they had
pub noted : (old new : BTreeMap (ℕ × Bor (List ℕ)) ℕ) (key : ℕ × Bor (List ℕ)) (w : Option ℕ) → tree.Updates key_cmp old new key w
    → (m : Inside) → number_at new m ≡ cond (is_same (key.0, key.1.now) m) w (number_at old m)
noted old new key w up m =
    up.0 (m.0, record { ref_ptr = key.1.ref_ptr; now = m.1 }) ∙ ap (λ b. cond b w (number_at old m)) (same_key (key.0, key.1.now) m)
