-- Numbers that are clamped are in the same ranges, and those that are in one stay.
use Rattle.std.proofs.Common.{◌≡◌, ℕ, ◌-◌, ◌<◌, min, true, false, ◌&&◌, nat_le, ℤ, pos, negsuc, refl, sym, ap, ◌∙◌, arith, inl, inr, ap₂}
use lib.Dec.{leb-zero}
use Rattle.std.proofs.lemmas.Bool.{cases_lt, and_parts, leb-true, lt-leb, both_ways}
use Rattle.uno_model.specs.Kinds.{Kind}
use Rattle.uno_model.specs.Kinds as kd
use Rattle.registry_text_model.specs.ConstantValues.{is_in_range}
use Rattle.registry_text_model.specs.EnumValues.{is_between, is_long}
use Rattle.registry_reading_model.specs.Kept.{clamped, greatest, long_or_zero}

-- a bound below the other does not see whether there is the other
below_bound : (bound most n : ℕ) → most < bound → nat_le (min bound n) most ≡ nat_le n most
below_bound bound most n low = elim (cases_lt bound n) [
  | inl above ↦ let least : min bound n ≡ bound = omega (arith, above) in ap (λ x. nat_le x most) least ∙ lt-leb bound most low
      ∙ sym (lt-leb n most (omega (arith, above, low)))
  | inr within ↦ let least : min bound n ≡ n = omega (arith, within) in ap (λ x. nat_le x most) least
]

abbrev InWidth : ℕ → ℕ → Type 0
InWidth least most = (most < greatest) × (least < greatest - 1)

signed_range : (least most : ℕ) (z : ℤ) → InWidth least most → is_between (negsuc least) (pos most) (clamped z) ≡ is_between (negsuc least) (pos most) z
unfolding clamped
signed_range least most (pos n) width = below_bound greatest most n width.0
signed_range least most (negsuc n) width = ap (λ b. b && true) (below_bound (greatest - 1) least n width.1)

unsigned_range : (most : ℕ) (z : ℤ) → most < greatest → is_between (pos 0) (pos most) (clamped z) ≡ is_between (pos 0) (pos most) z
unfolding clamped
unsigned_range most (pos n) width = ap₂ (λ a b. a && b) (leb-zero (min greatest n) ∙ sym (leb-zero n)) (below_bound greatest most n width)
unsigned_range most (negsuc n) width = refl

pub range_clamped : (k : Kind) (z : ℤ) → is_in_range k (clamped z) ≡ is_in_range k z
range_clamped kd.boolean z = unsigned_range 1 z (omega arith)
range_clamped kd.byte z = signed_range 127 127 z (omega arith, omega arith)
range_clamped kd.short z = signed_range 32767 32767 z (omega arith, omega arith)
range_clamped kd.unsigned_short z = unsigned_range 65535 z (omega arith)
range_clamped kd.long z = signed_range 2147483647 2147483647 z (omega arith, omega arith)
range_clamped kd.unsigned_long z = unsigned_range 4294967295 z (omega arith)
range_clamped kd.hyper z = signed_range 9223372036854775807 9223372036854775807 z (omega arith, omega arith)
range_clamped kd.unsigned_hyper z = unsigned_range 18446744073709551615 z (omega arith)
range_clamped _ z = refl

-- ---- what is in a range

signed_stays : (least most : ℕ) (z : ℤ) → InWidth least most → is_between (negsuc least) (pos most) z ≡ true → clamped z ≡ z
unfolding clamped
signed_stays least most (pos n) width within = let low = leb-true n most within in ap pos (omega (arith, low, width.0))
signed_stays least most (negsuc n) width within =
    let low = leb-true n least (and_parts (nat_le n least) true within).0 in ap negsuc (omega (arith, low, width.1))

unsigned_stays : (most : ℕ) (z : ℤ) → most < greatest → is_between (pos 0) (pos most) z ≡ true → clamped z ≡ z
unfolding clamped
unsigned_stays most (pos n) width within =
    let low = leb-true n most (and_parts (nat_le 0 n) (nat_le n most) within).1 in ap pos (omega (arith, low, width))
unsigned_stays most (negsuc n) width within = let bad : false ≡ true = within in absurd (both_ways false refl bad)

pub in_range_stays : (k : Kind) (z : ℤ) → is_in_range k z ≡ true → clamped z ≡ z
in_range_stays kd.boolean z within = unsigned_stays 1 z (omega arith) within
in_range_stays kd.byte z within = signed_stays 127 127 z (omega arith, omega arith) within
in_range_stays kd.short z within = signed_stays 32767 32767 z (omega arith, omega arith) within
in_range_stays kd.unsigned_short z within = unsigned_stays 65535 z (omega arith) within
in_range_stays kd.long z within = signed_stays 2147483647 2147483647 z (omega arith, omega arith) within
in_range_stays kd.unsigned_long z within = unsigned_stays 4294967295 z (omega arith) within
in_range_stays kd.hyper z within = signed_stays 9223372036854775807 9223372036854775807 z (omega arith, omega arith) within
in_range_stays kd.unsigned_hyper z within = unsigned_stays 18446744073709551615 z (omega arith) within
in_range_stays _ z within = let bad : false ≡ true = within in absurd (both_ways false refl bad)

-- ---- items

pub long_stays : (z : ℤ) → is_long z ≡ true → long_or_zero z ≡ z
unfolding long_or_zero
long_stays z long = rw long refl
