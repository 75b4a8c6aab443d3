-- What a type of which too many sequences are cut shares with the whole one.
use Rattle.std.proofs.Common.{◌≡◌, ℕ, zero, suc, ◌+◌, ◌≤◌, ◌<◌, min, true, false, nat_le, length, refl, sym, ap, ◌∙◌, arith, inl, inr}
use Rattle.std.proofs.lemmas.Bool.{cases_lt, and_parts, and_right, leb-true, lt-leb}
use Rattle.uno_model.specs.Kinds.{Kind, nesting, name_of}
use Rattle.uno_model.specs.Kinds as kd
use Rattle.uno_model.specs.Sound.{is_namable}
use Rattle.registry_reading_model.specs.Kept.{innermost, cut}
use Rattle.registry_reading_model.specs.Kinds.{sequences}

-- the sequences of a type round its innermost one are the type
pub whole : (k : Kind) → sequences (nesting k) (innermost k) ≡ k
unfolding sequences innermost
whole (kd.sequence k) = ap kd.sequence (whole k)
whole k = refl

pub cut_short : (k : Kind) → nesting k ≤ 65 → cut k ≡ k
unfolding cut
cut_short k short = let least : min 65 (nesting k) ≡ nesting k = omega (arith, short) in ap (λ n. sequences n (innermost k)) least ∙ whole k

-- what does not see a sequence round another one does not see that some are cut
module _ {X : Type 0} (f : Kind → X) (unseen : (k : Kind) → f (kd.sequence (kd.sequence k)) ≡ f (kd.sequence k)) where
  around : (n : ℕ) (k : Kind) → f (sequences (suc n) k) ≡ f (kd.sequence k)
  unfolding sequences
  around zero k = refl
  around (suc n) k = unseen (sequences n k) ∙ around n k

  pub cut_alike : (k : Kind) → f (cut k) ≡ f k
  unfolding cut sequences innermost
  cut_alike (kd.sequence k) =
      let more : min 65 (suc (nesting k)) ≡ suc (min 64 (nesting k)) = omega arith in
      ap (λ n. f (sequences n (innermost k))) more ∙ around (min 64 (nesting k)) (innermost k) ∙ sym (around (nesting k) (innermost k))
      ∙ ap (λ j. f (kd.sequence j)) (whole k)
  cut_alike k = refl

nesting_of : (n : ℕ) (k : Kind) → nesting (sequences n k) ≡ n + nesting k
unfolding sequences
nesting_of zero k = omega arith
nesting_of (suc n) k = let behind = nesting_of n k in omega (arith, behind)

long_unnamable : (k : Kind) → 64 < nesting k → is_namable k ≡ false
long_unnamable k long = and_right (nat_le (length (name_of k)) 4096) (nat_le (nesting k) 64) (lt-leb (nesting k) 64 long)

nesting_cut : (k : Kind) → 64 < nesting k → 64 < nesting (cut k)
unfolding cut
nesting_cut k long = let is = nesting_of (min 65 (nesting k)) (innermost k) in omega (arith, is, long)

-- a type that is cut is as little namable as it was
pub cut_namable : (k : Kind) → is_namable (cut k) ≡ is_namable k
cut_namable k = elim (cases_lt 64 (nesting k)) [
  | inl long ↦ long_unnamable (cut k) (nesting_cut k long) ∙ sym (long_unnamable k long)
  | inr short ↦ ap is_namable (cut_short k (omega (arith, short)))
]

pub namable_stays : (k : Kind) → is_namable k ≡ true → cut k ≡ k
namable_stays k namable =
    let few : nesting k ≤ 64 = leb-true (nesting k) 64 (and_parts (nat_le (length (name_of k)) 4096) (nat_le (nesting k) 64) namable).1 in
    cut_short k (omega (arith, few))
