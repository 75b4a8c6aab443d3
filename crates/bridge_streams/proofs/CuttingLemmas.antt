-- What is cut off a piece is what ends a part first, or all.
use Rattle.std.proofs.Common.{◌≡◌, ◌≢◌, refl, sym, ap, subst, ◌∙◌, ℕ, zero, suc, ◌+◌, ◌<◌, ◌≤◌, Bool, true, false, List, [], ◌∷◌, ◌++◌, length, take, append_assoc, arith, if◌then◌else◌}
use Rattle.std.proofs.lemmas.Bool.{true≢false}
use Rattle.std.proofs.lemmas.List.{append-nil}
use Rattle.bridge_model.specs.Answers.{cut}
use Rattle.bridge_model.specs.Feeding.{ends_part}

-- n bytes of a piece are the fewest that end a part, or all where none do
pub record IsCut (held piece : List ℕ) (n : ℕ) : Type 0 where
  pub within : n ≤ length piece
  pub before : (m : ℕ) → m < n → ends_part (held ++ take m piece) ≡ false
  pub ends : n < length piece → ends_part (held ++ take n piece) ≡ true

-- behind the first byte
cut_behind : (held : List ℕ) (b : ℕ) (bytes : List ℕ) (n : ℕ) → IsCut held (b ∷ bytes) (suc n) → IsCut (held ++ b ∷ []) bytes n
cut_behind held b bytes n is =
    record {
      within = omega (arith, is.within);
      before = λ m below. ap ends_part (append_assoc held (b ∷ []) (take m bytes)) ∙ is.before (suc m) (omega arith);
      ends = λ below. ap ends_part (append_assoc held (b ∷ []) (take n bytes)) ∙ is.ends (omega arith);
    }

-- the first byte ends a part, or it is not the last one
first_cut : (held : List ℕ) (b : ℕ) (bytes : List ℕ) (n : ℕ) (e : Bool) → ends_part (held ++ b ∷ []) ≡ e → IsCut held (b ∷ bytes) (suc n)
    → (ends_part (held ++ b ∷ []) ≡ false → cut (held ++ b ∷ []) bytes ≡ take n bytes) → (if e then b ∷ [] else b ∷ cut (held ++ b ∷ []) bytes) ≡ b ∷ take n bytes
first_cut held b bytes zero true is cutting rest = refl
first_cut held b bytes (suc n) true is cutting rest = absurd (true≢false (sym is ∙ cutting.before 1 (omega arith)))
first_cut held b bytes n false is cutting rest = ap (λ z. b ∷ z) (rest is)

pub cut_is : (held piece : List ℕ) (n : ℕ) → ends_part held ≡ false → IsCut held piece n → cut held piece ≡ take n piece
unfolding cut
cut_is held [] zero unended is = refl
cut_is held [] (suc n) unended is = refl
cut_is held (b ∷ bytes) zero unended is =
    let some : 0 < length (b ∷ bytes) = omega arith in
    absurd (true≢false (sym (is.ends some) ∙ (ap ends_part (append-nil held) ∙ unended)))
cut_is held (b ∷ bytes) (suc n) unended is =
    first_cut held b bytes n (ends_part (held ++ b ∷ [])) refl is (λ more. cut_is (held ++ b ∷ []) bytes n more (cut_behind held b bytes n is))
