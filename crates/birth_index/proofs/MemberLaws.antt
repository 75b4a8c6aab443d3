-- First members, word by word.
use Rattle.std.proofs.Common.{◌≡◌, ◌≢◌, ℕ, ◌+◌, ◌*◌, ◌/◌, ◌<◌, ◌≤◌, Bool, true, false, cond, refl, inl, inr, arith, eq-eqb, ne_eqb}
use Rattle.std.specs.Prelude.{nat_eq}
use Rattle.std.proofs.lemmas.Bool.{cases_lt, cond-true, cond-false}
use Rattle.birth_index.specs.Members.{turned, IsFirst, IsLowest, NoneLower}

-- ---- a set where one number is told otherwise

module _ (p : ℕ → Bool) (place : ℕ) (b : Bool) where
  pub turned_here : turned p place b place ≡ b
  turned_here = cond-true (nat_eq place place) b (p place) (eq-eqb place place refl)

  pub turned_other : (k : ℕ) → k ≢ place → turned p place b k ≡ p k
  turned_other k other = cond-false (nat_eq k place) b (p k) (ne_eqb k place other)

  -- what was told so already is told so still
  pub turned_still : (k : ℕ) → p k ≡ b → turned p place b k ≡ b
  turned_still k is = elim (nat_eq k place) as (λ t. cond t b (p k) ≡ b) [ true ↦ refl | false ↦ is ]

-- ---- a walk over words

-- there is no member from a number on to before a word
abbrev pub NoneTo : (ℕ → Bool) → ℕ → ℕ → Type 0
NoneTo p from word = (k : ℕ) → from ≤ k → k / 64 < word → p k ≡ false

module _ (p : ℕ → Bool) (from : ℕ) where
  pub none_begun : NoneLower p from → NoneTo p from (from / 64 + 1)
  none_begun none k behind before = none k behind (omega (arith, behind, before))

  pub none_more : (word : ℕ) → NoneTo p from word → NoneLower p (word * 64) → NoneTo p from (word + 1)
  none_more word none lower k behind before =
      elim (cases_lt (k / 64) word) [
        | inl earlier ↦ none k behind earlier
        | inr later ↦ lower k (omega (arith, later)) (omega (arith, later, before))
      ]

  pub first_found : (word n : ℕ) → from / 64 < word → NoneTo p from word → IsLowest p (word * 64) n → IsFirst p from n
  first_found word n before none lowest =
      let later = lowest.first.behind in
      record {
        behind = omega (arith, before, later);
        member = lowest.first.member;
        first = λ k behind below.
            elim (cases_lt (k / 64) word) [
              | inl earlier ↦ none k behind earlier
              | inr here ↦ lowest.first.first k (omega (arith, here)) below
            ];
      }
