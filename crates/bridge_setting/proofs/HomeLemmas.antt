-- Values of which the first ones are as they are here.
use Rattle.std.proofs.Common.{◌≡◌, ℕ, zero, suc, ◌<◌, List, [], ◌∷◌, length, map, refl, sym, ap, ◌∙◌, subst, arith, get_or, set}
use Rattle.std.proofs.Common.{add-one, ◌+◌, ◌≤◌, ◌≢◌}
use Rattle.std.proofs.lemmas.List.{length-set, get_or-set_other}
use Rattle.uno_model.specs.Values.{Plain, more, plains}
use Rattle.uno_values.specs.Values.{plain_of, plains_of}
use Rattle.uno_values.specs.declared.value.Value.{Value}
use Rattle.bridge_model.specs.References.{home_value, home_values, each_home}
use Rattle.bridge_model.specs.Settings.{Setting}

-- so many of these values are what those are here, and the others are the same
abbrev pub AreHome : Setting → ℕ → List Value → List Plain → Type 0
AreHome g zero xs olds = map plain_of xs ≡ olds
AreHome g (suc n) [] olds = olds ≡ []
AreHome g (suc n) (x ∷ xs) [] = ⊥
AreHome g (suc n) (x ∷ xs) (old ∷ olds) = (plain_of x ≡ home_value g old) × AreHome g n xs olds

not_below_none : (n : ℕ) → n < 0 → ⊥
not_below_none n below = absurd (omega (arith, below))

below_rest : (n m : ℕ) → suc n < suc m → n < m
below_rest n m below = omega (arith, below)

none_there : (x : Value) (xs : List Value) → map plain_of (x ∷ xs) ≡ [] → ⊥
none_there x xs same = cc

-- one more is as it is here
pub one_more_home : (g : Setting) (n : ℕ) (xs : List Value) (olds : List Plain) (x now : Value) → AreHome g n xs olds → n < length xs
    → x ≡ get_or xs n x → plain_of now ≡ home_value g (plain_of x) → AreHome g (suc n) (set xs n now) olds
one_more_home g n [] olds x now home below is same = absurd (not_below_none n below)
one_more_home g zero (y ∷ xs) olds x now home below is same =
    subst (λ os. AreHome g 1 (now ∷ xs) os) home (same ∙ ap (λ v. home_value g (plain_of v)) is, refl)
one_more_home g (suc n) (y ∷ xs) [] x now home below is same = home
one_more_home g (suc n) (y ∷ xs) (old ∷ olds) x now home below is same =
    (home.0, one_more_home g n xs olds x now home.1 (below_rest n (length xs) below) is same)

none_past : (n : ℕ) → suc n ≤ 0 → ⊥
none_past n past = absurd (omega (arith, past))

rest_past : (m n : ℕ) → suc m ≤ suc n → m ≤ n
rest_past m n past = omega (arith, past)

-- where all are, each is
pub over_all : (g : Setting) (n : ℕ) (xs : List Value) (olds : List Plain) → AreHome g n xs olds → length xs ≤ n → map plain_of xs ≡ each_home g olds
unfolding each_home
over_all g zero [] olds home past = subst (λ os. [] ≡ each_home g os) home refl
over_all g zero (x ∷ xs) olds home past = absurd (none_past (length xs) past)
over_all g (suc n) [] olds home past = subst (λ os. [] ≡ each_home g os) (sym home) refl
over_all g (suc n) (x ∷ xs) [] home past = absurd (home)
over_all g (suc n) (x ∷ xs) (old ∷ olds) home past =
    ap (λ v. v ∷ map plain_of xs) home.0 ∙ ap (λ vs. home_value g old ∷ vs) (over_all g n xs olds home.1 (rest_past (length xs) n past))

-- which of two lists the other values are
abbrev pub AreUnvisited : ℕ → List Value → List Value → Type 0
AreUnvisited n xs olds = (k : ℕ) (d : Value) → n ≤ k → get_or xs k d ≡ get_or olds k d

abbrev pub SoFar : Setting → ℕ → List Value → List Value → Type 0
SoFar g n xs olds = AreHome g n xs (map plain_of olds) × (length xs ≡ length olds) × AreUnvisited n xs olds

other_place : (n k : ℕ) → n + 1 ≤ k → k ≢ n
other_place n k past = λ same. omega (arith, past, same)

past_it : (n k : ℕ) → n + 1 ≤ k → n ≤ k
past_it n k past = omega (arith, past)

pub one_more : (g : Setting) (n end : ℕ) (xs olds : List Value) (x now : Value) → SoFar g n xs olds → n < end → end ≡ length olds
    → x ≡ get_or xs n x → plain_of now ≡ home_value g (plain_of x) → SoFar g (n + 1) (set xs n now) olds
one_more g n end xs olds x now so below all is same =
    let within : n < length xs = omega (arith, below, all, so.1) in (
      subst (λ m. AreHome g m (set xs n now) (map plain_of olds)) (sym (add-one n)) (one_more_home g n xs (map plain_of olds) x now so.0 within is same),
      length-set xs n now ∙ so.1,
      λ k d past. get_or-set_other xs n k now d (other_place n k past) ∙ so.2 k d (past_it n k past),
    )

pub all_so_far : (g : Setting) (n end : ℕ) (xs olds : List Value) → SoFar g n xs olds → end ≤ n → end ≡ length olds → map plain_of xs ≡ each_home g (map plain_of olds)
all_so_far g n end xs olds so past all = over_all g n xs (map plain_of olds) so.0 (omega (arith, past, all, so.1))

-- values one by one, and as the parts of a value
pub plains_home : (g : Setting) (olds : List Plain) → plains (each_home g olds) ≡ home_values g (plains olds)
unfolding each_home home_values
plains_home g [] = refl
plains_home g (old ∷ olds) = ap (λ vs. more (home_value g old) vs) (plains_home g olds)

pub parts_home : (g : Setting) (xs : List Value) (olds : List Plain) → map plain_of xs ≡ each_home g olds → plains_of xs ≡ home_values g (plains olds)
parts_home g xs olds each = ap plains each ∙ plains_home g olds
