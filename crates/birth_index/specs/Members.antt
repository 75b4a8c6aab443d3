-- Sets of numbers, each told by a test, and their first members.
use Rattle.std.specs.Prelude.{◌≡◌, ℕ, ◌/◌, ◌<◌, ◌≤◌, Bool, true, false, cond, nat_eq}

-- the set where one number is told otherwise
abbrev pub turned : (ℕ → Bool) → ℕ → Bool → ℕ → Bool
turned p place b k = cond (nat_eq k place) b (p k)

-- n is the first member from a number on
pub record IsFirst (p : ℕ → Bool) (from n : ℕ) : Type 0 where
  pub behind : from ≤ n
  pub member : p n ≡ true
  pub first : (k : ℕ) → from ≤ k → k < n → p k ≡ false

-- there is no member from a number on
abbrev pub NoneFrom : (ℕ → Bool) → ℕ → Type 0
NoneFrom p from = (k : ℕ) → from ≤ k → p k ≡ false

-- a word of 64 numbers has a member
pub record HasIn (p : ℕ → Bool) (word : ℕ) : Type 0 where
  pub place : ℕ
  pub inside : place / 64 ≡ word
  pub member : p place ≡ true

-- a word has no member
abbrev pub NoneIn : (ℕ → Bool) → ℕ → Type 0
NoneIn p word = (k : ℕ) → k / 64 ≡ word → p k ≡ false

-- n is the first member from a number on, and stands in its word
pub record IsLowest (p : ℕ → Bool) (from n : ℕ) : Type 0 where
  pub first : IsFirst p from n
  pub inside : n / 64 ≡ from / 64

-- there is no member from a number on in its word
abbrev pub NoneLower : (ℕ → Bool) → ℕ → Type 0
NoneLower p from = (k : ℕ) → from ≤ k → k / 64 ≡ from / 64 → p k ≡ false
