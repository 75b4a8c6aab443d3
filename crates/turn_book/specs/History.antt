-- Who added the items of a book: each item has a maker, the number of the pass in whose turn it was added.
use Rattle.std.specs.Prelude.{◌≡◌, ℕ, zero, suc, ◌+◌, ◌-◌, ◌<◌, ◌≤◌, List, [], ◌∷◌, ◌++◌, map, length}

-- 1 where the numbers are the same, and else 0
abbrev pub same : ℕ → ℕ → ℕ
same zero zero = 1
same zero (suc n) = 0
same (suc m) zero = 0
same (suc m) (suc n) = same m n

-- 1 where the first number is below the second, and else 0
abbrev pub below : ℕ → ℕ → ℕ
below m zero = 0
below zero (suc n) = 1
below (suc m) (suc n) = below m n

-- how often n stands among these numbers
abbrev pub times : ℕ → List ℕ → ℕ
times n [] = 0
times n (m ∷ ms) = same n m + times n ms

-- all of these numbers are below n
abbrev pub AllBelow : ℕ → List ℕ → Type 0
AllBelow n [] = Unit {0}
AllBelow n (m ∷ ms) = (m < n) × AllBelow n ms

module _ {I : Type 0} where
  -- the items begin with those that were seen
  abbrev pub StartsWith : List I → List I → Type 0
  StartsWith items seen = (rest : List I) × (items ≡ seen ++ rest)

  -- the items are as they were, or have one more at their end
  abbrev pub GrowsByOne : List I → List I → Type 0
  GrowsByOne before after = (more : List I) × (length more ≤ 1) × (after ≡ before ++ more)

  abbrev pub chosen : ℕ → List I → List I → List I
  chosen zero xs ys = xs
  chosen (suc n) xs ys = ys

  -- the longer of two lists
  abbrev pub longer : List I → List I → List I
  longer xs ys = chosen (length ys - length xs) xs ys

  -- the items of one maker, in their order
  abbrev pub made_by : ℕ → List ℕ → List I → List I
  made_by n [] xs = []
  made_by n (m ∷ ms) [] = []
  made_by n (m ∷ ms) (x ∷ xs) = chosen (same n m) (made_by n ms xs) (x ∷ made_by n ms xs)

  abbrev pub number : ℕ × List I → ℕ
  number part = part.0

  -- the numbers of the passes that own these
  abbrev pub numbers_of : List (ℕ × List I) → List ℕ
  numbers_of own = map number own

  -- of each number these are the items that it made, in their order
  abbrev pub Owns : List ℕ → List I → List (ℕ × List I) → Type 0
  Owns makers items [] = Unit {0}
  Owns makers items (part ∷ parts) = (part.1 ≡ made_by part.0 makers items) × Owns makers items parts

-- The own items stand among these items, each once, and each number's in its order
pub record Stands {I : Type 0} (items : List I) (own : List (ℕ × List I)) : Type 0 where
  pub makers : List ℕ
  pub one_each : length makers ≡ length items
  pub once : (n : ℕ) → times n (numbers_of own) ≤ 1
  pub made : Owns makers items own

-- The same, and the numbers are all that there are: 0 up to their count, each once. So each item is one of these own items
pub record Whole {I : Type 0} (items : List I) (own : List (ℕ × List I)) : Type 0 where
  pub makers : List ℕ
  pub one_each : length makers ≡ length items
  pub all : (n : ℕ) → times n (numbers_of own) ≡ below n (length own)
  pub made : Owns makers items own
  pub of_all : AllBelow (length own) makers
