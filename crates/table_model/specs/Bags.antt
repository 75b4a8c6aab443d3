-- Bags: lists in rising order, in which an item stands as often as it is there.
use Rattle.std.specs.Prelude.{ℕ, ◌+◌, Bool, true, ◌&&◌, cond, not, List, [], ◌∷◌}
use Rattle.std.specs.declared.cmp.Ordering.{Ordering}
use Rattle.std.specs.Ordering.{is_gt, eq_by_cmp}

-- how many items pass a test
abbrev pub how_many : {X : Type 0} → (X → Bool) → List X → ℕ
how_many test [] = 0
how_many test (x ∷ xs) = cond (test x) 1 0 + how_many test xs

module _ {X : Type 0} (cmp : X → X → Ordering) where
  -- the bag with one more of an item
  abbrev pub one_more : X → List X → List X
  one_more x [] = x ∷ []
  one_more x (y ∷ ys) = cond (is_gt (cmp x y)) (y ∷ one_more x ys) (x ∷ y ∷ ys)

  -- the bag with one less of an item, where it is there
  abbrev pub one_less : X → List X → List X
  one_less x [] = []
  one_less x (y ∷ ys) = cond (eq_by_cmp cmp x y) ys (y ∷ one_less x ys)

  -- how often an item is there
  abbrev pub how_often : X → List X → ℕ
  how_often x xs = how_many (eq_by_cmp cmp x) xs

  -- the bag of the items of a list
  abbrev pub bag_of : List X → List X
  bag_of [] = []
  bag_of (x ∷ xs) = one_more x (bag_of xs)

  -- no item is above one behind it
  abbrev pub is_below : X → List X → Bool
  is_below x [] = true
  is_below x (y ∷ ys) = not (is_gt (cmp x y)) && is_below x ys

  abbrev pub rises : List X → Bool
  rises [] = true
  rises (x ∷ xs) = is_below x xs && rises xs
