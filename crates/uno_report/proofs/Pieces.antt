-- A list that is gone through: what each element has is put behind a text, or added to a number.
use Rattle.std.proofs.Common.{◌≡◌, ◌<◌, ◌≤◌, ◌+◌, ℕ, length, drop, get_or, Bool, cond, List, [], ◌∷◌, ◌++◌, refl, sym, ap, ◌∙◌, arith}
use Rattle.std.proofs.lemmas.List.{append-nil, append_assoc, drop_more, drop_all}
use Rattle.std.proofs.lemmas.List.Sums.{sum_by-append, sum_by-cons}
use Rattle.std.specs.List.{count_by, flat_map, sum_by}

module _ {X : Type 0} (xs : List X) (i : ℕ) where
  -- what is left of a list begins with its element at the place
  left_is : (x : X) → i < length xs → x ≡ get_or xs i x → drop i xs ≡ x ∷ drop (i + 1) xs
  left_is x within read = drop_more xs i x within ∙ ap (λ y. y ∷ drop (i + 1) xs) (sym read)

  -- a piece more is put behind a text
  pub one_put : (f : X → List ℕ) (x : X) (a b d : List ℕ) → i < length xs → x ≡ get_or xs i x → a ++ flat_map f (drop i xs) ≡ d → b ≡ a ++ f x → b ++ flat_map f (drop (i + 1) xs) ≡ d
  one_put f x a b d within read all put =
      ap (λ t. t ++ flat_map f (drop (i + 1) xs)) put ∙ (append_assoc a (f x) (flat_map f (drop (i + 1) xs)) ∙ (ap (λ ys. a ++ flat_map f ys) (sym (left_is x within read)) ∙ all))

  pub all_put : (f : X → List ℕ) (a d : List ℕ) → length xs ≤ i → a ++ flat_map f (drop i xs) ≡ d → a ≡ d
  all_put f a d past all = sym (append-nil a) ∙ (ap (λ ys. a ++ flat_map f ys) (sym (drop_all i xs past)) ∙ all)

  -- a number more is added
  pub one_added : (f : X → ℕ) (x : X) (a b d : ℕ) → i < length xs → x ≡ get_or xs i x → a + sum_by f (drop i xs) ≡ d → b ≡ a + f x → b + sum_by f (drop (i + 1) xs) ≡ d
  one_added f x a b d within read all more =
      let left : sum_by f (drop i xs) ≡ f x + sum_by f (drop (i + 1) xs) = ap (sum_by f) (left_is x within read) ∙ sum_by-cons f x (drop (i + 1) xs) in
      omega (arith, left, all, more)

  pub all_added : (f : X → ℕ) (a d : ℕ) → length xs ≤ i → a + sum_by f (drop i xs) ≡ d → a ≡ d
  all_added f a d past all =
      let none : sum_by f (drop i xs) ≡ 0 = ap (sum_by f) (drop_all i xs past) in
      omega (arith, none, all)

-- what is counted in lists that stand one after the other is counted in each
pub counted_in_each : {X Y : Type 0} (p : Y → Bool) (f : X → List Y) (xs : List X) → count_by p (flat_map f xs) ≡ sum_by (λ x. count_by p (f x)) xs
counted_in_each p f [] = refl
counted_in_each p f (x ∷ xs) =
    sum_by-append (λ y. cond (p y) 1 0) (f x) (flat_map f xs) ∙ (ap (λ n. count_by p (f x) + n) (counted_in_each p f xs) ∙ sym (sum_by-cons (λ y. count_by p (f y)) x xs))

-- two pieces behind nothing
pub two_put : (a b c x y : List ℕ) → a ≡ [] → b ≡ a ++ x → c ≡ b ++ y → c ≡ x ++ y
two_put a b c x y empty one two = two ∙ ap (λ t. t ++ y) (one ∙ ap (λ t. t ++ x) empty)
