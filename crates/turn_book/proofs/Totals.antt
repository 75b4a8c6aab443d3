-- Sums over views, and what the change of one view does to them.
use Rattle.std.proofs.Common.{◌≡◌, ◌≢◌, ℕ, zero, suc, ◌+◌, ◌≤◌, List, [], ◌∷◌, ◌++◌, set, sym, refl, ap, arith}
use mathlib.Core.Option.{some, some-injective, some-ne-none}
use lib.ListN.{get_elem?}
use Rattle.turn_book.specs.Ruled.{total}

module _ {V : Type 0} where
  -- one view is another
  pub total_set : (f : V → ℕ) (vs : List V) (i : ℕ) (v w : V) → get_elem? vs i ≡ some v → total f (set vs i w) + f v ≡ total f vs + f w
  total_set f [] i v w at = absurd (some-ne-none v (sym at))
  total_set f (x ∷ xs) zero v w at = let e : f x ≡ f v = ap f (some-injective x v at) in omega arith
  total_set f (x ∷ xs) (suc i) v w at = let r : total f (set xs i w) + f v ≡ total f xs + f w = total_set f xs i v w at in omega arith

  pub total_same : (f : V → ℕ) (vs : List V) (i : ℕ) (v w : V) → get_elem? vs i ≡ some v → f w ≡ f v → total f (set vs i w) ≡ total f vs
  total_same f vs i v w at e = let r = total_set f vs i v w at in omega arith

  -- one view more
  pub total_end : (f : V → ℕ) (vs : List V) (w : V) → total f (vs ++ w ∷ []) ≡ total f vs + f w
  total_end f [] w = omega arith
  total_end f (x ∷ xs) w = let r : total f (xs ++ w ∷ []) ≡ total f xs + f w = total_end f xs w in omega arith

  pub total_at : (f : V → ℕ) (vs : List V) (i : ℕ) (v : V) → get_elem? vs i ≡ some v → f v ≤ total f vs
  total_at f [] i v at = absurd (some-ne-none v (sym at))
  total_at f (x ∷ xs) zero v at = let e : f x ≡ f v = ap f (some-injective x v at) in omega arith
  total_at f (x ∷ xs) (suc i) v at = let r : f v ≤ total f xs = total_at f xs i v at in omega arith

  -- two views count both
  pub total_two : (f : V → ℕ) (vs : List V) (i j : ℕ) (v u : V) → j ≢ i → get_elem? vs i ≡ some v → get_elem? vs j ≡ some u → f v + f u ≤ total f vs
  total_two f [] i j v u apart at there = absurd (some-ne-none v (sym at))
  total_two f (x ∷ xs) zero zero v u apart at there = absurd (apart refl)
  total_two f (x ∷ xs) zero (suc j) v u apart at there = let e : f x ≡ f v = ap f (some-injective x v at) in let r : f u ≤ total f xs = total_at f xs j u there in omega arith
  total_two f (x ∷ xs) (suc i) zero v u apart at there = let e : f x ≡ f u = ap f (some-injective x u there) in let r : f v ≤ total f xs = total_at f xs i v at in omega arith
  total_two f (x ∷ xs) (suc i) (suc j) v u apart at there = let r : f v + f u ≤ total f xs = total_two f xs i j v u (λ e. apart (ap suc e)) at there in omega arith

  pub total_le : (f g : V → ℕ) (vs : List V) → ((i : ℕ) (v : V) → get_elem? vs i ≡ some v → f v ≤ g v) → total f vs ≤ total g vs
  total_le f g [] h = omega arith
  total_le f g (x ∷ xs) h = let a : f x ≤ g x = h zero x refl in let r : total f xs ≤ total g xs = total_le f g xs (λ i v e. h (suc i) v e) in omega arith

  pub total_twice : (f : V → ℕ) (vs : List V) → total (λ v. f v + f v) vs ≡ total f vs + total f vs
  total_twice f [] = refl
  total_twice f (x ∷ xs) = let r : total (λ v. f v + f v) xs ≡ total f xs + total f xs = total_twice f xs in omega arith

  pub total_zero : (f g : V → ℕ) (vs : List V) → ((i : ℕ) (v : V) → get_elem? vs i ≡ some v → f v ≡ 0 → g v ≡ 0) → total f vs ≡ 0 → total g vs ≡ 0
  total_zero f g [] h z = refl
  total_zero f g (x ∷ xs) h z =
      let here : f x ≡ 0 = omega arith in
      let there : total f xs ≡ 0 = omega arith in
      let a : g x ≡ 0 = h zero x refl here in
      let r : total g xs ≡ 0 = total_zero f g xs (λ i v e. h (suc i) v e) there in
      omega arith

  -- where one view has all of f, and no other view has g without f, that view has all of g
  pub none_else : (f g : V → ℕ) (vs : List V) (i : ℕ) (v w : V) → get_elem? vs i ≡ some v → f w ≡ 0 → g w ≡ 0
      → ((j : ℕ) (u : V) → get_elem? (set vs i w) j ≡ some u → f u ≡ 0 → g u ≡ 0) → total f vs ≡ f v → total g vs ≡ g v
  none_else f g vs i v w at no_f no_g h e =
      let a : total f (set vs i w) + f v ≡ total f vs + f w = total_set f vs i v w at in
      let b : total g (set vs i w) + g v ≡ total g vs + g w = total_set g vs i v w at in
      let z : total f (set vs i w) ≡ 0 = omega arith in
      let y : total g (set vs i w) ≡ 0 = total_zero f g (set vs i w) h z in
      omega arith
