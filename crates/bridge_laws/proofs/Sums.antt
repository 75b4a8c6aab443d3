-- Sums over lists: of lists one behind the other, of parts of a list, and of other sums.
use Rattle.std.proofs.Common.{◌≡◌, ℕ, zero, suc, ◌+◌, ◌≤◌, Bool, true, false, not, if◌then◌else◌, List, [], ◌∷◌, ◌++◌, map, filter, find, flat_map, slice_get, Option, Some, refl, ap, ◌∙◌, arith}
use Rattle.table_model.specs.Bags.{how_many}
use Rattle.bridge_laws.specs.Counting.{total, one_if}

-- ---- lists

-- the sum of two lists
pub total_append : {X : Type 0} (f : X → ℕ) (xs ys : List X) → total f (xs ++ ys) ≡ total f xs + total f ys
unfolding total
total_append f [] ys = omega arith
total_append f (x ∷ xs) ys = let rest = total_append f xs ys in omega arith

-- of a list with one item more behind it
pub total_push : {X : Type 0} (f : X → ℕ) (xs : List X) (x : X) → total f (xs ++ x ∷ []) ≡ total f xs + f x
unfolding total
total_push f xs x = let parts = total_append f xs (x ∷ []) in omega arith

-- of what each item gives
pub total_map : {X Y : Type 0} (f : Y → ℕ) (g : X → Y) (xs : List X) → total f (map g xs) ≡ total (λ x. f (g x)) xs
unfolding total
total_map f g [] = refl
total_map f g (x ∷ xs) = let rest = total_map f g xs in omega arith

pub total_flat_map : {X Y : Type 0} (f : Y → ℕ) (g : X → List Y) (xs : List X) → total f (flat_map g xs) ≡ total (λ x. total f (g x)) xs
unfolding total
total_flat_map f g [] = refl
total_flat_map f g (x ∷ xs) = let parts = total_append f (g x) (flat_map g xs) in let rest = total_flat_map f g xs in omega arith

-- ---- parts of a list

filter_step : {X : Type 0} (f : X → ℕ) (b : Bool) (x : X) (kept xs : List X) → total f kept ≤ total f xs → total f (if b then x ∷ kept else kept) ≤ f x + total f xs
unfolding total
filter_step f true x kept xs rest = omega arith
filter_step f false x kept xs rest = omega arith

-- what passes a test sums up to no more
pub total_filter : {X : Type 0} (f : X → ℕ) (test : X → Bool) (xs : List X) → total f (filter test xs) ≤ total f xs
unfolding total
total_filter f test [] = omega arith
total_filter f test (x ∷ xs) = filter_step f (test x) x (filter test xs) xs (total_filter f test xs)

split_step : {X : Type 0} (f : X → ℕ) (b : Bool) (x : X) (kept others xs : List X) → total f kept + total f others ≡ total f xs
    → total f (if b then x ∷ kept else kept) + total f (if not b then x ∷ others else others) ≡ f x + total f xs
unfolding total
split_step f true x kept others xs rest = omega arith
split_step f false x kept others xs rest = omega arith

-- what passes and what does not sum up to all
pub total_split : {X : Type 0} (f : X → ℕ) (test : X → Bool) (xs : List X) → total f (filter test xs) + total f (filter (λ x. not (test x)) xs) ≡ total f xs
unfolding total
total_split f test [] = refl
total_split f test (x ∷ xs) = split_step f (test x) x (filter test xs) (filter (λ x. not (test x)) xs) xs (total_split f test xs)

found_step : {X : Type 0} (f : X → ℕ) (b : Bool) (x y : X) (rest : Option X) (others xs : List X) → total f others ≤ total f xs
    → (rest ≡ Some y → f y + total f others ≤ total f xs) → (if b then Some x else rest) ≡ Some y
    → f y + total f (if not b then x ∷ others else others) ≤ f x + total f xs
unfolding total
found_step f true x y rest others xs few more is = let same : f x ≡ f y = cc in omega arith
found_step f false x y rest others xs few more is = let behind = more is in omega arith

-- the first item that passes a test, and all that do not pass it, sum up to no more
pub total_found : {X : Type 0} (f : X → ℕ) (test : X → Bool) (y : X) (xs : List X) → find test xs ≡ Some y → f y + total f (filter (λ x. not (test x)) xs) ≤ total f xs
unfolding total
total_found f test y [] is = absurd (cc)
total_found f test y (x ∷ xs) is =
    found_step f (test x) x y (find test xs) (filter (λ x. not (test x)) xs) xs (total_filter f (λ x. not (test x)) xs) (total_found f test y xs) is

gone_step : {X : Type 0} (f : X → ℕ) (b keeps : Bool) (x y : X) (rest : Option X) (kept xs : List X) → (x ≡ y → keeps ≡ false) → total f kept ≤ total f xs
    → (rest ≡ Some y → f y + total f kept ≤ total f xs) → (if b then Some x else rest) ≡ Some y → f y + total f (if keeps then x ∷ kept else kept) ≤ f x + total f xs
unfolding total
gone_step f true true x y rest kept xs out few more is = let bad : true ≡ false = out (cc) in absurd (cc)
gone_step f true false x y rest kept xs out few more is = let same : f x ≡ f y = cc in omega arith
gone_step f false true x y rest kept xs out few more is = let behind = more is in omega arith
gone_step f false false x y rest kept xs out few more is = let behind = more is in omega arith

-- the first item that passes a test, and a part of the list to which it does not belong, sum up to no more
pub total_gone : {X : Type 0} (f : X → ℕ) (test keeps : X → Bool) (y : X) (xs : List X) → find test xs ≡ Some y → keeps y ≡ false → f y + total f (filter keeps xs) ≤ total f xs
unfolding total
total_gone f test keeps y [] is out = absurd (cc)
total_gone f test keeps y (x ∷ xs) is out =
    gone_step f (test x) (keeps x) x y (find test xs) (filter keeps xs) xs (λ same. ap keeps same ∙ out) (total_filter f keeps xs) (λ there. total_gone f test keeps y xs there out) is

-- ---- one item

-- an item counts no more than all
pub got_at_most : {X : Type 0} (f : X → ℕ) (xs : List X) (n : ℕ) (x : X) → slice_get xs n ≡ Some x → f x ≤ total f xs
unfolding total
got_at_most f [] n x is = absurd (cc)
got_at_most f (y ∷ ys) zero x is = let same : y ≡ x = cc in let alike : f y ≡ f x = ap f same in omega arith
got_at_most f (y ∷ ys) (suc n) x is = let rest = got_at_most f ys n x is in omega arith

-- so does the first one that passes a test
pub found_at_most : {X : Type 0} (f : X → ℕ) (test : X → Bool) (x : X) (xs : List X) → find test xs ≡ Some x → f x ≤ total f xs
found_at_most f test x xs is = let parts = total_found f test x xs is in omega arith

-- ---- other sums

-- where each counts nothing
pub total_none : {X : Type 0} (f : X → ℕ) → ((x : X) → f x ≡ 0) → (xs : List X) → total f xs ≡ 0
unfolding total
total_none f none [] = refl
total_none f none (x ∷ xs) = let here = none x in let rest = total_none f none xs in omega arith

-- where each counts as much
pub total_same : {X : Type 0} (f g : X → ℕ) → ((x : X) → f x ≡ g x) → (xs : List X) → total f xs ≡ total g xs
unfolding total
total_same f g same [] = refl
total_same f g same (x ∷ xs) = let here = same x in let rest = total_same f g same xs in omega arith

-- where each counts no more
pub total_at_most : {X : Type 0} (f g : X → ℕ) → ((x : X) → f x ≤ g x) → (xs : List X) → total f xs ≤ total g xs
unfolding total
total_at_most f g most [] = omega arith
total_at_most f g most (x ∷ xs) = let here = most x in let rest = total_at_most f g most xs in omega arith

-- where each counts two things
pub total_plus : {X : Type 0} (f g : X → ℕ) (xs : List X) → total (λ x. f x + g x) xs ≡ total f xs + total g xs
unfolding total
total_plus f g [] = refl
total_plus f g (x ∷ xs) = let rest = total_plus f g xs in omega arith

-- how many pass a test
pub total_how_many : {X : Type 0} (test : X → Bool) (xs : List X) → total (λ x. one_if (test x)) xs ≡ how_many test xs
unfolding total
total_how_many test [] = refl
total_how_many test (x ∷ xs) = let rest = total_how_many test xs in omega arith
