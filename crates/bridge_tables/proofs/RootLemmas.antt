-- Roots by their numbers, and what each gets at the end.
use Rattle.std.proofs.Common.{◌≡◌, ℕ, zero, suc, ◌+◌, ◌≤◌, ◌<◌, List, [], ◌∷◌, ◌++◌, length, map, get_or, replicate, slice_set, refl, sym, ap, ◌∙◌, arith}
use Rattle.std.proofs.lemmas.List.{map-append, replicate_more}
use Rattle.bridge_model.specs.Sides.{RootState, idle}

pub map_length : {A B : Type 0} (f : A → B) (xs : List A) → length (map f xs) ≡ length xs
map_length f [] = refl
map_length f (x ∷ xs) = ap suc (map_length f xs)

pub set_length : {A : Type 0} (xs : List A) (i : ℕ) (y : A) → length (slice_set xs i y) ≡ length xs
set_length [] i y = refl
set_length (x ∷ xs) zero y = refl
set_length (x ∷ xs) (suc i) y = ap suc (set_length xs i y)

map_set : {A B : Type 0} (f : A → B) (xs : List A) (i : ℕ) (y : A) → map f (slice_set xs i y) ≡ slice_set (map f xs) i (f y)
map_set f [] i y = refl
map_set f (x ∷ xs) zero y = refl
map_set f (x ∷ xs) (suc i) y = ap (λ ys. f x ∷ ys) (map_set f xs i y)

-- one root of several is another one
pub put_at : {A B : Type 0} (f : A → B) (xs : List A) (i : ℕ) (y z : A) → y ≡ z → map f (slice_set xs i y) ≡ slice_set (map f xs) i (f z)
put_at f xs i y z is = map_set f xs i y ∙ ap (λ w. slice_set (map f xs) i (f w)) is

-- ---- the end

-- the first so many have ended
abbrev pub ended_front : (RootState → RootState) → ℕ → List RootState → List RootState
ended_front f zero xs = xs
ended_front f (suc n) [] = []
ended_front f (suc n) (x ∷ xs) = f x ∷ ended_front f n xs

ends_at : (f : RootState → RootState) (i : ℕ) (xs : List RootState) (d : RootState) → i < length xs → slice_set (ended_front f i xs) i (f (get_or (ended_front f i xs) i d)) ≡ ended_front f (i + 1) xs
ends_at f i [] d within = absurd (omega arith)
ends_at f zero (x ∷ xs) d within = refl
ends_at f (suc i) (x ∷ xs) d within = let one : suc i + 1 ≡ suc (i + 1) = omega arith in ap (λ ys. f x ∷ ys) (ends_at f i xs d (omega arith)) ∙ ap (λ n. ended_front f n (x ∷ xs)) (sym one)

pub get_map : {A B : Type 0} (f : A → B) (xs : List A) (i : ℕ) (d : A) → f (get_or xs i d) ≡ get_or (map f xs) i (f d)
get_map f [] i d = refl
get_map f (x ∷ xs) zero d = refl
get_map f (x ∷ xs) (suc i) d = get_map f xs i d

front_length : (f : RootState → RootState) (n : ℕ) (xs : List RootState) → length (ended_front f n xs) ≡ length xs
front_length f zero xs = refl
front_length f (suc n) [] = refl
front_length f (suc n) (x ∷ xs) = ap suc (front_length f n xs)

-- one more has ended
pub ends_next : {A : Type 0} (root_of : A → RootState) (f : RootState → RootState) (i : ℕ) (items : List A) (olds : List RootState) (was now : A) → i < length items → was ≡ get_or items i was
    → root_of now ≡ f (root_of was) → map root_of items ≡ ended_front f i olds → map root_of (slice_set items i now) ≡ ended_front f (i + 1) olds
ends_next root_of f i items olds was now within is ends all =
    let long : length items ≡ length olds = sym (map_length root_of items) ∙ ap length all ∙ front_length f i olds in
    map_set root_of items i now
    ∙ (λ j. slice_set (all j) i ((ends ∙ ap (λ w. f (root_of w)) is ∙ ap f (get_map root_of items i was) ∙ ap (λ ys. f (get_or ys i (root_of was))) all) j))
    ∙ ends_at f i olds (root_of was) (omega arith)

all_ended : (f : RootState → RootState) (n : ℕ) (xs : List RootState) → length xs ≤ n → ended_front f n xs ≡ map f xs
all_ended f zero [] most = refl
all_ended f zero (x ∷ xs) most = absurd (omega arith)
all_ended f (suc n) [] most = refl
all_ended f (suc n) (x ∷ xs) most = ap (λ ys. f x ∷ ys) (all_ended f n xs (omega arith))

pub ends_all : {A : Type 0} (root_of : A → RootState) (f : RootState → RootState) (i : ℕ) (items : List A) (olds : List RootState) → length olds ≤ i → map root_of items ≡ ended_front f i olds
    → map root_of items ≡ map f olds
ends_all root_of f i items olds most all = all ∙ all_ended f i olds most

-- ---- the beginning

pub idle_more : {A : Type 0} (root_of : A → RootState) (items : List A) (x : A) (n : ℕ) → root_of x ≡ idle → map root_of items ≡ replicate n idle → map root_of (items ++ x ∷ []) ≡ replicate (n + 1) idle
idle_more root_of items x n is all = map-append root_of items (x ∷ []) ∙ (λ j. all j ++ is j ∷ []) ∙ replicate_more n idle
