-- Numbers that are the same or below one another, how often a number stands in a list, and remainders.
use Rattle.std.proofs.Common.{◌≡◌, ℕ, zero, suc, ◌+◌, ◌-◌, ◌*◌, ◌/◌, ◌%◌, ◌^◌, ◌<◌, ◌≤◌, List, [], ◌∷◌, ◌++◌, length, sym, refl, ap, ◌∙◌, subst, mod-eq_of_lt, arith}
use Rattle.std.proofs.Math.Nat.{mod-add-div', add-mul-mod_self_right, add-mod_right}
use Rattle.turn_book.specs.History.{same, below, times, AllBelow, numbers_of}

pub same_self : (n : ℕ) → same n n ≡ 1
same_self zero = refl
same_self (suc n) = same_self n

pub same_back : (m n : ℕ) → same m n ≡ same n m
same_back zero zero = refl
same_back zero (suc n) = refl
same_back (suc m) zero = refl
same_back (suc m) (suc n) = same_back m n

pub same_le : (m n : ℕ) → same m n ≤ 1
same_le zero zero = omega arith
same_le zero (suc n) = omega arith
same_le (suc m) zero = omega arith
same_le (suc m) (suc n) = same_le m n

pub below_le : (m n : ℕ) → below m n ≤ 1
below_le m zero = omega arith
below_le zero (suc n) = omega arith
below_le (suc m) (suc n) = below_le m n

-- a number below the other counts
pub below_is : (m n : ℕ) → 1 ≤ below m n → m < n
below_is m zero h = absurd (omega arith)
below_is zero (suc n) h = omega arith
below_is (suc m) (suc n) h = let r : m < n = below_is m n h in omega arith

pub not_below : (m n : ℕ) → below m n ≡ 0 → n ≤ m
not_below m zero h = omega arith
not_below zero (suc n) h = absurd (omega arith)
not_below (suc m) (suc n) h = let r : n ≤ m = not_below m n h in omega arith

pub below_self : (n : ℕ) → below n n ≡ 0
below_self zero = refl
below_self (suc n) = below_self n

below_suc : (m n : ℕ) → below m (suc n) ≡ below m n + same m n
below_suc zero zero = refl
below_suc zero (suc n) = refl
below_suc (suc m) zero = refl
below_suc (suc m) (suc n) = below_suc m n

pub below_next : (m n : ℕ) → below m (n + 1) ≡ below m n + same m n
below_next m n = let e : suc n ≡ n + 1 = omega arith in subst (λ k. below m k ≡ below m n + same m n) e (below_suc m n)

pub apart_below : (m n : ℕ) → m < n → same n m ≡ 0
apart_below m zero h = absurd (omega arith)
apart_below zero (suc n) h = refl
apart_below (suc m) (suc n) h = let less : m < n = omega arith in apart_below m n less

pub all_more : (n k : ℕ) (ms : List ℕ) → n ≤ k → AllBelow n ms → AllBelow k ms
all_more n k [] le all = tt
all_more n k (m ∷ ms) le all = let less : m < n = all.0 in let more : m < k = omega arith in (more, all_more n k ms le all.1)

pub all_both : (n : ℕ) (ms ns : List ℕ) → AllBelow n ms → AllBelow n ns → AllBelow n (ms ++ ns)
all_both n [] ns a b = b
all_both n (m ∷ ms) ns a b = (a.0, all_both n ms ns a.1 b)

pub times_both : {I : Type 0} (n : ℕ) (xs ys : List (ℕ × List I)) → times n (numbers_of (xs ++ ys)) ≡ times n (numbers_of xs) + times n (numbers_of ys)
times_both n [] ys = omega arith
times_both n (x ∷ xs) ys = let r : times n (numbers_of (xs ++ ys)) ≡ times n (numbers_of xs) + times n (numbers_of ys) = times_both n xs ys in omega arith

pub times_le : {I : Type 0} (n : ℕ) (xs : List (ℕ × List I)) → times n (numbers_of xs) ≤ length xs
times_le n [] = omega arith
times_le n (x ∷ xs) = let a : same n x.0 ≤ 1 = same_le n x.0 in let r : times n (numbers_of xs) ≤ length xs = times_le n xs in omega arith

-- a word counts modulo its size
pub next_mod : (d n : ℕ) → (d % n + 1) % n ≡ (d + 1) % n
next_mod d n =
    let q : ℕ = d / n * n in
    let r : ℕ = d % n in
    let e : r + q ≡ d = mod-add-div' d n in
    let e' : (r + 1) + q ≡ d + 1 = omega arith in
    sym (add-mul-mod_self_right (d % n + 1) (d / n) n) ∙ ap (λ (k : ℕ). k % n) e'

pub small_mod : (m : ℕ) → m < 2 ^ 64 → m % 2 ^ 64 ≡ m
small_mod m h = mod-eq_of_lt h

pub less_mod : (m n : ℕ) → m ≡ n + 1 → m < 2 ^ 64 → (m + (2 ^ 64 - 1)) % 2 ^ 64 ≡ n
less_mod m n e h =
    let up : m + (2 ^ 64 - 1) ≡ n + 2 ^ 64 = omega arith in
    let low : n < 2 ^ 64 = omega arith in
    ap (λ (k : ℕ). k % 2 ^ 64) up ∙ (add-mod_right n (2 ^ 64) ∙ mod-eq_of_lt low)
