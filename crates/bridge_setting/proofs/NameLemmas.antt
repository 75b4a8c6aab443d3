-- The names of roots, by their numbers.
use Rattle.std.proofs.Common.{◌≡◌, ℕ, zero, suc, ◌+◌, ◌-◌, List, [], ◌∷◌, ◌++◌, length, refl, sym, ap, ◌∙◌, arith, slice_get, Option, None, Some, Bool, true, false, not, ◌&&◌, ◌<◌, ◌≤◌, nat_lt, eqb-true}
use Rattle.std.proofs.lemmas.List.{length-append}
use Rattle.std.proofs.lemmas.Bool.{lt-ltb, le-ltb}
use Rattle.std.specs.Option.{IfSome, is_some, option_map}
use Rattle.std.specs.Borrow.{Bor}
use Rattle.bridge_setting.specs.Naming.{name_of, AreNames}
use Rattle.uno_entities.specs.declared.text.Text.{Text}
use Rattle.uno_entities.specs.declared.tid.Tid.{Tid}

nothing_at : {A : Type 0} (i : ℕ) (x : A) → slice_get [] i ≡ Some x → ⊥
nothing_at i x found = cc

first_is : {A : Type 0} (a x : A) (xs : List A) → slice_get (a ∷ xs) 0 ≡ Some x → a ≡ x
first_is a x xs found = cc

name_at : (tag : List ℕ) (n : ℕ) (xs : List (List ℕ)) (i : ℕ) (x : List ℕ) → AreNames tag n xs → slice_get xs i ≡ Some x → x ≡ name_of tag (i + n)
unfolding AreNames
name_at tag n [] i x names found = absurd (nothing_at i x found)
name_at tag n (y ∷ xs) zero x names found =
    let same : n ≡ zero + n = omega arith in
    sym (first_is y x xs found) ∙ names.0 ∙ ap (λ m. name_of tag m) same
name_at tag n (y ∷ xs) (suc i) x names found =
    let next : i + suc n ≡ suc i + n = omega arith in
    name_at tag (suc n) xs i x names.1 found ∙ ap (λ m. name_of tag m) next

-- the name of a root
pub root_named : (tag : List ℕ) (xs : List (List ℕ)) (root : ℕ) (o : Option (Bor Tid)) → AreNames tag 1 xs → (root ≡ 0 → ⊥)
    → option_map (λ t. t.now) o ≡ slice_get xs (root - 1) → IfSome o (λ t. t.now ≡ name_of tag root)
root_named tag xs root None names some same = tt
root_named tag xs root (Some t) names some same =
    let is : (root - 1) + 1 ≡ root = omega (arith, some) in
    name_at tag 1 xs (root - 1) t.now names (sym same) ∙ ap (λ m. name_of tag m) is

-- exactly the roots that are counted have one
next_within : (i n : ℕ) (b : Bool) → nat_lt i n ≡ b → nat_lt i n ≡ nat_lt (suc i) (suc n)
next_within i n true is = grind (arith, eqb-true)
next_within i n false is = grind (arith, eqb-true)

found_within : (xs : List (List ℕ)) (i : ℕ) → is_some (slice_get xs i) ≡ nat_lt i (length xs)
found_within [] i =
    let past : 0 ≤ i = omega arith in
    sym (le-ltb i 0 past)
found_within (x ∷ xs) zero =
    let below : 0 < suc (length xs) = omega arith in
    sym (lt-ltb 0 (suc (length xs)) below)
found_within (x ∷ xs) (suc i) = found_within xs i ∙ next_within i (length xs) (nat_lt i (length xs)) refl

counted_by : (root n : ℕ) (b : Bool) → 0 < root → nat_lt (root - 1) n ≡ b → nat_lt (root - 1) n ≡ (nat_lt 0 root && not (nat_lt n root))
counted_by root n true some is = grind (arith, eqb-true)
counted_by root n false some is = grind (arith, eqb-true)

some_seen : (o : Option (Bor Tid)) → is_some o ≡ is_some (option_map (λ (t : Bor Tid). t.now) o)
some_seen None = refl
some_seen (Some t) = refl

pub root_there : (xs : List (List ℕ)) (root count : ℕ) (o : Option (Bor Tid)) → (root ≡ 0 → ⊥) → count ≡ length xs
    → option_map (λ t. t.now) o ≡ slice_get xs (root - 1) → is_some o ≡ (nat_lt 0 root && not (nat_lt count root))
root_there xs root count o some all same =
    let positive : 0 < root = omega (arith, some) in
    some_seen o ∙ (ap is_some same ∙ (found_within xs (root - 1) ∙ (ap (λ n. nat_lt (root - 1) n) (sym all) ∙ counted_by root count (nat_lt (root - 1) count) positive refl)))

-- names with the next one behind them
pub one_more_named : (tag : List ℕ) (n : ℕ) (xs : List (List ℕ)) (x : List ℕ) → AreNames tag n xs → x ≡ name_of tag (length xs + n) → AreNames tag n (xs ++ x ∷ [])
unfolding AreNames
one_more_named tag n [] x names is =
    let same : 0 + n ≡ n = omega arith in
    (is ∙ ap (λ m. name_of tag m) same, tt)
one_more_named tag n (y ∷ xs) x names is =
    let next : suc (length xs) + n ≡ length xs + suc n = omega arith in
    (names.0, one_more_named tag (suc n) xs x names.1 (is ∙ ap (λ m. name_of tag m) next))

-- the names so far, and one more
pub also_named : (tag : List ℕ) (n : ℕ) (xs ys : List (List ℕ)) (x : List ℕ) (i : ℕ) → AreNames tag n xs → length xs ≡ i → x ≡ name_of tag (i + n) → ys ≡ xs ++ x ∷ []
    → AreNames tag n ys × (length ys ≡ i + 1)
also_named tag n xs ys x i names count is all =
    let more : length (xs ++ x ∷ []) ≡ i + 1 = length-append xs (x ∷ []) ∙ ap (λ m. m + 1) count in
    rw (all) (one_more_named tag n xs x names (is ∙ ap (λ m. name_of tag (m + n)) (sym count)), more)

pub none_named : (tag : List ℕ) (n : ℕ) (xs : List (List ℕ)) → xs ≡ [] → AreNames tag n xs × (length xs ≡ 0)
unfolding AreNames
none_named tag n xs none = rw (none) (tt, refl)

-- the names from that of the number 0 on
pub first_named : (tag : List ℕ) (xs : List (List ℕ)) (n : ℕ) (o : Option (Bor Text)) → AreNames tag 0 xs → option_map (λ t. t.now) o ≡ slice_get xs n
    → IfSome o (λ t. t.now ≡ name_of tag n)
first_named tag xs n None names same = tt
first_named tag xs n (Some t) names same =
    let is : n + 0 ≡ n = omega arith in
    name_at tag 0 xs n t.now names (sym same) ∙ ap (λ m. name_of tag m) is

pub also_first : (tag : List ℕ) (xs ys : List (List ℕ)) (x : List ℕ) (i : ℕ) → AreNames tag 0 xs → length xs ≡ i → x ≡ name_of tag i → ys ≡ xs ++ x ∷ []
    → AreNames tag 0 ys × (length ys ≡ i + 1)
also_first tag xs ys x i names count is all =
    let same : i ≡ i + 0 = omega arith in
    also_named tag 0 xs ys x i names count (is ∙ ap (λ m. name_of tag m) same) all
