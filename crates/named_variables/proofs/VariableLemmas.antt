-- Variables by their names: what stands at the place of the first one of a name.
use Rattle.std.proofs.Common.{◌≡◌, ℕ, zero, suc, ◌+◌, ◌<◌, ◌≤◌, nat_lt, Bool, true, false, not, List, [], ◌∷◌, length, refl, sym, ap, ◌∙◌, arith, get_or, set, cond}
use Rattle.std.specs.List.{filter, position, prefix_len}
use Rattle.std.proofs.lemmas.Bool.{ltb-false}
use Rattle.std.proofs.lemmas.List.Quantifiers.{position-Some}
use Rattle.std.specs.Prelude.{None, Some}
use Rattle.std.specs.Str.{bytes_eq}
use Rattle.plan_model.specs.Evaluation.{value_under}
use Rattle.plan_model.specs.Holdings.{put, without}
use Rattle.plan_types.specs.Frames.{variable_of, variables_of}
use Rattle.plan_types.specs.declared.frame.Variable.{Variable}
use Rattle.uno_model.specs.Values.{Plain}
use Rattle.uno_model.specs.Values as v
use Rattle.uno_values.specs.Values.{plain_of}

abbrev pub has_name : List ℕ → Variable → Bool
has_name name x = bytes_eq name x.name

-- the first variable of a name is at this place
pub record IsFirst (name : List ℕ) (xs : List Variable) (i : ℕ) (d : Variable) : Type 0 where
  pub within : i < length xs
  pub here : has_name name (get_or xs i d) ≡ true
  pub before : (k : ℕ) → k < i → has_name name (get_or xs k d) ≡ false

abbrev pub IsNowhere : List ℕ → List Variable → Variable → Type 0
IsNowhere name xs d = (k : ℕ) → k < length xs → has_name name (get_or xs k d) ≡ false

pub below_none : {A : Type 0} (i : ℕ) → i < 0 → A
below_none i below = absurd (omega (arith, below))

below_rest : (i n : ℕ) → suc i < suc n → i < n
below_rest i n below = omega (arith, below)

above : (i n : ℕ) → i < n → suc i < suc n
above i n below = omega (arith, below)

pub first_above : (n : ℕ) → 0 < suc n
first_above n = omega arith

pub first_behind : (name : List ℕ) (x d : Variable) (xs : List Variable) (i : ℕ) → IsFirst name (x ∷ xs) (suc i) d → IsFirst name xs i d
first_behind name x d xs i is =
    record {
      within = below_rest i (length xs) is.within;
      here = is.here;
      before = λ k below. is.before (suc k) (above k i below);
    }

nowhere_behind : (name : List ℕ) (x d : Variable) (xs : List Variable) → IsNowhere name (x ∷ xs) d → IsNowhere name xs d
nowhere_behind name x d xs is = λ k below. is (suc k) (above k (length xs) below)

-- what the search for it tells
pub found_first : (name : List ℕ) (xs : List Variable) (i : ℕ) (d : Variable) → position (has_name name) xs ≡ Some i → IsFirst name xs i d
found_first name xs i d is =
    let found = position-Some (has_name name) xs i d is in
    record { within = found.0; here = found.1; before = found.2 }

-- what stands before the first one that fails a test passes it
passes_by : (q : Variable → Bool) (x d : Variable) (xs : List Variable) (k : ℕ) (b : Bool) → q x ≡ b → k < cond b (1 + prefix_len q xs) 0
    → ((j : ℕ) → j < prefix_len q xs → q (get_or xs j d) ≡ true) → q (get_or (x ∷ xs) k d) ≡ true
passes_by q x d xs k false is below later = below_none k below
passes_by q x d xs zero true is below later = is
passes_by q x d xs (suc j) true is below later = later j (omega (arith, below))

passes : (q : Variable → Bool) (xs : List Variable) (k : ℕ) (d : Variable) → k < prefix_len q xs → q (get_or xs k d) ≡ true
passes q [] k d below = below_none k below
passes q (x ∷ xs) k d below = passes_by q x d xs k (q x) refl below (λ j less. passes q xs j d less)

none_before : (m n : ℕ) (b : Bool) → nat_lt m n ≡ b → cond b (Some m) None ≡ None → n ≤ m
none_before m n true is none = let bad : ⊥ = cc in absurd bad
none_before m n false is none = ltb-false m n is

not_so : (b : Bool) → not b ≡ true → b ≡ false
not_so false is = refl
not_so true is = sym is

pub found_none : (name : List ℕ) (xs : List Variable) (d : Variable) → position (has_name name) xs ≡ None → IsNowhere name xs d
found_none name xs d is = λ k below.
    let m = prefix_len (λ x. not (has_name name x)) xs in
    let all : length xs ≤ m = none_before m (length xs) (nat_lt m (length xs)) refl is in
    not_so (has_name name (get_or xs k d)) (passes (λ x. not (has_name name x)) xs k d (omega (arith, below, all)))

-- ---- the value under a name

pub value_here : (name : List ℕ) (xs : List Variable) (i : ℕ) (d : Variable) → IsFirst name xs i d → plain_of (get_or xs i d).value ≡ value_under name (variables_of xs)
unfolding value_under
value_here name [] i d is = below_none i is.within
value_here name (x ∷ xs) zero d is = rw (is.here) refl
value_here name (x ∷ xs) (suc i) d is = rw (is.before 0 (first_above i)) (value_here name xs i d (first_behind name x d xs i is))

pub value_nowhere : (name : List ℕ) (xs : List Variable) (d : Variable) → IsNowhere name xs d → v.void ≡ value_under name (variables_of xs)
unfolding value_under
value_nowhere name [] d is = refl
value_nowhere name (x ∷ xs) d is = rw (is 0 (first_above (length xs))) (value_nowhere name xs d (nowhere_behind name x d xs is))

-- ---- another value under it

pub put_here : (name : List ℕ) (xs : List Variable) (i : ℕ) (d y : Variable) (new : Plain) → IsFirst name xs i d → y.name ≡ (get_or xs i d).name → plain_of y.value ≡ new
    → variables_of (set xs i y) ≡ put name new (variables_of xs)
unfolding put
put_here name [] i d y new is same value = below_none i is.within
put_here name (x ∷ xs) zero d y new is same value = rw (is.here) (ap (λ n. record { name = n; value = plain_of y.value } ∷ variables_of xs) same ∙ ap (λ w. record { name = x.name; value = w } ∷ variables_of xs) value)
put_here name (x ∷ xs) (suc i) d y new is same value =
    rw (is.before 0 (first_above i)) (ap (λ ys. variable_of x ∷ ys) (put_here name xs i d y new (first_behind name x d xs i is) same value))

pub put_nowhere : (name : List ℕ) (xs : List Variable) (d : Variable) (new : Plain) → IsNowhere name xs d → variables_of xs ≡ put name new (variables_of xs)
unfolding put
put_nowhere name [] d new is = refl
put_nowhere name (x ∷ xs) d new is =
    rw (is 0 (first_above (length xs))) (ap (λ ys. variable_of x ∷ ys) (put_nowhere name xs d new (nowhere_behind name x d xs is)))

-- ---- without it

abbrev pub others : List ℕ → List Variable → List Variable
others name xs = filter (λ x. not (has_name name x)) xs

kept_one : (b : Bool) (x : Variable) (ys : List Variable) → variables_of (cond b (x ∷ ys) ys) ≡ cond b (variable_of x ∷ variables_of ys) (variables_of ys)
kept_one true x ys = refl
kept_one false x ys = refl

pub others_of : (name : List ℕ) (xs : List Variable) → variables_of (others name xs) ≡ without name (variables_of xs)
others_of name [] = refl
others_of name (x ∷ xs) =
    kept_one (not (has_name name x)) x (others name xs) ∙ ap (λ ys. cond (not (has_name name x)) (variable_of x ∷ ys) ys) (others_of name xs)

-- another value of a variable of the name makes no difference to the others
pub others_same : (name : List ℕ) (xs : List Variable) (i : ℕ) (d y : Variable) → i < length xs → has_name name (get_or xs i d) ≡ true → y.name ≡ (get_or xs i d).name
    → others name (set xs i y) ≡ others name xs
others_same name [] i d y below here same = below_none i below
others_same name (x ∷ xs) zero d y below here same =
    let too : has_name name y ≡ true = ap (λ n. bytes_eq name n) same ∙ here in
    rw (too, here) refl
others_same name (x ∷ xs) (suc i) d y below here same =
    ap (λ ys. cond (not (has_name name x)) (x ∷ ys) ys) (others_same name xs i d y (below_rest i (length xs) below) here same)

pub nothing_else : (name : List ℕ) (xs : List Variable) (d : Variable) → IsNowhere name xs d → variables_of xs ≡ without name (variables_of xs)
nothing_else name [] d is = refl
nothing_else name (x ∷ xs) d is =
    rw (is 0 (first_above (length xs))) (ap (λ ys. variable_of x ∷ ys) (nothing_else name xs d (nowhere_behind name x d xs is)))
