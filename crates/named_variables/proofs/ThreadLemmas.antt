-- Variables that are found by their names, which are noted in their order.
use Rattle.std.proofs.Common.{◌≡◌, ℕ, zero, suc, ◌+◌, ◌<◌, nat_lt, Bool, true, false, not, ◌||◌, List, [], ◌∷◌, length, refl, sym, ap, ◌∙◌, arith, get_or, set, cond}
use Rattle.std.specs.List.{list_any, position, prefix_len}
use Rattle.std.specs.Prelude.{None, Some, remove}
use Rattle.std.specs.Str.{bytes_eq}
use Rattle.std.proofs.lemmas.List.{length-map}
use Rattle.indexmap.specs.IndexSet.{remove_key}
use Rattle.plan_model.specs.Holdings.{without}
use Rattle.plan_types.specs.Frames.{variable_of, variables_of}
use Rattle.plan_types.specs.declared.frame.Variable.{Variable}
use Rattle.named_variables.specs.Names.{names_of}
use Rattle.named_variables.proofs.VariableLemmas.{IsFirst, IsNowhere, below_none, first_above, first_behind, found_first, found_none, has_name}

-- ---- a name is looked for

prefix_named : (name : List ℕ) (xs : List Variable) → prefix_len (λ n. not (bytes_eq name n)) (names_of xs) ≡ prefix_len (λ x. not (has_name name x)) xs
prefix_named name [] = refl
prefix_named name (x ∷ xs) = ap (λ n. cond (not (bytes_eq name x.name)) (1 + n) 0) (prefix_named name xs)

-- it stands in the place of the first variable that has it
pub position_named : (name : List ℕ) (xs : List Variable) → position (bytes_eq name) (names_of xs) ≡ position (has_name name) xs
position_named name xs =
    ap (λ n. cond (nat_lt n (length (names_of xs))) (Some n) None) (prefix_named name xs)
    ∙ ap (λ n. cond (nat_lt (prefix_len (λ x. not (has_name name x)) xs) n) (Some (prefix_len (λ x. not (has_name name x)) xs)) None) (length-map xs (λ (x : Variable). x.name))

pub any_named : (name : List ℕ) (xs : List Variable) → list_any (bytes_eq name) (names_of xs) ≡ list_any (λ x. bytes_eq name x.name) (variables_of xs)
any_named name [] = refl
any_named name (x ∷ xs) = ap (λ b. bytes_eq name x.name || b) (any_named name xs)

pub any_under : (name : List ℕ) (xs : List Variable) → list_any (has_name name) xs ≡ list_any (λ x. bytes_eq name x.name) (variables_of xs)
any_under name [] = refl
any_under name (x ∷ xs) = ap (λ b. bytes_eq name x.name || b) (any_under name xs)

-- ---- another value

pub names_kept : (xs : List Variable) (i : ℕ) (d y : Variable) → i < length xs → y.name ≡ (get_or xs i d).name → names_of (set xs i y) ≡ names_of xs
names_kept [] i d y within same = below_none i within
names_kept (x ∷ xs) zero d y within same = ap (λ n. n ∷ names_of xs) same
names_kept (x ∷ xs) (suc i) d y within same = ap (λ ns. x.name ∷ ns) (names_kept xs i d y (omega (arith, within)) same)

-- ---- a name less

-- where none has the name all are the others
none_step : (name : List ℕ) (x : Variable) (xs : List Variable) (b : Bool) → bytes_eq name x.name ≡ b → (b || list_any (bytes_eq name) (names_of xs)) ≡ false
    → (list_any (bytes_eq name) (names_of xs) ≡ false → variables_of xs ≡ without name (variables_of xs)) → variables_of (x ∷ xs) ≡ without name (variables_of (x ∷ xs))
none_step name x xs true is none rest = let bad : ⊥ = cc in absurd bad
none_step name x xs false is none rest = rw is (ap (λ ys. variable_of x ∷ ys) (rest none))

none_named : (name : List ℕ) (xs : List Variable) → list_any (bytes_eq name) (names_of xs) ≡ false → variables_of xs ≡ without name (variables_of xs)
none_named name [] none = refl
none_named name (x ∷ xs) none = none_step name x xs (bytes_eq name x.name) refl none (none_named name xs)

names_taken : (name : List ℕ) (xs : List Variable) (i : ℕ) (d : Variable) → IsFirst name xs i d → remove_key (bytes_eq name) (names_of xs) ≡ names_of (remove xs i)
names_taken name [] i d is = below_none i is.within
names_taken name (x ∷ xs) zero d is = rw (is.here) refl
names_taken name (x ∷ xs) (suc i) d is = rw (is.before 0 (first_above i)) (ap (λ ns. x.name ∷ ns) (names_taken name xs i d (first_behind name x d xs i is)))

taken_alone : (name : List ℕ) (xs : List Variable) (i : ℕ) (d : Variable) → IsFirst name xs i d → list_any (bytes_eq name) (names_of (remove xs i)) ≡ false
    → variables_of (remove xs i) ≡ without name (variables_of xs)
taken_alone name [] i d is none = below_none i is.within
taken_alone name (x ∷ xs) zero d is none = rw (is.here) (none_named name xs none)
taken_alone name (x ∷ xs) (suc i) d is none =
    let here : bytes_eq name x.name ≡ false = is.before 0 (first_above i) in
    let behind : list_any (bytes_eq name) (names_of (remove xs i)) ≡ false = rw here at none in
    rw here (ap (λ ys. variable_of x ∷ ys) (taken_alone name xs i d (first_behind name x d xs i is) behind))

-- ---- names that are noted

-- where a name is found among them it is that of the first variable that has it, and else none has it
pub noted_first : (name : List ℕ) (xs : List Variable) (keys : List (List ℕ)) (i : ℕ) (d : Variable) → keys ≡ names_of xs → position (bytes_eq name) keys ≡ Some i → IsFirst name xs i d
noted_first name xs keys i d noted at = found_first name xs i d (sym (position_named name xs) ∙ (ap (position (bytes_eq name)) (sym noted) ∙ at))

pub noted_nowhere : (name : List ℕ) (xs : List Variable) (keys : List (List ℕ)) (d : Variable) → keys ≡ names_of xs → position (bytes_eq name) keys ≡ None → IsNowhere name xs d
noted_nowhere name xs keys d noted at = found_none name xs d (sym (position_named name xs) ∙ (ap (position (bytes_eq name)) (sym noted) ∙ at))

-- what is left of the names are those of the variables that are left
pub names_left : (name : List ℕ) (xs : List Variable) (keys new : List (List ℕ)) (i : ℕ) (d : Variable) → IsFirst name xs i d → keys ≡ names_of xs → new ≡ remove_key (bytes_eq name) keys
    → new ≡ names_of (remove xs i)
names_left name xs keys new i d first noted less = less ∙ (ap (remove_key (bytes_eq name)) noted ∙ names_taken name xs i d first)

-- and where the name is not among them, these are all the others
pub left_alone : (name : List ℕ) (xs : List Variable) (new : List (List ℕ)) (i : ℕ) (d : Variable) → IsFirst name xs i d → new ≡ names_of (remove xs i) → list_any (bytes_eq name) new ≡ false
    → variables_of (remove xs i) ≡ without name (variables_of xs)
left_alone name xs new i d first left gone = taken_alone name xs i d first (ap (list_any (bytes_eq name)) (sym left) ∙ gone)
