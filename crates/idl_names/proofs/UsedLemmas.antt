-- What is added for one more of a list.
use Rattle.std.proofs.Common.{◌≡◌, sym, ap, subst, ◌∙◌, ℕ, zero, suc, ◌+◌, ◌<◌, List, [], ◌∷◌, ◌++◌, map, length, take, get_or, append_assoc, append-nil, arith}
use Rattle.std.specs.List.{flat_map}
use Rattle.std.proofs.lemmas.List.{map-append}
use Rattle.idl_meaning_model.specs.Uses as model
use Rattle.idl_meaning_model.specs.Uses.{expr_paths, operand_paths}
use Rattle.idl_model.specs.Trees.{Path, Expr, Operator, operands}
use Rattle.idl_names.specs.Used.{all_used_of, AddsUsed}
use Rattle.idl_names.specs.declared.used.Used.{Used}

-- ---- one more of a list

pub next_is : (i : ℕ) → suc i ≡ i + 1
next_is i = omega arith

taken_more : {X Y : Type 0} (view : X → Y) (xs : List X) (i : ℕ) (x : X) → i < length xs → x ≡ get_or xs i x → map view (take (suc i) xs) ≡ map view (take i xs) ++ view x ∷ []
taken_more view [] i x low is = absurd (omega arith)
taken_more view (y ∷ ys) zero x low is = ap (λ z. view z ∷ []) (sym is)
taken_more view (y ∷ ys) (suc i) x low is = ap (λ zs. view y ∷ zs) (taken_more view ys i x (omega arith) is)

pub one_taken : {X Y : Type 0} (view : X → Y) (xs : List X) (i : ℕ) (x : X) → i < length xs → x ≡ get_or xs i x → map view (take (i + 1) xs) ≡ map view (take i xs) ++ view x ∷ []
one_taken view xs i x low is = subst (λ n. map view (take n xs) ≡ map view (take i xs) ++ view x ∷ []) (next_is i) (taken_more view xs i x low is)

pub last_joined : {Y Z : Type 0} (f : Y → List Z) (ys : List Y) (y : Y) → flat_map f (ys ++ y ∷ []) ≡ flat_map f ys ++ f y
last_joined f [] y = append-nil (f y)
last_joined f (z ∷ zs) y = ap (λ k. f z ++ k) (last_joined f zs y) ∙ sym (append_assoc (f z) (flat_map f zs) (f y))

pub one_joined : {X Y Z : Type 0} (view : X → Y) (f : Y → List Z) (xs : List X) (i : ℕ) (x : X) → i < length xs → x ≡ get_or xs i x
    → flat_map f (map view (take (i + 1) xs)) ≡ flat_map f (map view (take i xs)) ++ f (view x)
one_joined view f xs i x low is = ap (flat_map f) (one_taken view xs i x low is) ∙ last_joined f (map view (take i xs)) (view x)

-- ---- names that are used

one_behind : (old now new xs ys : List model.Used) → now ≡ old ++ xs → new ≡ now ++ ys → new ≡ old ++ (xs ++ ys)
one_behind old now new xs ys first second = second ∙ ap (λ k. k ++ ys) first ∙ append_assoc old xs ys

pub each_one : {X : Type 0} (h : Path → model.Used) (view : X → Path) (xs : List X) (i : ℕ) (x : X) (old now new : List Used) → i < length xs → x ≡ get_or xs i x
    → AddsUsed old (map h (map view (take i xs))) now → AddsUsed now (map h (view x ∷ [])) new → AddsUsed old (map h (map view (take (i + 1) xs))) new
each_one h view xs i x old now new low is so_far added =
    one_behind (all_used_of old) (all_used_of now) (all_used_of new) (map h (map view (take i xs))) (map h (view x ∷ [])) so_far added
    ∙ ap (λ k. all_used_of old ++ k) (sym (ap (map h) (one_taken view xs i x low is) ∙ map-append h (map view (take i xs)) (view x ∷ [])))

pub each_path : {X Y : Type 0} (h : Path → model.Used) (view : X → Y) (f : Y → List Path) (xs : List X) (i : ℕ) (x : X) (old now new : List Used) → i < length xs → x ≡ get_or xs i x
    → AddsUsed old (map h (flat_map f (map view (take i xs)))) now → AddsUsed now (map h (f (view x))) new → AddsUsed old (map h (flat_map f (map view (take (i + 1) xs)))) new
each_path h view f xs i x old now new low is so_far added =
    one_behind (all_used_of old) (all_used_of now) (all_used_of new) (map h (flat_map f (map view (take i xs)))) (map h (f (view x))) so_far added
    ∙ ap (λ k. all_used_of old ++ k) (sym (ap (map h) (one_joined view f xs i x low is) ∙ map-append h (flat_map f (map view (take i xs))) (f (view x))))

pub each_more : {X Y : Type 0} (view : X → Y) (f : Y → List model.Used) (xs : List X) (i : ℕ) (x : X) (old now new : List Used) → i < length xs → x ≡ get_or xs i x
    → AddsUsed old (flat_map f (map view (take i xs))) now → AddsUsed now (f (view x)) new → AddsUsed old (flat_map f (map view (take (i + 1) xs))) new
each_more view f xs i x old now new low is so_far added =
    one_behind (all_used_of old) (all_used_of now) (all_used_of new) (flat_map f (map view (take i xs))) (f (view x)) so_far added
    ∙ ap (λ k. all_used_of old ++ k) (sym (one_joined view f xs i x low is))

-- ---- operands

pub no_operand : (old : List model.Used) → old ≡ old ++ map model.a_value (operand_paths (operands []))
unfolding operand_paths
no_operand old = sym (append-nil old)

one_operand : (xs : List (Operator × Expr)) (x : Operator × Expr) → operand_paths (operands (xs ++ x ∷ [])) ≡ operand_paths (operands xs) ++ expr_paths x.1
unfolding operand_paths
one_operand [] x = append-nil (expr_paths x.1)
one_operand (y ∷ ys) x = ap (λ k. expr_paths y.1 ++ k) (one_operand ys x) ∙ sym (append_assoc (expr_paths y.1) (operand_paths (operands ys)) (expr_paths x.1))

pub each_operand : {X : Type 0} (view : X → Operator × Expr) (xs : List X) (i : ℕ) (x : X) (old now new : List Used) → i < length xs → x ≡ get_or xs i x
    → AddsUsed old (map model.a_value (operand_paths (operands (map view (take i xs))))) now → AddsUsed now (map model.a_value (expr_paths (view x).1)) new
    → AddsUsed old (map model.a_value (operand_paths (operands (map view (take (i + 1) xs))))) new
each_operand view xs i x old now new low is so_far added =
    let before = map view (take i xs) in
    one_behind (all_used_of old) (all_used_of now) (all_used_of new) (map model.a_value (operand_paths (operands before))) (map model.a_value (expr_paths (view x).1)) so_far added
    ∙ ap (λ k. all_used_of old ++ k) (sym (ap (λ k. map model.a_value (operand_paths (operands k))) (one_taken view xs i x low is)
    ∙ ap (map model.a_value) (one_operand before (view x)) ∙ map-append model.a_value (operand_paths (operands before)) (expr_paths (view x).1)))
