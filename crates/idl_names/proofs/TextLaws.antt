-- Names of identifiers joined by points are the same only where the identifiers are; and modules from the innermost outwards.
use Rattle.std.proofs.Common.{◌≡◌, refl, sym, ap, ◌∙◌, ℕ, Bool, true, false, not, ◌&&◌, ◌==◌, List, [], ◌∷◌, ◌++◌, map, subst, arith}
use Rattle.std.proofs.lemmas.Bool.{and_parts, and_from, both_ways, not-true, eqb-true}
use Rattle.std.specs.List.{list_all, list_any}
use Rattle.std.specs.Str.{bytes_eq}
use Rattle.uno_model.specs.Names.{begins_identifier, goes_on_identifier, is_identifier, parts_of, reserved_words}
use Rattle.idl_meaning_model.specs.Declarations.{dotted}
use Rattle.idl_meaning_model.specs.Scopes.{outwards}
use Rattle.idl_names.specs.Paths.{Parts}

-- ---- identifiers joined by points

abbrev no_point : ℕ → Bool
no_point c = not (c == 46)

begun_goes_on : (c : ℕ) → begins_identifier c ≡ true → goes_on_identifier c ≡ true
begun_goes_on c begun = grind arith

identifier_byte : (c : ℕ) → goes_on_identifier c ≡ true → no_point c ≡ true
identifier_byte c on = by_test (c == 46) refl
  where
    by_test : (b : Bool) → (c == 46) ≡ b → not b ≡ true
    by_test true is = let bad : false ≡ true = subst (λ x. goes_on_identifier x ≡ true) (eqb-true c 46 is) on in absurd (both_ways true (sym bad) refl)
    by_test false is = refl

all_go_on : (w : List ℕ) → list_all goes_on_identifier w ≡ true → list_all no_point w ≡ true
all_go_on [] all = refl
all_go_on (c ∷ cs) all =
    let parts = and_parts (goes_on_identifier c) (list_all goes_on_identifier cs) all in
    and_from (no_point c) (list_all no_point cs) (identifier_byte c parts.0) (all_go_on cs parts.1)

without_points : (x : List ℕ) → is_identifier x ≡ true → list_all no_point x ≡ true
without_points [] is = refl
without_points (c ∷ cs) is =
    let front = and_parts (begins_identifier c && list_all goes_on_identifier cs) (not (list_any (bytes_eq (c ∷ cs)) reserved_words)) is in
    let parts = and_parts (begins_identifier c) (list_all goes_on_identifier cs) front.0 in
    and_from (no_point c) (list_all no_point cs) (identifier_byte c (begun_goes_on c parts.0)) (all_go_on cs parts.1)

one_part : (x : List ℕ) → list_all no_point x ≡ true → parts_of x ≡ x ∷ []
unfolding parts_of
one_part [] clear = refl
one_part (c ∷ cs) clear =
    let parts = and_parts (no_point c) (list_all no_point cs) clear in
    rw (not-true (c == 46) parts.0, one_part cs parts.1) refl

first_part : (x rest : List ℕ) → list_all no_point x ≡ true → parts_of (x ++ 46 ∷ rest) ≡ x ∷ parts_of rest
unfolding parts_of
first_part [] rest clear = refl
first_part (c ∷ cs) rest clear =
    let parts = and_parts (no_point c) (list_all no_point cs) clear in
    rw (not-true (c == 46) parts.0, first_part cs rest parts.1) refl

-- identifiers are the parts of what they are joined to
joined_parts : (x : List ℕ) (xs : Parts) → list_all is_identifier (x ∷ xs) ≡ true → parts_of (dotted (x ∷ xs)) ≡ x ∷ xs
unfolding dotted
joined_parts x [] all = one_part x (without_points x (and_parts (is_identifier x) true all).0)
joined_parts x (y ∷ ys) all =
    let parts = and_parts (is_identifier x) (list_all is_identifier (y ∷ ys)) all in
    first_part x (dotted (y ∷ ys)) (without_points x parts.0) ∙ ap (λ ps. x ∷ ps) (joined_parts y ys parts.1)

pub one_text : (x y : List ℕ) (xs ys : Parts) → list_all is_identifier (x ∷ xs) ≡ true → list_all is_identifier (y ∷ ys) ≡ true → dotted (x ∷ xs) ≡ dotted (y ∷ ys) → x ∷ xs ≡ y ∷ ys
one_text x y xs ys first second same = sym (joined_parts x xs first) ∙ ap parts_of same ∙ joined_parts y ys second

-- ---- outwards

-- a name that is looked for in a module is looked for in that one first, and then round it
pub outwards_last : (ms : Parts) (m : List ℕ) → outwards (ms ++ m ∷ []) ≡ (ms ++ m ∷ []) ∷ outwards ms
unfolding outwards
outwards_last [] m = refl
outwards_last (x ∷ ms) m = ap (λ (k : List Parts). map (λ inner. x ∷ inner) k ++ [] ∷ []) (outwards_last ms m)
