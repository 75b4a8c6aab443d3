-- What is added for one more of a list.
use Rattle.std.proofs.Common.{◌≡◌, refl, sym, ap, subst, ◌∙◌, ℕ, zero, suc, ◌+◌, ◌<◌, Bool, true, false, not, List, [], ◌∷◌, ◌++◌, map, length, take, get_or, append-nil, append_assoc, arith}
use Rattle.std.specs.List.{filter, flat_map}
use Rattle.std.proofs.lemmas.List.{map-append}
use Rattle.std.proofs.lemmas.List.Elements.{filter-append}
use Rattle.std.proofs.lemmas.Grind.{flat_map-append}
use Rattle.idl_model.specs.Places.{Place}
use Rattle.idl_rules_model.specs.TypePlaces.{at_unless}
use Rattle.idl_rules_model.specs.WherePaths.{failing}

-- what is told of a list is what is told of each, one behind the other
abbrev pub Tells : {Y Z : Type 0} → (List Y → List Z) → (Y → List Z) → Type 0
Tells {Y} whole each = (ys : List Y) (y : Y) → whole (ys ++ y ∷ []) ≡ whole ys ++ each y

pub failing_join : {X : Type 0} (test : X → Bool) (place : X → Place) (xs ys : List X) → failing test place (xs ++ ys) ≡ failing test place xs ++ failing test place ys
failing_join test place xs ys =
    ap (map place) (filter-append (λ x. not (test x)) xs ys) ∙ map-append place (filter (λ x. not (test x)) xs) (filter (λ x. not (test x)) ys)

pub failing_one : {X : Type 0} (test : X → Bool) (place : X → Place) (x : X) (b : Bool) → b ≡ test x → at_unless (place x) b ≡ failing test place (x ∷ [])
failing_one test place x true is = rw (sym is) refl
failing_one test place x false is = rw (sym is) refl

pub failing_tells : {X : Type 0} (test : X → Bool) (place : X → Place) → Tells (failing test place) (λ x. failing test place (x ∷ []))
failing_tells test place xs x = failing_join test place xs (x ∷ [])

pub joined_tells : {X Y : Type 0} (f : X → List Y) → Tells (flat_map f) f
joined_tells f xs x = flat_map-append f xs (x ∷ []) ∙ ap (λ k. flat_map f xs ++ k) (append-nil (f x))

pub failing_joined_tells : {X Y : Type 0} (test : Y → Bool) (place : Y → Place) (f : X → List Y) → Tells (λ xs. failing test place (flat_map f xs)) (λ x. failing test place (f x))
failing_joined_tells test place f xs x = ap (failing test place) (joined_tells f xs x) ∙ failing_join test place (flat_map f xs) (f x)

pub twice_joined_tells : {X Y Z : Type 0} (g : Y → List Z) (f : X → List Y) → Tells (λ xs. flat_map g (flat_map f xs)) (λ x. flat_map g (f x))
twice_joined_tells g f xs x = ap (flat_map g) (joined_tells f xs x) ∙ flat_map-append g (flat_map f xs) (f x)

pub joined_mapped_tells : {X Y Z : Type 0} (g : Y → List Z) (f : X → Y) → Tells (λ xs. flat_map g (map f xs)) (λ x. g (f x))
joined_mapped_tells g f xs x = ap (flat_map g) (map-append f xs (x ∷ [])) ∙ joined_tells g (map f xs) (f x)

-- what is added behind what was added
pub added_twice : (old now new xs ys : List Place) → now ≡ old ++ xs → new ≡ now ++ ys → new ≡ old ++ (xs ++ ys)
added_twice old now new xs ys first second = second ∙ ap (λ k. k ++ ys) first ∙ append_assoc old xs ys

-- ---- a loop over the elements

taken_more : {X Y : Type 0} (view : X → Y) (xs : List X) (i : ℕ) (x : X) → i < length xs → x ≡ get_or xs i x
    → map view (take (suc i) xs) ≡ map view (take i xs) ++ view x ∷ []
taken_more view [] i x low is = absurd (omega arith)
taken_more view (y ∷ ys) zero x low is = ap (λ z. view z ∷ []) (sym is)
taken_more view (y ∷ ys) (suc i) x low is = ap (λ zs. view y ∷ zs) (taken_more view ys i x (omega arith) is)

next_is : (i : ℕ) → suc i ≡ i + 1
next_is i = omega arith

one_taken : {X Y : Type 0} (view : X → Y) (xs : List X) (i : ℕ) (x : X) → i < length xs → x ≡ get_or xs i x
    → map view (take (i + 1) xs) ≡ map view (take i xs) ++ view x ∷ []
one_taken view xs i x low is = subst (λ n. map view (take n xs) ≡ map view (take i xs) ++ view x ∷ []) (next_is i) (taken_more view xs i x low is)

-- what was told of the elements so far, and is told of the next, stands behind what was there
pub told_behind : {X Y Z : Type 0} (whole : List Y → List Z) (each : Y → List Z) → Tells whole each → (view : X → Y) (xs : List X) (i : ℕ) (x : X) (old now new : List Z)
    → i < length xs → x ≡ get_or xs i x → now ≡ old ++ whole (map view (take i xs)) → new ≡ now ++ each (view x)
    → new ≡ old ++ whole (map view (take (i + 1) xs))
told_behind whole each tells view xs i x old now new low is so_far more =
    more ∙ ap (λ k. k ++ each (view x)) so_far ∙ append_assoc old (whole (map view (take i xs))) (each (view x))
    ∙ ap (λ k. old ++ k) (sym (ap whole (one_taken view xs i x low is) ∙ tells (map view (take i xs)) (view x)))
