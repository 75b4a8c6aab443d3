-- What is told of one more of a list.
use Rattle.std.proofs.Common.{◌≡◌, refl, sym, ap, subst, ◌∙◌, ℕ, zero, suc, ◌+◌, ◌<◌, List, [], ◌∷◌, ◌++◌, map, length, take, get_or, append_assoc, append-nil, arith}
use Rattle.std.proofs.Common.{Option, None, Some}
use Rattle.std.specs.List.{filter_map, flat_map, cons_option}
use Rattle.std.specs.Option.{option_to_list}
use Rattle.std.proofs.lemmas.List.{map-append}
use Rattle.std.proofs.lemmas.Grind.{flat_map-append}
use Rattle.std.proofs.lemmas.List.Elements.{filter_map-append}

-- what is told of a list is what is told of each, one behind the other
abbrev pub Tells : {Y Z : Type 0} → (List Y → List Z) → (Y → List Z) → Type 0
Tells {Y} whole each = (ys : List Y) (y : Y) → whole (ys ++ y ∷ []) ≡ whole ys ++ each y

pub map_tells : {Y Z : Type 0} (f : Y → Z) → Tells (map f) (λ y. f y ∷ [])
map_tells f ys y = map-append f ys (y ∷ [])

pub twice_tells : {X Y Z : Type 0} (f : Y → Z) (g : X → Y) → Tells (λ xs. map f (map g xs)) (λ x. f (g x) ∷ [])
twice_tells f g xs x = ap (map f) (map-append g xs (x ∷ [])) ∙ map-append f (map g xs) (g x ∷ [])

one_kept : {Y : Type 0} (o : Option Y) → cons_option o [] ≡ option_to_list o
one_kept None = refl
one_kept (Some y) = refl

pub kept_tells : {X Y : Type 0} (g : X → Option Y) → Tells (filter_map g) (λ x. option_to_list (g x))
kept_tells g xs x = filter_map-append g xs (x ∷ []) ∙ ap (λ k. filter_map g xs ++ k) (one_kept (g x))

pub kept_map_tells : {X Y Z : Type 0} (f : Y → Z) (g : X → Option Y) → Tells (λ xs. map f (filter_map g xs)) (λ x. map f (option_to_list (g x)))
kept_map_tells f g xs x = ap (map f) (kept_tells g xs x) ∙ map-append f (filter_map g xs) (option_to_list (g x))

pub joined_map_tells : {X Y Z : Type 0} (f : Y → Z) (g : X → List Y) → Tells (λ xs. map f (flat_map g xs)) (λ x. map f (g x))
joined_map_tells f g xs x =
    ap (map f) (flat_map-append g xs (x ∷ []) ∙ ap (λ k. flat_map g xs ++ k) (append-nil (g x))) ∙ map-append f (flat_map g xs) (g x)

-- ---- a loop over the elements

taken_more : {X Y : Type 0} (view : X → Y) (xs : List X) (i : ℕ) (x : X) → i < length xs → x ≡ get_or xs i x
    → map view (take (suc i) xs) ≡ map view (take i xs) ++ view x ∷ []
taken_more view [] i x low is = absurd (omega arith)
taken_more view (y ∷ ys) zero x low is = ap (λ z. view z ∷ []) (sym is)
taken_more view (y ∷ ys) (suc i) x low is = ap (λ zs. view y ∷ zs) (taken_more view ys i x (omega arith) is)

pub next_is : (i : ℕ) → suc i ≡ i + 1
next_is i = omega arith

pub one_taken : {X Y : Type 0} (view : X → Y) (xs : List X) (i : ℕ) (x : X) → i < length xs → x ≡ get_or xs i x
    → map view (take (i + 1) xs) ≡ map view (take i xs) ++ view x ∷ []
one_taken view xs i x low is = subst (λ n. map view (take n xs) ≡ map view (take i xs) ++ view x ∷ []) (next_is i) (taken_more view xs i x low is)

-- what was told of the elements so far, and is told of the next, is told of all of them
pub told_on : {X Y Z : Type 0} (whole : List Y → List Z) (each : Y → List Z) → Tells whole each → (view : X → Y) (xs : List X) (i : ℕ) (x : X) (now new : List Z)
    → i < length xs → x ≡ get_or xs i x → now ≡ whole (map view (take i xs)) → new ≡ now ++ each (view x) → new ≡ whole (map view (take (i + 1) xs))
told_on whole each tells view xs i x now new low is so_far more =
    more ∙ ap (λ k. k ++ each (view x)) so_far ∙ sym (ap whole (one_taken view xs i x low is) ∙ tells (map view (take i xs)) (view x))

-- the same behind what was there
pub told_behind : {X Y Z : Type 0} (whole : List Y → List Z) (each : Y → List Z) → Tells whole each → (view : X → Y) (xs : List X) (i : ℕ) (x : X) (old now new : List Z)
    → i < length xs → x ≡ get_or xs i x → now ≡ old ++ whole (map view (take i xs)) → new ≡ now ++ each (view x)
    → new ≡ old ++ whole (map view (take (i + 1) xs))
told_behind whole each tells view xs i x old now new low is so_far more =
    more ∙ ap (λ k. k ++ each (view x)) so_far ∙ append_assoc old (whole (map view (take i xs))) (each (view x))
    ∙ ap (λ k. old ++ k) (sym (ap whole (one_taken view xs i x low is) ∙ tells (map view (take i xs)) (view x)))

-- one that is pushed, as it is seen
pub one_put : {A B : Type 0} (f : A → B) (now new : List A) (a : A) (b : B) → new ≡ now ++ a ∷ [] → f a ≡ b → map f new ≡ map f now ++ b ∷ []
one_put f now new a b put seen = ap (map f) put ∙ map-append f now (a ∷ []) ∙ ap (λ k. map f now ++ k ∷ []) seen
