-- A number among the functions of several, one after the other.
use Rattle.std.proofs.Common.{◌≡◌, ℕ, zero, suc, ◌+◌, ◌<◌, ◌≤◌, List, [], ◌∷◌, ◌++◌, length, map, take, get_or, None, Some, refl, sym, ap, ◌∙◌, arith}
use Rattle.std.specs.Prelude.{slice_get}
use Rattle.std.specs.List.{flat_map}
use Rattle.std.proofs.lemmas.List.{length-append, map-append, take_all, get_or_default}
use Rattle.std.proofs.lemmas.Option.{slice_get_past}
use Rattle.uno_model.specs.Entities.{Entity}
use Rattle.uno_model.specs.Functions.{declared_by, declared_in}
use Rattle.uno_model.specs.Registry.{find_entity}
use Rattle.uno_model.proofs.ReachLaws.{found_place}

-- a place behind the front of a list, one in the front, and one past the end
pub behind : {A : Type 0} (xs ys : List A) (n : ℕ) → slice_get (xs ++ ys) (length xs + n) ≡ slice_get ys n
behind [] ys n = let same : 0 + n ≡ n = omega arith in ap (slice_get ys) same
behind (x ∷ xs) ys n = let next : suc (length xs) + n ≡ suc (length xs + n) = omega arith in ap (slice_get (x ∷ (xs ++ ys))) next ∙ behind xs ys n

pub in_front : {A : Type 0} (xs ys : List A) (n : ℕ) (v : A) → slice_get xs n ≡ Some v → slice_get (xs ++ ys) n ≡ Some v
in_front [] ys n v at = let bad : None ≡ Some v = at in cc
in_front (x ∷ xs) ys zero v at = at
in_front (x ∷ xs) ys (suc n) v at = in_front xs ys n v at

pub past_all : {A : Type 0} (xs : List A) (n : ℕ) → slice_get xs (length xs + n) ≡ None
past_all xs n = slice_get_past xs (length xs + n) (omega arith)

-- what is found in the piece that is next is there in all of them
pub found_in : {W X A : Type 0} (f : X → List A) (g : W → X) (xs : List W) (i left number : ℕ) (x : W) (v : A) → i < length xs → x ≡ get_or xs i x
    → number ≡ length (flat_map f (map g (take i xs))) + left → slice_get (f (g x)) left ≡ Some v → slice_get (flat_map f (map g xs)) number ≡ Some v
found_in f g [] i left number x v within is counts at = absurd (omega (arith, within))
found_in f g (y ∷ ys) zero left number x v within is counts at =
    let first : f (g x) ≡ f (g y) = ap (λ w. f (g w)) is in
    let here : number ≡ left = omega (arith, counts) in
    ap (slice_get (f (g y) ++ flat_map f (map g ys))) here ∙ in_front (f (g y)) (flat_map f (map g ys)) left v (ap (λ l. slice_get l left) (sym first) ∙ at)
found_in f g (y ∷ ys) (suc i) left number x v within is counts at =
    let rest = length (flat_map f (map g (take i ys))) + left in
    let parts = length-append (f (g y)) (flat_map f (map g (take i ys))) in
    let here : number ≡ length (f (g y)) + rest = omega (arith, counts, parts) in
    ap (slice_get (f (g y) ++ flat_map f (map g ys))) here ∙ behind (f (g y)) (flat_map f (map g ys)) rest
    ∙ found_in f g ys i left rest x v (omega (arith, within)) is refl at

pub found_at : {W X A : Type 0} (f : X → List A) (g : W → X) (xs : List W) (i left number : ℕ) (d : W) (v : A) → i < length xs
    → number ≡ length (flat_map f (map g (take i xs))) + left → slice_get (f (g (get_or xs i d))) left ≡ Some v → slice_get (flat_map f (map g xs)) number ≡ Some v
found_at f g xs i left number d v within counts at = found_in f g xs i left number (get_or xs i d) v within (get_or_default xs i d (get_or xs i d) within) counts at

-- where all were counted, there is none
pub none_in : {W X A : Type 0} (f : X → List A) (g : W → X) (xs : List W) (i left number : ℕ) → length xs ≤ i
    → number ≡ length (flat_map f (map g (take i xs))) + left → slice_get (flat_map f (map g xs)) number ≡ None
none_in f g xs i left number all counts =
    let here : number ≡ length (flat_map f (map g xs)) + left = counts ∙ ap (λ l. length (flat_map f (map g l)) + left) (take_all i xs all) in
    ap (slice_get (flat_map f (map g xs))) here ∙ past_all (flat_map f (map g xs)) left

-- what the entity of a name declares
pub named : (reg : List Entity) (owner : List ℕ) (e : Entity) → find_entity owner reg ≡ Some e → declared_in e.name e.body ≡ declared_by owner (find_entity owner reg)
named reg owner e found = ap (λ n. declared_in n e.body) (found_place owner reg e found).2 ∙ sym (ap (declared_by owner) found)

-- parameters that were copied, and one more
pub one_more : {A B : Type 0} (f : A → B) (old new : List A) (x : A) (ps : List B) (p : B) (count more : ℕ) → map f old ≡ take count ps → slice_get ps count ≡ Some p
    → new ≡ old ++ x ∷ [] → f x ≡ p → more ≡ count + 1 → map f new ≡ take more ps
one_more f old new x ps p count more so_far at is same next =
    let then : more ≡ suc count = omega (arith, next) in
    ap (map f) is ∙ map-append f old (x ∷ []) ∙ ap (λ l. l ++ f x ∷ []) so_far ∙ ap (λ q. take count ps ++ q ∷ []) same
    ∙ sym (take_at ps count p at) ∙ sym (ap (λ n. take n ps) then)
  where
    take_at : {B : Type 0} (qs : List B) (n : ℕ) (q : B) → slice_get qs n ≡ Some q → take (suc n) qs ≡ take n qs ++ q ∷ []
    take_at [] n q there = let bad : None ≡ Some q = there in cc
    take_at (r ∷ qs) zero q there = let one : r ≡ q = cc in ap (λ s. s ∷ []) one
    take_at (r ∷ qs) (suc n) q there = ap (λ l. r ∷ l) (take_at qs n q there)

pub all_copied : {B : Type 0} (copies ps : List B) (count : ℕ) → copies ≡ take count ps → slice_get ps count ≡ None → copies ≡ ps
all_copied copies ps count so_far none = so_far ∙ whole ps count none
  where
    whole : {B : Type 0} (qs : List B) (n : ℕ) → slice_get qs n ≡ None → take n qs ≡ qs
    whole [] zero no_more = refl
    whole [] (suc n) no_more = refl
    whole (q ∷ qs) zero no_more = let bad : Some q ≡ None = no_more in cc
    whole (q ∷ qs) (suc n) no_more = ap (λ l. q ∷ l) (whole qs n no_more)
