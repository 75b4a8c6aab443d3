-- Lists of behaviours, offers and fields, and names that differ where a new one comes behind them.
use Rattle.std.proofs.Common.{◌≡◌, refl, sym, ap, ◌∙◌, subst, ℕ, zero, suc, Bool, true, false, not, ◌&&◌, ◌||◌, nat_lt, List, [], ◌∷◌, ◌++◌, length, map, Option, None, Some, slice_get, if◌then◌else◌}
use Rattle.std.specs.List.{AllByRecursion, list_any, find, position, position_or_len}
use Rattle.std.specs.Str.{bytes_eq}
use Rattle.std.proofs.lemmas.Bool.{and_parts}
use Rattle.std.proofs.lemmas.List.Folds.{find_at}
use Rattle.std.proofs.lemmas.Slice.Eq.{bytes_eq-Decides}
use Rattle.uno_model.specs.Entities.{Field}
use Rattle.uno_model.specs.Sound.{all_differ}
use Rattle.uno_model.proofs.Options.{same_some, none_some}
use Rattle.plan_model.specs.Building.{behind}
use Rattle.plan_model.specs.Plans.{Behaviour}

-- ---- lists

pub all_push : {X : Type 0} (P : X → Type 0) (xs : List X) (x : X) → AllByRecursion P xs → P x → AllByRecursion P (xs ++ x ∷ [])
all_push P [] x all one = (one, tt)
all_push P (y ∷ ys) x all one = (all.0, all_push P ys x all.1 one)

pub all_more : {X : Type 0} (P Q : X → Type 0) → ((x : X) → P x → Q x) → (xs : List X) → AllByRecursion P xs → AllByRecursion Q xs
all_more P Q more [] all = tt
all_more P Q more (x ∷ xs) all = (more x all.0, all_more P Q more xs all.1)

pub slice_before : {X : Type 0} (xs ys : List X) (n : ℕ) (x : X) → slice_get xs n ≡ Some x → slice_get (xs ++ ys) n ≡ Some x
slice_before [] ys n x is = absurd (none_some is)
slice_before (y ∷ xs) ys zero x is = is
slice_before (y ∷ xs) ys (suc n) x is = slice_before xs ys n x is

-- the behaviour that is found stands at the place that is found
pub at_number : (p : Behaviour → Bool) (bs : List Behaviour) (n : ℕ) (o : Option Behaviour) → find p bs ≡ o → position p bs ≡ Some n → slice_get bs n ≡ o
at_number p bs n o found is = by_test (nat_lt (position_or_len p bs) (length bs)) is
  where
    by_test : (b : Bool) → (if b then Some (position_or_len p bs) else None) ≡ Some n → slice_get bs n ≡ o
    by_test true to = subst (λ at. slice_get bs at ≡ o) (same_some to) (sym (find_at p bs) ∙ found)
    by_test false to = absurd (none_some to)

turned : (x y : List ℕ) (b : Bool) → bytes_eq y x ≡ b → bytes_eq x y ≡ false → b ≡ false
turned x y true is other = let same : bytes_eq x y ≡ true = (bytes_eq-Decides x y).1 (sym ((bytes_eq-Decides y x).0 is)) in absurd (cc)
turned x y false is other = refl

-- a name more, which is new
differ_step : (here rest there also last : Bool) → (not here && rest) ≡ true → there ≡ false → (rest ≡ true → also ≡ true) → last ≡ here || there → (not last && also) ≡ true
differ_step true rest there also last is none behind same = absurd (cc)
differ_step false rest there also last is none behind same = let more = behind is in rw (same, none, more) refl

any_last : (test : List ℕ → Bool) (names : List (List ℕ)) (n : List ℕ) → list_any test (names ++ n ∷ []) ≡ (list_any test names || test n)
any_last test [] n = or_false (test n)
  where
    or_false : (b : Bool) → (b || false) ≡ b
    or_false true = refl
    or_false false = refl
any_last test (x ∷ names) n = ap (λ b. test x || b) (any_last test names n) ∙ regrouped (test x) (list_any test names) (test n)
  where
    regrouped : (a b c : Bool) → (a || (b || c)) ≡ ((a || b) || c)
    regrouped true b c = refl
    regrouped false b c = refl

not_either : (a b : Bool) → not (a || b) ≡ true → (a ≡ false) × (not b ≡ true)
not_either true b is = absurd (cc)
not_either false b is = (refl, is)

differ_push : (names : List (List ℕ)) (n : List ℕ) → all_differ names ≡ true → not (list_any (bytes_eq n) names) ≡ true → all_differ (names ++ n ∷ []) ≡ true
unfolding all_differ
differ_push [] n differ new = refl
differ_push (x ∷ names) n differ new =
    let both = not_either (bytes_eq n x) (list_any (bytes_eq n) names) new in
    let parts = and_parts (not (list_any (bytes_eq x) names)) (all_differ names) differ in
    differ_step (list_any (bytes_eq x) names) (all_differ names) (bytes_eq x n) (all_differ (names ++ n ∷ [])) (list_any (bytes_eq x) (names ++ n ∷ [])) differ
    (turned n x (bytes_eq x n) refl both.0) (λ rest. differ_push names n rest both.1) (any_last (bytes_eq x) names n)

any_map : {X Y : Type 0} (test : Y → Bool) (f : X → Y) (xs : List X) → list_any test (map f xs) ≡ list_any (λ x. test (f x)) xs
any_map test f [] = refl
any_map test f (x ∷ xs) = ap (λ b. test (f x) || b) (any_map test f xs)

map_push : {X Y : Type 0} (f : X → Y) (xs : List X) (x : X) → map f (xs ++ x ∷ []) ≡ map f xs ++ f x ∷ []
map_push f [] x = refl
map_push f (y ∷ xs) x = ap (λ ys. f y ∷ ys) (map_push f xs x)

-- a field more, whose name is new
pub field_more : (fs : List Field) (f : Field) → all_differ (map (λ x. x.name) fs) ≡ true → not (list_any (λ x. bytes_eq f.name x.name) fs) ≡ true
    → all_differ (map (λ x. x.name) (fs ++ f ∷ [])) ≡ true
field_more fs f differ new =
    ap all_differ (map_push (λ (x : Field). x.name) fs f)
    ∙ differ_push (map (λ x. x.name) fs) f.name differ (ap not (any_map (bytes_eq f.name) (λ (x : Field). x.name) fs) ∙ new)
