-- Roots by their places: the one at a place is the plan's, and moves where those before it do not.
use Rattle.std.proofs.Common.{◌≡◌, refl, sym, ap, subst, ◌∙◌, ℕ, zero, suc, ◌+◌, ◌<◌, List, [], ◌∷◌, ◌++◌, length, map, take, drop, get_or, slice_set, Option, None, Some, arith}
use Rattle.std.specs.List.{AllByRecursion}
use Rattle.plan_model.specs.Roots.{Run}
use Rattle.bridge_model.specs.Entries.{Entry}
use Rattle.bridge_model.specs.Orders.{root_move}
use Rattle.bridge_model.specs.RootRuns.{moved, root_moves}
use Rattle.bridge_model.specs.Settings.{Setting}
use Rattle.bridge_model.specs.Sides.{Side}
use Rattle.answering.proofs.RootLaws.{DoesNotMove, lowest_moves, none_moves}

-- ---- lists

pub map_long : {A B : Type 0} (f : A → B) (xs : List A) → length (map f xs) ≡ length xs
map_long f [] = refl
map_long f (x ∷ xs) = ap suc (map_long f xs)

pub set_long : {A : Type 0} (xs : List A) (i : ℕ) (y : A) → length (slice_set xs i y) ≡ length xs
set_long [] i y = refl
set_long (x ∷ xs) zero y = refl
set_long (x ∷ xs) (suc i) y = ap suc (set_long xs i y)

map_set : {A B : Type 0} (f : A → B) (xs : List A) (i : ℕ) (y : A) → map f (slice_set xs i y) ≡ slice_set (map f xs) i (f y)
map_set f [] i y = refl
map_set f (x ∷ xs) zero y = refl
map_set f (x ∷ xs) (suc i) y = ap (λ zs. f x ∷ zs) (map_set f xs i y)

get_map : {A B : Type 0} (f : A → B) (xs : List A) (i : ℕ) (d : A) → f (get_or xs i d) ≡ get_or (map f xs) i (f d)
get_map f [] i d = refl
get_map f (x ∷ xs) zero d = refl
get_map f (x ∷ xs) (suc i) d = get_map f xs i d

split_at : {A : Type 0} (xs : List A) (i : ℕ) (x : A) → i < length xs → x ≡ get_or xs i x → xs ≡ take i xs ++ x ∷ drop (suc i) xs
split_at [] i x within is = absurd (omega arith)
split_at (y ∷ xs) zero x within is = ap (λ z. z ∷ xs) (sym is)
split_at (y ∷ xs) (suc i) x within is = ap (λ zs. y ∷ zs) (split_at xs i x (omega arith) is)

split_set : {A : Type 0} (xs : List A) (i : ℕ) (y : A) → i < length xs → slice_set xs i y ≡ take i xs ++ y ∷ drop (suc i) xs
split_set [] i y within = absurd (omega arith)
split_set (x ∷ xs) zero y within = refl
split_set (x ∷ xs) (suc i) y within = ap (λ zs. x ∷ zs) (split_set xs i y (omega arith))

take_next : {A : Type 0} (xs : List A) (i : ℕ) (x : A) → i < length xs → x ≡ get_or xs i x → take (suc i) xs ≡ take i xs ++ x ∷ []
take_next [] i x within is = absurd (omega arith)
take_next (y ∷ xs) zero x within is = ap (λ z. z ∷ []) (sym is)
take_next (y ∷ xs) (suc i) x within is = ap (λ zs. y ∷ zs) (take_next xs i x (omega arith) is)

all_at : {A : Type 0} (P : A → Type 0) (xs : List A) (i : ℕ) (x : A) → i < length xs → x ≡ get_or xs i x → AllByRecursion P xs → P x
all_at P [] i x within is all = absurd (omega arith)
all_at P (y ∷ xs) zero x within is all = subst P (sym is) all.0
all_at P (y ∷ xs) (suc i) x within is all = all_at P xs i x (omega arith) is all.1

-- ---- roots

module _ {A : Type 0} (of : A → Run) (items : List A) (i : ℕ) (was now : A) (within : i < length items) (is : was ≡ get_or items i was) where
  inside : i < length (map of items)
  inside = let long = map_long of items in omega (arith, long, within)

  there : of was ≡ get_or (map of items) i (of was)
  there = ap of is ∙ get_map of items i was

  pub root_at : (P : Run → Type 0) → AllByRecursion P (map of items) → P (of was)
  root_at P all = all_at P (map of items) i (of was) inside there all

  pub set_at : map of (slice_set items i now) ≡ take i (map of items) ++ of now ∷ drop (suc i) (map of items)
  set_at = map_set of items i now ∙ split_set (map of items) i (of now) inside

  -- it moves
  pub moves_at : (g : Setting) (s : Side) (x : Option Entry) → root_move g s (take i (map of items)) ≡ None → root_moves g s (of was) ≡ moved (of now) x
      → root_move g s (map of items) ≡ Some (record { runs = map of (slice_set items i now); entry = x })
  moves_at g s x none moves =
      ap (root_move g s) (split_at (map of items) i (of was) inside there)
      ∙ (lowest_moves g s (take i (map of items)) (drop (suc i) (map of items)) (of was) (of now) x none moves ∙ ap (λ rs. Some (record { runs = rs; entry = x })) (sym set_at))

  -- it does not
  pub same_at : of now ≡ of was → map of (slice_set items i now) ≡ map of items
  same_at same =
      set_at ∙ (ap (λ r. take i (map of items) ++ r ∷ drop (suc i) (map of items)) same ∙ sym (split_at (map of items) i (of was) inside there))

  pub none_at : (g : Setting) (s : Side) → root_move g s (take i (map of items)) ≡ None → DoesNotMove (root_moves g s (of was)) → root_move g s (take (suc i) (map of items)) ≡ None
  none_at g s none still =
      ap (root_move g s) (take_next (map of items) i (of was) inside there) ∙ none_moves g s (take i (map of items)) (of was) none still

pub none_first : (g : Setting) (s : Side) → root_move g s [] ≡ None
unfolding root_move
none_first g s = refl
