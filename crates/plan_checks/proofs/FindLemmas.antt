-- What is found in two lists, one behind the other, and in a list that is seen through a view.
use Rattle.std.proofs.Common.{◌≡◌, ℕ, ◌+◌, ◌<◌, ◌≤◌, suc, Bool, true, false, cond, not, ◌||◌, List, [], ◌∷◌, ◌++◌, length, map, drop, get_or, refl, sym, ap, ◌∙◌, arith}
use Rattle.std.proofs.Common.{Option, None, Some}
use Rattle.std.proofs.lemmas.List.{length-map, drop_more, drop_all}
use Rattle.std.proofs.lemmas.List.Folds.{find-append}
use Rattle.std.specs.List.{filter, find, flat_map, list_any, position, prefix_len}
use Rattle.std.specs.Prelude.{is_some}
use Rattle.std.specs.Option.{option_map, option_or}

prefix_map : {X Y : Type 0} (p : Y → Bool) (f : X → Y) (xs : List X) → prefix_len p (map f xs) ≡ prefix_len (λ x. p (f x)) xs
prefix_map p f [] = refl
prefix_map p f (x ∷ xs) = ap (λ n. cond (p (f x)) (1 + n) 0) (prefix_map p f xs)

pub position_map : {X Y : Type 0} (p : Y → Bool) (f : X → Y) (xs : List X) → position p (map f xs) ≡ position (λ x. p (f x)) xs
position_map p f xs = rw (prefix_map (λ y. not (p y)) f xs, length-map xs f) refl

pub position_cons : {X : Type 0} (p : X → Bool) (x : X) (xs : List X) → position p (x ∷ xs) ≡ cond (p x) (Some 0) (option_map suc (position p xs))
position_cons p x xs = grind arith

step : (b : Bool) (r s : Option ℕ) (n : ℕ) → cond b (Some 0) (option_map suc (option_or r (option_map (λ m. n + m) s))) ≡ option_or (cond b (Some 0) (option_map suc r)) (option_map (λ m. suc n + m) s)
step true r s n = refl
step false (Some i) s n = refl
step false None None n = refl
step false None (Some m) n = let same : suc (n + m) ≡ suc n + m = omega arith in ap Some same

no_more : (r : Option ℕ) → r ≡ option_map (λ m. 0 + m) r
no_more None = refl
no_more (Some m) = let same : m ≡ 0 + m = omega arith in ap Some same

pub position_append : {X : Type 0} (p : X → Bool) (xs ys : List X) → position p (xs ++ ys) ≡ option_or (position p xs) (option_map (λ m. length xs + m) (position p ys))
position_append p [] ys = no_more (position p ys)
position_append p (x ∷ xs) ys =
    position_cons p x (xs ++ ys) ∙ ap (λ r. cond (p x) (Some 0) (option_map suc r)) (position_append p xs ys) ∙ step (p x) (position p xs) (position p ys) (length xs)
    ∙ ap (λ r. option_or r (option_map (λ m. suc (length xs) + m) (position p ys))) (sym (position_cons p x xs))

-- ---- elements that are found

pub first_found : {X : Type 0} (p : X → Bool) (xs ys : List X) (x : X) → Some x ≡ find p xs → Some x ≡ find p (xs ++ ys)
first_found p xs ys x is = sym (find-append p xs ys ∙ ap (λ r. option_or r (find p ys)) (sym is))

pub then_found : {X : Type 0} (p : X → Bool) (xs ys : List X) (r : Option X) → None ≡ find p xs → r ≡ find p ys → r ≡ find p (xs ++ ys)
then_found p xs ys r none is = is ∙ sym (find-append p xs ys ∙ ap (λ s. option_or s (find p ys)) (sym none))

pub first_place : {X : Type 0} (p : X → Bool) (xs ys : List X) (i : ℕ) → Some i ≡ position p xs → Some i ≡ position p (xs ++ ys)
first_place p xs ys i is = sym (position_append p xs ys ∙ ap (λ r. option_or r (option_map (λ m. length xs + m) (position p ys))) (sym is))

pub then_place : {X : Type 0} (p : X → Bool) (xs ys : List X) (r : Option ℕ) → None ≡ position p xs → r ≡ option_map (λ m. length xs + m) (position p ys) → r ≡ position p (xs ++ ys)
then_place p xs ys r none is = is ∙ sym (position_append p xs ys ∙ ap (λ s. option_or s (option_map (λ m. length xs + m) (position p ys))) (sym none))

-- ---- whether there is one

mapped : (r : Option ℕ) → is_some (option_map suc r) ≡ is_some r
mapped None = refl
mapped (Some n) = refl

any_cons : {X : Type 0} (p : X → Bool) (x : X) (xs : List X) → is_some (position p (x ∷ xs)) ≡ (p x || is_some (position p xs))
any_cons p x xs = by (p x) refl (position p xs)
  where
    by : (b : Bool) → p x ≡ b → (r : Option ℕ) → is_some (position p (x ∷ xs)) ≡ (p x || is_some (position p xs))
    by true e r = rw (position_cons p x xs, e) refl
    by false e r = rw (position_cons p x xs, e) (mapped (position p xs))

pub any_place : {X : Type 0} (p : X → Bool) (xs : List X) → is_some (position p xs) ≡ list_any p xs
any_place p [] = refl
any_place p (x ∷ xs) = any_cons p x xs ∙ ap (λ b. p x || b) (any_place p xs)

any_found : {X : Type 0} (p : X → Bool) (xs : List X) → is_some (find p xs) ≡ list_any p xs
any_found p [] = refl
any_found p (x ∷ xs) = by (p x) refl (any_found p xs)
  where
    by : (b : Bool) → p x ≡ b → is_some (find p xs) ≡ list_any p xs → is_some (find p (x ∷ xs)) ≡ list_any p (x ∷ xs)
    by true e rest = rw e refl
    by false e rest = rw e rest

mapped_some : {X Y : Type 0} (f : X → Y) (r : Option X) → is_some r ≡ is_some (option_map f r)
mapped_some f None = refl
mapped_some f (Some x) = refl

-- the same of what is found through a view
pub some_found : {X Y : Type 0} (p : Y → Bool) (f : X → Y) (r : Option X) (ys : List Y) → option_map f r ≡ find p ys → is_some r ≡ list_any p ys
some_found p f r ys is = mapped_some f r ∙ ap is_some is ∙ any_found p ys

-- what is found passes
pub found_passes : {X : Type 0} (p : X → Bool) (xs : List X) (x : X) → find p xs ≡ Some x → p x ≡ true
found_passes p [] x is = let bad : None ≡ Some x = is in absurd cc
found_passes p (y ∷ ys) x is = by (p y) refl (found_passes p ys x)
  where
    one : Some y ≡ Some x → y ≡ x
    one here = cc

    by : (b : Bool) → p y ≡ b → (find p ys ≡ Some x → p x ≡ true) → p x ≡ true
    by true e rest = sym (ap p (one (rw e at is))) ∙ e
    by false e rest = rest (rw e at is)

-- ---- a place that is looked for from one place on

module _ {X : Type 0} (p : X → Bool) (xs : List X) where
  pub place_begins : option_map (λ n. 0 + n) (position p (drop 0 xs)) ≡ position p xs
  place_begins = sym (no_more (position p xs))

  place_at : (i : ℕ) (d : X) → i < length xs → position p (drop i xs) ≡ cond (p (get_or xs i d)) (Some 0) (option_map suc (position p (drop (i + 1) xs)))
  place_at i d within = ap (position p) (drop_more xs i d within) ∙ position_cons p (get_or xs i d) (drop (i + 1) xs)

  pub place_here : (i : ℕ) (d : X) (whole : Option ℕ) → i < length xs → p (get_or xs i d) ≡ true → option_map (λ n. i + n) (position p (drop i xs)) ≡ whole → Some i ≡ whole
  place_here i d whole within same so_far =
      let here : i ≡ i + 0 = omega arith in
      ap Some here ∙ sym (ap (option_map (λ n. i + n)) (place_at i d within ∙ ap (λ b. cond b (Some 0) (option_map suc (position p (drop (i + 1) xs)))) same)) ∙ so_far

  pub place_later : (i : ℕ) (d : X) (whole : Option ℕ) → i < length xs → p (get_or xs i d) ≡ false → option_map (λ n. i + n) (position p (drop i xs)) ≡ whole
      → option_map (λ n. (i + 1) + n) (position p (drop (i + 1) xs)) ≡ whole
  place_later i d whole within other so_far =
      further (position p (drop (i + 1) xs))
      ∙ sym (ap (option_map (λ n. i + n)) (place_at i d within ∙ ap (λ b. cond b (Some 0) (option_map suc (position p (drop (i + 1) xs)))) other)) ∙ so_far
    where
      further : (r : Option ℕ) → option_map (λ n. (i + 1) + n) r ≡ option_map (λ n. i + n) (option_map suc r)
      further None = refl
      further (Some m) = let same : (i + 1) + m ≡ i + suc m = omega arith in ap Some same

  pub place_nowhere : (i : ℕ) (whole : Option ℕ) → length xs ≤ i → option_map (λ n. i + n) (position p (drop i xs)) ≡ whole → None ≡ whole
  place_nowhere i whole past so_far = sym (ap (λ ys. option_map (λ n. i + n) (position p ys)) (drop_all i xs past)) ∙ so_far

-- ---- in what each of a list has, from one on

module _ {X Y Z : Type 0} (p : Z → Bool) (own : Y → List Z) (view : X → Y) (xs : List X) where
  next_at : (i : ℕ) (d : X) → i < length xs → own (view (get_or xs i d)) ++ flat_map own (map view (drop (i + 1) xs)) ≡ flat_map own (map view (drop i xs))
  next_at i d within = sym (ap (λ ys. flat_map own (map view ys)) (drop_more xs i d within))

  pub found_at : (i : ℕ) (d : X) (z : Z) (whole : Option Z) → i < length xs → Some z ≡ find p (own (view (get_or xs i d))) → find p (flat_map own (map view (drop i xs))) ≡ whole
      → Some z ≡ whole
  found_at i d z whole within is so_far =
      first_found p (own (view (get_or xs i d))) (flat_map own (map view (drop (i + 1) xs))) z is ∙ ap (find p) (next_at i d within) ∙ so_far

  pub passed_at : (i : ℕ) (d : X) (whole : Option Z) → i < length xs → None ≡ find p (own (view (get_or xs i d))) → find p (flat_map own (map view (drop i xs))) ≡ whole
      → find p (flat_map own (map view (drop (i + 1) xs))) ≡ whole
  passed_at i d whole within none so_far =
      then_found p (own (view (get_or xs i d))) (flat_map own (map view (drop (i + 1) xs))) (find p (flat_map own (map view (drop (i + 1) xs)))) none refl
      ∙ ap (find p) (next_at i d within) ∙ so_far

-- ---- what stays of a list

pub filter_view : {X Y : Type 0} (p : Y → Bool) (f : X → Y) (xs : List X) → map f (filter (λ x. p (f x)) xs) ≡ filter p (map f xs)
filter_view p f [] = refl
filter_view p f (x ∷ xs) = by (p (f x)) refl (filter_view p f xs)
  where
    by : (b : Bool) → p (f x) ≡ b → map f (filter (λ x. p (f x)) xs) ≡ filter p (map f xs) → map f (filter (λ x. p (f x)) (x ∷ xs)) ≡ filter p (map f (x ∷ xs))
    by true e rest = rw e (ap (λ ys. f x ∷ ys) rest)
    by false e rest = rw e rest
