-- Variables that are found by their names, which are noted in their order.
use Rattle.std.proofs.Common.{◌≡◌, ℕ, zero, suc, Bool, true, false, cond, not, ◌||◌, List, [], ◌∷◌, ◌++◌, map, refl, sym, ap, ◌∙◌, Option, None, Some}
use Rattle.std.proofs.lemmas.List.{map-append}
use Rattle.std.specs.List.{filter, find, list_any, position}
use Rattle.std.specs.Option.{option_map}
use Rattle.std.specs.Prelude.{remove, slice_get}
use Rattle.std.specs.Str.{bytes_eq}
use Rattle.indexmap.specs.IndexSet.{remove_key}
use Rattle.plan_model.specs.Contexts as plain
use Rattle.plan_checks.proofs.FindLemmas.{position_cons, position_map}
use Rattle.plan_checks.proofs.IndexLemmas.{at_place, at_none}
use Rattle.plan_checks.specs.Variables.{names_of, scoped_of}
use Rattle.plan_checks.specs.declared.scope.scoped.Scoped.{Scoped}

-- ---- the first element that passes a test, taken out

module _ {X : Type 0} (p : X → Bool) where
  place_of : (b : Bool) (x : X) (xs : List X) (i : ℕ) → p x ≡ b → position p (x ∷ xs) ≡ Some i → cond b (Some 0) (option_map suc (position p xs)) ≡ Some i
  place_of b x xs i is at = sym (position_cons p x xs ∙ ap (λ b. cond b (Some 0) (option_map suc (position p xs))) is) ∙ at

  behind : (r : Option ℕ) (i : ℕ) → option_map suc r ≡ Some (suc i) → r ≡ Some i
  behind None i is = let bad : None ≡ Some (suc i) = is in absurd cc
  behind (Some j) i is = let same : Some (suc j) ≡ Some (suc i) = is in let one : suc j ≡ suc i = cc in let less : j ≡ i = cc in ap Some less

  never_first : {A : Type 0} (r : Option ℕ) → option_map suc r ≡ Some 0 → A
  never_first None is = let bad : ◌≡◌ {A = Option ℕ} None (Some 0) = is in absurd cc
  never_first (Some j) is = let bad : ◌≡◌ {A = Option ℕ} (Some (suc j)) (Some 0) = is in absurd cc

  none_less : (xs : List X) → list_any p xs ≡ false → xs ≡ filter (λ x. not (p x)) xs
  none_less [] none = refl
  none_less (x ∷ xs) none = by (p x) refl (none_less xs)
    where
      by : (b : Bool) → p x ≡ b → (list_any p xs ≡ false → xs ≡ filter (λ x. not (p x)) xs) → x ∷ xs ≡ filter (λ x. not (p x)) (x ∷ xs)
      by true is rest = let bad : true ≡ false = sym (ap (λ b. b || list_any p xs) is) ∙ none in absurd cc
      by false is rest = rw is (ap (λ ys. x ∷ ys) (rest (sym (ap (λ b. b || list_any p xs) is) ∙ none)))

  -- where no other passes, all others are left
  pub all_others : (xs : List X) (i : ℕ) → position p xs ≡ Some i → list_any p (remove xs i) ≡ false → remove xs i ≡ filter (λ x. not (p x)) xs
  all_others [] i at none = let bad : None ≡ Some i = at in absurd cc
  all_others (x ∷ xs) zero at none = by (p x) refl
    where
      by : (b : Bool) → p x ≡ b → xs ≡ filter (λ x. not (p x)) (x ∷ xs)
      by true is = rw is (none_less xs none)
      by false is = never_first (position p xs) (place_of false x xs zero is at)
  all_others (x ∷ xs) (suc i) at none = by (p x) refl (all_others xs i)
    where
      by : (b : Bool) → p x ≡ b → (position p xs ≡ Some i → list_any p (remove xs i) ≡ false → remove xs i ≡ filter (λ x. not (p x)) xs)
          → x ∷ remove xs i ≡ filter (λ x. not (p x)) (x ∷ xs)
      by true is rest = let bad : ◌≡◌ {A = Option ℕ} (Some 0) (Some (suc i)) = place_of true x xs (suc i) is at in absurd cc
      by false is rest = rw is (ap (λ ys. x ∷ ys) (rest (behind (position p xs) i (place_of false x xs (suc i) is at)) (sym (ap (λ b. b || list_any p (remove xs i)) is) ∙ none)))

  pub key_taken : (xs : List X) (i : ℕ) → position p xs ≡ Some i → remove_key p xs ≡ remove xs i
  key_taken [] i at = let bad : None ≡ Some i = at in absurd cc
  key_taken (x ∷ xs) zero at = by (p x) refl
    where
      by : (b : Bool) → p x ≡ b → remove_key p (x ∷ xs) ≡ xs
      by true is = rw is refl
      by false is = never_first (position p xs) (place_of false x xs zero is at)
  key_taken (x ∷ xs) (suc i) at = by (p x) refl (key_taken xs i)
    where
      by : (b : Bool) → p x ≡ b → (position p xs ≡ Some i → remove_key p xs ≡ remove xs i) → remove_key p (x ∷ xs) ≡ x ∷ remove xs i
      by true is rest = let bad : ◌≡◌ {A = Option ℕ} (Some 0) (Some (suc i)) = place_of true x xs (suc i) is at in absurd cc
      by false is rest = rw is (ap (λ ys. x ∷ ys) (rest (behind (position p xs) i (place_of false x xs (suc i) is at))))

  lost : (r : Option ℕ) → option_map suc r ≡ None → r ≡ None
  lost None is = refl
  lost (Some j) is = let bad : Some (suc j) ≡ None = is in absurd cc

  no_place : (b : Bool) (x : X) (xs : List X) → p x ≡ b → position p (x ∷ xs) ≡ None → cond b (Some 0) (option_map suc (position p xs)) ≡ None
  no_place b x xs is at = sym (position_cons p x xs ∙ ap (λ b. cond b (Some 0) (option_map suc (position p xs))) is) ∙ at

  pub no_key : (xs : List X) → position p xs ≡ None → remove_key p xs ≡ xs
  no_key [] at = refl
  no_key (x ∷ xs) at = by (p x) refl (no_key xs)
    where
      by : (b : Bool) → p x ≡ b → (position p xs ≡ None → remove_key p xs ≡ xs) → remove_key p (x ∷ xs) ≡ x ∷ xs
      by true is rest = let bad : ◌≡◌ {A = Option ℕ} (Some 0) None = no_place true x xs is at in absurd cc
      by false is rest = rw is (ap (λ ys. x ∷ ys) (rest (lost (position p xs) (no_place false x xs is at))))

  -- where none passes all are left
  pub none_passes : (xs : List X) → position p xs ≡ None → xs ≡ filter (λ x. not (p x)) xs
  none_passes [] at = refl
  none_passes (x ∷ xs) at = by (p x) refl (none_passes xs)
    where
      by : (b : Bool) → p x ≡ b → (position p xs ≡ None → xs ≡ filter (λ x. not (p x)) xs) → x ∷ xs ≡ filter (λ x. not (p x)) (x ∷ xs)
      by true is rest = let bad : ◌≡◌ {A = Option ℕ} (Some 0) None = no_place true x xs is at in absurd cc
      by false is rest = rw is (ap (λ ys. x ∷ ys) (rest (lost (position p xs) (no_place false x xs is at))))

removed_view : {X Y : Type 0} (f : X → Y) (xs : List X) (i : ℕ) → map f (remove xs i) ≡ remove (map f xs) i
removed_view f [] zero = refl
removed_view f [] (suc i) = refl
removed_view f (x ∷ xs) zero = refl
removed_view f (x ∷ xs) (suc i) = ap (λ ys. f x ∷ ys) (removed_view f xs i)

any_view : {X Y : Type 0} (p : Y → Bool) (f : X → Y) (xs : List X) → list_any p (map f xs) ≡ list_any (λ x. p (f x)) xs
any_view p f [] = refl
any_view p f (x ∷ xs) = ap (λ b. p (f x) || b) (any_view p f xs)

-- ---- names that are noted

abbrev named : List ℕ → plain.Scoped → Bool
named name x = bytes_eq name x.name

abbrev views : List Scoped → List plain.Scoped
views xs = map scoped_of xs

module _ (name : List ℕ) (xs seen : List plain.Scoped) (keys : List (List ℕ)) (at : Option ℕ) (view : xs ≡ seen) (noted : keys ≡ names_of xs) (is : at ≡ position (bytes_eq name) keys) where
  place_named : at ≡ position (named name) xs
  place_named = is ∙ ap (position (bytes_eq name)) noted ∙ position_map (bytes_eq name) (λ (x : plain.Scoped). x.name) xs

  pub named_found : (place : ℕ) (r : Option plain.Scoped) → at ≡ Some place → r ≡ slice_get xs place → r ≡ find (named name) seen
  named_found place r found told = told ∙ sym (at_place (named name) xs place (sym place_named ∙ found)) ∙ ap (find (named name)) view

  pub named_absent : at ≡ None → None ≡ find (named name) seen
  named_absent none = sym (at_none (named name) xs (sym place_named ∙ none)) ∙ ap (find (named name)) view

  pub names_kept : (new : List (List ℕ)) → new ≡ remove_key (bytes_eq name) keys → at ≡ None → new ≡ names_of xs
  names_kept new less none = less ∙ no_key (bytes_eq name) keys (sym is ∙ none) ∙ noted

  -- a name that none has is taken out
  pub taken_absent : at ≡ None → xs ≡ filter (λ x. not (named name x)) seen
  taken_absent none = none_passes (named name) xs (sym place_named ∙ none) ∙ ap (filter (λ x. not (named name x))) view

module _ (name : List ℕ) (items left : List Scoped) (seen : List plain.Scoped) (keys new : List (List ℕ)) (place : ℕ) (view : views items ≡ seen) (noted : keys ≡ names_of (views items))
    (is : position (bytes_eq name) keys ≡ Some place) (less : left ≡ remove items place) (keys_less : new ≡ remove_key (bytes_eq name) keys) where
  name_place : position (named name) (views items) ≡ Some place
  name_place = sym (ap (position (bytes_eq name)) noted ∙ position_map (bytes_eq name) (λ (x : plain.Scoped). x.name) (views items)) ∙ is

  views_left : views left ≡ remove (views items) place
  views_left = ap views less ∙ removed_view scoped_of items place

  -- what is left of the names are those of the variables that are left
  pub names_left : new ≡ names_of (views left)
  names_left =
      keys_less ∙ key_taken (bytes_eq name) keys place is ∙ ap (λ ns. remove ns place) noted
      ∙ sym (ap names_of views_left ∙ removed_view (λ (x : plain.Scoped). x.name) (views items) place)

  -- and these are all the others
  pub others_left : list_any (bytes_eq name) new ≡ false → views left ≡ filter (λ x. not (named name x)) seen
  others_left gone =
      let none : list_any (named name) (remove (views items) place) ≡ false =
      ap (list_any (named name)) (sym views_left) ∙ sym (any_view (bytes_eq name) (λ (x : plain.Scoped). x.name) (views left)) ∙ ap (list_any (bytes_eq name)) (sym names_left) ∙ gone in
      views_left ∙ all_others (named name) (views items) place name_place none ∙ ap (filter (λ x. not (named name x))) view

-- ---- one variable more

pub noted_more : (keys new : List (List ℕ)) (items room more : List Scoped) (x : Scoped) → keys ≡ names_of (views items) → new ≡ keys ++ x.name ∷ [] → room ≡ items → more ≡ room ++ x ∷ []
    → new ≡ names_of (views more)
noted_more keys new items room more x noted behind same pushed =
    let all : names_of (views more) ≡ names_of (views items) ++ x.name ∷ [] =
    ap (λ ys. names_of (views ys)) (pushed ∙ ap (λ ys. ys ++ x ∷ []) same) ∙ ap names_of (map-append scoped_of items (x ∷ []))
    ∙ map-append (λ (y : plain.Scoped). y.name) (views items) (scoped_of x ∷ []) in
    behind ∙ ap (λ ns. ns ++ x.name ∷ []) noted ∙ sym all
