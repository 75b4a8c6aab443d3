-- An index of fields by their names: what it finds, and one field more.
use Rattle.std.proofs.Common.{◌≡◌, ℕ, suc, ◌+◌, Bool, true, false, cond, List, [], ◌∷◌, ◌++◌, length, map, refl, subst, sym, ap, ◌∙◌, arith, Option, None, Some}
use Rattle.std.specs.Prelude.{is_some, slice_get}
use Rattle.std.proofs.lemmas.List.{length-map, map-append}
use Rattle.std.proofs.lemmas.List.Folds.{find_at}
use Rattle.std.specs.BTreeMap.{BTreeMap, get_by_text}
use Rattle.std.specs.Cmp.Lexicographic.{nat_list_eq_equiv, same_text}
use Rattle.std.specs.List.{find, list_any, position}
use Rattle.std.specs.Option.{option_map, option_or}
use Rattle.std.specs.Str.{bytes_eq}
use Rattle.std.specs.declared.string.String.{String}
use Rattle.uno_model.specs.Entities.{Field}
use Rattle.uno_model.specs.Kinds.{Kind}
use Rattle.uno_entities.specs.Entities.{field_of}
use Rattle.uno_entities.specs.declared.entity.Field.{Field as Stored}
use Rattle.plan_checks.proofs.FindLemmas.{any_place, position_append, position_cons}
use Rattle.plan_checks.specs.Indexes.{HasPlaces}

both : {A : Type 0} (r : Option ℕ) (i : ℕ) → r ≡ Some i → r ≡ None → A
both r i is none = absurd cc

module _ {X : Type 0} (p : X → Bool) where
  -- what is at the first place
  pub at_place : (xs : List X) (i : ℕ) → position p xs ≡ Some i → find p xs ≡ slice_get xs i
  at_place xs i is = find_at p xs ∙ grind (arith, is)

  pub at_none : (xs : List X) → position p xs ≡ None → find p xs ≡ None
  at_none [] none = refl
  at_none (x ∷ xs) none = by (p x) refl (position p xs) refl (at_none xs)
    where
      by : (b : Bool) → p x ≡ b → (r : Option ℕ) → position p xs ≡ r → (position p xs ≡ None → find p xs ≡ None) → find p (x ∷ xs) ≡ None
      by true is r at rest = both (position p (x ∷ xs)) 0 (position_cons p x xs ∙ ap (λ b. cond b (Some 0) (option_map suc (position p xs))) is) none
      by false is None at rest = rw is (rest at)
      by false is (Some i) at rest =
          both (position p (x ∷ xs)) (suc i) (position_cons p x xs ∙ ap (λ b. cond b (Some 0) (option_map suc (position p xs))) is ∙ ap (option_map suc) at) none

  place_alone : (x : X) → position p (x ∷ []) ≡ cond (p x) (Some 0) None
  place_alone x = grind arith

  pub place_with : (xs : List X) (x : X) → position p (xs ++ x ∷ []) ≡ option_or (position p xs) (option_map (λ m. length xs + m) (cond (p x) (Some 0) None))
  place_with xs x = position_append p xs (x ∷ []) ∙ ap (λ r. option_or (position p xs) (option_map (λ m. length xs + m) r)) (place_alone x)

new_case : (b : Bool) (at : Option ℕ) (n : ℕ) → (b ≡ true → is_some at ≡ false) → cond b (Some n) at ≡ option_or at (option_map (λ m. n + m) (cond b (Some 0) None))
new_case true None n absent = let same : n ≡ n + 0 = omega arith in ap Some same
new_case true (Some i) n absent = let bad : true ≡ false = absent refl in absurd cc
new_case false None n absent = refl
new_case false (Some i) n absent = refl

old_case : (b : Bool) (at : Option ℕ) (n : ℕ) → (b ≡ true → is_some at ≡ true) → at ≡ option_or at (option_map (λ m. n + m) (cond b (Some 0) None))
old_case true None n there = let bad : false ≡ true = there refl in absurd cc
old_case true (Some i) n there = refl
old_case false None n there = refl
old_case false (Some i) n there = refl

abbrev named : List ℕ → Field → Bool
named name f = bytes_eq name f.name

-- one name for another that is the same
renamed : (q : List ℕ) (f : Field) (fs : List Field) (b : Bool) → is_some (position (named f.name) fs) ≡ b → bytes_eq q f.name ≡ true → is_some (position (named q) fs) ≡ b
renamed q f fs b is same = ap (λ name. is_some (position (named name) fs)) (same_text q f.name (sym same)) ∙ is

module _ {Y : Type 0} (old new : BTreeMap (String Y) ℕ) (fs : List Field) (f : Field) (has : HasPlaces old fs) where
  pub place_more : list_any (named f.name) fs ≡ false → ((q : List ℕ) → get_by_text new q ≡ cond (bytes_eq f.name q) (Some (length fs)) (get_by_text old q)) → HasPlaces new (fs ++ f ∷ [])
  place_more absent updates q =
      updates q ∙ ap (λ b. cond b (Some (length fs)) (get_by_text old q)) (nat_list_eq_equiv.symm f.name q) ∙ ap (λ at. cond (bytes_eq q f.name) (Some (length fs)) at) (has q)
      ∙ new_case (bytes_eq q f.name) (position (named q) fs) (length fs) (renamed q f fs false (any_place (named f.name) fs ∙ absent)) ∙ sym (place_with (named q) fs f)

  pub place_again : list_any (named f.name) fs ≡ true → HasPlaces old (fs ++ f ∷ [])
  place_again there q =
      has q ∙ old_case (bytes_eq q f.name) (position (named q) fs) (length fs) (renamed q f fs true (any_place (named f.name) fs ∙ there)) ∙ sym (place_with (named q) fs f)

-- ---- what the index finds

module _ (fields seen : List Field) (name : List ℕ) (at : Option ℕ) (view : fields ≡ seen) (is : at ≡ position (named name) fields) where
  pub kind_found : (place : ℕ) (r : Option Kind) → at ≡ Some place → r ≡ option_map (λ f. f.kind) (slice_get fields place) → r ≡ option_map (λ f. f.kind) (find (named name) seen)
  kind_found place r found told =
      told ∙ ap (option_map (λ (f : Field). f.kind)) (sym (at_place (named name) fields place (sym is ∙ found))) ∙ ap (λ fs. option_map (λ (f : Field). f.kind) (find (named name) fs)) view

  pub kind_absent : at ≡ None → None ≡ option_map (λ f. f.kind) (find (named name) seen)
  kind_absent none = sym (ap (option_map (λ (f : Field). f.kind)) (at_none (named name) fields (sym is ∙ none))) ∙ ap (λ fs. option_map (λ (f : Field). f.kind) (find (named name) fs)) view

  pub is_there : is_some at ≡ list_any (named name) seen
  is_there = ap is_some is ∙ any_place (named name) fields ∙ ap (list_any (named name)) view

-- ---- one field more

one_more : (items more : List Stored) (x : Stored) → more ≡ items ++ x ∷ [] → map field_of more ≡ map field_of items ++ field_of x ∷ []
one_more items more x is = ap (map field_of) is ∙ map-append field_of items (x ∷ [])

module _ {Y : Type 0} (old new : BTreeMap (String Y) ℕ) (items room more : List Stored) (seen : List Field) (x : Stored) (name : List ℕ) (view : map field_of items ≡ seen) (has : HasPlaces old (map field_of items)) where
  pub index_more : (place : ℕ) → list_any (λ f. bytes_eq (field_of x).name f.name) seen ≡ false → room ≡ items → name ≡ x.name → place ≡ length room → more ≡ room ++ x ∷ []
      → ((q : List ℕ) → get_by_text new q ≡ cond (bytes_eq name q) (Some place) (get_by_text old q)) → HasPlaces new (map field_of more)
  index_more place absent same own last is updates =
      let at : place ≡ length (map field_of items) = last ∙ ap length same ∙ sym (length-map items field_of) in
      subst (HasPlaces new) (sym (one_more items more x (is ∙ ap (λ r. r ++ x ∷ []) same)))
      (place_more old new (map field_of items) (field_of x) has (ap (list_any (named x.name)) view ∙ absent)
      (λ q. updates q ∙ ap (λ n. cond (bytes_eq n q) (Some place) (get_by_text old q)) own ∙ ap (λ p. cond (bytes_eq x.name q) (Some p) (get_by_text old q)) at))

  pub index_again : list_any (λ f. bytes_eq name f.name) seen ≡ true → name ≡ x.name → more ≡ items ++ x ∷ [] → HasPlaces old (map field_of more)
  index_again there own is =
      subst (HasPlaces old) (sym (one_more items more x is))
      (place_again old old (map field_of items) (field_of x) has (sym (ap (λ n. list_any (named n) (map field_of items)) own) ∙ ap (list_any (named name)) view ∙ there))
