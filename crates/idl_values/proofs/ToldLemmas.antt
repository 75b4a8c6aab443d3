-- What is told at the place of a name is what it stands for, where places are apart; so constants and items are known by place.
use Rattle.std.proofs.Common.{◌≡◌, refl, sym, ap, subst, ◌∙◌, ℕ, zero, suc, ◌<◌, ◌==◌, Bool, true, false, not, ◌||◌, is_none, List, [], ◌∷◌, ◌++◌, length, map, get_or, slice_get, Option, None, Some, Contains, option_map, if◌then◌else◌, arith}
use Rattle.std.proofs.lemmas.Bool.{and_parts, and_from, both_ways, not-true}
use Rattle.std.proofs.lemmas.Option.{slice_get-get_or}
use Rattle.std.specs.Cmp.Lexicographic.{bytes_decides}
use Rattle.std.specs.List.{cons_option, filter, filter_map, find, list_all, list_any}
use Rattle.std.specs.Option.{option_and_then}
use Rattle.std.specs.Str.{bytes_eq}
use Rattle.idl_meaning_model.specs.Declarations.{Declared, Scope, Valued, all_valued, dotted, value_name}
use Rattle.idl_meaning_model.specs.FromFiles.{are_apart, are_identifiers, has_identifiers, leaf_places}
use Rattle.idl_meaning_model.specs.NameFaults.{NameFault, name_told, unknown, unknown_uses}
use Rattle.idl_meaning_model.specs.Scopes.{constant_named, first_of, valued_as, value_names}
use Rattle.idl_meaning_model.specs.Uses.{Use, a_value, path_of, stands_for, uses}
use Rattle.idl_meaning_model.proofs.FaultLaws.{at_itself, same_at}
use Rattle.idl_model.specs.Places.{Place, is_at}
use Rattle.idl_model.specs.Trees.{Path}
use Rattle.idl_names.specs.Opened.{AreAt, value_paths}
use Rattle.idl_names.specs.Paths.{Parts}
use Rattle.idl_names.specs.Standing.{AreOnce, IsRight, name_at}
use Rattle.idl_names.specs.Telling.{AreRight, named_of, told_among}
use Rattle.idl_names.proofs.NameLaws.{all_value_names, same_name}
use Rattle.idl_names.proofs.StandLemmas.{value_paths_right}
use Rattle.idl_trees.specs.Names.{place_of}
use Rattle.idl_trees.specs.declared.place.Place as code
use Rattle.idl_values.specs.Graph.{AreKnown, AreLow}
use Rattle.idl_values.specs.Places.{first_place, known_by, noted_at}
use Rattle.idl_values.specs.Told.{later, number_told}
use Rattle.idl_values.proofs.OrderLemmas.{used_there}
use Rattle.idl_values.proofs.PlaceLemmas.{first_low, first_mapped, found_at}

abbrev use_place : Use → Place
use_place u = (path_of u.used).place

-- ---- places that are apart

any_front : {X : Type 0} (test : X → Bool) (xs ys : List X) → list_any test (xs ++ ys) ≡ false → list_any test xs ≡ false
any_front test [] ys none = refl
any_front {X = X} test (x ∷ xs) ys none = by_test (test x) none (any_front test xs ys)
  where
    by_test : (b : Bool) → (b || list_any test (xs ++ ys)) ≡ false → (list_any test (xs ++ ys) ≡ false → list_any test xs ≡ false) → (b || list_any test xs) ≡ false
    by_test true none' rest = none'
    by_test false none' rest = rest none'

apart_front : (xs ys : List Place) → are_apart (xs ++ ys) ≡ true → are_apart xs ≡ true
unfolding are_apart
apart_front [] ys apart = refl
apart_front (x ∷ xs) ys apart =
    let parts = and_parts (not (list_any (is_at x) (xs ++ ys))) (are_apart (xs ++ ys)) apart in
    and_from (not (list_any (is_at x) xs)) (are_apart xs) (ap not (any_front (is_at x) xs ys (not-true (list_any (is_at x) (xs ++ ys)) parts.0))) (apart_front xs ys parts.1)

apart_behind : (xs ys : List Place) → are_apart (xs ++ ys) ≡ true → are_apart ys ≡ true
unfolding are_apart
apart_behind [] ys apart = apart
apart_behind (x ∷ xs) ys apart = apart_behind xs ys (and_parts (not (list_any (is_at x) (xs ++ ys))) (are_apart (xs ++ ys)) apart).1

pub uses_apart : (ds : List Declared) → are_apart (leaf_places ds) ≡ true → are_apart (map use_place (uses ds)) ≡ true
unfolding leaf_places
uses_apart ds apart = apart_front (map use_place (uses ds)) _ (apart_behind (map (λ (d : Declared). d.name.place) ds) _ apart)

-- ---- what is told at a place

-- the first of names is told so, and the others behind it
record FirstTold (paths : List Parts) (names : List (code.Place × ℕ)) (p : Place) (nm : List ℕ) (others : List (Place × List ℕ)) : Type 0 where
  x : code.Place × ℕ
  xs : List (code.Place × ℕ)
  split : names ≡ x ∷ xs
  at : place_of x.0 ≡ p
  name : name_at paths x.1 ≡ nm
  rest : named_of paths xs ≡ others

-- at a place the number is told of a name
pub record IsTold (paths : List Parts) (names : List (code.Place × ℕ)) (p : Place) (nm : List ℕ) : Type 0 where
  pub number : ℕ
  pub told : number_told names p ≡ Some number
  pub name : name_at paths number ≡ nm
  pub right : IsRight paths (Some number)

module _ (paths : List Parts) (ds : List Declared) where
  -- names with what they stand for, one behind the other
  first_told : (u : Use) (us : List Use) (names : List (code.Place × ℕ)) (nm : List ℕ) → stands_for ds u ≡ Some nm → named_of paths names ≡ told_among ds (u ∷ us)
      → FirstTold paths names (use_place u) nm (told_among ds us)
  unfolding told_among
  first_told u us names nm is same = by_names names (same ∙ ap (λ o. name_told (use_place u) o ++ told_among ds us) is)
    where
      by_names : (ns : List (code.Place × ℕ)) → named_of paths ns ≡ (use_place u, nm) ∷ told_among ds us → FirstTold paths ns (use_place u) nm (told_among ds us)
      by_names [] here = let bad : ⊥ = cc in absurd bad
      by_names (x ∷ xs) here =
          let first : ◌≡◌ {A = Place × List ℕ} (place_of x.0, name_at paths x.1) (use_place u, nm) = cc in
          let rest : ◌≡◌ {A = List (Place × List ℕ)} (named_of paths xs) (told_among ds us) = cc in
          record { x = x; xs = xs; split = refl; at = ap (λ (k : Place × List ℕ). k.0) first; name = ap (λ (k : Place × List ℕ). k.1) first; rest = rest }

  rest_told : (u : Use) (us : List Use) (names : List (code.Place × ℕ)) → stands_for ds u ≡ None → named_of paths names ≡ told_among ds (u ∷ us) → named_of paths names ≡ told_among ds us
  unfolding told_among
  rest_told u us names is same = same ∙ ap (λ o. name_told (use_place u) o ++ told_among ds us) is

  -- nothing is told where no name is used
  none_told : (us : List Use) (names : List (code.Place × ℕ)) (p : Place) → named_of paths names ≡ told_among ds us → list_any (is_at p) (map use_place us) ≡ false → number_told names p ≡ None
  unfolding number_told told_among
  none_told [] [] p same none = refl
  none_told [] (x ∷ xs) p same none = let bad : ⊥ = cc in absurd bad
  none_told (u ∷ us) names p same none = by_use (λ ns. none_told us ns p) (stands_for ds u) refl
    where
      parts : (b c : Bool) → (b || c) ≡ false → (b ≡ false) × (c ≡ false)
      parts true c is = let bad : ⊥ = cc in absurd bad
      parts false c is = (refl, is)

      by_use : ((ns : List (code.Place × ℕ)) → named_of paths ns ≡ told_among ds us → list_any (is_at p) (map use_place us) ≡ false → number_told ns p ≡ None) → (o : Option (List ℕ)) → stands_for ds u ≡ o → number_told names p ≡ None
      by_use again None is = again names (rest_told u us names is same) (parts (is_at p (use_place u)) (list_any (is_at p) (map use_place us)) none).1
      by_use again (Some nm) is =
          let it = first_told u us names nm is same in
          let both = parts (is_at p (use_place u)) (list_any (is_at p) (map use_place us)) none in
          ap (λ ns. number_told ns p) it.split ∙ elsewhere it.x it.xs it.at both.0 (again it.xs it.rest both.1)
        where
          elsewhere : (x : code.Place × ℕ) (xs : List (code.Place × ℕ)) → place_of x.0 ≡ use_place u → is_at p (use_place u) ≡ false → number_told xs p ≡ None → number_told (x ∷ xs) p ≡ None
          elsewhere x xs at other rest = ap (later (if is_at (place_of x.0) p then Some x.1 else None)) rest ∙ by_test (is_at (place_of x.0) p) refl
            where
              by_test : (b : Bool) → is_at (place_of x.0) p ≡ b → (if b then Some x.1 else None) ≡ None
              by_test false here = refl
              by_test true here =
                  let one : place_of x.0 ≡ p = same_at (place_of x.0) p here in
                  absurd (both_ways (is_at p (use_place u)) other (subst (λ q. is_at q (use_place u) ≡ true) (sym at ∙ one) (at_itself (use_place u))))

  -- at the place of a name the number is told of what it stands for
  pub told_there : (us : List Use) (names : List (code.Place × ℕ)) (u : Use) (nm : List ℕ) → named_of paths names ≡ told_among ds us → AreRight paths names → are_apart (map use_place us) ≡ true → Contains us u
      → stands_for ds u ≡ Some nm → IsTold paths names (use_place u) nm
  unfolding number_told are_apart
  told_there [] names u nm same right apart (k, low, is) stands = absurd (omega (arith, low))
  told_there (v ∷ us) names u nm same right apart in' stands =
      let parts = and_parts (not (list_any (is_at (use_place v)) (map use_place us))) (are_apart (map use_place us)) apart in
      let none = not-true (list_any (is_at (use_place v)) (map use_place us)) parts.0 in
      by_first (λ ns. told_there us ns u nm) (stands_for ds v) refl none parts.1 in'
    where
      behind : (x : code.Place × ℕ) (xs : List (code.Place × ℕ)) → IsTold paths xs (use_place u) nm
          → IsTold paths (x ∷ xs) (use_place u) nm
      behind x xs it = record { number = it.number; told = ap (later (if is_at (place_of x.0) (use_place u) then Some x.1 else None)) it.told; name = it.name; right = it.right }

      here : (x : code.Place × ℕ) (xs : List (code.Place × ℕ)) → place_of x.0 ≡ use_place u → name_at paths x.1 ≡ nm → IsRight paths (Some x.1) → number_told xs (use_place u) ≡ None
          → IsTold paths (x ∷ xs) (use_place u) nm
      here x xs at name is none =
          record {
            number = x.1;
            told =
                ap (later (if is_at (place_of x.0) (use_place u) then Some x.1 else None)) none
                ∙ ap (λ b. if b then Some x.1 else None) (subst (λ q. is_at q (use_place u) ≡ true) (sym at) (at_itself (use_place u)));
            name = name;
            right = is;
          }

      by_first : ((ns : List (code.Place × ℕ)) → named_of paths ns ≡ told_among ds us → AreRight paths ns → are_apart (map use_place us) ≡ true → Contains us u → stands_for ds u ≡ Some nm → IsTold paths ns (use_place u) nm)
          → (o : Option (List ℕ)) → stands_for ds v ≡ o → list_any (is_at (use_place v)) (map use_place us) ≡ false → are_apart (map use_place us) ≡ true → Contains (v ∷ us) u
          → IsTold paths names (use_place u) nm
      by_first again None is none rest (zero, low, one) = let bad : None ≡ Some nm = sym is ∙ ap (stands_for ds) one ∙ stands in absurd (cc)
      by_first again None is none rest (suc k, low, one) = again names (rest_told v us names is same) right rest (k, omega (arith, low), one) stands
      by_first again (Some other) is none rest (zero, low, one) =
          let it = first_told v us names other is same in
          let all = subst (AreRight paths) it.split right in
          let named : other ≡ nm = let both : Some other ≡ Some nm = sym is ∙ ap (stands_for ds) one ∙ stands in cc in
          subst (λ ns. IsTold paths ns (use_place u) nm) (sym it.split)
          (here it.x it.xs (it.at ∙ ap use_place one) (it.name ∙ named) all.0
          (none_told us it.xs (use_place u) it.rest (subst (λ w. list_any (is_at (use_place w)) (map use_place us) ≡ false) one none)))
      by_first again (Some other) is none rest (suc k, low, one) =
          let it = first_told v us names other is same in
          let all = subst (AreRight paths) it.split right in
          subst (λ ns. IsTold paths ns (use_place u) nm) (sym it.split)
          (behind it.x it.xs (again it.xs it.rest all.1 rest (k, omega (arith, low), one) stands))

-- ---- each name stands for something

abbrev unknown_of : List Declared → List Use → List (Place × NameFault)
unknown_of ds us = map (λ u. (use_place u, unknown)) (filter (λ u. is_none (stands_for ds u)) us)

some_unknown : (ds : List Declared) (us : List Use) (u : Use) → Contains us u → is_none (stands_for ds u) ≡ true → unknown_of ds us ≡ [] → ⊥
some_unknown ds [] u (k, low, is) none empty = omega (arith, low)
some_unknown ds (v ∷ us) u (zero, low, is) none empty = first (is_none (stands_for ds v)) (subst (λ w. is_none (stands_for ds w) ≡ true) (sym is) none) empty
  where
    first : (b : Bool) → b ≡ true → map {B = Place × NameFault} (λ w. (use_place w, unknown)) (if b then v ∷ filter (λ w. is_none (stands_for ds w)) us else filter (λ w. is_none (stands_for ds w)) us) ≡ [] → ⊥
    first true here empty' = cc
    first false here empty' = cc
some_unknown ds (v ∷ us) u (suc k, low, is) none empty = later' (is_none (stands_for ds v)) (some_unknown ds us u (k, omega (arith, low), is) none) empty
  where
    later' : (b : Bool) → (unknown_of ds us ≡ [] → ⊥)
        → map {B = Place × NameFault} (λ w. (use_place w, unknown)) (if b then v ∷ filter (λ w. is_none (stands_for ds w)) us else filter (λ w. is_none (stands_for ds w)) us) ≡ [] → ⊥
    later' true rest empty' = cc
    later' false rest empty' = rest empty'

pub all_stand : (ds : List Declared) (u : Use) → unknown_uses ds ≡ [] → Contains (uses ds) u → (nm : List ℕ) × (stands_for ds u ≡ Some nm)
unfolding unknown_uses
all_stand ds u none in' = by_use (stands_for ds u) refl
  where
    by_use : (o : Option (List ℕ)) → stands_for ds u ≡ o → (nm : List ℕ) × (stands_for ds u ≡ Some nm)
    by_use None is = absurd (some_unknown ds (uses ds) u in' (ap is_none is) none)
    by_use (Some nm) is = (nm, is)

-- ---- by name and by number

-- where each of these names is that of its number, the first of a name is the first of its number
first_two : (paths : List Parts) → AreOnce paths → (p : Parts) (n : ℕ) → are_identifiers p ≡ true → slice_get paths n ≡ Some p → (ns : List ℕ) (qs : List Parts) → list_all are_identifiers qs ≡ true → AreAt paths ns qs
    → first_place (λ q. bytes_eq (dotted p) (dotted q)) qs ≡ first_place (λ m. m == n) ns
unfolding AreAt first_place
first_two paths once p n right at [] [] all are = refl
first_two paths once p n right at [] (q ∷ qs) all are = absurd are
first_two paths once p n right at (m ∷ ms) [] all are = absurd are
first_two paths once p n right at (m ∷ ms) (q ∷ qs) all are =
    let parts = and_parts (are_identifiers q) (list_all are_identifiers qs) all in
    let here = same_name paths once p q (Some n) m right parts.0 at are.0 in
    let rest = first_two paths once p n right at ms qs parts.1 are.1 in
    λ i. if here i then Some 0 else option_map suc (rest i)

as_many : (paths : List Parts) (ns : List ℕ) (qs : List Parts) → AreAt paths ns qs → length ns ≡ length qs
unfolding AreAt
as_many paths [] [] are = refl
as_many paths [] (q ∷ qs) are = absurd are
as_many paths (n ∷ ns) [] are = absurd are
as_many paths (n ∷ ns) (q ∷ qs) are = ap suc (as_many paths ns qs are.1)

long_map : {X Y : Type 0} (f : X → Y) (xs : List X) → length (map f xs) ≡ length xs
long_map f [] = refl
long_map f (x ∷ xs) = ap suc (long_map f xs)

passes : (n : List ℕ) (xs : List Valued) (w : Valued) → find (λ v. bytes_eq n (value_name v)) xs ≡ Some w → bytes_eq n (value_name w) ≡ true
passes n [] w found = let bad : ⊥ = cc in absurd bad
passes n (x ∷ xs) w found = by_test (bytes_eq n (value_name x)) refl found (passes n xs w)
  where
    by_test : (b : Bool) → bytes_eq n (value_name x) ≡ b → (if b then Some x else find (λ v. bytes_eq n (value_name v)) xs) ≡ Some w → (find (λ v. bytes_eq n (value_name v)) xs ≡ Some w → bytes_eq n (value_name w) ≡ true)
        → bytes_eq n (value_name w) ≡ true
    by_test true on' here rest = let one : x ≡ w = cc in ap (λ (y : Valued). bytes_eq n (value_name y)) (sym one) ∙ on'
    by_test false off here rest = rest here

-- the one that is named is the first of its name
first_named : (vs : List Valued) (names : List (List ℕ)) (w : Valued) → first_of (filter_map (valued_as vs) names) ≡ Some w → valued_as vs (value_name w) ≡ Some w
unfolding valued_as
first_named vs [] w is = let bad : ⊥ = cc in absurd bad
first_named vs (n ∷ ns) w is = by_name (valued_as vs n) refl is (first_named vs ns w)
  where
    by_name : (o : Option Valued) → valued_as vs n ≡ o → first_of (cons_option o (filter_map (valued_as vs) ns)) ≡ Some w → (first_of (filter_map (valued_as vs) ns) ≡ Some w → valued_as vs (value_name w) ≡ Some w)
        → valued_as vs (value_name w) ≡ Some w
    by_name None here is' rest = rest is'
    by_name (Some x) here is' rest =
        let one : x ≡ w = cc in
        let found : valued_as vs n ≡ Some w = here ∙ ap Some one in
        ap (valued_as vs) (sym ((bytes_decides n (value_name w)).0 (passes n vs w found))) ∙ found

named_first : (vs : List Valued) (scope : Scope) (path : Path) (w : Valued) → constant_named vs scope path ≡ Some w → valued_as vs (value_name w) ≡ Some w
unfolding constant_named
named_first vs scope path w is = first_named vs (value_names scope path) w is

found_named : (vs : List Valued) (name : List ℕ) → option_and_then (slice_get vs) (first_place (λ v. bytes_eq name (value_name v)) vs) ≡ valued_as vs name
unfolding valued_as
found_named vs name = found_at (λ v. bytes_eq name (value_name v)) vs

module _ (paths : List Parts) (ds : List Declared) (once : AreOnce paths) (spelled : list_all has_identifiers ds ≡ true) (numbers : List ℕ) (are : AreAt paths numbers (value_paths ds))
    (table : List (Option ℕ)) (tabled : (n : ℕ) → get_or table n None ≡ first_place (λ m. m == n) numbers) where
  by_number : (n : ℕ) → IsRight paths (Some n) → first_place (λ v. bytes_eq (name_at paths n) (value_name v)) (all_valued ds) ≡ noted_at table n
  by_number n right =
      sym (first_mapped (bytes_eq (name_at paths n)) value_name (all_valued ds)) ∙ ap (first_place (bytes_eq (name_at paths n))) (all_value_names ds)
      ∙ first_mapped (bytes_eq (name_at paths n)) dotted (value_paths ds)
      ∙ first_two paths once (get_or paths n []) n right.1 (slice_get-get_or paths n [] right.0) numbers (value_paths ds) (value_paths_right ds spelled) are
      ∙ sym (tabled n)

  pub are_low : (told : Place → Option ℕ) → AreLow (all_valued ds) (known_by told table)
  are_low told p t is = by_number_told (told p.place) is
    where
      by_number_told : (o : Option ℕ) → option_and_then (noted_at table) o ≡ Some t → t < length (all_valued ds)
      by_number_told None is' = let bad : ⊥ = cc in absurd bad
      by_number_told (Some n) is' =
          let low = first_low (λ m. m == n) numbers t (sym (tabled n) ∙ is') in
          let many = as_many paths numbers (value_paths ds) are in
          let names = sym (long_map value_name (all_valued ds)) ∙ ap length (all_value_names ds) ∙ long_map dotted (value_paths ds) in
          omega (arith, low, many, names)

  pub are_known : (names : List (code.Place × ℕ)) (told : Place → Option ℕ) → ((p : Place) → told p ≡ number_told names p) → named_of paths names ≡ told_among ds (uses ds) → AreRight paths names
      → are_apart (leaf_places ds) ≡ true → unknown_uses ds ≡ [] → AreKnown (all_valued ds) (known_by told table)
  unfolding stands_for
  are_known names told is same right apart none v in' e origin p there =
      let used = used_there ds v in' e origin p there in
      let stands = all_stand ds (record { scope = v.scope; used = a_value p }) none used in
      let at = told_there paths ds (uses ds) names (record { scope = v.scope; used = a_value p }) stands.0 same right (uses_apart ds apart) used stands.1 in
      by_constant (constant_named (all_valued ds) v.scope p) refl at.number (is p.place ∙ at.told) stands.0 at.name at.right stands.1
    where
      by_constant : (o : Option Valued) → constant_named (all_valued ds) v.scope p ≡ o → (n : ℕ) → told p.place ≡ Some n → (nm : List ℕ) → name_at paths n ≡ nm → IsRight paths (Some n)
          → option_map value_name (constant_named (all_valued ds) v.scope p) ≡ Some nm → option_and_then (slice_get (all_valued ds)) (known_by told table p) ≡ constant_named (all_valued ds) v.scope p
      by_constant None none' n at' nm name right' stands' = let bad : None ≡ Some nm = sym (ap (option_map value_name) none') ∙ stands' in absurd (cc)
      by_constant (Some w) found n at' nm name right' stands' =
          let one : value_name w ≡ nm = let both : Some (value_name w) ≡ Some nm = sym (ap (option_map value_name) found) ∙ stands' in cc in
          ap (λ o. option_and_then (slice_get (all_valued ds)) (option_and_then (noted_at table) o)) at'
          ∙ ap (option_and_then (slice_get (all_valued ds))) (sym (by_number n right'))
          ∙ found_named (all_valued ds) (name_at paths n) ∙ ap (valued_as (all_valued ds)) (name ∙ sym one) ∙ named_first (all_valued ds) v.scope p w found ∙ sym found
