-- One name after the other is told.
use Rattle.std.proofs.Common.{◌≡◌, refl, sym, ap, subst, ◌∙◌, ℕ, ◌+◌, ◌<◌, Bool, true, false, is_none, List, [], ◌∷◌, ◌++◌, map, length, take, get_or, Option, None, Some, append_assoc, append-nil, if◌then◌else◌, option_map}
use Rattle.std.specs.List.{filter, flat_map, list_all}
use Rattle.std.proofs.lemmas.Bool.{and_parts, and_from}
use Rattle.std.proofs.lemmas.List.{map-append}
use Rattle.std.proofs.lemmas.List.Folds.{list_all-append}
use Rattle.idl_meaning_model.specs.Declarations as model
use Rattle.idl_meaning_model.specs.Declarations.{Scope, scope_of}
use Rattle.idl_meaning_model.specs.FromFiles.{are_identifiers, is_spelled_use}
use Rattle.idl_meaning_model.specs.NameFaults.{NameFault, unknown, name_told}
use Rattle.idl_meaning_model.specs.Uses as meant
use Rattle.idl_meaning_model.specs.Uses.{Use, path_of, stands_for, used_in, used_meant, uses, uses_of}
use Rattle.idl_model.specs.Places.{Place}
use Rattle.idl_names.specs.Collected.{declared_of}
use Rattle.idl_names.specs.Faults.{all_faults_of}
use Rattle.idl_names.specs.Paths.{Parts}
use Rattle.idl_names.specs.Standing.{Finds, IsRight, name_at}
use Rattle.idl_names.specs.Telling.{AreRight, TellsOne, TellsUses, named_of, unknown_among, told_among, unknown_at, told_at, uses_there}
use Rattle.idl_names.specs.Used.{all_used_of, used_of}
use Rattle.idl_names.specs.declared.declaration.Declared.{Declared}
use Rattle.idl_names.specs.declared.telling.Told.{Told}
use Rattle.idl_names.specs.declared.used.Used.{Used}
use Rattle.idl_names.proofs.AloneLemmas.{kept_append, joined_append, one_true}
use Rattle.idl_names.proofs.UsedLemmas.{one_taken, one_joined}
use Rattle.idl_trees.specs.Names.{place_of}
use Rattle.idl_trees.specs.declared.place.Place as code

unknown_both : (ds : List model.Declared) (us vs : List Use) → unknown_among ds (us ++ vs) ≡ unknown_among ds us ++ unknown_among ds vs
unfolding unknown_among
unknown_both ds us vs =
    let test = λ (u : Use). is_none (stands_for ds u) in
    ap (map (λ (u : Use). ((path_of u.used).place, unknown))) (kept_append test us vs) ∙ map-append (λ (u : Use). ((path_of u.used).place, unknown)) (filter test us) (filter test vs)

told_both : (ds : List model.Declared) (us vs : List Use) → told_among ds (us ++ vs) ≡ told_among ds us ++ told_among ds vs
unfolding told_among
told_both ds us vs = joined_append (λ (u : Use). name_told (path_of u.used).place (stands_for ds u)) us vs

pub tells_none : (paths : List Parts) (ds : List model.Declared) (a : Told) → TellsUses paths ds a [] a
unfolding unknown_among told_among
tells_none paths ds a = record { faults = sym (append-nil (all_faults_of a.faults.items)); names = sym (append-nil (named_of paths a.names.items)); right = λ right. right }

pub tells_both : (paths : List Parts) (ds : List model.Declared) (a b c : Told) (us vs : List Use) → TellsUses paths ds a us b → TellsUses paths ds b vs c → TellsUses paths ds a (us ++ vs) c
tells_both paths ds a b c us vs one two =
    record {
      faults =
          two.faults ∙ ap (λ k. k ++ unknown_among ds vs) one.faults ∙ append_assoc (all_faults_of a.faults.items) (unknown_among ds us) (unknown_among ds vs)
          ∙ ap (λ k. all_faults_of a.faults.items ++ k) (sym (unknown_both ds us vs));
      names =
          two.names ∙ ap (λ k. k ++ told_among ds vs) one.names ∙ append_assoc (named_of paths a.names.items) (told_among ds us) (told_among ds vs)
          ∙ ap (λ k. named_of paths a.names.items ++ k) (sym (told_both ds us vs));
      right = λ right. two.right (one.right right);
    }

-- ---- one name

abbrev unknown_if : Place → Option (List ℕ) → List (Place × NameFault)
unknown_if place o = if is_none o then (place, unknown) ∷ [] else []

unknown_one : (ds : List model.Declared) (u : Use) → unknown_among ds (u ∷ []) ≡ unknown_if (path_of u.used).place (stands_for ds u)
unfolding unknown_among
unknown_one ds u = by_test (is_none (stands_for ds u))
  where
    by_test : (b : Bool) → map {B = Place × NameFault} (λ (v : Use). ((path_of v.used).place, unknown)) (if b then u ∷ [] else []) ≡ (if b then ((path_of u.used).place, unknown) ∷ [] else [])
    by_test true = refl
    by_test false = refl

told_one : (ds : List model.Declared) (u : Use) → told_among ds (u ∷ []) ≡ name_told (path_of u.used).place (stands_for ds u)
unfolding told_among
told_one ds u = append-nil (name_told (path_of u.used).place (stands_for ds u))

faults_same : (paths : List Parts) (place : code.Place) (found : Option ℕ) → unknown_at place found ≡ unknown_if (place_of place) (option_map (name_at paths) found)
faults_same paths place None = refl
faults_same paths place (Some n) = refl

names_same : (paths : List Parts) (place : code.Place) (found : Option ℕ) → named_of paths (told_at place found) ≡ name_told (place_of place) (option_map (name_at paths) found)
names_same paths place None = refl
names_same paths place (Some n) = refl

right_behind : (paths : List Parts) (xs ys : List (code.Place × ℕ)) → AreRight paths xs → AreRight paths ys → AreRight paths (xs ++ ys)
right_behind paths [] ys first rest = rest
right_behind paths (x ∷ xs) ys first rest = (first.0, right_behind paths xs ys first.1 rest)

right_told : (paths : List Parts) (place : code.Place) (found : Option ℕ) → IsRight paths found → AreRight paths (told_at place found)
right_told paths place None right = tt
right_told paths place (Some n) right = (right, tt)

pub tells_one : (paths : List Parts) (ds : List model.Declared) (a b : Told) (u : Use) (place : code.Place) (found : Option ℕ) → TellsOne a place found b → place_of place ≡ (path_of u.used).place
    → Finds paths found (stands_for ds u) → TellsUses paths ds a (u ∷ []) b
tells_one paths ds a b u place found one at is =
    record {
      faults =
          one.faults
          ∙ ap (λ k. all_faults_of a.faults.items ++ k) (faults_same paths place found ∙ (λ i. unknown_if (at i) (is.0 i)) ∙ sym (unknown_one ds u));
      names =
          ap (named_of paths) one.names ∙ map-append (λ (t : code.Place × ℕ). (place_of t.0, name_at paths t.1)) a.names.items (told_at place found)
          ∙ ap (λ k. named_of paths a.names.items ++ k) (names_same paths place found ∙ (λ i. name_told (at i) (is.0 i)) ∙ sym (told_one ds u));
      right = λ right. subst (AreRight paths) (sym one.names) (right_behind paths a.names.items (told_at place found) right (right_told paths place found is.1));
    }

-- ---- names that one declaration uses

pub next_use : (paths : List Parts) (ds : List model.Declared) (scope : Scope) (all : List Used) (i : ℕ) (u : Used) (a b c : Told) → i < length all → u ≡ get_or all i u
    → TellsUses paths ds a (uses_there scope (take i all)) b → TellsUses paths ds b (record { scope = scope; used = used_of u } ∷ []) c
    → TellsUses paths ds a (uses_there scope (take (i + 1) all)) c
next_use paths ds scope all i u a b c low is so_far one =
    let view : Used → Use = λ v. record { scope = scope; used = used_of v } in
    subst (λ (us : List Use). TellsUses paths ds a us c) (sym (one_taken view all i u low is))
    (tells_both paths ds a b c (uses_there scope (take i all)) (view u ∷ []) so_far one)

-- ---- one declaration after the other

pub no_uses : (paths : List Parts) (ds : List model.Declared) (a : Told) → TellsUses paths ds a (uses []) a
unfolding uses
no_uses paths ds a = tells_none paths ds a

pub next_uses : (paths : List Parts) (ds : List model.Declared) (all : List Declared) (i : ℕ) (d : Declared) (a b c : Told) → i < length all → d ≡ get_or all i d
    → TellsUses paths ds a (uses (map (declared_of paths) (take i all))) b → TellsUses paths ds b (uses_of (declared_of paths d)) c
    → TellsUses paths ds a (uses (map (declared_of paths) (take (i + 1) all))) c
unfolding uses
next_uses paths ds all i d a b c low is so_far one =
    subst (λ (us : List Use). TellsUses paths ds a us c) (sym (one_joined (declared_of paths) uses_of all i d low is))
    (tells_both paths ds a b c (flat_map uses_of (map (declared_of paths) (take i all))) (uses_of (declared_of paths d)) so_far one)

-- ---- what holds of all uses holds of those of one declaration

uses_in_one : (test : Use → Bool) (ds : List model.Declared) → list_all test (flat_map uses_of ds) ≡ true → list_all (λ d. list_all test (uses_of d)) ds ≡ true
uses_in_one test [] all = refl
uses_in_one test (d ∷ ds) all =
    let parts = and_parts (list_all test (uses_of d)) (list_all test (flat_map uses_of ds)) (sym (list_all-append test (uses_of d) (flat_map uses_of ds)) ∙ all) in
    and_from (list_all test (uses_of d)) (list_all (λ e. list_all test (uses_of e)) ds) parts.0 (uses_in_one test ds parts.1)

pub uses_at : {X : Type 0} (view : X → model.Declared) (xs : List X) (i : ℕ) (x : X) → i < length xs → x ≡ get_or xs i x → list_all is_spelled_use (uses (map view xs)) ≡ true
    → list_all is_spelled_use (uses_of (view x)) ≡ true
unfolding uses
uses_at view xs i x low is all = one_true (λ d. list_all is_spelled_use (uses_of d)) view xs i x low is (uses_in_one is_spelled_use (map view xs) all)

pub use_at : (scope : Scope) (all : List Used) (i : ℕ) (u : Used) → i < length all → u ≡ get_or all i u → list_all is_spelled_use (uses_there scope all) ≡ true
    → are_identifiers (path_of (used_of u)).parts ≡ true
use_at scope all i u low is spelled = one_true is_spelled_use (λ v. record { scope = scope; used = used_of v }) all i u low is spelled

pub tells_told : (paths : List Parts) (ds : List model.Declared) (a b : Told) (scope : Scope) (used : meant.Used) (place : code.Place) (found : Option ℕ) → TellsOne a place found b
    → place_of place ≡ (path_of used).place → Finds paths found (used_meant ds scope used) → TellsUses paths ds a (record { scope = scope; used = used } ∷ []) b
unfolding stands_for
tells_told paths ds a b scope used place found one at is = tells_one paths ds a b (record { scope = scope; used = used }) place found one at is

-- the names that a declaration uses, as code tells them
pub uses_seen : (d : model.Declared) (us : List Used) → all_used_of us ≡ used_in d.body → uses_there (scope_of d) us ≡ uses_of d
unfolding uses_of
uses_seen d us is = mapped_twice us ∙ ap (map (λ (u : meant.Used). record { scope = scope_of d; used = u })) is
  where
    mapped_twice : (vs : List Used) → uses_there (scope_of d) vs ≡ map (λ (u : meant.Used). record { scope = scope_of d; used = u }) (all_used_of vs)
    mapped_twice [] = refl
    mapped_twice (v ∷ vs) = ap (λ (k : List Use). record { scope = scope_of d; used = used_of v } ∷ k) (mapped_twice vs)
