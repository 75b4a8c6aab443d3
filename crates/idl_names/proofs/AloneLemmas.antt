-- What is wrong with one declaration after the other.
use Rattle.std.proofs.Common.{◌≡◌, refl, sym, ap, subst, ◌∙◌, ℕ, ◌+◌, ◌<◌, Bool, true, false, not, ◌&&◌, List, [], ◌∷◌, ◌++◌, map, length, take, get_or, Option, None, Some, append_assoc, append-nil, if◌then◌else◌, arith}
use Rattle.std.specs.List.{AllByRecursion, filter, flat_map, list_all}
use Rattle.std.proofs.lemmas.Bool.{and_parts, and_from}
use Rattle.std.proofs.lemmas.Bool.Decides.{nat_tests}
use Rattle.std.proofs.lemmas.List.{map-append}
use Rattle.uno_model.specs.Names.{is_identifier}
use Rattle.idl_meaning_model.specs.Declarations as model
use Rattle.idl_meaning_model.specs.Declarations.{full_name, is_forward}
use Rattle.idl_meaning_model.specs.FromFiles.{are_identifiers, has_identifiers, inner_ids, is_spelled}
use Rattle.idl_meaning_model.specs.NameFaults.{NameFault, unknown, twice, has_interface, first_place, first_before, places_declared, twice_by}
use Rattle.idl_meaning_model.specs.Scopes.{is_built_in}
use Rattle.idl_model.specs.Places.{Place, is_before}
use Rattle.idl_names.specs.Alone.{alone_among, twice_among, if_before, HasLeasts}
use Rattle.idl_names.specs.Collected.{declared_of, HasNumbers}
use Rattle.idl_names.specs.Faults.{AddsFaults, all_faults_of, fault_of}
use Rattle.idl_names.specs.Opened.{own_path}
use Rattle.idl_names.specs.Paths.{Parts}
use Rattle.idl_names.specs.Standing.{Answers}
use Rattle.idl_names.specs.Tables.{least_of, place_at}
use Rattle.idl_names.specs.declared.declaration.Declared.{Declared}
use Rattle.idl_names.specs.declared.fault.Fault.{Fault}
use Rattle.idl_names.proofs.LookupLemmas.{identifiers_behind}
use Rattle.idl_names.proofs.MarkLemmas.{at_index}
use Rattle.idl_names.proofs.UsedLemmas.{one_taken}
use Rattle.idl_trees.specs.Names.{place_of}
use Rattle.idl_trees.specs.declared.place.Place as code

abbrev Plain : Type 0
Plain = Place × NameFault

-- ---- declarations with numbers, whose names are identifiers

pub own_identifiers : (d : model.Declared) → has_identifiers d ≡ true → are_identifiers (own_path d) ≡ true
unfolding has_identifiers
own_identifiers d is =
    let front = (and_parts (list_all is_identifier d.modules && is_spelled d.name) (list_all is_spelled (inner_ids d.body)) is).0 in
    let parts = and_parts (list_all is_identifier d.modules) (is_spelled d.name) front in
    identifiers_behind d.modules (d.name.name ∷ []) parts.0 (and_from (is_identifier d.name.name) true parts.1 refl)

pub answer_at : (paths : List Parts) (marks : List Bool) (test : List ℕ → Bool) (d : Declared) → Answers paths marks test → HasNumbers paths d → has_identifiers (declared_of paths d) ≡ true
    → test (full_name (declared_of paths d)) ≡ get_or marks d.path false
answer_at paths marks test d answers has is = answers (own_path (declared_of paths d)) (Some d.path) (own_identifiers (declared_of paths d) is) has.own

-- ---- faults behind faults

adds_both : (a b c : List Fault) (xs ys : List Plain) → AddsFaults a xs b → AddsFaults b ys c → AddsFaults a (xs ++ ys) c
adds_both a b c xs ys first second = second ∙ ap (λ k. k ++ ys) first ∙ append_assoc (all_faults_of a) xs ys

pub adds_nothing : (a : List Fault) (xs : List Plain) → xs ≡ [] → AddsFaults a xs a
adds_nothing a xs none = sym (ap (λ k. all_faults_of a ++ k) none ∙ append-nil (all_faults_of a))

pub adds_one : (a b : List Fault) (f : Fault) (xs : List Plain) → b ≡ a ++ f ∷ [] → xs ≡ fault_of f ∷ [] → AddsFaults a xs b
adds_one a b f xs pushed is = ap all_faults_of pushed ∙ map-append fault_of a (f ∷ []) ∙ ap (λ k. all_faults_of a ++ k) (sym is)

-- a list that is worked out declaration by declaration
pub next_faults : (f : List model.Declared → List Plain) → ((xs : List model.Declared) (x : model.Declared) → f (xs ++ x ∷ []) ≡ f xs ++ f (x ∷ [])) → (paths : List Parts)
    (all : List Declared) (i : ℕ) (d : Declared) (old now new : List Fault) → i < length all → d ≡ get_or all i d
    → AddsFaults old (f (map (declared_of paths) (take i all))) now → AddsFaults now (f (declared_of paths d ∷ [])) new → AddsFaults old (f (map (declared_of paths) (take (i + 1) all))) new
next_faults f both paths all i d old now new low is so_far one =
    subst (λ (xs : List Plain). AddsFaults old xs new) (sym (ap f (one_taken (declared_of paths) all i d low is) ∙ both (map (declared_of paths) (take i all)) (declared_of paths d)))
    (adds_both old now new (f (map (declared_of paths) (take i all))) (f (declared_of paths d ∷ [])) so_far one)

pub kept_append : {X : Type 0} (p : X → Bool) (xs ys : List X) → filter p (xs ++ ys) ≡ filter p xs ++ filter p ys
kept_append p [] ys = refl
kept_append {X = X} p (x ∷ xs) ys = by_test (p x) (kept_append p xs ys)
  where
    by_test : (b : Bool) → filter p (xs ++ ys) ≡ filter p xs ++ filter p ys → (if b then x ∷ filter p (xs ++ ys) else filter p (xs ++ ys)) ≡ (if b then x ∷ filter p xs else filter p xs) ++ filter p ys
    by_test true rest = ap (λ k. x ∷ k) rest
    by_test false rest = rest

pub joined_append : {X Y : Type 0} (f : X → List Y) (xs ys : List X) → flat_map f (xs ++ ys) ≡ flat_map f xs ++ flat_map f ys
joined_append f [] ys = refl
joined_append f (x ∷ xs) ys = ap (λ k. f x ++ k) (joined_append f xs ys) ∙ sym (append_assoc (f x) (flat_map f xs) (flat_map f ys))

-- what a test tells of all it tells of one
pub all_true : {X Y : Type 0} (test : Y → Bool) (view : X → Y) (xs : List X) → list_all test (map view xs) ≡ true → AllByRecursion (λ x. test (view x) ≡ true) xs
all_true test view [] all = tt
all_true test view (x ∷ xs) all = let parts = and_parts (test (view x)) (list_all test (map view xs)) all in (parts.0, all_true test view xs parts.1)

pub one_true : {X Y : Type 0} (test : Y → Bool) (view : X → Y) (xs : List X) (i : ℕ) (x : X) → i < length xs → x ≡ get_or xs i x → list_all test (map view xs) ≡ true → test (view x) ≡ true
one_true test view xs i x low is all = at_index (λ y. test (view y) ≡ true) xs i x low is (all_true test view xs all)

-- ---- forward declarations

pub alone_both : (ds xs : List model.Declared) (x : model.Declared) → alone_among ds (xs ++ x ∷ []) ≡ alone_among ds xs ++ alone_among ds (x ∷ [])
unfolding alone_among
alone_both ds xs x =
    let test = λ (d : model.Declared). is_forward d.body && not (has_interface ds (full_name d)) in
    ap (map (λ (d : model.Declared). (d.name.place, unknown))) (kept_append test xs (x ∷ [])) ∙ map-append (λ (d : model.Declared). (d.name.place, unknown)) (filter test xs) (filter test (x ∷ []))

pub alone_none : (ds : List model.Declared) → alone_among ds [] ≡ []
unfolding alone_among
alone_none ds = refl

abbrev alone_by : Bool → Bool → Place → List Plain
alone_by b c place = if b && not c then (place, unknown) ∷ [] else []

alone_one : (ds : List model.Declared) (d : model.Declared) → alone_among ds (d ∷ []) ≡ alone_by (is_forward d.body) (has_interface ds (full_name d)) d.name.place
unfolding alone_among
alone_one ds d = by_test (is_forward d.body && not (has_interface ds (full_name d)))
  where
    by_test : (b : Bool) → map {B = Plain} (λ (e : model.Declared). (e.name.place, unknown)) (if b then d ∷ [] else []) ≡ (if b then (d.name.place, unknown) ∷ [] else [])
    by_test true = refl
    by_test false = refl

not_not : (b : Bool) → not b ≡ true → b ≡ false
not_not true is = absurd (cc)
not_not false is = refl

pub alone_entity : (ds : List model.Declared) (d : model.Declared) → not (is_forward d.body) ≡ true → alone_among ds (d ∷ []) ≡ []
alone_entity ds d is = alone_one ds d ∙ ap (λ b. alone_by b (has_interface ds (full_name d)) d.name.place) (not_not (is_forward d.body) is)

pub alone_known : (ds : List model.Declared) (d : model.Declared) → has_interface ds (full_name d) ≡ true → alone_among ds (d ∷ []) ≡ []
alone_known ds d is = alone_one ds d ∙ ap (λ b. alone_by (is_forward d.body) b d.name.place) is ∙ by_test (is_forward d.body)
  where
    by_test : (b : Bool) → alone_by b true d.name.place ≡ []
    by_test true = refl
    by_test false = refl

not_false : (b : Bool) → not b ≡ false → b ≡ true
not_false true is = refl
not_false false is = absurd (cc)

pub alone_unknown : (ds : List model.Declared) (d : model.Declared) → not (is_forward d.body) ≡ false → has_interface ds (full_name d) ≡ false → alone_among ds (d ∷ []) ≡ (d.name.place, unknown) ∷ []
alone_unknown ds d forward is =
    alone_one ds d ∙ ap (λ b. alone_by b (has_interface ds (full_name d)) d.name.place) (not_false (is_forward d.body) forward) ∙ ap (λ b. alone_by true b d.name.place) is

-- ---- entities that are declared twice

pub twice_both : (ds xs : List model.Declared) (x : model.Declared) → twice_among ds (xs ++ x ∷ []) ≡ twice_among ds xs ++ twice_among ds (x ∷ [])
unfolding twice_among
twice_both ds xs x =
    let entity = λ (d : model.Declared). not (is_forward d.body) in
    let here = λ (d : model.Declared). twice_by (is_built_in (full_name d)) d.name.place (first_before d.name.place (places_declared ds (full_name d))) in
    ap (flat_map here) (kept_append entity xs (x ∷ [])) ∙ joined_append here (filter entity xs) (filter entity (x ∷ []))

pub twice_none : (ds : List model.Declared) → twice_among ds [] ≡ []
unfolding twice_among
twice_none ds = refl

abbrev twice_at : Bool → Bool → Place → Option Place → List Plain
twice_at entity built_in place first = if entity then twice_by built_in place first else []

abbrev twice_here : List model.Declared → model.Declared → List Plain
twice_here ds e = twice_by (is_built_in (full_name e)) e.name.place (first_before e.name.place (places_declared ds (full_name e)))

twice_one : (ds : List model.Declared) (d : model.Declared)
    → twice_among ds (d ∷ []) ≡ twice_at (not (is_forward d.body)) (is_built_in (full_name d)) d.name.place (first_before d.name.place (places_declared ds (full_name d)))
unfolding twice_among
twice_one ds d = by_test (not (is_forward d.body))
  where
    by_test : (b : Bool) → flat_map (twice_here ds) (if b then d ∷ [] else []) ≡ (if b then twice_here ds d else [])
    by_test true = append-nil (twice_here ds d)
    by_test false = refl

pub twice_forward : (ds : List model.Declared) (d : model.Declared) → not (is_forward d.body) ≡ false → twice_among ds (d ∷ []) ≡ []
twice_forward ds d is =
    twice_one ds d ∙ ap (λ b. twice_at b (is_built_in (full_name d)) d.name.place (first_before d.name.place (places_declared ds (full_name d)))) is

pub twice_built_in : (ds : List model.Declared) (d : model.Declared) → not (is_forward d.body) ≡ true → is_built_in (full_name d) ≡ true → twice_among ds (d ∷ []) ≡ (d.name.place, twice None) ∷ []
twice_built_in ds d entity is =
    let first = first_before d.name.place (places_declared ds (full_name d)) in
    twice_one ds d ∙ ap (λ b. twice_at b (is_built_in (full_name d)) d.name.place first) entity ∙ ap (λ b. twice_at true b d.name.place first) is

pub twice_first : (ds : List model.Declared) (d : model.Declared) (first : Option Place) → not (is_forward d.body) ≡ true → is_built_in (full_name d) ≡ false
    → first ≡ first_before d.name.place (places_declared ds (full_name d)) → twice_among ds (d ∷ []) ≡ twice_by false d.name.place first
twice_first ds d first entity is same =
    let before = first_before d.name.place (places_declared ds (full_name d)) in
    twice_one ds d ∙ ap (λ b. twice_at b (is_built_in (full_name d)) d.name.place before) entity ∙ ap (λ b. twice_at true b d.name.place before) is ∙ ap (twice_by false d.name.place) (sym same)

-- ---- the first of places

-- the places that come before one, before those, and so on, end at the least
chain_least : (p : Place) (ps : List Place) → Some (first_place p (first_before p ps)) ≡ least_of (Some p) ps
unfolding first_before least_of
chain_least p [] = refl
chain_least p (q ∷ qs) = by_test (chain_least q qs) (chain_least p qs) (is_before q p)
  where
    by_test : Some (first_place q (first_before q qs)) ≡ least_of (Some q) qs → Some (first_place p (first_before p qs)) ≡ least_of (Some p) qs → (b : Bool) → Some (first_place p (if b then Some (first_place q (first_before q qs)) else first_before p qs)) ≡ least_of (Some (if b then q else p)) qs
    by_test with_q with_p true = with_q
    by_test with_q with_p false = with_p

before_both : (p q r : Place) → is_before p q ≡ true → is_before q r ≡ true → is_before p r ≡ true
before_both p q r one two = grind (arith, nat_tests)

not_before_both : (p q r : Place) → is_before p r ≡ false → is_before q p ≡ false → is_before q r ≡ false
not_before_both p q r one two = grind (arith, nat_tests)

-- where one comes before a place, so does the least of it and others
chain_before : (place p : Place) (ps : List Place) → is_before p place ≡ true → is_before (first_place p (first_before p ps)) place ≡ true
unfolding first_before
chain_before place p [] less = less
chain_before place p (q ∷ qs) less = by_test (is_before q p) refl (λ is. chain_before place q qs (before_both q p place is less)) (chain_before place p qs less)
  where
    by_test : (b : Bool) → is_before q p ≡ b → (is_before q p ≡ true → is_before (first_place q (first_before q qs)) place ≡ true) → is_before (first_place p (first_before p qs)) place ≡ true
        → is_before (first_place p (if b then Some (first_place q (first_before q qs)) else first_before p qs)) place ≡ true
    by_test true is with_q with_p = with_q is
    by_test false is with_q with_p = with_p

abbrev least_from : Place → List Place → Place
least_from p ps = first_place p (first_before p ps)

-- where one does not, the least of it and others counts only if another does
chain_other : (place p : Place) (ps : List Place) → is_before p place ≡ false → if_before place (Some (first_place p (first_before p ps))) ≡ first_before place ps
unfolding first_before
chain_other place p [] more = ap (λ b. if b then Some p else None) more
chain_other place p (q ∷ qs) more =
    by_tests (is_before q p) refl (is_before q place) refl (chain_other place p qs more) (λ is. chain_other place q qs is) (λ is. chain_before place q qs is)
  where
    by_tests : (b : Bool) → is_before q p ≡ b → (c : Bool) → is_before q place ≡ c → if_before place (Some (least_from p qs)) ≡ first_before place qs
        → (is_before q place ≡ false → if_before place (Some (least_from q qs)) ≡ first_before place qs) → (is_before q place ≡ true → is_before (least_from q qs) place ≡ true)
        → if_before place (Some (first_place p (if b then Some (least_from q qs) else first_before p qs))) ≡ (if c then Some (least_from q qs) else first_before place qs)
    by_tests true is true also with_p with_q before = ap (λ d. if d then Some (least_from q qs) else None) (before also)
    by_tests true is false also with_p with_q before = with_q also
    by_tests false is true also with_p with_q before = let bad = not_before_both p q place more is in absurd (cc)
    by_tests false is false also with_p with_q before = with_p

pub first_is_least : (place : Place) (ps : List Place) → first_before place ps ≡ if_before place (least_of None ps)
unfolding first_before least_of
first_is_least place [] = refl
first_is_least place (p ∷ ps) = by_test (is_before p place) refl
  where
    by_test : (b : Bool) → is_before p place ≡ b → (if b then Some (first_place p (first_before p ps)) else first_before place ps) ≡ if_before place (least_of (Some p) ps)
    by_test true is = sym (ap (if_before place) (sym (chain_least p ps)) ∙ ap (λ b. if b then Some (first_place p (first_before p ps)) else None) (chain_before place p ps is))
    by_test false is = sym (ap (if_before place) (sym (chain_least p ps)) ∙ chain_other place p ps is)

-- the least place that is noted is the first, if it comes before
pub first_noted : (paths : List Parts) (leasts : List (Option code.Place)) (ds : List model.Declared) (d : Declared) → HasLeasts paths leasts ds → HasNumbers paths d
    → has_identifiers (declared_of paths d) ≡ true
    → if_before (place_of d.name.now.place) (place_at leasts d.path) ≡ first_before (declared_of paths d).name.place (places_declared ds (full_name (declared_of paths d)))
first_noted paths leasts ds d has_leasts has right =
    let here = declared_of paths d in
    ap (if_before here.name.place) (has_leasts (own_path here) d.path (own_identifiers here right) has.own)
    ∙ sym (first_is_least here.name.place (places_declared ds (full_name here)))
