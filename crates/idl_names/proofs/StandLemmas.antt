-- Marks tell what stands at each path.
use Rattle.std.proofs.Common.{◌≡◌, refl, sym, ap, ◌∙◌, ℕ, Bool, true, false, not, ◌&&◌, ◌||◌, is_some, List, [], ◌∷◌, ◌++◌, map, slice_get, Option, None, Some, if◌then◌else◌}
use Rattle.std.specs.List.{AllByRecursion, filter, flat_map, list_all, list_any}
use Rattle.std.specs.Str.{bytes_eq}
use Rattle.std.proofs.lemmas.Bool.{and_parts, and_from}
use Rattle.std.proofs.lemmas.List.Folds.{list_all-append}
use Rattle.uno_model.specs.Names.{is_identifier}
use Rattle.idl_meaning_model.specs.Declarations as model
use Rattle.idl_meaning_model.specs.Declarations.{dotted, full_name, is_forward, all_valued, entities_declared}
use Rattle.idl_meaning_model.specs.FromFiles.{are_identifiers, has_identifiers, inner_ids, is_spelled}
use Rattle.idl_meaning_model.specs.NameFaults.{has_interface, is_interface_declaration, places_declared}
use Rattle.idl_meaning_model.specs.Scopes.{declared_as, is_built_in, is_entity, valued_as}
use Rattle.idl_model.specs.Places.{Place}
use Rattle.idl_model.specs.Trees.{Id, Declaration, forward, interface, struct, exception, enum, constants, typedef, new_service, old_service, new_singleton, old_singleton}
use Rattle.idl_names.specs.Alone.{HasLeasts}
use Rattle.idl_names.specs.Collected.{declared_of, HasNumbers}
use Rattle.idl_names.specs.Opened.{HasOpened, behind_all, built_in_exceptions, built_in_interfaces, own_path, value_ids, value_paths}
use Rattle.idl_names.specs.Paths.{Parts}
use Rattle.idl_names.specs.Standing.{AreOnce, Answers, IsNumberOf}
use Rattle.idl_names.specs.Tables.{MarksOf, PlacesOf, entity_places, least_of, is_among, is_entity_at, is_interface_at}
use Rattle.idl_names.specs.declared.declaration.Declared.{Declared}
use Rattle.idl_names.specs.declared.opening.Opened.{Opened}
use Rattle.idl_names.proofs.AloneLemmas.{own_identifiers, all_true}
use Rattle.idl_names.proofs.LookupLemmas.{identifiers_behind}
use Rattle.idl_names.proofs.NameLaws.{any_mapped, any_same, any_at, built_in_any, declared_any, interface_any, is_at, same_name, value_any}
use Rattle.idl_trees.specs.Trees.{declaration_of}
use Rattle.idl_trees.specs.declared.place.Place as code

-- ---- marks of a number, if there is one

none_of : {X : Type 0} (t : X → Bool) (f : X → ℕ) (xs : List X) → list_any (λ x. t x && is_at None (f x)) xs ≡ false
none_of t f [] = refl
none_of t f (x ∷ xs) = ap (λ b. (t x && false) || b) (none_of t f xs) ∙ by_test (t x)
  where
    by_test : (b : Bool) → ((b && false) || false) ≡ false
    by_test true = refl
    by_test false = refl

no_number : (ns : List ℕ) → list_any (is_at None) ns ≡ false
no_number [] = refl
no_number (n ∷ ns) = no_number ns

-- ---- what is declared

module _ (paths : List Parts) (once : AreOnce paths) (all : List Declared) (has : AllByRecursion (HasNumbers paths) all) (spelled : list_all has_identifiers (map (declared_of paths) all) ≡ true) where
  record Stands (d : Declared) : Type 0 where
    numbers : HasNumbers paths d
    right : has_identifiers (declared_of paths d) ≡ true

  both_stand : (ds : List Declared) → AllByRecursion (HasNumbers paths) ds → AllByRecursion (λ d. has_identifiers (declared_of paths d) ≡ true) ds → AllByRecursion Stands ds
  both_stand [] first second = tt
  both_stand (d ∷ ds) first second = (record { numbers = first.0; right = second.0 }, both_stand ds first.1 second.1)

  all_stand : AllByRecursion Stands all
  all_stand = both_stand all has (all_true has_identifiers (declared_of paths) all spelled)

  module _ (p : Parts) (o : Option ℕ) (right : are_identifiers p ≡ true) (number : IsNumberOf paths p o) where
    named_so : (t : model.Declared → Bool)
        → list_any (λ d. t d && bytes_eq (dotted p) (full_name d)) (map (declared_of paths) all) ≡ list_any (λ d. t (declared_of paths d) && is_at o d.path) all
    named_so t =
        any_mapped (λ (d : model.Declared). t d && bytes_eq (dotted p) (full_name d)) (declared_of paths) all
        ∙ any_same Stands (λ d. t (declared_of paths d) && bytes_eq (dotted p) (full_name (declared_of paths d))) (λ d. t (declared_of paths d) && is_at o d.path)
        (λ d stands.
        ap (λ b. t (declared_of paths d) && b)
        (same_name paths once p (own_path (declared_of paths d)) o d.path right (own_identifiers (declared_of paths d) stands.right) number stands.numbers.own))
        all all_stand

  entity_marked : (p : Parts) (o : Option ℕ) → are_identifiers p ≡ true → IsNumberOf paths p o
      → is_some (declared_as (map (declared_of paths) all) (dotted p)) ≡ list_any (λ d. not (is_forward (declaration_of d.body.now)) && is_at o d.path) all
  entity_marked p o right number = declared_any (map (declared_of paths) all) (dotted p) ∙ named_so p o right number (λ d. not (is_forward d.body))

  -- ---- the tables

  module _ (opened : Opened) (are : HasOpened paths (map (declared_of paths) all) opened) where
    interfaces_right : list_all are_identifiers built_in_interfaces ≡ true
    interfaces_right = refl

    exceptions_right : list_all are_identifiers built_in_exceptions ≡ true
    exceptions_right = refl

    interface_at : (p : Parts) (o : Option ℕ) → are_identifiers p ≡ true → IsNumberOf paths p o
        → list_any (λ q. bytes_eq (dotted p) (dotted q)) built_in_interfaces ≡ list_any (is_at o) opened.interfaces.items
    interface_at p o right number = any_at paths once p o opened.interfaces.items built_in_interfaces right number interfaces_right are.interfaces

    exception_at : (p : Parts) (o : Option ℕ) → are_identifiers p ≡ true → IsNumberOf paths p o
        → list_any (λ q. bytes_eq (dotted p) (dotted q)) built_in_exceptions ≡ list_any (is_at o) opened.exceptions.items
    exception_at p o right number = any_at paths once p o opened.exceptions.items built_in_exceptions right number exceptions_right are.exceptions

    built_in_at : (p : Parts) (o : Option ℕ) → are_identifiers p ≡ true → IsNumberOf paths p o
        → is_built_in (dotted p) ≡ (list_any (is_at o) opened.interfaces.items || list_any (is_at o) opened.exceptions.items)
    built_in_at p o right number = built_in_any (dotted p) ∙ (λ i. interface_at p o right number i || exception_at p o right number i)

    pub built_in_answers : (count : ℕ) (marks : List Bool) → MarksOf count (λ n. is_among opened.interfaces.items n || is_among opened.exceptions.items n) marks → Answers paths marks is_built_in
    built_in_answers count marks of p None right number =
        built_in_at p None right number ∙ (λ i. no_number opened.interfaces.items i || no_number opened.exceptions.items i)
    built_in_answers count marks of p (Some n) right number = built_in_at p (Some n) right number ∙ sym (of.each n)

    pub entity_answers : (count : ℕ) (marks : List Bool) → MarksOf count (λ n. (is_among opened.interfaces.items n || is_among opened.exceptions.items n) || list_any (is_entity_at n) all) marks
        → Answers paths marks (is_entity (map (declared_of paths) all))
    entity_answers count marks of p None right number =
        (λ i. built_in_at p None right number i || entity_marked p None right number i)
        ∙ (λ i. (no_number opened.interfaces.items i || no_number opened.exceptions.items i) || none_of (λ (d : Declared). not (is_forward (declaration_of d.body.now))) (λ (d : Declared). d.path) all i)
    entity_answers count marks of p (Some n) right number = (λ i. built_in_at p (Some n) right number i || entity_marked p (Some n) right number i) ∙ sym (of.each n)

    pub interface_answers : (count : ℕ) (marks : List Bool) → MarksOf count (λ n. is_among opened.interfaces.items n || list_any (is_interface_at n) all) marks
        → Answers paths marks (has_interface (map (declared_of paths) all))
    interface_answers count marks of p None right number =
        (λ i. (interface_any (dotted p) ∙ interface_at p None right number) i || named_so p None right number (λ d. is_interface_declaration d.body) i)
        ∙ (λ i. no_number opened.interfaces.items i || none_of (λ (d : Declared). is_interface_declaration (declaration_of d.body.now)) (λ (d : Declared). d.path) all i)
    interface_answers count marks of p (Some n) right number =
        (λ i. (interface_any (dotted p) ∙ interface_at p (Some n) right number) i || named_so p (Some n) right number (λ d. is_interface_declaration d.body) i) ∙ sym (of.each n)

    pub value_answers : (count : ℕ) (marks : List Bool) → list_all are_identifiers (value_paths (map (declared_of paths) all)) ≡ true → MarksOf count (is_among opened.values.items) marks
        → Answers paths marks (λ name. is_some (valued_as (all_valued (map (declared_of paths) all)) name))
    value_answers count marks rights of p None right number =
        value_any (map (declared_of paths) all) (dotted p)
        ∙ any_at paths once p None opened.values.items (value_paths (map (declared_of paths) all)) right number rights are.values ∙ no_number opened.values.items
    value_answers count marks rights of p (Some n) right number =
        value_any (map (declared_of paths) all) (dotted p)
        ∙ any_at paths once p (Some n) opened.values.items (value_paths (map (declared_of paths) all)) right number rights are.values ∙ sym (of.each n)

-- ---- the first places

filters_same : {X Y : Type 0} (P : X → Type 0) (p : X → Bool) (q : Y → Bool) (view : X → Y) (place : Y → Place) → ((x : X) → P x → q (view x) ≡ p x) → (xs : List X) → AllByRecursion P xs
    → map place (filter q (map view xs)) ≡ map (λ x. place (view x)) (filter p xs)
filters_same P p q view place each [] holds = refl
filters_same {X = X} P p q view place each (x ∷ xs) holds =
    ap (λ b. map place (if b then view x ∷ filter q (map view xs) else filter q (map view xs))) (each x holds.0) ∙ by_test (p x) (filters_same P p q view place each xs holds.1)
  where
    by_test : (b : Bool) → map place (filter q (map view xs)) ≡ map (λ y. place (view y)) (filter p xs)
        → map place (if b then view x ∷ filter q (map view xs) else filter q (map view xs)) ≡ map (λ y. place (view y)) (if b then x ∷ filter p xs else filter p xs)
    by_test true rest = ap (λ k. place (view x) ∷ k) rest
    by_test false rest = rest

filters_both : {X : Type 0} (p q : X → Bool) (xs : List X) → filter p (filter q xs) ≡ filter (λ x. q x && p x) xs
filters_both p q [] = refl
filters_both {X = X} p q (x ∷ xs) = by_test (q x) (filters_both p q xs)
  where
    by_test : (b : Bool) → filter p (filter q xs) ≡ filter (λ y. q y && p y) xs → filter p (if b then x ∷ filter q xs else filter q xs) ≡ (if b && p x then x ∷ filter (λ y. q y && p y) xs else filter (λ y. q y && p y) xs)
    by_test true rest = ap (λ k. if p x then x ∷ k else k) rest
    by_test false rest = rest

module _ (paths : List Parts) (once : AreOnce paths) (all : List Declared) (has : AllByRecursion (HasNumbers paths) all) (spelled : list_all has_identifiers (map (declared_of paths) all) ≡ true) where
  places_at : (p : Parts) (n : ℕ) → are_identifiers p ≡ true → slice_get paths n ≡ Some p → places_declared (map (declared_of paths) all) (dotted p) ≡ entity_places n all
  unfolding entities_declared
  places_at p n right number =
      let place = λ (d : model.Declared). d.name.place in
      ap (map place) (filters_both (λ (d : model.Declared). bytes_eq (dotted p) (full_name d)) (λ (d : model.Declared). not (is_forward d.body)) (map (declared_of paths) all))
      ∙ filters_same (Stands paths once all has spelled) (is_entity_at n) (λ (d : model.Declared). not (is_forward d.body) && bytes_eq (dotted p) (full_name d)) (declared_of paths) place
      (λ d stands.
      ap (λ b. not (is_forward (declaration_of d.body.now)) && b)
      (same_name paths once p (own_path (declared_of paths d)) (Some n) d.path right (own_identifiers (declared_of paths d) stands.right) number stands.numbers.own))
      all (all_stand paths once all has spelled)

  pub has_leasts : (leasts : List (Option code.Place)) → PlacesOf all leasts → HasLeasts paths leasts (map (declared_of paths) all)
  has_leasts leasts of p n right number = of n ∙ ap (least_of None) (sym (places_at p n right number))

-- ---- the names of what has a value are identifiers

ids_behind : (own : Parts) (ids : List Id) → list_all is_identifier own ≡ true → list_all is_spelled ids ≡ true → list_all are_identifiers (behind_all own ids) ≡ true
ids_behind own [] first second = refl
ids_behind own (i ∷ is) first second =
    let parts = and_parts (is_spelled i) (list_all is_spelled is) second in
    and_from (are_identifiers (own ++ i.name ∷ [])) (list_all are_identifiers (behind_all own is)) (identifiers_behind own (i.name ∷ []) first (and_from (is_identifier i.name) true parts.0 refl))
    (ids_behind own is first parts.1)

value_ids_spelled : (body : Declaration) → list_all is_spelled (inner_ids body) ≡ true → list_all is_spelled (value_ids body) ≡ true
unfolding inner_ids
value_ids_spelled forward is = refl
value_ids_spelled (interface base members) is = refl
value_ids_spelled (struct base members) is = refl
value_ids_spelled (exception base members) is = refl
value_ids_spelled (enum items) is = is
value_ids_spelled (constants cs) is = is
value_ids_spelled (typedef t) is = refl
value_ids_spelled (new_service base constructors) is = refl
value_ids_spelled (old_service members) is = refl
value_ids_spelled (new_singleton base) is = refl
value_ids_spelled (old_singleton service) is = refl

pub own_list : (d : model.Declared) → has_identifiers d ≡ true → list_all is_identifier (own_path d) ≡ true
unfolding has_identifiers
own_list d is =
    let front = (and_parts (list_all is_identifier d.modules && is_spelled d.name) (list_all is_spelled (inner_ids d.body)) is).0 in
    let parts = and_parts (list_all is_identifier d.modules) (is_spelled d.name) front in
    list_all-append is_identifier d.modules (d.name.name ∷ []) ∙ and_from (list_all is_identifier d.modules) (is_identifier d.name.name && true) parts.0 (and_from (is_identifier d.name.name) true parts.1 refl)

pub own_modules : (d : model.Declared) → has_identifiers d ≡ true → list_all is_identifier d.modules ≡ true
unfolding has_identifiers
own_modules d is =
    let front = (and_parts (list_all is_identifier d.modules && is_spelled d.name) (list_all is_spelled (inner_ids d.body)) is).0 in
    (and_parts (list_all is_identifier d.modules) (is_spelled d.name) front).0

inner_right : (d : model.Declared) → has_identifiers d ≡ true → list_all is_spelled (inner_ids d.body) ≡ true
unfolding has_identifiers
inner_right d is = (and_parts (list_all is_identifier d.modules && is_spelled d.name) (list_all is_spelled (inner_ids d.body)) is).1

pub value_paths_right : (ds : List model.Declared) → list_all has_identifiers ds ≡ true → list_all are_identifiers (value_paths ds) ≡ true
unfolding value_paths
value_paths_right [] all = refl
value_paths_right (d ∷ ds) all =
    let parts = and_parts (has_identifiers d) (list_all has_identifiers ds) all in
    let here = behind_all (own_path d) (value_ids d.body) in
    let others = flat_map (λ (e : model.Declared). behind_all (own_path e) (value_ids e.body)) ds in
    list_all-append are_identifiers here others
    ∙ and_from (list_all are_identifiers here) (list_all are_identifiers others) (ids_behind (own_path d) (value_ids d.body) (own_list d parts.0) (value_ids_spelled d.body (inner_right d parts.0)))
    (value_paths_right ds parts.1)
