-- Which names stand for which entities, and which declarations these have, by the numbers of paths.
use Rattle.std.proofs.Common.{◌≡◌, refl, sym, ap, subst, ◌∙◌, ℕ, suc, ◌==◌, Bool, true, false, not, ◌&&◌, is_some, List, [], ◌∷◌, ◌++◌, map, get_or, slice_get, Option, None, Some, Contains, option_map, unwrap_or, if◌then◌else◌}
use Rattle.std.proofs.lemmas.Bool.{and_parts, eqb-true}
use Rattle.std.proofs.lemmas.Option.{get_or_from_slice_get, slice_get-get_or, slice_get-map}
use Rattle.std.specs.List.{AllByRecursion, find, list_all}
use Rattle.std.specs.Option.{option_and_then}
use Rattle.std.specs.Str.{bytes_eq}
use Rattle.uno_model.specs.BuiltIn.{built_in}
use Rattle.uno_model.specs.Entities.{Body, Entity}
use Rattle.uno_model.specs.Entities as uno
use Rattle.uno_model.specs.Kinds.{Kind}
use Rattle.uno_model.specs.Kinds as kd
use Rattle.uno_model.specs.Names.{is_identifier}
use Rattle.uno_model.specs.NamedTypes.{kind_of_body, kind_of_entity}
use Rattle.uno_model.specs.Registry.{find_entity}
use Rattle.idl_meaning_model.specs.Declarations.{Declared, dotted, full_name, is_forward, scope_of}
use Rattle.idl_meaning_model.specs.FromFiles.{are_identifiers, has_identifiers}
use Rattle.idl_meaning_model.specs.Meaning.{name_meant}
use Rattle.idl_meaning_model.specs.Scopes.{declared_as, entity_named, full_names, is_built_in, is_entity}
use Rattle.idl_meaning_model.specs.Uses.{Use, Used, an_entity, stands_for, used_in, uses, uses_of}
use Rattle.idl_meaning_model.proofs.FaultLaws.{map_has}
use Rattle.idl_meant.specs.Naming.{Stands}
use Rattle.idl_meant.specs.Owning.{AreOwners, entity_number, owner_at}
use Rattle.idl_meant.specs.Resolving.{AreTold, all_in, modules_at}
use Rattle.idl_meant.specs.Using.{IsUsed}
use Rattle.idl_model.specs.Trees.{Path}
use Rattle.idl_names.specs.Collected.{HasNumbers, declared_of}
use Rattle.idl_names.specs.Opened.{own_path}
use Rattle.idl_names.specs.Paths.{Parts}
use Rattle.idl_names.specs.Standing.{AreOnce, IsRight, name_at}
use Rattle.idl_names.specs.declared.declaration.Declared as code
use Rattle.idl_names.specs.declared.resolving.Resolved.{Resolved}
use Rattle.idl_names.proofs.NameLaws.{same_name}
use Rattle.idl_names.proofs.StandLemmas.{own_list}
use Rattle.idl_trees.specs.Trees.{declaration_of}
use Rattle.idl_values.specs.Places.{first_place}
use Rattle.idl_values.specs.Told.{number_told}
use Rattle.idl_values.proofs.PlaceLemmas.{first_mapped, found_at}
use Rattle.idl_values.proofs.ToldLemmas.{all_stand, told_there, uses_apart}
use Rattle.idl_values.proofs.ValueLaws.{in_flat}

none_some : {X : Type 0} {x : X} → None ≡ Some x → ⊥
none_some is = cc

-- ---- what a name stands for

found_passes : {X : Type 0} (test : X → Bool) (xs : List X) (x : X) → find test xs ≡ Some x → test x ≡ true
found_passes test [] x found = absurd (none_some found)
found_passes {X = X} test (y ∷ ys) x found = by_test (test y) refl found (found_passes test ys x)
  where
    by_test : (b : Bool) → test y ≡ b → (if b then Some y else find test ys) ≡ Some x → (find test ys ≡ Some x → test x ≡ true) → test x ≡ true
    by_test true on here rest = let one : y ≡ x = cc in ap test (sym one) ∙ on
    by_test false off here rest = rest here

-- the name is used in a declaration, and stands for the entity of a number, which is told at its place
pub record IsStood (r : Resolved) (d : Declared) (path : Path) : Type 0 where
  pub number : ℕ
  pub told : number_told r.names.items path.place ≡ Some number
  pub right : IsRight r.paths (Some number)
  pub name : name_at r.paths number ≡ name_meant (all_in r) d.modules path
  pub entity : is_entity (all_in r) (name_at r.paths number) ≡ true

module _ (r : Resolved) (it : AreTold r) where
  abbrev use_in : Declared → Path → Use
  use_in d path = record { scope = scope_of d; used = an_entity path }

  used_among : (d : Declared) (path : Path) → Contains (all_in r) d → Contains (used_in d.body) (an_entity path) → Contains (uses (all_in r)) (use_in d path)
  unfolding uses uses_of
  used_among d path there used =
      in_flat uses_of (all_in r) d (use_in d path) there (map_has (λ (u : Used). record { scope = scope_of d; used = u }) (used_in d.body) (an_entity path) used)

  pub stood : (d : Declared) (path : Path) → Contains (all_in r) d → Contains (used_in d.body) (an_entity path) → IsStood r d path
  unfolding stands_for scope_of entity_named name_meant
  stood d path there used =
      let in' = used_among d path there used in
      let stands = all_stand (all_in r) (use_in d path) it.known in' in
      let at = told_there r.paths (all_in r) (uses (all_in r)) r.names.items (use_in d path) stands.0 it.names it.right (uses_apart (all_in r) it.apart) in' stands.1 in
      record {
        number = at.number;
        told = at.told;
        right = at.right;
        name = at.name ∙ sym (ap (λ o. unwrap_or o (dotted path.parts)) stands.1);
        entity = ap (is_entity (all_in r)) at.name ∙ found_passes (is_entity (all_in r)) (full_names d.modules path) stands.0 stands.1;
      }

  pub told_where_used : (modules : ℕ) (path : Path) → IsUsed r.declared.items modules path → is_some (number_told r.names.items path.place) ≡ true
  told_where_used modules path used =
      let d = declared_of r.paths used.declared in
      let at = stood d path (map_has (declared_of r.paths) r.declared.items used.declared used.there) used.used in
      ap is_some at.told

  -- the number that is told at the place of a name that is used in these modules
  pub stands_there : (modules : ℕ) (path : Path) → IsUsed r.declared.items modules path → (n : ℕ) → number_told r.names.items path.place ≡ Some n → Stands r modules path n
  stands_there modules path used n told =
      let d = declared_of r.paths used.declared in
      let at = stood d path (map_has (declared_of r.paths) r.declared.items used.declared used.there) used.used in
      let both : Some at.number ≡ Some n = sym at.told ∙ told in
      let one : at.number ≡ n = same_some at.number n both in
      record {
        right = subst (λ k. IsRight r.paths (Some k)) one at.right;
        name = ap (name_at r.paths) (sym one) ∙ at.name ∙ ap (λ m. name_meant (all_in r) (modules_at r m) path) used.modules_are;
        entity = ap (λ k. is_entity (all_in r) (name_at r.paths k)) (sym one) ∙ at.entity;
      }
    where
      same_some : (m k : ℕ) → Some m ≡ Some k → m ≡ k
      same_some m k is = cc

-- ---- the declaration of an entity

filled : (xs : Parts) (x : List ℕ) → list_all is_identifier (xs ++ x ∷ []) ≡ true → are_identifiers (xs ++ x ∷ []) ≡ true
filled [] x all = all
filled (y ∷ ys) x all = all

mapped_at : {X Y : Type 0} (view : X → Y) (xs : List X) (o : Option ℕ) → option_and_then (slice_get (map view xs)) o ≡ option_map view (option_and_then (slice_get xs) o)
mapped_at view xs None = refl
mapped_at view xs (Some k) = slice_get-map view xs k

module _ (r : Resolved) (it : AreTold r) (once : AreOnce r.paths) (n : ℕ) (right : IsRight r.paths (Some n)) where
  abbrev pub view : code.Declared → Declared
  view = declared_of r.paths

  abbrev is_own : Declared → Bool
  is_own d = not (is_forward d.body) && bytes_eq (name_at r.paths n) (full_name d)

  not_outermost : n ≡ 0 → ⊥
  not_outermost none =
      let path : get_or r.paths n [] ≡ [] = ap (λ k. get_or r.paths k []) none ∙ get_or_from_slice_get r.paths 0 [] [] it.outermost in
      empty_path (get_or r.paths n []) path right.1
    where
      empty_path : (p : Parts) → p ≡ [] → are_identifiers p ≡ true → ⊥
      empty_path [] is all = cc
      empty_path (x ∷ xs) is all = cc

  zero_not : (b : Bool) → (0 == n) ≡ b → b ≡ false
  zero_not true is = absurd (not_outermost (sym (eqb-true 0 n is)))
  zero_not false is = refl

  same_test : (x : code.Declared) → HasNumbers r.paths x → has_identifiers (view x) ≡ true → is_own (view x) ≡ (entity_number x == n)
  same_test x has spelled = by_forward (is_forward (declaration_of x.body.now))
    where
      named : bytes_eq (name_at r.paths n) (full_name (view x)) ≡ (x.path == n)
      named =
          same_name r.paths once (get_or r.paths n []) (own_path (view x)) (Some n) x.path right.1 (filled (view x).modules (view x).name.name (own_list (view x) spelled))
          (slice_get-get_or r.paths n [] right.0) has.own

      by_forward : (b : Bool) → (not b && bytes_eq (name_at r.paths n) (full_name (view x))) ≡ ((if b then 0 else x.path) == n)
      by_forward true = sym (zero_not (0 == n) refl)
      by_forward false = named

  first_each : (xs : List code.Declared) → AllByRecursion (HasNumbers r.paths) xs → list_all has_identifiers (map view xs) ≡ true → first_place (λ x. is_own (view x)) xs ≡ first_place (λ x. entity_number x == n) xs
  unfolding first_place
  first_each [] has spelled = refl
  first_each (x ∷ xs) has spelled =
      let parts = and_parts (has_identifiers (view x)) (list_all has_identifiers (map view xs)) spelled in
      let here = same_test x has.0 parts.0 in
      let rest = first_each xs has.1 parts.1 in
      λ i. if here i then Some 0 else option_map suc (rest i)

  -- the table has the declaration that counts
  pub owner_declared : (owners : List (Option ℕ)) → AreOwners r.declared.items owners → declared_as (all_in r) (name_at r.paths n) ≡ option_map view (owner_at r.declared.items owners n)
  unfolding declared_as
  owner_declared owners are =
      sym (found_at is_own (all_in r))
      ∙ ap (option_and_then (slice_get (all_in r)))
      (first_mapped is_own view r.declared.items ∙ first_each r.declared.items it.numbered it.identifiers
      ∙ sym (first_mapped (λ m. m == n) entity_number r.declared.items) ∙ sym (are n))
      ∙ mapped_at view r.declared.items (get_or owners n None)

-- ---- what is built in has a type

abbrev has_kind : Entity → Bool
has_kind e = is_some (kind_of_body [] e.body)

all_kinds : list_all has_kind built_in ≡ true
all_kinds = refl

found_kind : (name : List ℕ) (es : List Entity) (e : Entity) → list_all has_kind es ≡ true → find_entity name es ≡ Some e → has_kind e ≡ true
unfolding find_entity
found_kind name [] e all found = absurd (none_some found)
found_kind name (x ∷ xs) e all found = by_test (bytes_eq name x.name) found (and_parts (has_kind x) (list_all has_kind xs) all) (found_kind name xs e)
  where
    by_test : (b : Bool) → (if b then Some x else find_entity name xs) ≡ Some e → (has_kind x ≡ true) × (list_all has_kind xs ≡ true) → (list_all has_kind xs ≡ true → find_entity name xs ≡ Some e → has_kind e ≡ true) → has_kind e ≡ true
    by_test true here parts rest = let one : x ≡ e = cc in ap has_kind (sym one) ∙ parts.0
    by_test false here parts rest = rest parts.1 here

any_name : (name : List ℕ) (b : Body) → is_some (kind_of_body [] b) ≡ true → (k : Kind) × (kind_of_body name b ≡ Some k)
any_name name (uno.interface bases members) is = (kd.interface name, refl)
any_name name (uno.struct base members) is = (kd.struct name, refl)
any_name name (uno.exception base members) is = (kd.exception name, refl)
any_name name (uno.enum items) is = (kd.enum name, refl)
any_name name (uno.constants cs) is = let bad : ⊥ = cc in absurd bad
any_name name (uno.typedef k) is = let bad : ⊥ = cc in absurd bad
any_name name (uno.new_service base constructors) is = let bad : ⊥ = cc in absurd bad
any_name name (uno.old_service parts) is = let bad : ⊥ = cc in absurd bad
any_name name (uno.new_singleton base) is = let bad : ⊥ = cc in absurd bad
any_name name (uno.old_singleton service) is = let bad : ⊥ = cc in absurd bad

pub built_kind : (name : List ℕ) → is_built_in name ≡ true → (k : Kind) × (kind_of_entity name (find_entity name built_in) ≡ Some k)
unfolding is_built_in
built_kind name is = by_found (find_entity name built_in) refl
  where
    by_found : (o : Option Entity) → find_entity name built_in ≡ o → (k : Kind) × (kind_of_entity name (find_entity name built_in) ≡ Some k)
    by_found None found = let bad : false ≡ true = sym (ap is_some found) ∙ is in absurd (false_true bad)
      where
        false_true : false ≡ true → ⊥
        false_true bad = cc
    by_found (Some e) found =
        let own = any_name name e.body (found_kind name built_in e all_kinds found) in
        (own.0, ap (kind_of_entity name) found ∙ own.1)
