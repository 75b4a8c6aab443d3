-- In a sound registry the result of each function is of a type of the registry, and so is each parameter, which is neither void nor an exception.
use Rattle.std.proofs.Common.{◌≡◌, ℕ, zero, suc, Bool, true, false, ◌&&◌, List, [], ◌∷◌, Option, None, Some, refl, sym, ◌∙◌, if◌then◌else◌}
use Rattle.std.specs.List.{list_all, flat_map, slice_get}
use Rattle.std.proofs.lemmas.Bool.{and_parts, and_from}
use Rattle.std.proofs.lemmas.List.Folds.{list_all-map}
use Rattle.uno_model.specs.Entities.{Entity, Param, Member, attribute, method}
use Rattle.uno_model.specs.Entities.{Body, interface, struct, exception, enum, constants, typedef, new_service, old_service, new_singleton, old_singleton}
use Rattle.uno_model.specs.Functions.{Function, getter, setter, call, accessors_of, calls_of, declared_in, declared_by, interfaces_of, functions_of}
use Rattle.uno_model.specs.Registry.{find_entity}
use Rattle.uno_model.specs.Sound.{IsSound, is_storable}
use Rattle.uno_model.specs.Types.{is_type}
use Rattle.uno_model.specs.Uses.{value_kinds_of, result_kinds_of, value_kinds, result_kinds}
use Rattle.uno_model.specs.declared.way.Way.{Way}
use Rattle.uno_model.proofs.AllLaws.{all_append, all_flat, all_pass, of_flat}
use Rattle.uno_model.proofs.UsedKindLaws.{is_member, value_kinds_are, result_kinds_are}
use Rattle.uno_model.proofs.Options.{same_some, none_some}
use Rattle.message_model.specs.Calls.{numbered, kinds_on}

-- ---- lists

-- what holds of all holds of the one at a place
got_one : {X : Type 0} (P : X → Bool) (xs : List X) (at : ℕ) (x : X) → list_all P xs ≡ true → slice_get xs at ≡ Some x → P x ≡ true
got_one P [] at x all is = absurd (none_some is)
got_one P (y ∷ ys) zero x all is =
    let same : y ≡ x = same_some is in
    let one = (and_parts (P y) (list_all P ys) all).0 in
    cc
got_one P (y ∷ ys) (suc at) x all is = got_one P ys at x (and_parts (P y) (list_all P ys) all).1 is

module _ {X Y : Type 0} (Q R : X → Bool) (P : Y → Bool) (f : X → List Y) (each : (x : X) → Q x ≡ true → R x ≡ true → list_all P (f x) ≡ true) where
  all_from : (xs : List X) → list_all Q xs ≡ true → list_all R xs ≡ true → list_all P (flat_map f xs) ≡ true
  all_from [] all also = refl
  all_from (x ∷ xs) all also =
      let q = and_parts (Q x) (list_all Q xs) all in
      let r = and_parts (R x) (list_all R xs) also in
      all_append P (f x) (flat_map f xs) (each x q.0 r.0) (all_from xs q.1 r.1)

-- ---- types

module _ (reg : List Entity) where
  -- a function whose result and parameters are of types of the registry
  abbrev pub is_typed : Function → Bool
  is_typed f = is_type reg f.result_kind && list_all (λ p. is_member reg p.kind) f.params

  typed : (f : Function) → is_type reg f.result_kind ≡ true → list_all (λ p. is_member reg p.kind) f.params ≡ true → list_all is_typed (f ∷ []) ≡ true
  typed f result params =
      and_from (is_typed f) true (and_from (is_type reg f.result_kind) (list_all (λ (p : Param). is_member reg p.kind) f.params) result params) refl

  -- ---- functions

  values_typed : Member → Bool
  values_typed m = list_all (is_member reg) (value_kinds_of m)

  results_typed : Member → Bool
  results_typed m = list_all (is_type reg) (result_kinds_of m)

  accessors_typed : (owner : List ℕ) (m : Member) → values_typed m ≡ true → results_typed m ≡ true → list_all is_typed (accessors_of owner m) ≡ true
  unfolding values_typed
  accessors_typed owner (method m) values results = refl
  accessors_typed owner (attribute a) values results =
      let member = (and_parts (is_member reg a.kind) true values).0 in
      let type = (and_parts (is_storable a.kind) (is_type reg a.kind) member).1 in
      let get = typed (getter owner a) type refl in
      let set = typed (setter owner a) refl (and_from (is_member reg a.kind) true member refl) in
      elim a.read_only as (λ t. list_all is_typed (if t then getter owner a ∷ [] else getter owner a ∷ (setter owner a ∷ [])) ≡ true) [
        | true ↦ get
        | false ↦ all_append is_typed (getter owner a ∷ []) (setter owner a ∷ []) get set
      ]

  calls_typed : (owner : List ℕ) (m : Member) → values_typed m ≡ true → results_typed m ≡ true → list_all is_typed (calls_of owner m) ≡ true
  unfolding values_typed results_typed
  calls_typed owner (attribute a) values results = refl
  calls_typed owner (method m) values results =
      let params = sym (list_all-map (is_member reg) (λ p. p.kind) m.params) ∙ values in
      typed (call owner m) (and_parts (is_type reg m.result_kind) true results).0 params

  declared_typed : (owner : List ℕ) (body : Body) → list_all (is_member reg) (value_kinds body) ≡ true → list_all (is_type reg) (result_kinds body) ≡ true
      → list_all is_typed (declared_in owner body) ≡ true
  unfolding values_typed results_typed
  declared_typed owner (interface bases members) values results =
      let v = of_flat (is_member reg) value_kinds_of members values in
      let r = of_flat (is_type reg) result_kinds_of members results in
      all_append is_typed (flat_map (accessors_of owner) members) (flat_map (calls_of owner) members)
      (all_from values_typed results_typed is_typed (accessors_of owner) (accessors_typed owner) members v r)
      (all_from values_typed results_typed is_typed (calls_of owner) (calls_typed owner) members v r)
  declared_typed owner (struct base members) values results = refl
  declared_typed owner (exception base members) values results = refl
  declared_typed owner (enum items) values results = refl
  declared_typed owner (constants cs) values results = refl
  declared_typed owner (typedef k) values results = refl
  declared_typed owner (new_service b cs) values results = refl
  declared_typed owner (old_service ps) values results = refl
  declared_typed owner (new_singleton b) values results = refl
  declared_typed owner (old_singleton s) values results = refl

  module _ (sound : IsSound reg) where
    owned_typed : (owner : List ℕ) (o : Option Entity) → find_entity owner reg ≡ o → list_all is_typed (declared_by owner o) ≡ true
    owned_typed owner None found = refl
    owned_typed owner (Some e) found = declared_typed owner e.body (value_kinds_are reg sound owner e found) (result_kinds_are reg sound owner e found)

    all_typed : (face : List ℕ) → list_all is_typed (functions_of reg face) ≡ true
    all_typed face =
        let of_owner : List ℕ → List Function = λ owner. declared_by owner (find_entity owner reg) in
        all_flat is_typed of_owner (interfaces_of reg face)
        (all_pass (λ owner. list_all is_typed (of_owner owner)) (λ owner. owned_typed owner (find_entity owner reg) refl) (interfaces_of reg face))

    pub numbered_typed : (face : List ℕ) (function : ℕ) (f : Function) → numbered reg face function ≡ Some f
        → (is_type reg f.result_kind ≡ true) × (list_all (λ p. is_member reg p.kind) f.params ≡ true)
    unfolding numbered
    numbered_typed face function f found =
        let params = list_all (λ (p : Param). is_member reg p.kind) f.params in
        and_parts (is_type reg f.result_kind) params (got_one is_typed (functions_of reg face) function f (all_typed face) found)

  -- the types of the parameters that pass a test on their way
  pub on_way_typed : (test : Way → Bool) (ps : List Param) → list_all (λ p. is_member reg p.kind) ps ≡ true → list_all (is_member reg) (kinds_on test ps) ≡ true
  unfolding kinds_on
  on_way_typed test [] all = refl
  on_way_typed test (p ∷ ps) all =
      let parts = and_parts (is_member reg p.kind) (list_all (λ (q : Param). is_member reg q.kind) ps) all in
      let others = on_way_typed test ps parts.1 in
      elim (test p.way) as (λ t. list_all (is_member reg) (if t then p.kind ∷ kinds_on test ps else kinds_on test ps) ≡ true) [
        | true ↦ and_from (is_member reg p.kind) (list_all (is_member reg) (kinds_on test ps)) parts.0 others
        | false ↦ others
      ]
