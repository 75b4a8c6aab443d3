-- The result and the parameters of a function that is found are of types of the registry, and an interface that declares one is such a type.
use Rattle.std.proofs.Common.{◌≡◌, refl, sym, ap, ◌∙◌, ℕ, zero, suc, ◌+◌, Bool, true, false, not, ◌&&◌, ◌||◌, List, [], ◌∷◌, ◌++◌, length, drop, nat_le, Option, None, Some, slice_get, inl, inr, arith, if◌then◌else◌}
use Rattle.std.specs.Prelude.{Contains}
use Rattle.std.specs.List.{list_all, flat_map, find}
use Rattle.std.specs.Str.{bytes_eq}
use Rattle.std.proofs.lemmas.Bool.{and_parts, and_from}
use Rattle.std.proofs.lemmas.Slice.Eq.{bytes_eq-Decides}
use mathlib.Core.Path.{subst}
use Rattle.message_model.specs.Calls.{numbered}
use Rattle.message_model.proofs.FunctionKindLaws.{numbered_typed}
use Rattle.uno_model.specs.Entities.{Entity, Body, Param, interface, struct, exception, enum, constants, typedef, new_service, old_service, new_singleton, old_singleton}
use Rattle.uno_model.specs.Functions.{Function, declared_in, declared_by, interfaces_of, functions_of}
use Rattle.uno_model.specs.Kinds.{name_of}
use Rattle.uno_model.specs.Kinds as kd
use Rattle.uno_model.specs.Registry.{find_entity}
use Rattle.uno_model.specs.Sound.{IsSound, is_interface, is_storable, is_there, is_within_limits, is_type_body, short_name, few_modules, is_namable, kind_known, elements_storable}
use Rattle.uno_model.specs.Types.{is_type, is_formed}
use Rattle.uno_model.proofs.AllLaws.{each_of_both}
use Rattle.uno_model.proofs.Options.{same_some, none_some}
use Rattle.uno_model.proofs.PlaceLaws.{contains_cases}
use Rattle.uno_model.proofs.UsedKindLaws.{is_member, found_entity}
use Rattle.uno_model.proofs.VisitLaws.{bases_are_interfaces}
use Rattle.plan_model.specs.Contexts.{declared_function, called_function}

-- ---- places in lists

-- it stands at some place
abbrev pub Among : {X : Type 0} → List X → X → Type 0
Among xs x = (n : ℕ) × (slice_get xs n ≡ Some x)

module _ {X : Type 0} where
  one_behind : (x : X) (xs : List X) (y : X) → Among xs y → Among (x ∷ xs) y
  one_behind x xs y at = (suc at.0, at.1)

  in_front : (xs ys : List X) (y : X) → Among xs y → Among (xs ++ ys) y
  in_front [] ys y (n, is) = absurd (none_some is)
  in_front (x ∷ xs) ys y (zero, is) = (zero, is)
  in_front (x ∷ xs) ys y (suc n, is) = one_behind x (xs ++ ys) y (in_front xs ys y (n, is))

  in_back : (xs ys : List X) (y : X) → Among ys y → Among (xs ++ ys) y
  in_back [] ys y at = at
  in_back (x ∷ xs) ys y at = one_behind x (xs ++ ys) y (in_back xs ys y at)

  pub in_rest : (k : ℕ) (xs : List X) (y : X) → Among (drop k xs) y → Among xs y
  in_rest zero xs y at = at
  in_rest (suc k) [] y at = at
  in_rest (suc k) (x ∷ xs) y at = one_behind x xs y (in_rest k xs y at)

  pub at_some_place : (xs : List X) (y : X) → Contains xs y → Among xs y
  at_some_place [] y has = absurd (omega (arith, has.1))
  at_some_place (x ∷ xs) y has = elim (contains_cases x xs y has) [
    | inl here ↦ (zero, ap Some here)
    | inr behind ↦ one_behind x xs y (at_some_place xs y behind)
  ]

  module _ (p : X → Bool) where
    -- what is found passes
    pub found_passes : (xs : List X) (y : X) → find p xs ≡ Some y → p y ≡ true
    found_passes [] y is = absurd (none_some is)
    found_passes (x ∷ xs) y is = by_test (p x) refl (found_passes xs y) is
      where
        by_test : (b : Bool) → p x ≡ b → (find p xs ≡ Some y → p y ≡ true) → (if b then Some x else find p xs) ≡ Some y → p y ≡ true
        by_test true passes later to = subst (λ z. p z ≡ true) (same_some to) passes
        by_test false other later to = later to

    pub found_among : (xs : List X) (y : X) → find p xs ≡ Some y → Among xs y
    found_among [] y is = absurd (none_some is)
    found_among (x ∷ xs) y is = by_test (p x) (found_among xs y) is
      where
        by_test : (b : Bool) → (find p xs ≡ Some y → Among xs y) → (if b then Some x else find p xs) ≡ Some y → Among (x ∷ xs) y
        by_test true later to = (zero, to)
        by_test false later to = one_behind x xs y (later to)

in_all : {X Y : Type 0} (f : X → List Y) (xs : List X) (x : X) (y : Y) → Among xs x → Among (f x) y → Among (flat_map f xs) y
in_all f [] x y (n, is) at = absurd (none_some is)
in_all f (z ∷ zs) x y (zero, is) at = in_front (f z) (flat_map f zs) y (subst (λ w. Among (f w) y) (sym (same_some is)) at)
in_all f (z ∷ zs) x y (suc n, is) at = in_back (f z) (flat_map f zs) y (in_all f zs x y (n, is) at)

-- ---- functions

-- the types of a function are types of the registry
pub record HasTypes (reg : List Entity) (f : Function) : Type 0 where
  pub result : is_type reg f.result_kind ≡ true
  pub params : list_all (λ p. is_type reg p.kind) f.params ≡ true

module _ (reg : List Entity) (sound : IsSound reg) where
  among_typed : (face : List ℕ) (f : Function) → Among (functions_of reg face) f → HasTypes reg f
  unfolding numbered
  among_typed face f at =
      let types = numbered_typed reg sound face at.0 f at.1 in
      record { result = types.0; params = (each_of_both (λ (p : Param). is_storable p.kind) (λ p. is_type reg p.kind) f.params types.1).1 }

  pub called_typed : (face name : List ℕ) (f : Function) → called_function reg face name ≡ Some f → HasTypes reg f
  unfolding called_function
  called_typed face name f is =
      among_typed face f (in_rest 3 (functions_of reg face) f (found_among (λ g. bytes_eq name g.name) (drop 3 (functions_of reg face)) f is))

  -- the name under which it is found is its own
  pub called_name : (face name : List ℕ) (f : Function) → called_function reg face name ≡ Some f → name ≡ f.name
  unfolding called_function
  called_name face name f is = (bytes_eq-Decides name f.name).0 (found_passes (λ g. bytes_eq name g.name) (drop 3 (functions_of reg face)) f is)

  pub declared_typed : (face name : List ℕ) (f : Function) → declared_function reg face name ≡ Some f → HasTypes reg f
  unfolding declared_function
  declared_typed face name f is =
      let own = found_among (λ g. bytes_eq name g.name) (declared_by face (find_entity face reg)) f is in
      let itself = at_some_place (interfaces_of reg face) face (bases_are_interfaces reg face face sound.no_circle (inl refl)) in
      among_typed face f (in_all (λ owner. declared_by owner (find_entity owner reg)) (interfaces_of reg face) face f itself own)

  -- only an interface declares functions
  declares : (face : List ℕ) (p : Function → Bool) (body : Body) (f : Function) → find p (declared_in face body) ≡ Some f → is_interface body ≡ true
  declares face p (interface bases members) f is = refl
  declares face p _ f is = absurd (none_some is)

  interface_short : (face : List ℕ) (e : Entity) → find_entity face reg ≡ Some e → is_interface e.body ≡ true → nat_le (length face) 4096 ≡ true
  interface_short face e found is =
      let limits = found_entity is_within_limits face reg e sound.limits found in
      let body : is_type_body e.body ≡ true = rw is refl in
      let rest = (and_parts (few_modules e.name && (not (is_type_body e.body) || short_name e.name)) _ limits.0).0 in
      let named = (and_parts (few_modules e.name) (not (is_type_body e.body) || short_name e.name) rest).1 in
      let own : short_name e.name ≡ true = rw body at named in
      subst (λ n. nat_le (length n) 4096 ≡ true) limits.1 own

  pub interface_type : (face : List ℕ) (e : Entity) → find_entity face reg ≡ Some e → is_interface e.body ≡ true → is_type reg (kd.interface face) ≡ true
  interface_type face e found is =
      let there : is_there reg is_interface face ≡ true = rw found is in
      let formed = and_from (is_there reg is_interface face) true there refl in
      and_from (is_formed reg (kd.interface face)) (is_namable (kd.interface face)) formed
      (and_from (nat_le (length face) 4096) (nat_le 0 64) (interface_short face e found is) refl)

  pub declared_face : (face name : List ℕ) (f : Function) → declared_function reg face name ≡ Some f → is_type reg (kd.interface face) ≡ true
  unfolding declared_function
  declared_face face name f is = by_entity (find_entity face reg) refl is
    where
      by_entity : (o : Option Entity) → find_entity face reg ≡ o → find (λ g. bytes_eq name g.name) (declared_by face o) ≡ Some f → is_type reg (kd.interface face) ≡ true
      by_entity None found to = absurd (none_some to)
      by_entity (Some e) found to = interface_type face e found (declares face (λ g. bytes_eq name g.name) e.body f to)
