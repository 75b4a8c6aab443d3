-- In a sound registry a struct or an exception has a member, and each of its members is of a type of the registry, neither void nor an exception.
use Rattle.std.proofs.Common.{◌≡◌, ℕ, zero, suc, Bool, true, false, not, ◌||◌, ◌&&◌, List, [], ◌∷◌, ◌++◌, length, map, Option, None, Some, refl, sym, ◌∙◌, subst, inl, inr}
use Rattle.std.specs.List.{list_all, flat_map}
use Rattle.std.proofs.lemmas.Bool.{and_parts}
use Rattle.std.proofs.lemmas.List.Folds.{list_all-map}
use Rattle.uno_model.specs.Entities.{Entity, Body, Field, interface, struct, exception, enum, constants, typedef, new_service, old_service, new_singleton, old_singleton}
use Rattle.uno_model.specs.Fits.{IsTupleKind, member_kinds}
use Rattle.uno_model.specs.Kinds.{Kind}
use Rattle.uno_model.specs.Kinds as kd
use Rattle.uno_model.specs.Registry.{find_entity, member_bases, own_members, members_within, all_members}
use Rattle.uno_model.specs.Sound.{IsSound, is_struct, is_exception, is_there, has_member, is_some_list, kind_known, is_namable, is_storable}
use Rattle.uno_model.specs.Types.{is_type, is_formed}
use Rattle.uno_model.specs.Uses.{value_kinds}
use Rattle.uno_model.proofs.AllLaws.{all_append, all_flat, all_pass, each_of_both}
use Rattle.uno_model.proofs.UsedKindLaws.{found_entity, is_member, value_kinds_are}
use Rattle.uno_model.proofs.Options.{same_some, none_some}

-- the test of a member's type
abbrev member_passes : List Entity → Field → Bool
member_passes reg f = is_member reg f.kind

-- what an entity declares itself
own_of : (reg : List Entity) (name : List ℕ) (published : Bool) (body : Body) → list_all (is_member reg) (value_kinds body) ≡ true
    → list_all (member_passes reg) (own_members (Some (record { name = name; published = published; body = body }))) ≡ true
own_of reg name published (struct base members) all = sym (list_all-map (is_member reg) (λ f. f.kind) members) ∙ all
own_of reg name published (exception base members) all = sym (list_all-map (is_member reg) (λ f. f.kind) members) ∙ all
own_of reg name published (interface bs members) all = refl
own_of reg name published (enum items) all = refl
own_of reg name published (constants cs) all = refl
own_of reg name published (typedef k) all = refl
own_of reg name published (new_service b cs) all = refl
own_of reg name published (old_service ps) all = refl
own_of reg name published (new_singleton b) all = refl
own_of reg name published (old_singleton s) all = refl

module _ (reg : List Entity) (sound : IsSound reg) where
  own_ruled : (name : List ℕ) (o : Option Entity) → find_entity name reg ≡ o → list_all (member_passes reg) (own_members o) ≡ true
  own_ruled name None found = refl
  own_ruled name (Some e) found = own_of reg e.name e.published e.body (value_kinds_are reg sound name e found)

  ruled_within : (levels : ℕ) (name : List ℕ) → list_all (member_passes reg) (members_within levels reg name) ≡ true
  unfolding members_within
  ruled_within zero name = refl
  ruled_within (suc levels) name =
      all_append (member_passes reg) (flat_map (members_within levels reg) (member_bases (find_entity name reg))) (own_members (find_entity name reg))
      (all_flat (member_passes reg) (members_within levels reg) (member_bases (find_entity name reg))
      (all_pass (λ base. list_all (member_passes reg) (members_within levels reg base)) (ruled_within levels) (member_bases (find_entity name reg))))
      (own_ruled name (find_entity name reg) refl)

  -- all members are that
  pub members_ruled : (name : List ℕ) → list_all (is_member reg) (member_kinds reg name) ≡ true
  members_ruled name = list_all-map (is_member reg) (λ f. f.kind) (all_members reg name) ∙ ruled_within (suc (length reg)) name

-- there is a member
some_kinds : (fs : List Field) → is_some_list fs ≡ true → is_some_list (map (λ f. f.kind) fs) ≡ true
some_kinds [] some = some
some_kinds (f ∷ fs) some = refl

not_or : (x y : Bool) → (not x || y) ≡ true → x ≡ true → y ≡ true
not_or true y is x = is
not_or false y is x = absurd cc

or_struct : (b : Body) → is_struct b ≡ true → (is_struct b || is_exception b) ≡ true
or_struct b is = rw is refl

or_exception : (b : Body) → is_exception b ≡ true → (is_struct b || is_exception b) ≡ true
or_exception b is = elim (is_struct b) as (λ t. (t || is_exception b) ≡ true) [ true ↦ refl | false ↦ is ]

some_there : (reg : List Entity) (wanted : Body → Bool) (name : List ℕ) → IsSound reg → ((b : Body) → wanted b ≡ true → (is_struct b || is_exception b) ≡ true)
    → is_there reg wanted name ≡ true
    → is_some_list (all_members reg name) ≡ true
some_there reg wanted name sound is there = by_find (find_entity name reg) refl
  where
    by_find : (o : Option Entity) → find_entity name reg ≡ o → is_some_list (all_members reg name) ≡ true
    by_find None absent = let bad : false ≡ true = rw absent at there in absurd cc
    by_find (Some e) found =
        let body : wanted e.body ≡ true = rw found at there in
        let has = found_entity (has_member reg) name reg e sound.members found in
        subst (λ n. is_some_list (all_members reg n) ≡ true) has.1 (not_or (is_struct e.body || is_exception e.body) _ has.0 (is e.body body))

pub members_some : (reg : List Entity) (name : List ℕ) (k : Kind) → IsSound reg → IsTupleKind name k → is_type reg k ≡ true → is_some_list (member_kinds reg name) ≡ true
members_some reg name k sound at is = some_kinds (all_members reg name) (elim at [
  | inl here ↦ some_there reg is_struct name sound or_struct (known (kd.struct name) (subst (λ j. is_type reg j ≡ true) here is))
  | inr here ↦ some_there reg is_exception name sound or_exception (known (kd.exception name) (subst (λ j. is_type reg j ≡ true) here is))
])
  where
    known : (j : Kind) → is_type reg j ≡ true → kind_known reg j ≡ true
    known j type = (and_parts (kind_known reg j) _ (and_parts (is_formed reg j) (is_namable j) type).0).0

-- each member is of a type that has the form of one
pub members_formed : (reg : List Entity) (name : List ℕ) → IsSound reg → list_all (is_formed reg) (member_kinds reg name) ≡ true
members_formed reg name sound =
    (each_of_both (is_formed reg) is_namable (member_kinds reg name)
    (each_of_both is_storable (is_type reg) (member_kinds reg name) (members_ruled reg sound name)).1).0
