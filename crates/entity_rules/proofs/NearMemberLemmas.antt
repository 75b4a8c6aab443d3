-- Without a circle each struct and exception has a member just where each has one of its own, or a base that is one too.
use Rattle.std.proofs.Common.{◌≡◌, ℕ, zero, suc, Bool, true, false, not, ◌||◌, List, [], ◌∷◌, ◌++◌, length, Option, None, Some, refl, sym, ap, subst, ◌∙◌, ◌⊎◌, inl, inr}
use Rattle.std.specs.Prelude.{Contains}
use Rattle.std.specs.List.{list_all, list_any, flat_map}
use Rattle.std.proofs.lemmas.List.Concat.{flat_map-cons}
use Rattle.uno_model.specs.Circles.{HasNoCircle, ends_within}
use Rattle.uno_model.specs.Entities.{Entity, Body, interface, struct, exception, enum, constants, typedef, new_service, old_service, new_singleton, old_singleton}
use Rattle.uno_model.specs.Registry.{IsRising, find_entity, leads_to, leads_to_body, own_members, member_bases, members_within}
use Rattle.uno_model.specs.Sound.{is_there, is_some_list, has_member}
use Rattle.uno_model.proofs.CircleLaws.{all_at, all_from, none_ends_at_once, next_ends}
use Rattle.uno_model.proofs.BuiltInLaws.{contained_found}
use Rattle.uno_model.proofs.MemberLaws.{base_leads, all_ways_end}
use Rattle.uno_model.proofs.PlaceLaws.{at_slice, contains_head, contains_behind}
use Rattle.uno_model.proofs.ReachLaws.{found_place}
use Rattle.entity_rules.specs.NearMembers.{carries, has_near_member}

-- ---- tests

or_cases : (a b : Bool) → (a || b) ≡ true → (a ≡ true) ⊎ (b ≡ true)
or_cases true b e = inl refl
or_cases false b e = inr e

or_left : (a b : Bool) → a ≡ true → (a || b) ≡ true
or_left true b e = refl
or_left false b e = let bad : false ≡ true = e in absurd cc

or_right : (a b : Bool) → b ≡ true → (a || b) ≡ true
or_right true b e = refl
or_right false b e = e

-- 'if the one, then the other', as a test
then_other : (a b : Bool) → (not a || b) ≡ true → a ≡ true → b ≡ true
then_other true b e is = e
then_other false b e is = let bad : false ≡ true = is in absurd cc

from_then : (a b : Bool) → (a ≡ true → b ≡ true) → (not a || b) ≡ true
from_then true b e = e refl
from_then false b e = refl

same_tests : (a b : Bool) → (a ≡ true → b ≡ true) → (b ≡ true → a ≡ true) → a ≡ b
same_tests true b to from = sym (to refl)
same_tests false true to from = from refl
same_tests false false to from = refl

-- ---- lists in which there is something

some_front : {X : Type 0} (xs ys : List X) → is_some_list xs ≡ true → is_some_list (xs ++ ys) ≡ true
some_front [] ys e = let bad : false ≡ true = e in absurd cc
some_front (x ∷ xs) ys e = refl

some_behind : {X : Type 0} (xs ys : List X) → is_some_list ys ≡ true → is_some_list (xs ++ ys) ≡ true
some_behind [] ys e = e
some_behind (x ∷ xs) ys e = refl

some_parts : {X : Type 0} (xs ys : List X) → is_some_list (xs ++ ys) ≡ true → (is_some_list xs ≡ true) ⊎ (is_some_list ys ≡ true)
some_parts [] ys e = inr e
some_parts (x ∷ xs) ys e = inl refl

some_from : {X Y : Type 0} (f : X → List Y) (p : X → Bool) (xs : List X) → list_any p xs ≡ true → ((x : X) → Contains xs x → p x ≡ true → is_some_list (f x) ≡ true)
    → is_some_list (flat_map f xs) ≡ true
some_from f p [] any each = let bad : false ≡ true = any in absurd cc
some_from f p (x ∷ xs) any each =
    subst (λ ys. is_some_list ys ≡ true) (sym (flat_map-cons f x xs)) (elim (or_cases (p x) (list_any p xs) any) [
      | inl here ↦ some_front (f x) (flat_map f xs) (each x (contains_head x xs) here)
      | inr later ↦ some_behind (f x) (flat_map f xs) (some_from f p xs later (λ y has. each y (contains_behind x xs y has)))
    ])

some_to : {X Y : Type 0} (f : X → List Y) (p : X → Bool) (xs : List X) → ((x : X) → is_some_list (f x) ≡ true → p x ≡ true)
    → is_some_list (flat_map f xs) ≡ true → list_any p xs ≡ true
some_to f p [] each some = some
some_to f p (x ∷ xs) each some =
    elim (some_parts (f x) (flat_map f xs) (subst (λ ys. is_some_list ys ≡ true) (flat_map-cons f x xs) some))
    [ inl here ↦ or_left (p x) (list_any p xs) (each x here) | inr later ↦ or_right (p x) (list_any p xs) (some_to f p xs each later) ]

-- ---- what is found

there_is : (reg : List Entity) (wanted : Body → Bool) (name : List ℕ) (e : Entity) → find_entity name reg ≡ Some e → is_there reg wanted name ≡ wanted e.body
there_is reg wanted name e is = rw is refl

not_there : (reg : List Entity) (wanted : Body → Bool) (name : List ℕ) → find_entity name reg ≡ None → is_there reg wanted name ≡ false
not_there reg wanted name is = rw is refl

there_entity : (reg : List Entity) (wanted : Body → Bool) (name : List ℕ) (o : Option Entity) → find_entity name reg ≡ o → is_there reg wanted name ≡ true
    → (e : Entity) × (find_entity name reg ≡ Some e) × (wanted e.body ≡ true)
there_entity reg wanted name None is there = let bad : false ≡ true = sym (not_there reg wanted name is) ∙ there in absurd cc
there_entity reg wanted name (Some e) is there = (e, is, sym (there_is reg wanted name e is) ∙ there)

found_contained : (reg : List Entity) (name : List ℕ) (e : Entity) → find_entity name reg ≡ Some e → Contains reg e
found_contained reg name e is = let place = found_place name reg e is in let at = at_slice reg place.0 e e place.1 in (place.0, at.0, at.1)

-- ---- members

-- the members of an entity that is found
members_of : (reg : List Entity) (levels : ℕ) (name : List ℕ) (e : Entity) → find_entity name reg ≡ Some e
    → members_within (suc levels) reg name ≡ flat_map (members_within levels reg) (member_bases (Some e)) ++ own_members (Some e)
unfolding members_within
members_of reg levels name e is = rw is refl

-- where each has one near, what ends has one within as many levels
near_has : (reg : List Entity) (levels : ℕ) (name : List ℕ) → list_all (has_near_member reg) reg ≡ true → ends_within (leads_to reg) levels name ≡ true
    → is_there reg carries name ≡ true
    → is_some_list (members_within levels reg name) ≡ true
near_has reg zero name all ends there = absurd (none_ends_at_once (leads_to reg) name ends)
near_has reg (suc levels) name all ends there =
    let found = there_entity reg carries name (find_entity name reg) refl there in
    let e = found.0 in
    let near = then_other (carries e.body) _ (all_at (has_near_member reg) reg e all (found_contained reg name e found.1)) found.2 in
    let leads = λ (base : List ℕ) (has : Contains (member_bases (Some e)) base). subst (λ o. Contains (leads_to_body o) base) (sym found.1) (base_leads (Some e) base has) in
    let behind = λ (base : List ℕ) (has : Contains (member_bases (Some e)) base). near_has reg levels base all (next_ends (leads_to reg) levels name base ends (leads base has)) in
    subst (λ ms. is_some_list ms ≡ true) (sym (members_of reg levels name e found.1)) (elim (or_cases (is_some_list (own_members (Some e))) _ near)
    [ inl own ↦ some_behind _ _ own | inr any ↦ some_front _ _ (some_from (members_within levels reg) (is_there reg carries) (member_bases (Some e)) any behind) ])

-- an entity of this body
abbrev with_body : List ℕ → Bool → Body → Option Entity
with_body name published body = Some (record { name = name; published = published; body = body })

-- what has members is a struct or an exception
body_carries : (reg : List Entity) (levels : ℕ) (name : List ℕ) (published : Bool) (body : Body)
    → is_some_list (flat_map (members_within levels reg) (member_bases (with_body name published body)) ++ own_members (with_body name published body)) ≡ true → carries body ≡ true
body_carries reg levels name published (struct base members) some = refl
body_carries reg levels name published (exception base members) some = refl
body_carries reg levels name published (interface bases members) some = some
body_carries reg levels name published (enum items) some = some
body_carries reg levels name published (constants cs) some = some
body_carries reg levels name published (typedef k) some = some
body_carries reg levels name published (new_service base cs) some = some
body_carries reg levels name published (old_service parts) some = some
body_carries reg levels name published (new_singleton base) some = some
body_carries reg levels name published (old_singleton service) some = some

-- where nothing is found there are no members
nothing_found : (reg : List Entity) (levels : ℕ) (name : List ℕ) → find_entity name reg ≡ None → members_within levels reg name ≡ []
unfolding members_within
nothing_found reg zero name is = refl
nothing_found reg (suc levels) name is = rw is refl

carried : (reg : List Entity) (levels : ℕ) (name : List ℕ) (o : Option Entity) → find_entity name reg ≡ o
    → is_some_list (members_within levels reg name) ≡ true → is_there reg carries name ≡ true
unfolding members_within
carried reg levels name None is some = let bad : false ≡ true = ap is_some_list (sym (nothing_found reg levels name is)) ∙ some in absurd cc
carried reg zero name (Some e) is some = let bad : false ≡ true = some in absurd cc
carried reg (suc levels) name (Some e) is some =
    there_is reg carries name e is ∙ body_carries reg levels e.name e.published e.body (subst (λ ms. is_some_list ms ≡ true) (members_of reg levels name e is) some)

-- what has a member has one near
has_near : (reg : List Entity) (levels : ℕ) (name : List ℕ) (e : Entity) → find_entity name reg ≡ Some e → is_some_list (members_within (suc levels) reg name) ≡ true
    → (is_some_list (own_members (Some e)) || list_any (is_there reg carries) (member_bases (Some e))) ≡ true
has_near reg levels name e is some =
    elim (some_parts (flat_map (members_within levels reg) (member_bases (Some e))) (own_members (Some e)) (subst (λ ms. is_some_list ms ≡ true) (members_of reg levels name e is) some)) [
      | inl behind ↦ or_right _ _ (some_to (members_within levels reg) (is_there reg carries) (member_bases (Some e)) (λ base. carried reg levels base (find_entity base reg) refl) behind)
      | inr own ↦ or_left _ _ own
    ]

-- so the two tests of a registry are one
pub near_all : (reg : List Entity) → HasNoCircle (leads_to reg) → IsRising reg → list_all (has_near_member reg) reg ≡ list_all (has_member reg) reg
near_all reg none rising =
    same_tests (list_all (has_near_member reg) reg) (list_all (has_member reg) reg)
    (λ all. all_from (has_member reg) reg (λ e in'. from_then (carries e.body) _
    (λ is. near_has reg (suc (length reg)) e.name all (all_ways_end reg e.name none) (there_is reg carries e.name e (contained_found reg e rising in') ∙ is))))
    (λ all. all_from (has_near_member reg) reg (λ e in'. from_then (carries e.body) _
    (λ is. has_near reg (length reg) e.name e (contained_found reg e rising in') (then_other (carries e.body) _ (all_at (has_member reg) reg e all in') is))))
