-- Members over levels of bases: where all ways end, more levels bring no more.
use Rattle.std.proofs.Common.{◌≡◌, ℕ, zero, suc, ◌-◌, ◌<◌, Bool, true, List, [], ◌∷◌, ◌++◌, length, map, Option, None, Some, refl, sym, ap, ◌∙◌, arith}
use Rattle.std.specs.Prelude.{Contains}
use Rattle.std.specs.List.{flat_map}
use Rattle.std.proofs.lemmas.List.{length-map, get_or-map}
use Rattle.std.proofs.lemmas.List.Elements.{Contains-append_left}
use Rattle.std.proofs.lemmas.List.Concat.{flat_map-cons}
use Rattle.uno_model.specs.Circles.{HasNoCircle, ends_within}
use Rattle.uno_model.specs.Entities.{Entity, Body, interface, struct, exception, enum, constants, typedef, new_service, old_service, new_singleton, old_singleton}
use Rattle.uno_model.specs.Registry.{find_entity, leads_to, leads_to_body, member_bases, own_members, members_within, all_members}
use Rattle.uno_model.proofs.CircleLaws.{none_ends_at_once, next_ends, no_circle_ends}
use Rattle.uno_model.proofs.PlaceLaws.{at_slice, contains_head, contains_behind}
use Rattle.uno_model.proofs.ReachLaws.{found_place}

-- nothing is in an empty list
pub nothing_in : {X : Type 0} (x : X) → Contains [] x → ⊥
nothing_in x has = omega (arith, has.1)

-- an entity of this body
abbrev with_body : List ℕ → Bool → Body → Option Entity
with_body name published body = Some (record { name = name; published = published; body = body })

-- an entity leads to the base that it has members from
body_leads : (name : List ℕ) (published : Bool) (body : Body) (base : List ℕ) → Contains (member_bases (with_body name published body)) base
    → Contains (leads_to_body (with_body name published body)) base
body_leads name published (struct b members) base has = Contains-append_left _ _ base has
body_leads name published (exception b members) base has = has
body_leads name published (interface bs members) base has = absurd (nothing_in base has)
body_leads name published (enum items) base has = absurd (nothing_in base has)
body_leads name published (constants cs) base has = absurd (nothing_in base has)
body_leads name published (typedef k) base has = absurd (nothing_in base has)
body_leads name published (new_service b cs) base has = absurd (nothing_in base has)
body_leads name published (old_service ps) base has = absurd (nothing_in base has)
body_leads name published (new_singleton b) base has = absurd (nothing_in base has)
body_leads name published (old_singleton s) base has = absurd (nothing_in base has)

pub base_leads : (o : Option Entity) (base : List ℕ) → Contains (member_bases o) base → Contains (leads_to_body o) base
base_leads None base has = has
base_leads (Some e) base has = body_leads e.name e.published e.body base has

-- two functions that agree at what a list contains give one list
pub flat_map_same : {X Y : Type 0} (f g : X → List Y) (xs : List X) → ((x : X) → Contains xs x → f x ≡ g x) → flat_map f xs ≡ flat_map g xs
flat_map_same f g [] same = refl
flat_map_same f g (x ∷ xs) same =
    let here : f x ≡ g x = same x (contains_head x xs) in
    let behind : flat_map f xs ≡ flat_map g xs = flat_map_same f g xs (λ y has. same y (contains_behind x xs y has)) in
    rw (flat_map-cons f x xs, flat_map-cons g x xs, here, behind) refl

-- a name all of whose ways end within so many levels has no members beyond them
pub members_more : (levels : ℕ) (reg : List Entity) (name : List ℕ) → ends_within (leads_to reg) levels name ≡ true
    → members_within (suc levels) reg name ≡ members_within levels reg name
unfolding members_within
members_more zero reg name ends = absurd (none_ends_at_once (leads_to reg) name ends)
members_more (suc levels) reg name ends =
    let o = find_entity name reg in
    ap (λ ms. ms ++ own_members o) (flat_map_same (members_within (suc levels) reg) (members_within levels reg) (member_bases o)
    (λ base has. members_more levels reg base (next_ends (leads_to reg) levels name base ends (base_leads o base has))))

-- what leads anywhere is among the names
leads_named : (reg : List Entity) (name next : List ℕ) (o : Option Entity) → find_entity name reg ≡ o → Contains (leads_to_body o) next
    → Contains (map (λ (e : Entity). e.name) reg) name
leads_named reg name next None is has = absurd (nothing_in next has)
leads_named reg name next (Some e) is has =
    let place = found_place name reg e is in
    let there = at_slice reg place.0 e e place.1 in
    (place.0, omega (arith, there.0, length-map reg (λ (x : Entity). x.name)), get_or-map (λ (x : Entity). x.name) reg place.0 e name there.0 ∙ ap (λ (x : Entity). x.name) there.1 ∙ place.2)

-- without a circle each way ends within as many steps as there are entities
pub all_ways_end : (reg : List Entity) (name : List ℕ) → HasNoCircle (leads_to reg) → ends_within (leads_to reg) (suc (length reg)) name ≡ true
all_ways_end reg name none =
    no_circle_ends (leads_to reg) (length reg) (map (λ (e : Entity). e.name) reg) name none (length-map reg (λ (e : Entity). e.name))
    (λ b on_way c out. leads_named reg b c (find_entity b reg) refl out)

-- without a circle, all members are those of the base and the entity's own
pub all_members_are : (reg : List Entity) (name : List ℕ) → HasNoCircle (leads_to reg)
    → all_members reg name ≡ flat_map (all_members reg) (member_bases (find_entity name reg)) ++ own_members (find_entity name reg)
unfolding members_within
all_members_are reg name none =
    let o = find_entity name reg in
    let ends = all_ways_end reg name none in
    ap (λ ms. ms ++ own_members o) (flat_map_same (members_within (length reg) reg) (all_members reg) (member_bases o)
    (λ base has. sym (members_more (length reg) reg base (next_ends (leads_to reg) (length reg) name base ends (base_leads o base has)))))

-- over one level or more, the members are those of the base over one level less, if there is one, and then the entity's own
pub members_up : (levels : ℕ) (reg : List Entity) (name : List ℕ) (bases : List (List ℕ)) → 0 < levels → bases ≡ member_bases (find_entity name reg)
    → members_within levels reg name ≡ flat_map (members_within (levels - 1) reg) bases ++ own_members (find_entity name reg)
unfolding members_within
members_up zero reg name bases some is = absurd (omega arith)
members_up (suc levels) reg name bases some is = let one : suc levels - 1 ≡ levels = omega arith in rw (is, one) refl

-- over no level there are none
pub no_members : (levels : ℕ) (reg : List Entity) (name : List ℕ) → levels ≡ 0 → members_within levels reg name ≡ []
unfolding members_within
no_members zero reg name none = refl
no_members (suc levels) reg name none = absurd (omega arith)
