-- What an entity writes that is changed: its types changed, and its names as they were.
use Rattle.std.proofs.Common.{◌≡◌, ◌∷◌, ◌++◌, map, refl, sym, ap, ap₂, ◌∙◌}
use Rattle.std.proofs.lemmas.List.{map-append}
use Rattle.uno_model.specs.Entities.{Member, attribute, method, Constructor, Part, face, subservice, property}
use Rattle.uno_model.specs.Entities.{Body, interface, struct, exception, enum, constants, typedef, new_service, old_service, new_singleton}
use Rattle.uno_model.specs.Entities.{old_singleton, Entity}
use Rattle.uno_model.specs.Sound.{is_named}
use Rattle.uno_model.specs.Uses.{kinds_in, value_kinds, result_kinds, target_kinds, value_kinds_of, result_kinds_of, property_kinds, inner_names}
use Rattle.uno_model.specs.Uses.{member_names, constructor_names, part_names}
use Rattle.uno_model.specs.Uses.{raised_by, interfaces_of_part, services_of_part}
use Rattle.registry_text_model.specs.Reading.{names_used}
use Rattle.registry_reading_model.proofs.ListMaps.{maps_agree, map_of_maps, flat_maps_agree, map_of_flat_maps}
use Rattle.registry_reading_model.specs.Changes.{Change, field_changed, param_changed, member_changed, item_changed, constant_changed}
use Rattle.registry_reading_model.specs.Changes.{constructor_changed, part_changed, body_changed, entity_changed}

-- ---- types

member_values : (c : Change) (m : Member) → value_kinds_of (member_changed c m) ≡ map c.kind (value_kinds_of m)
member_values c (attribute a) = refl
member_values c (method m) = map_of_maps (param_changed c) (λ p. p.kind) (λ p. p.kind) c.kind (λ p. refl) m.params

member_results : (c : Change) (m : Member) → result_kinds_of (member_changed c m) ≡ map c.kind (result_kinds_of m)
member_results c (attribute a) = refl
member_results c (method m) = refl

part_kinds : (c : Change) (p : Part) → property_kinds (part_changed c p) ≡ map c.kind (property_kinds p)
part_kinds c (face optional name) = refl
part_kinds c (subservice optional name) = refl
part_kinds c (property name flags k) = refl

values_changed : (c : Change) (b : Body) → value_kinds (body_changed c b) ≡ map c.kind (value_kinds b)
values_changed c (interface bases members) = map_of_flat_maps (member_changed c) value_kinds_of value_kinds_of c.kind (member_values c) members
values_changed c (struct base members) = map_of_maps (field_changed c) (λ f. f.kind) (λ f. f.kind) c.kind (λ f. refl) members
values_changed c (exception base members) = map_of_maps (field_changed c) (λ f. f.kind) (λ f. f.kind) c.kind (λ f. refl) members
values_changed c (enum items) = refl
values_changed c (constants cs) = map_of_maps (constant_changed c) (λ k. k.kind) (λ k. k.kind) c.kind (λ k. refl) cs
values_changed c (typedef k) = refl
values_changed c (new_service base constructors) =
    map_of_flat_maps (constructor_changed c) (λ k. map (λ p. p.kind) k.params) (λ k. map (λ p. p.kind) k.params) c.kind
    (λ k. map_of_maps (field_changed c) (λ p. p.kind) (λ p. p.kind) c.kind (λ f. refl) k.params) constructors
values_changed c (old_service parts) = map_of_flat_maps (part_changed c) property_kinds property_kinds c.kind (part_kinds c) parts
values_changed c (new_singleton base) = refl
values_changed c (old_singleton service) = refl

results_changed : (c : Change) (b : Body) → result_kinds (body_changed c b) ≡ map c.kind (result_kinds b)
results_changed c (interface bases members) = map_of_flat_maps (member_changed c) result_kinds_of result_kinds_of c.kind (member_results c) members
results_changed c (struct base members) = refl
results_changed c (exception base members) = refl
results_changed c (enum items) = refl
results_changed c (constants cs) = refl
results_changed c (typedef k) = refl
results_changed c (new_service base constructors) = refl
results_changed c (old_service parts) = refl
results_changed c (new_singleton base) = refl
results_changed c (old_singleton service) = refl

targets_changed : (c : Change) (b : Body) → target_kinds (body_changed c b) ≡ map c.kind (target_kinds b)
targets_changed c (interface bases members) = refl
targets_changed c (struct base members) = refl
targets_changed c (exception base members) = refl
targets_changed c (enum items) = refl
targets_changed c (constants cs) = refl
targets_changed c (typedef k) = refl
targets_changed c (new_service base constructors) = refl
targets_changed c (old_service parts) = refl
targets_changed c (new_singleton base) = refl
targets_changed c (old_singleton service) = refl

pub kinds_changed : (c : Change) (b : Body) → kinds_in (body_changed c b) ≡ map c.kind (kinds_in b)
kinds_changed c b =
    ap₂ (λ vs rs. vs ++ rs) (values_changed c b) (ap₂ (λ rs ts. rs ++ ts) (results_changed c b) (targets_changed c b) ∙ sym (map-append c.kind (result_kinds b) (target_kinds b)))
    ∙ sym (map-append c.kind (value_kinds b) (result_kinds b ++ target_kinds b))

-- ---- names

member_inner : (c : Change) (m : Member) → member_names (member_changed c m) ≡ member_names m
member_inner c (attribute a) = refl
member_inner c (method m) = ap (λ ns. m.name ∷ ns) (maps_agree (param_changed c) (λ p. p.name) (λ p. p.name) (λ p. refl) m.params)

constructor_inner : (c : Change) (k : Constructor) → constructor_names (constructor_changed c k) ≡ constructor_names k
constructor_inner c k = rw (maps_agree (field_changed c) (λ p. p.name) (λ p. p.name) (λ p. refl) k.params) refl

part_inner : (c : Change) (p : Part) → part_names (part_changed c p) ≡ part_names p
part_inner c (face optional name) = refl
part_inner c (subservice optional name) = refl
part_inner c (property name flags k) = refl

pub inner_names_changed : (c : Change) (b : Body) → inner_names (body_changed c b) ≡ inner_names b
inner_names_changed c (interface bases members) = flat_maps_agree (member_changed c) member_names member_names (member_inner c) members
inner_names_changed c (struct base members) = maps_agree (field_changed c) (λ f. f.name) (λ f. f.name) (λ f. refl) members
inner_names_changed c (exception base members) = maps_agree (field_changed c) (λ f. f.name) (λ f. f.name) (λ f. refl) members
inner_names_changed c (enum items) = maps_agree (item_changed c) (λ i. i.name) (λ i. i.name) (λ i. refl) items
inner_names_changed c (constants cs) = maps_agree (constant_changed c) (λ k. k.name) (λ k. k.name) (λ k. refl) cs
inner_names_changed c (typedef k) = refl
inner_names_changed c (new_service base constructors) = flat_maps_agree (constructor_changed c) constructor_names constructor_names (constructor_inner c) constructors
inner_names_changed c (old_service parts) = flat_maps_agree (part_changed c) part_names part_names (part_inner c) parts
inner_names_changed c (new_singleton base) = refl
inner_names_changed c (old_singleton service) = refl

pub is_named_changed : (c : Change) (e : Entity) → is_named (entity_changed c e) ≡ is_named e
is_named_changed c e = rw (inner_names_changed c e.body) refl

member_raised : (c : Change) (m : Member) → raised_by (member_changed c m) ≡ raised_by m
member_raised c (attribute a) = refl
member_raised c (method m) = refl

interfaces_part : (c : Change) (p : Part) → interfaces_of_part (part_changed c p) ≡ interfaces_of_part p
interfaces_part c (face optional name) = refl
interfaces_part c (subservice optional name) = refl
interfaces_part c (property name flags k) = refl

services_part : (c : Change) (p : Part) → services_of_part (part_changed c p) ≡ services_of_part p
services_part c (face optional name) = refl
services_part c (subservice optional name) = refl
services_part c (property name flags k) = refl

pub names_used_changed : (c : Change) (b : Body) → names_used (body_changed c b) ≡ names_used b
names_used_changed c (interface bases members) = rw (flat_maps_agree (member_changed c) raised_by raised_by (member_raised c) members) refl
names_used_changed c (struct base members) = refl
names_used_changed c (exception base members) = refl
names_used_changed c (enum items) = refl
names_used_changed c (constants cs) = refl
names_used_changed c (typedef k) = refl
names_used_changed c (new_service base constructors) = rw (flat_maps_agree (constructor_changed c) (λ k. k.raises) (λ k. k.raises) (λ k. refl) constructors) refl
names_used_changed c (old_service parts) =
    rw (
      flat_maps_agree (part_changed c) interfaces_of_part interfaces_of_part (interfaces_part c) parts,
      flat_maps_agree (part_changed c) services_of_part services_of_part (services_part c) parts,
    )
    refl
names_used_changed c (new_singleton base) = refl
names_used_changed c (old_singleton service) = refl
