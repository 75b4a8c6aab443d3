-- An entity of which all types and numbers are kept is not changed.
use Rattle.std.proofs.Common.{◌≡◌, refl, ap, ◌∙◌, List, [], ◌∷◌, map}
use Rattle.uno_model.specs.Entities.{Field, Param, Member, attribute, method, Item, Constant, Constructor, Part, face, subservice, property}
use Rattle.uno_model.specs.Entities.{Body, interface, struct, exception, enum, constants, typedef, new_service, old_service, new_singleton, old_singleton, Entity}
use Rattle.idl_meaning_model.specs.Meaning.{entity_meant}
use Rattle.idl_entities.specs.Telling.{Telling, entity_told}
use Rattle.registry_reading_model.specs.Changes.{Change, same, field_changed, param_changed, member_changed, item_changed, constant_changed, constructor_changed, part_changed, body_changed, entity_changed}

all_same : {X : Type 0} (f : X → X) → ((x : X) → f x ≡ x) → (xs : List X) → map f xs ≡ xs
all_same f each [] = refl
all_same f each (x ∷ xs) = ap (λ y. y ∷ map f xs) (each x) ∙ ap (λ ys. x ∷ ys) (all_same f each xs)

field_same : (f : Field) → field_changed same f ≡ f
field_same f = refl

param_same : (p : Param) → param_changed same p ≡ p
param_same p = refl

member_same : (m : Member) → member_changed same m ≡ m
member_same (attribute a) = refl
member_same (method m) =
    ap (λ ps. method (record { name = m.name; oneway = m.oneway; result_kind = m.result_kind; params = ps; raises = m.raises })) (all_same (param_changed same) param_same m.params)

item_same : (i : Item) → item_changed same i ≡ i
item_same i = refl

constant_same : (c : Constant) → constant_changed same c ≡ c
constant_same c = refl

constructor_same : (c : Constructor) → constructor_changed same c ≡ c
constructor_same c = ap (λ fs. record { name = c.name; params = fs; rest = c.rest; raises = c.raises }) (all_same (field_changed same) field_same c.params)

part_same : (p : Part) → part_changed same p ≡ p
part_same (face optional name) = refl
part_same (subservice optional name) = refl
part_same (property name flags k) = refl

body_same : (b : Body) → body_changed same b ≡ b
body_same (interface bases members) = ap (interface bases) (all_same (member_changed same) member_same members)
body_same (struct base members) = ap (struct base) (all_same (field_changed same) field_same members)
body_same (exception base members) = ap (exception base) (all_same (field_changed same) field_same members)
body_same (enum items) = ap enum (all_same (item_changed same) item_same items)
body_same (constants cs) = ap constants (all_same (constant_changed same) constant_same cs)
body_same (typedef k) = refl
body_same (new_service base constructors) = ap (new_service base) (all_same (constructor_changed same) constructor_same constructors)
body_same (old_service parts) = ap old_service (all_same (part_changed same) part_same parts)
body_same (new_singleton base) = refl
body_same (old_singleton service) = refl

pub entity_same : (e : Entity) → entity_changed same e ≡ e
entity_same e = ap (λ b. record { name = e.name; published = e.published; body = b }) (body_same e.body)

pub told_same : (t : Telling) → t.kept ≡ same → entity_told t ≡ entity_meant t.all t.declared
told_same t is = ap (λ c. entity_changed c (entity_meant t.all t.declared)) is ∙ entity_same (entity_meant t.all t.declared)
