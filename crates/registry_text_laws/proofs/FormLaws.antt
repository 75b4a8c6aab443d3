-- Each line of a registry's text has the form that stands at its place: line by line, as both are made of the entities.
use Rattle.std.proofs.Common.{◌≡◌, refl, ℕ, Option, None, Some, List, [], ◌∷◌, ◌++◌, map, codes}
use Rattle.std.specs.List.{flat_map}
use Rattle.uno_model.specs.Entities.{Entity, Body, Member, attribute, method, Constructor, interface, struct, exception, enum, constants, typedef, new_service, old_service}
use Rattle.uno_model.specs.Entities.{new_singleton, old_singleton}
use Rattle.uno_model.specs.Registry.{at_most_one}
use Rattle.registry_text_model.specs.Grammar.{Form, header_form, body_forms, member_forms, constructor_forms, entity_forms, registry_forms}
use Rattle.registry_text_model.specs.Grammar as form
use Rattle.registry_text_model.specs.Lines.{spaced, base_line, param_line, field_line, item_line, constant_line, given_line, part_line, written, header_line, body_lines, member_lines, constructor_lines, rest_lines, name_lines, entity_lines, registry_lines}
use Rattle.registry_text_laws.specs.Forms.{IsOfForm, AreOfForms}

-- ---- lines one after the other

both_append : (fs gs : List Form) (ls ms : List (List ℕ)) → AreOfForms fs ls → AreOfForms gs ms → AreOfForms (fs ++ gs) (ls ++ ms)
unfolding AreOfForms
both_append [] gs [] ms front back = back
both_append [] gs (line ∷ ls) ms front back = absurd front
both_append (f ∷ fs) gs [] ms front back = absurd front
both_append (f ∷ fs) gs (line ∷ ls) ms front back = (front.0, both_append fs gs ls ms front.1 back)

-- of one form
all_of : {X : Type 0} (f : Form) (write : X → List ℕ) → ((x : X) → IsOfForm f (write x)) → (xs : List X) → AreOfForms (map (λ _. f) xs) (map write xs)
unfolding AreOfForms
all_of f write each [] = tt
all_of f write each (x ∷ xs) = (each x, all_of f write each xs)

-- of the parts of things
parts_of : {X : Type 0} (forms : X → List Form) (write : X → List (List ℕ)) → ((x : X) → AreOfForms (forms x) (write x)) → (xs : List X) → AreOfForms (flat_map forms xs) (flat_map write xs)
unfolding AreOfForms
parts_of forms write each [] = tt
parts_of forms write each (x ∷ xs) = both_append (forms x) (flat_map forms xs) (write x) (flat_map write xs) (each x) (parts_of forms write each xs)

one_more : (f : Form) (fs : List Form) (line : List ℕ) (ls : List (List ℕ)) → IsOfForm f line → AreOfForms fs ls → AreOfForms (f ∷ fs) (line ∷ ls)
unfolding AreOfForms
one_more f fs line ls is more = (is, more)

no_lines : AreOfForms [] []
unfolding AreOfForms
no_lines = tt

-- ---- the parts of an entity

member_is : (m : Member) → AreOfForms (member_forms m) (member_lines m)
member_is (attribute a) =
    one_more form.attribute_line _ _ _ (a, refl)
    (both_append (map (λ _. form.getraises_line) a.get_raises) (map (λ _. form.setraises_line) a.set_raises) (name_lines (codes "getraises") a.get_raises) (name_lines (codes "setraises") a.set_raises)
    (all_of form.getraises_line (spaced (codes "getraises")) (λ name. (name, refl)) a.get_raises) (all_of form.setraises_line (spaced (codes "setraises")) (λ name. (name, refl)) a.set_raises))
member_is (method m) =
    one_more form.method_line _ _ _ (m, refl)
    (both_append (map (λ _. form.param_line) m.params) (map (λ _. form.raises_line) m.raises) (map param_line m.params) (name_lines (codes "raises") m.raises)
    (all_of form.param_line param_line (λ p. (p, refl)) m.params) (all_of form.raises_line (spaced (codes "raises")) (λ name. (name, refl)) m.raises))

rest_is : (o : Option (List ℕ)) → AreOfForms (map (λ _. form.rest_line) (at_most_one o)) (rest_lines o)
rest_is None = no_lines
rest_is (Some name) = one_more form.rest_line [] _ [] (name, refl) no_lines

constructor_is : (c : Constructor) → AreOfForms (constructor_forms c) (constructor_lines c)
constructor_is c =
    one_more form.constructor_line _ _ _ (c.name, refl)
    (both_append (map (λ _. form.given_line) c.params) (map (λ _. form.rest_line) (at_most_one c.rest) ++ map (λ _. form.raised_line) c.raises) (map given_line c.params) (rest_lines c.rest ++ name_lines (codes "raises") c.raises)
    (all_of form.given_line given_line (λ f. (f, refl)) c.params)
    (both_append (map (λ _. form.rest_line) (at_most_one c.rest)) (map (λ _. form.raised_line) c.raises) (rest_lines c.rest) (name_lines (codes "raises") c.raises) (rest_is c.rest)
    (all_of form.raised_line (spaced (codes "raises")) (λ name. (name, refl)) c.raises)))

body_is : (b : Body) → AreOfForms (body_forms b) (body_lines b)
body_is (interface bases members) =
    both_append (map (λ _. form.base_line) bases) (flat_map member_forms members) (map base_line bases) (flat_map member_lines members) (all_of form.base_line base_line (λ b. (b, refl)) bases)
    (parts_of member_forms member_lines member_is members)
body_is (struct base members) = all_of form.field_line field_line (λ f. (f, refl)) members
body_is (exception base members) = all_of form.field_line field_line (λ f. (f, refl)) members
body_is (enum items) = all_of form.value_line item_line (λ i. (i, refl)) items
body_is (constants cs) = all_of form.const_line constant_line (λ c. (c, refl)) cs
body_is (typedef k) = no_lines
body_is (new_service base constructors) = parts_of constructor_forms constructor_lines constructor_is constructors
body_is (old_service parts) = all_of form.part_line part_line (λ p. (p, refl)) parts
body_is (new_singleton base) = no_lines
body_is (old_singleton service) = no_lines

header_by : (b : Body) (e : Entity) → header_form e.body ≡ header_form b → IsOfForm (header_form b) (header_line e)
header_by (interface bases members) e alike = (e, alike, refl)
header_by (struct base members) e alike = (e, alike, refl)
header_by (exception base members) e alike = (e, alike, refl)
header_by (enum items) e alike = (e, alike, refl)
header_by (constants cs) e alike = (e, alike, refl)
header_by (typedef k) e alike = (e, alike, refl)
header_by (new_service base constructors) e alike = (e, alike, refl)
header_by (old_service parts) e alike = (e, alike, refl)
header_by (new_singleton base) e alike = (e, alike, refl)
header_by (old_singleton service) e alike = (e, alike, refl)

entity_is : (e : Entity) → AreOfForms (entity_forms e) (entity_lines e)
entity_is e =
    one_more (header_form e.body) _ (header_line e) _ (header_by e.body e refl)
    (both_append (body_forms e.body) (form.end_line ∷ []) (body_lines e.body) (codes "end" ∷ []) (body_is e.body) (one_more form.end_line [] (codes "end") [] refl no_lines))

pub registry_is : (reg : List Entity) → AreOfForms (form.first ∷ registry_forms reg) (registry_lines reg)
registry_is reg = one_more form.first _ _ _ refl (parts_of entity_forms entity_lines entity_is (written reg))
