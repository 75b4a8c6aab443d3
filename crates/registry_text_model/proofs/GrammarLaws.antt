-- The lines that are written of a registry stand in the order of the grammar.
use Rattle.std.proofs.Common.{◌≡◌, ℕ, Option, None, Some, true, List, [], ◌∷◌, ◌++◌, map, refl, append_assoc}
use Rattle.std.specs.List.{flat_map}
use Rattle.std.proofs.lemmas.Bool.{and_from}
use Rattle.uno_model.specs.Entities.{Entity, Body, Member, attribute, method, Constructor, interface, struct, exception, enum, constants, typedef, new_service, old_service}
use Rattle.uno_model.specs.Entities.{new_singleton, old_singleton}
use Rattle.uno_model.specs.Registry.{at_most_one}
use Rattle.registry_text_model.specs.Grammar as g
use Rattle.registry_text_model.specs.Grammar.{Form, may_follow, is_in_order, is_header, member_forms, constructor_forms, header_form, body_forms, entity_forms, registry_forms}
use Rattle.registry_text_model.specs.Lines.{written}

-- one line more in front
one_more : (f h : Form) (hs : List Form) → may_follow f h ≡ true → is_in_order h hs ≡ true → is_in_order f (h ∷ hs) ≡ true
unfolding is_in_order
one_more f h hs follows others = and_from (may_follow f h) (is_in_order h hs) follows others

-- lines of one form
run : {X : Type 0} (f h : Form) (xs : List X) (hs : List Form) → may_follow f h ≡ true → may_follow h h ≡ true → is_in_order f hs ≡ true → is_in_order h hs ≡ true
    → is_in_order f (map (λ _. h) xs ++ hs) ≡ true
run f h [] hs first again without behind = without
run f h (x ∷ xs) hs first again without behind = one_more f h (map (λ _. h) xs ++ hs) first (run h h xs hs again again behind behind)

-- a member of an interface may stand behind it, and so may the end
abbrev OpensMembers : Form → Type 0
OpensMembers f = (may_follow f g.attribute_line ≡ true) × (may_follow f g.method_line ≡ true) × (may_follow f g.end_line ≡ true)

abbrev OpensConstructors : Form → Type 0
OpensConstructors f = (may_follow f g.constructor_line ≡ true) × (may_follow f g.end_line ≡ true)

member_in_order : (f : Form) (m : Member) (hs : List Form) → ((h : Form) → OpensMembers h → is_in_order h hs ≡ true) → OpensMembers f → is_in_order f (member_forms m ++ hs) ≡ true
member_in_order f (attribute a) hs rest opens =
    let sets : (h : Form) → may_follow h g.setraises_line ≡ true → OpensMembers h → is_in_order h (map (λ _. g.setraises_line) a.set_raises ++ hs) ≡ true =
    λ h follows o. run h g.setraises_line a.set_raises hs follows refl (rest h o) (rest g.setraises_line (refl, refl, refl)) in
    one_more f g.attribute_line _ opens.0
    (rw (append_assoc (map (λ _. g.getraises_line) a.get_raises) (map (λ _. g.setraises_line) a.set_raises) hs)
    (run g.attribute_line g.getraises_line a.get_raises (map (λ _. g.setraises_line) a.set_raises ++ hs) refl refl (sets g.attribute_line refl (refl, refl, refl))
    (sets g.getraises_line refl (refl, refl, refl))))
member_in_order f (method m) hs rest opens =
    let raised : (h : Form) → may_follow h g.raises_line ≡ true → OpensMembers h → is_in_order h (map (λ _. g.raises_line) m.raises ++ hs) ≡ true =
    λ h follows o. run h g.raises_line m.raises hs follows refl (rest h o) (rest g.raises_line (refl, refl, refl)) in
    one_more f g.method_line _ opens.1
    (rw (append_assoc (map (λ _. g.param_line) m.params) (map (λ _. g.raises_line) m.raises) hs)
    (run g.method_line g.param_line m.params (map (λ _. g.raises_line) m.raises ++ hs) refl refl (raised g.method_line refl (refl, refl, refl))
    (raised g.param_line refl (refl, refl, refl))))

members_in_order : (f : Form) (ms : List Member) (hs : List Form) → ((h : Form) → OpensMembers h → is_in_order h hs ≡ true) → OpensMembers f
    → is_in_order f (flat_map member_forms ms ++ hs) ≡ true
members_in_order f [] hs rest opens = rest f opens
members_in_order f (m ∷ ms) hs rest opens =
    rw (append_assoc (member_forms m) (flat_map member_forms ms) hs) (member_in_order f m (flat_map member_forms ms ++ hs) (λ h o. members_in_order h ms hs rest o) opens)

rest_in_order : (h : Form) (rest : Option (List ℕ)) (hs : List Form) → may_follow h g.rest_line ≡ true → is_in_order h hs ≡ true → is_in_order g.rest_line hs ≡ true
    → is_in_order h (map (λ _. g.rest_line) (at_most_one rest) ++ hs) ≡ true
rest_in_order h None hs follows without behind = without
rest_in_order h (Some name) hs follows without behind = one_more h g.rest_line hs follows behind

constructor_in_order : (f : Form) (c : Constructor) (hs : List Form) → ((h : Form) → OpensConstructors h → is_in_order h hs ≡ true) → OpensConstructors f
    → is_in_order f (constructor_forms c ++ hs) ≡ true
constructor_in_order f c hs rest opens =
    let raised : (h : Form) → may_follow h g.raised_line ≡ true → OpensConstructors h → is_in_order h (map (λ _. g.raised_line) c.raises ++ hs) ≡ true =
    λ h follows o. run h g.raised_line c.raises hs follows refl (rest h o) (rest g.raised_line (refl, refl)) in
    let others : (h : Form) → may_follow h g.rest_line ≡ true → may_follow h g.raised_line ≡ true → OpensConstructors h
    → is_in_order h (map (λ _. g.rest_line) (at_most_one c.rest) ++ (map (λ _. g.raised_line) c.raises ++ hs)) ≡ true =
    λ h to_rest to_raised o. rest_in_order h c.rest (map (λ _. g.raised_line) c.raises ++ hs) to_rest (raised h to_raised o) (raised g.rest_line refl (refl, refl)) in
    one_more f g.constructor_line _ opens.0
    (rw (
      append_assoc (map (λ _. g.given_line) c.params) (map (λ _. g.rest_line) (at_most_one c.rest) ++ map (λ _. g.raised_line) c.raises) hs,
      append_assoc (map (λ _. g.rest_line) (at_most_one c.rest)) (map (λ _. g.raised_line) c.raises) hs,
    )
    (run g.constructor_line g.given_line c.params _ refl refl (others g.constructor_line refl refl (refl, refl)) (others g.given_line refl refl (refl, refl))))

constructors_in_order : (f : Form) (cs : List Constructor) (hs : List Form) → ((h : Form) → OpensConstructors h → is_in_order h hs ≡ true) → OpensConstructors f
    → is_in_order f (flat_map constructor_forms cs ++ hs) ≡ true
constructors_in_order f [] hs rest opens = rest f opens
constructors_in_order f (c ∷ cs) hs rest opens =
    rw (append_assoc (constructor_forms c) (flat_map constructor_forms cs) hs) (constructor_in_order f c (flat_map constructor_forms cs ++ hs) (λ h o. constructors_in_order h cs hs rest o) opens)

-- the lines under a header, its `end`, and what stands behind that
body_in_order : (body : Body) (hs : List Form) → is_in_order g.end_line hs ≡ true → is_in_order (header_form body) (body_forms body ++ g.end_line ∷ hs) ≡ true
body_in_order (interface bases members) hs others =
    let rest : (h : Form) → OpensMembers h → is_in_order h (g.end_line ∷ hs) ≡ true = λ h o. one_more h g.end_line hs o.2 others in
    rw (append_assoc (map (λ _. g.base_line) bases) (flat_map member_forms members) (g.end_line ∷ hs))
    (run g.interface_header g.base_line bases _ refl refl (members_in_order g.interface_header members (g.end_line ∷ hs) rest (refl, refl, refl))
    (members_in_order g.base_line members (g.end_line ∷ hs) rest (refl, refl, refl)))
body_in_order (struct base members) hs others = run g.fields_header g.field_line members _ refl refl (one_more g.fields_header g.end_line hs refl others) (one_more g.field_line g.end_line hs refl others)
body_in_order (exception base members) hs others =
    run g.fields_header g.field_line members _ refl refl (one_more g.fields_header g.end_line hs refl others) (one_more g.field_line g.end_line hs refl others)
body_in_order (enum items) hs others = run g.enum_header g.value_line items _ refl refl (one_more g.enum_header g.end_line hs refl others) (one_more g.value_line g.end_line hs refl others)
body_in_order (constants cs) hs others = run g.constants_header g.const_line cs _ refl refl (one_more g.constants_header g.end_line hs refl others) (one_more g.const_line g.end_line hs refl others)
body_in_order (typedef k) hs others = one_more g.header_alone g.end_line hs refl others
body_in_order (new_service base constructors) hs others =
    constructors_in_order g.new_service_header constructors (g.end_line ∷ hs) (λ h o. one_more h g.end_line hs o.1 others) (refl, refl)
body_in_order (old_service parts) hs others =
    run g.old_service_header g.part_line parts _ refl refl (one_more g.old_service_header g.end_line hs refl others) (one_more g.part_line g.end_line hs refl others)
body_in_order (new_singleton base) hs others = one_more g.header_alone g.end_line hs refl others
body_in_order (old_singleton service) hs others = one_more g.header_alone g.end_line hs refl others

header_follows : (f : Form) (body : Body) → ((h : Form) → is_header h ≡ true → may_follow f h ≡ true) → may_follow f (header_form body) ≡ true
header_follows f body opens = opens (header_form body) (is_one body)
  where
    is_one : (b : Body) → is_header (header_form b) ≡ true
    is_one (interface bases members) = refl
    is_one (struct base members) = refl
    is_one (exception base members) = refl
    is_one (enum items) = refl
    is_one (constants cs) = refl
    is_one (typedef k) = refl
    is_one (new_service base constructors) = refl
    is_one (old_service parts) = refl
    is_one (new_singleton base) = refl
    is_one (old_singleton service) = refl

entities_in_order : (f : Form) (es : List Entity) → ((h : Form) → is_header h ≡ true → may_follow f h ≡ true) → is_in_order f (flat_map entity_forms es) ≡ true
unfolding is_in_order
entities_in_order f [] opens = refl
entities_in_order f (e ∷ es) opens =
    rw (append_assoc (body_forms e.body) (g.end_line ∷ []) (flat_map entity_forms es))
    (one_more f (header_form e.body) _ (header_follows f e.body opens)
    (body_in_order e.body (flat_map entity_forms es) (entities_in_order g.end_line es (λ h is. is))))

-- the lines behind the first of a registry's text
pub registry_in_order : (reg : List Entity) → is_in_order g.first (registry_forms reg) ≡ true
registry_in_order reg = entities_in_order g.first (written reg) (λ h is. is)
