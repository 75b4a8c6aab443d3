-- The trees that write entities with short types in few modules keep the limits of the grammar.
use Rattle.std.proofs.Common.{◌≡◌, ℕ, zero, suc, ◌≤◌, ℤ, pos, negsuc, Bool, true, false, ◌&&◌, nat_le, List, [], ◌∷◌, length, if◌then◌else◌, refl, sym, ap}
use Rattle.std.proofs.Common.{subst, arith}
use Rattle.std.proofs.lemmas.Bool.{and_parts, and_from, leb-true}
use Rattle.std.specs.List.{list_all}
use Rattle.idl_model.specs.Depths.{type_fits, expr_fits, interface_member_fits, service_member_fits, declaration_fits, value_fits, def_fits, tree_fits}
use Rattle.idl_model.specs.Trees.{WrittenType, simple, named, sequence_of, no_arguments, argument, Declaration, Def, Tree}
use Rattle.idl_model.specs.Trees as tree
use Rattle.uno_model.proofs.AllLaws.{all_append}
use Rattle.uno_model.specs.Entities.{Entity, Body}
use Rattle.uno_model.specs.Entities as uno
use Rattle.uno_model.specs.Kinds.{Kind, nesting}
use Rattle.uno_model.specs.Kinds as kd
use Rattle.uno_model.specs.Names.{is_identifier, is_entity_name, parts_of}
use Rattle.uno_model.specs.Registry.{at_most_one}
use Rattle.uno_model.specs.Sound.{few_modules, is_some_list}
use Rattle.registry_text_model.specs.Canonical.{is_implicit_alone}
use Rattle.canonical_laws.proofs.TypeReadings.{kind_named, fine_kind, is_small}
use Rattle.canonical_laws.proofs.MemberReadings.{fine_param, fine_method, fine_attribute, fine_member, fine_base}
use Rattle.canonical_laws.proofs.PartReadings.{fine_field, fine_item, fine_constant, fine_constructor, fine_part}
use Rattle.canonical_laws.proofs.EntityReadings.{fine_body, fine_entity}
use Rattle.canonical_laws.proofs.RuleFacts.{is_printable}
use Rattle.canonical_laws.specs.Written.{Each, WritesType, expression_of, WritesParameter, WritesMember, WritesBase, bases_among_members}
use Rattle.canonical_laws.specs.Written.{WritesField, WritesItem, WritesConstant, WritesGiven, WritesRest, WritesConstructor, constructors_written, WritesPart}
use Rattle.canonical_laws.specs.Written.{WritesBody, WritesUnder, WritesEntity}

-- each passes where what it writes does
each_fits : {X A : Type 0} (R : X → A → Type 0) (f : X → Bool) (g : A → Bool) → ((x : X) (a : A) → R x a → g a ≡ true → f x ≡ true)
    → (xs : List X) (ys : List A) → Each R xs ys
    → list_all g ys ≡ true → list_all f xs ≡ true
each_fits R f g so [] [] each all = refl
each_fits R f g so [] (y ∷ ys) each all = refl
each_fits R f g so (x ∷ xs) [] each all = absurd each
each_fits R f g so (x ∷ xs) (y ∷ ys) each all =
    let parts = and_parts (g y) (list_all g ys) all in
    and_from (f x) (list_all f xs) (so x y each.0 parts.0) (each_fits R f g so xs ys each.1 parts.1)

-- ---- types and numbers

type_within : (t : WrittenType) (k : Kind) (d : ℕ) → WritesType t k → nesting k ≤ d → type_fits d t ≡ true
unfolding type_fits WritesType
type_within (simple p s) k d writes short = refl
type_within (named path no_arguments) k d writes short = refl
type_within (named path (argument t ts)) k d writes short = absurd writes
type_within (sequence_of p t) k zero (element, same, inner) short =
    let e : nesting k ≡ suc (nesting element) = ap nesting same in
    let bad : ⊥ = omega (arith, short, e) in absurd bad
type_within (sequence_of p t) k (suc d) (element, same, inner) short =
    let e : nesting k ≡ suc (nesting element) = ap nesting same in
    type_within t element d inner (omega (arith, short, e))

type_short : (t : WrittenType) (k : Kind) → WritesType t k → fine_kind k ≡ true → type_fits 64 t ≡ true
type_short t k writes fine = type_within t k 64 writes (leb-true (nesting k) 64 (and_parts (kind_named k) (nat_le (nesting k) 64) fine).1)

number_fits : (z : ℤ) → expr_fits 64 (expression_of z) ≡ true
unfolding expr_fits
number_fits (pos n) = refl
number_fits (negsuc n) = refl

-- ---- members and parts

param_fits : (t : tree.Parameter) (p : uno.Param) → WritesParameter t p → fine_param p ≡ true → type_fits 64 t.type ≡ true
param_fits t p writes fine = type_short t.type p.kind writes.type (and_parts (is_identifier p.name) (fine_kind p.kind) fine).1

member_fits : (t : tree.InterfaceMember) (m : uno.Member) → WritesMember t m → fine_member m ≡ true → interface_member_fits 64 t ≡ true
member_fits (tree.base_member optional path) m writes fine = refl
member_fits (tree.attribute t) m (a, same, writes) fine =
    let own : fine_attribute a ≡ true = subst (λ x. fine_member x ≡ true) same fine in
    let parts = and_parts (is_identifier a.name && fine_kind a.kind) _ own in
    type_short t.type a.kind writes.type (and_parts (is_identifier a.name) (fine_kind a.kind) parts.0).1
member_fits (tree.method t) m (o, same, writes) fine =
    let own : fine_method o ≡ true = subst (λ x. fine_member x ≡ true) same fine in
    let parts = and_parts (is_identifier o.name && fine_kind o.result_kind) (list_all fine_param o.params && list_all is_entity_name o.raises) own in
    let params = and_parts (list_all fine_param o.params) (list_all is_entity_name o.raises) parts.1 in
    and_from (type_fits 64 t.result_type) (list_all (λ p. type_fits 64 p.type) t.parameters)
    (type_short t.result_type o.result_kind writes.result (and_parts (is_identifier o.name) (fine_kind o.result_kind) parts.0).1)
    (each_fits WritesParameter (λ p. type_fits 64 p.type) fine_param param_fits t.parameters o.params writes.parameters params.0)

base_fits : (t : tree.InterfaceMember) (b : uno.Base) → WritesBase t b → true ≡ true → interface_member_fits 64 t ≡ true
base_fits (tree.base_member optional path) b writes fine = refl
base_fits (tree.attribute t) b writes fine = absurd writes
base_fits (tree.method t) b writes fine = absurd writes

field_fits : (t : tree.Fields) (f : uno.Field) → WritesField t f → fine_field f ≡ true → type_fits 64 t.type ≡ true
field_fits t f writes fine = type_short t.type f.kind writes.type (and_parts (is_identifier f.name) (fine_kind f.kind) fine).1

given_fits : (t : tree.ConstructorParameter) (f : uno.Field) → WritesGiven t f → fine_field f ≡ true → type_fits 64 t.type ≡ true
given_fits t f writes fine = type_short t.type f.kind writes.type (and_parts (is_identifier f.name) (fine_kind f.kind) fine).1

rest_fits : (t : tree.ConstructorParameter) (n : List ℕ) → WritesRest t n → true ≡ true → type_fits 64 t.type ≡ true
rest_fits t n writes fine = type_short t.type kd.any writes.type refl

item_fits : (t : tree.Item) (i : uno.Item) → WritesItem t i → fine_item i ≡ true → value_fits 64 t.value ≡ true
item_fits t i writes fine = rw writes.value (number_fits i.number)

constant_fits : (t : tree.Constant) (c : uno.Constant) → WritesConstant t c → fine_constant c ≡ true → (type_fits 64 t.type && expr_fits 64 t.value) ≡ true
constant_fits t c writes fine =
    let kind = and_parts (fine_kind c.kind) (is_small c.number) (and_parts (is_identifier c.name) (fine_kind c.kind && is_small c.number) fine).1 in
    and_from (type_fits 64 t.type) (expr_fits 64 t.value) (type_short t.type c.kind writes.type kind.0) (rw writes.value (number_fits c.number))

any_all : {A : Type 0} (xs : List A) → list_all (λ x. true) xs ≡ true
any_all [] = refl
any_all (x ∷ xs) = any_all xs

constructor_fits : (t : tree.Constructor) (c : uno.Constructor) → WritesConstructor t c → fine_constructor c ≡ true
    → list_all (λ p. type_fits 64 p.type) t.parameters ≡ true
constructor_fits t c writes fine =
    let own = and_parts (is_identifier c.name) (list_all fine_field c.params) (and_parts (is_identifier c.name && list_all fine_field c.params) _ fine).0 in
    subst (λ ps. list_all (λ p. type_fits 64 p.type) ps ≡ true) (sym writes.split)
    (all_append (λ (p : tree.ConstructorParameter). type_fits 64 p.type) writes.front writes.behind
    (each_fits WritesGiven (λ p. type_fits 64 p.type) fine_field given_fits writes.front c.params writes.given own.1)
    (each_fits WritesRest (λ p. type_fits 64 p.type) (λ n. true) rest_fits writes.behind (at_most_one c.rest) writes.rest (any_all (at_most_one c.rest))))

part_fits : (t : tree.ServiceMember) (p : uno.Part) → WritesPart t p → fine_part p ≡ true → service_member_fits 64 t ≡ true
part_fits (tree.face optional path) p writes fine = refl
part_fits (tree.subservice optional path) p writes fine = refl
part_fits (tree.property t) p (name, flags, k, same, writes) fine =
    let own : (is_identifier name && fine_kind k) ≡ true = subst (λ x. fine_part x ≡ true) same fine in
    type_short t.type k writes.type (and_parts (is_identifier name) (fine_kind k) own).1

-- ---- bodies

written_constructors : (implicit : Bool) (cs : List uno.Constructor) → list_all fine_constructor cs ≡ true
    → list_all fine_constructor (if implicit then [] else cs) ≡ true
written_constructors true cs all = refl
written_constructors false cs all = all

body_fits : (d : Declaration) (body : Body) → WritesBody d body → fine_body body ≡ true → declaration_fits 64 64 d ≡ true
unfolding WritesBody
body_fits tree.forward body writes fine = refl
body_fits (tree.interface base members) body (bases, own, same, w) fine =
    let f : fine_body (uno.interface bases own) ≡ true = subst (λ x. fine_body x ≡ true) same fine in
    let parts = and_parts (list_all fine_base bases) (list_all fine_member own) f in
    subst (λ ms. list_all (interface_member_fits 64) ms ≡ true) (sym w.split)
    (all_append (interface_member_fits 64) w.front w.behind
    (each_fits WritesBase (interface_member_fits 64) (λ b. true) base_fits w.front (bases_among_members bases) w.inside (any_all (bases_among_members bases)))
    (each_fits WritesMember (interface_member_fits 64) fine_member member_fits w.behind own w.declares parts.1))
body_fits (tree.struct base members) body (of, fields, same, w, each) fine =
    let f : fine_body (uno.struct of fields) ≡ true = subst (λ x. fine_body x ≡ true) same fine in
    each_fits WritesField (λ m. type_fits 64 m.type) fine_field field_fits members fields each
    (and_parts (list_all is_entity_name (at_most_one of)) (list_all fine_field fields) f).1
body_fits (tree.exception base members) body (of, fields, same, w, each) fine =
    let f : fine_body (uno.exception of fields) ≡ true = subst (λ x. fine_body x ≡ true) same fine in
    each_fits WritesField (λ m. type_fits 64 m.type) fine_field field_fits members fields each
    (and_parts (list_all is_entity_name (at_most_one of)) (list_all fine_field fields) f).1
body_fits (tree.enum ts) body (items, same, each) fine =
    let f : fine_body (uno.enum items) ≡ true = subst (λ x. fine_body x ≡ true) same fine in
    each_fits WritesItem (λ i. value_fits 64 i.value) fine_item item_fits ts items each (and_parts (is_some_list items) (list_all fine_item items) f).1
body_fits (tree.constants ts) body (cs, same, each) fine =
    let f : fine_body (uno.constants cs) ≡ true = subst (λ x. fine_body x ≡ true) same fine in
    each_fits WritesConstant (λ c. type_fits 64 c.type && expr_fits 64 c.value) fine_constant constant_fits ts cs each f
body_fits (tree.typedef t) body (k, same, w) fine = type_short t k w (subst (λ x. fine_body x ≡ true) same fine)
body_fits (tree.new_service path ts) body (base, cs, same, w, each) fine =
    let f : fine_body (uno.new_service base cs) ≡ true = subst (λ x. fine_body x ≡ true) same fine in
    each_fits WritesConstructor (λ c. list_all (λ p. type_fits 64 p.type) c.parameters) fine_constructor constructor_fits ts (constructors_written cs) each
    (written_constructors (is_implicit_alone cs) cs (and_parts (is_entity_name base) (list_all fine_constructor cs) f).1)
body_fits (tree.old_service ts) body (parts, same, each) fine =
    let f : fine_body (uno.old_service parts) ≡ true = subst (λ x. fine_body x ≡ true) same fine in
    each_fits WritesPart (service_member_fits 64) fine_part part_fits ts parts each f
body_fits (tree.new_singleton path) body writes fine = refl
body_fits (tree.old_singleton path) body writes fine = refl

-- ---- definitions

under_fits : (ps : List (List ℕ)) (d : Def) (e : Entity) (modules : ℕ) → WritesUnder ps d e → fine_body e.body ≡ true → length ps ≤ suc modules
    → def_fits 64 64 modules d ≡ true
unfolding WritesUnder def_fits
under_fits [] d e modules writes fine few = absurd writes
under_fits (id ∷ []) d e modules (decl, same, called, body) fine few =
    subst (λ x. def_fits 64 64 modules x ≡ true) (sym same) (body_fits decl.body e.body body fine)
under_fits (m ∷ (n ∷ ns)) d e zero (name, inner, same, called, writes) fine few = let bad : ⊥ = omega (arith, few) in absurd bad
under_fits (m ∷ (n ∷ ns)) d e (suc modules) (name, inner, same, called, writes) fine few =
    subst (λ x. def_fits 64 64 (suc modules) x ≡ true) (sym same)
    (and_from (def_fits 64 64 modules inner) true (under_fits (n ∷ ns) inner e modules writes fine (omega (arith, few))) refl)

entity_fits : (d : Def) (e : Entity) → WritesEntity d e → is_printable e ≡ true → def_fits 64 64 64 d ≡ true
entity_fits d e writes printable =
    let parts = and_parts (fine_entity e) (few_modules e.name) printable in
    under_fits (parts_of e.name) d e 64 writes (and_parts (is_entity_name e.name) (fine_body e.body) parts.0).1 (leb-true (length (parts_of e.name)) 65 parts.1)

pub trees_fit : (ds : Tree) (es : List Entity) → Each WritesEntity ds es → list_all is_printable es ≡ true → tree_fits ds ≡ true
unfolding tree_fits
trees_fit ds es each all = each_fits WritesEntity (def_fits 64 64 64) is_printable entity_fits ds es each all
