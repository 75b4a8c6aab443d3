-- Parts of an entity that can be written.
use Rattle.std.proofs.Common.{◌≡◌, Bool, true, not, ◌&&◌, ◌||◌}
use Rattle.std.specs.List.{list_all}
use Rattle.std.proofs.lemmas.Bool.{and_parts, and_from}
use Rattle.uno_model.specs.Entities.{Field, Param, Attribute, Method, Member, attribute, method, Constant, Constructor, Part, face, subservice}
use Rattle.uno_model.specs.Entities.{property, Body, interface, struct, exception, enum, constants, typedef, new_service, old_service, new_singleton}
use Rattle.uno_model.specs.Entities.{old_singleton}
use Rattle.uno_model.specs.Names.{is_identifier, is_entity_name}
use Rattle.uno_model.specs.Registry.{at_most_one}
use Rattle.registry_text_model.specs.OneWayMethods.{is_void}
use Rattle.registry_text_model.specs.Reading.{is_spelled}

-- ---- parts that can be written

abbrev pub is_good_field : Field → Bool
is_good_field f = is_identifier f.name && is_spelled f.kind

abbrev pub is_good_param : Param → Bool
is_good_param p = is_identifier p.name && is_spelled p.kind

abbrev pub is_good_member : Member → Bool
is_good_member (attribute a) =
    (is_identifier a.name && is_spelled a.kind)
    && (list_all is_entity_name a.get_raises && list_all is_entity_name a.set_raises)
is_good_member (method m) =
    ((is_identifier m.name && is_spelled m.result_kind) && (not m.oneway || is_void m.result_kind))
    && (list_all is_good_param m.params && list_all is_entity_name m.raises)

abbrev pub is_good_constant : Constant → Bool
is_good_constant k = is_identifier k.name && is_spelled k.kind

abbrev pub is_good_constructor : Constructor → Bool
is_good_constructor k =
    (is_identifier k.name && list_all is_good_field k.params)
    && (list_all is_identifier (at_most_one k.rest) && list_all is_entity_name k.raises)

abbrev pub is_good_part : Part → Bool
is_good_part (face optional name) = is_entity_name name
is_good_part (subservice optional name) = is_entity_name name
is_good_part (property name flags k) = is_identifier name && is_spelled k

abbrev pub is_good_body : Body → Bool
is_good_body (interface bases members) = list_all (λ b. is_entity_name b.name) bases && list_all is_good_member members
is_good_body (struct base members) = list_all is_entity_name (at_most_one base) && list_all is_good_field members
is_good_body (exception base members) = list_all is_entity_name (at_most_one base) && list_all is_good_field members
is_good_body (enum items) = list_all (λ i. is_identifier i.name) items
is_good_body (constants cs) = list_all is_good_constant cs
is_good_body (typedef k) = is_spelled k
is_good_body (new_service base constructors) = is_entity_name base && list_all is_good_constructor constructors
is_good_body (old_service parts) = list_all is_good_part parts
is_good_body (new_singleton base) = is_entity_name base
is_good_body (old_singleton service) = is_entity_name service

-- ---- what is asked of each

pub record AttributeTests (a : Attribute) : Type 0 where
  pub named : is_identifier a.name ≡ true
  pub spelled : is_spelled a.kind ≡ true
  pub gets : list_all is_entity_name a.get_raises ≡ true
  pub sets : list_all is_entity_name a.set_raises ≡ true

pub tests_of_attribute : (a : Attribute) → is_good_member (attribute a) ≡ true → AttributeTests a
tests_of_attribute a good =
    let own = is_identifier a.name && is_spelled a.kind in
    let both = and_parts own (list_all is_entity_name a.get_raises && list_all is_entity_name a.set_raises) good in
    let front = and_parts (is_identifier a.name) (is_spelled a.kind) both.0 in
    let raises = and_parts (list_all is_entity_name a.get_raises) (list_all is_entity_name a.set_raises) both.1 in
    record { named = front.0; spelled = front.1; gets = raises.0; sets = raises.1 }

pub good_attribute : (a : Attribute) → AttributeTests a → is_good_member (attribute a) ≡ true
good_attribute a t =
    and_from (is_identifier a.name && is_spelled a.kind) (list_all is_entity_name a.get_raises && list_all is_entity_name a.set_raises)
    (and_from (is_identifier a.name) (is_spelled a.kind) t.named t.spelled)
    (and_from (list_all is_entity_name a.get_raises) (list_all is_entity_name a.set_raises) t.gets t.sets)

pub record MethodTests (m : Method) : Type 0 where
  pub named : is_identifier m.name ≡ true
  pub spelled : is_spelled m.result_kind ≡ true
  pub void : (not m.oneway || is_void m.result_kind) ≡ true
  pub good_params : list_all is_good_param m.params ≡ true
  pub raised : list_all is_entity_name m.raises ≡ true

pub tests_of_method : (m : Method) → is_good_member (method m) ≡ true → MethodTests m
tests_of_method m good =
    let void = not m.oneway || is_void m.result_kind in
    let both = and_parts ((is_identifier m.name && is_spelled m.result_kind) && void)
    (list_all is_good_param m.params && list_all is_entity_name m.raises) good in
    let front = and_parts (is_identifier m.name && is_spelled m.result_kind) void both.0 in
    let own = and_parts (is_identifier m.name) (is_spelled m.result_kind) front.0 in
    let rest = and_parts (list_all is_good_param m.params) (list_all is_entity_name m.raises) both.1 in
    record { named = own.0; spelled = own.1; void = front.1; good_params = rest.0; raised = rest.1 }

pub good_method : (m : Method) → MethodTests m → is_good_member (method m) ≡ true
good_method m t =
    let void = not m.oneway || is_void m.result_kind in
    and_from ((is_identifier m.name && is_spelled m.result_kind) && void) (list_all is_good_param m.params && list_all is_entity_name m.raises)
    (and_from (is_identifier m.name && is_spelled m.result_kind) void
    (and_from (is_identifier m.name) (is_spelled m.result_kind) t.named t.spelled) t.void)
    (and_from (list_all is_good_param m.params) (list_all is_entity_name m.raises) t.good_params t.raised)

pub record ConstructorTests (k : Constructor) : Type 0 where
  pub named : is_identifier k.name ≡ true
  pub good_params : list_all is_good_field k.params ≡ true
  pub rest_named : list_all is_identifier (at_most_one k.rest) ≡ true
  pub raised : list_all is_entity_name k.raises ≡ true

pub tests_of_constructor : (k : Constructor) → is_good_constructor k ≡ true → ConstructorTests k
tests_of_constructor k good =
    let front = is_identifier k.name && list_all is_good_field k.params in
    let both = and_parts front (list_all is_identifier (at_most_one k.rest) && list_all is_entity_name k.raises) good in
    let own = and_parts (is_identifier k.name) (list_all is_good_field k.params) both.0 in
    let behind = and_parts (list_all is_identifier (at_most_one k.rest)) (list_all is_entity_name k.raises) both.1 in
    record { named = own.0; good_params = own.1; rest_named = behind.0; raised = behind.1 }

pub good_constructor : (k : Constructor) → ConstructorTests k → is_good_constructor k ≡ true
good_constructor k t =
    let front = is_identifier k.name && list_all is_good_field k.params in
    and_from front (list_all is_identifier (at_most_one k.rest) && list_all is_entity_name k.raises)
    (and_from (is_identifier k.name) (list_all is_good_field k.params) t.named t.good_params)
    (and_from (list_all is_identifier (at_most_one k.rest)) (list_all is_entity_name k.raises) t.rest_named t.raised)
