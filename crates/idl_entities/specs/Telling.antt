-- What a declaration and its parts stand for, where types and numbers are kept in entities as a caller wants them.
use Rattle.std.specs.Prelude.{ℕ, ℤ, false, List, Option, map}
use Rattle.std.specs.List.{filter_map, flat_map}
use Rattle.std.specs.Option.{option_to_list}
use Rattle.idl_meaning_model.specs.Declarations.{Declared, Valued, first_item, all_valued, items_valued, valued_in}
use Rattle.idl_meaning_model.specs.Meaning as model
use Rattle.idl_meaning_model.specs.Meaning.{name_meant, type_meant, number_meant}
use Rattle.idl_model.specs.Trees as tree
use Rattle.registry_reading_model.specs.Changes as changed
use Rattle.registry_reading_model.specs.Changes.{Change}
use Rattle.uno_model.specs.Entities as uno
use Rattle.uno_model.specs.Kinds.{Kind}

-- a declaration, all among which it stands, and what is kept of types and numbers
pub record Telling : Type 0 where
  pub all : List Declared
  pub declared : Declared
  pub kept : Change

-- ---- names, types and numbers

abbrev pub name_told : Telling → tree.Path → List ℕ
name_told t path = name_meant t.all t.declared.modules path

abbrev pub names_told : Telling → List tree.Path → List (List ℕ)
names_told t paths = map (name_meant t.all t.declared.modules) paths

abbrev pub type_told : Telling → tree.WrittenType → Kind
type_told t written = t.kept.kind (type_meant t.all t.declared.modules written)

-- the constants and items of the declaration
abbrev pub valued_told : Telling → List Valued
valued_told t = valued_in t.declared t.declared.body

abbrev pub item_number : Telling → Valued → ℤ
item_number t v = t.kept.item (number_meant (all_valued t.all) v)

abbrev pub constant_number : Telling → Valued → ℤ
constant_number t v = t.kept.constant (number_meant (all_valued t.all) v)

-- ---- members of structs and exceptions

abbrev pub line_told : Telling → tree.Fields → List uno.Field
line_told t m = map (changed.field_changed t.kept) (model.fields_meant t.all t.declared.modules m)

abbrev pub fields_told : Telling → List tree.Fields → List uno.Field
fields_told t ms = map (changed.field_changed t.kept) (flat_map (model.fields_meant t.all t.declared.modules) ms)

-- ---- interfaces

-- the base behind `:`, and the one that a member is
abbrev pub needed_base : Telling → tree.Path → uno.Base
needed_base t path = record { optional = false; name = name_meant t.all t.declared.modules path }

abbrev pub base_told : Telling → tree.InterfaceMember → Option uno.Base
base_told t m = model.base_meant t.all t.declared.modules m

abbrev pub bases_told : Telling → Option tree.Path → List tree.InterfaceMember → List uno.Base
bases_told t base members = model.bases_written t.all t.declared.modules base members

abbrev pub attribute_told : Telling → tree.Attribute → uno.Attribute
attribute_told t a = changed.attribute_changed t.kept (model.attribute_meant t.all t.declared.modules a)

abbrev pub parameter_told : Telling → tree.Parameter → uno.Param
parameter_told t p = changed.param_changed t.kept (model.parameter_meant t.all t.declared.modules p)

abbrev pub parameters_told : Telling → List tree.Parameter → List uno.Param
parameters_told t ps = map (changed.param_changed t.kept) (map (model.parameter_meant t.all t.declared.modules) ps)

abbrev pub method_told : Telling → tree.Method → uno.Method
method_told t m = changed.method_changed t.kept (model.method_meant t.all t.declared.modules m)

abbrev pub member_told : Telling → tree.InterfaceMember → List uno.Member
member_told t m = map (changed.member_changed t.kept) (option_to_list (model.member_meant t.all t.declared.modules m))

abbrev pub members_told : Telling → List tree.InterfaceMember → List uno.Member
members_told t ms = map (changed.member_changed t.kept) (filter_map (model.member_meant t.all t.declared.modules) ms)

-- ---- enums and groups of constants

abbrev pub items_told : Telling → List tree.Item → List uno.Item
items_told t items = map (changed.item_changed t.kept) (map (model.item_meant (all_valued t.all)) (items_valued t.declared first_item items))

abbrev pub item_told : Telling → Valued → uno.Item
item_told t v = changed.item_changed t.kept (model.item_meant (all_valued t.all) v)

abbrev pub constant_told : Telling → tree.Constant → uno.Constant
constant_told t c = changed.constant_changed t.kept (model.constant_meant t.all t.declared c)

abbrev pub constants_told : Telling → List tree.Constant → List uno.Constant
constants_told t cs = map (changed.constant_changed t.kept) (map (model.constant_meant t.all t.declared) cs)

-- ---- services

-- a parameter of a constructor
abbrev pub argument_meant : Telling → tree.ConstructorParameter → uno.Field
argument_meant t p = record { name = p.name.name; kind = type_meant t.all t.declared.modules p.type }

abbrev pub argument_told : Telling → tree.ConstructorParameter → uno.Field
argument_told t p = changed.field_changed t.kept (argument_meant t p)

abbrev pub arguments_told : Telling → List tree.ConstructorParameter → List uno.Field
arguments_told t ps = map (changed.field_changed t.kept) (map (argument_meant t) ps)

abbrev pub constructor_told : Telling → tree.Constructor → uno.Constructor
constructor_told t c = changed.constructor_changed t.kept (model.constructor_meant t.all t.declared.modules c)

-- those that are written, and all
abbrev pub written_told : Telling → List tree.Constructor → List uno.Constructor
written_told t cs = map (changed.constructor_changed t.kept) (map (model.constructor_meant t.all t.declared.modules) cs)

abbrev pub constructors_told : Telling → List tree.Constructor → List uno.Constructor
constructors_told t cs = map (changed.constructor_changed t.kept) (model.with_create (map (model.constructor_meant t.all t.declared.modules) cs))

abbrev pub part_told : Telling → tree.ServiceMember → uno.Part
part_told t m = changed.part_changed t.kept (model.part_meant t.all t.declared.modules m)

abbrev pub parts_told : Telling → List tree.ServiceMember → List uno.Part
parts_told t ms = map (changed.part_changed t.kept) (map (model.part_meant t.all t.declared.modules) ms)

-- ---- the entity

abbrev pub body_told : Telling → tree.Declaration → uno.Body
body_told t body = changed.body_changed t.kept (model.body_meant t.all t.declared body)

abbrev pub entity_told : Telling → uno.Entity
entity_told t = changed.entity_changed t.kept (model.entity_meant t.all t.declared)
