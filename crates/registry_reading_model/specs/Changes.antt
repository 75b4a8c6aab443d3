-- Entities in which each type and each number is changed alike: to what a reader keeps of them, or to the types that their names stand for.
use Rattle.std.specs.Prelude.{ℤ, map}
use Rattle.uno_model.specs.Entities.{Field, Param, Attribute, Method, Member, attribute, method, Item, Constant, Constructor, Part, face, subservice, property}
use Rattle.uno_model.specs.Entities.{Body, interface, struct, exception, enum, constants, typedef, new_service, old_service, new_singleton, old_singleton, Entity}
use Rattle.uno_model.specs.Kinds.{Kind}

pub record Change : Type 0 where
  pub kind : Kind → Kind
  pub item : ℤ → ℤ
  pub constant : ℤ → ℤ

abbrev pub same : Change
same = record { kind = λ k. k; item = λ n. n; constant = λ n. n }

-- the one, and then the other
abbrev pub and_then : Change → Change → Change
and_then c d = record { kind = λ k. d.kind (c.kind k); item = λ n. d.item (c.item n); constant = λ n. d.constant (c.constant n) }

abbrev pub field_changed : Change → Field → Field
field_changed c f = record { name = f.name; kind = c.kind f.kind }

abbrev pub param_changed : Change → Param → Param
param_changed c p = record { way = p.way; name = p.name; kind = c.kind p.kind }

abbrev pub attribute_changed : Change → Attribute → Attribute
attribute_changed c a = record { name = a.name; read_only = a.read_only; kind = c.kind a.kind; get_raises = a.get_raises; set_raises = a.set_raises }

abbrev pub method_changed : Change → Method → Method
method_changed c m = record { name = m.name; oneway = m.oneway; result_kind = c.kind m.result_kind; params = map (param_changed c) m.params; raises = m.raises }

abbrev pub member_changed : Change → Member → Member
member_changed c (attribute a) = attribute (attribute_changed c a)
member_changed c (method m) = method (method_changed c m)

abbrev pub item_changed : Change → Item → Item
item_changed c i = record { name = i.name; number = c.item i.number }

abbrev pub constant_changed : Change → Constant → Constant
constant_changed c k = record { name = k.name; number = c.constant k.number; kind = c.kind k.kind }

abbrev pub constructor_changed : Change → Constructor → Constructor
constructor_changed c k = record { name = k.name; params = map (field_changed c) k.params; rest = k.rest; raises = k.raises }

abbrev pub part_changed : Change → Part → Part
part_changed c (face optional name) = face optional name
part_changed c (subservice optional name) = subservice optional name
part_changed c (property name flags k) = property name flags (c.kind k)

abbrev pub body_changed : Change → Body → Body
body_changed c (interface bases members) = interface bases (map (member_changed c) members)
body_changed c (struct base members) = struct base (map (field_changed c) members)
body_changed c (exception base members) = exception base (map (field_changed c) members)
body_changed c (enum items) = enum (map (item_changed c) items)
body_changed c (constants cs) = constants (map (constant_changed c) cs)
body_changed c (typedef k) = typedef (c.kind k)
body_changed c (new_service base constructors) = new_service base (map (constructor_changed c) constructors)
body_changed c (old_service parts) = old_service (map (part_changed c) parts)
body_changed c (new_singleton base) = new_singleton base
body_changed c (old_singleton service) = old_singleton service

abbrev pub entity_changed : Change → Entity → Entity
entity_changed c e = record { name = e.name; published = e.published; body = body_changed c e.body }
