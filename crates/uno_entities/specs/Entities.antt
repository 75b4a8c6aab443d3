-- The plain trees of entities.
use Rattle.std.specs.Prelude.{List, map}
use Rattle.uno_model.specs.Entities as plain
use Rattle.uno_entities.specs.TypeNames.{kind_of}
use Rattle.uno_entities.specs.declared.entity.Field.{Field}
use Rattle.uno_entities.specs.declared.entity.Param.{Param}
use Rattle.uno_entities.specs.declared.entity.Base.{Base}
use Rattle.uno_entities.specs.declared.entity.Attribute.{Attribute}
use Rattle.uno_entities.specs.declared.entity.Method.{Method}
use Rattle.uno_entities.specs.declared.entity.Member.{Member}
use Rattle.uno_entities.specs.declared.entity.Member.TheVariants as member
use Rattle.uno_entities.specs.declared.entity.Item.{Item}
use Rattle.uno_entities.specs.declared.entity.Constant.{Constant}
use Rattle.uno_entities.specs.declared.entity.Constructor.{Constructor}
use Rattle.uno_entities.specs.declared.entity.Part.{Part}
use Rattle.uno_entities.specs.declared.entity.Part.TheVariants as part
use Rattle.uno_entities.specs.declared.entity.Service.{Service}
use Rattle.uno_entities.specs.declared.entity.Service.TheVariants as service
use Rattle.uno_entities.specs.declared.entity.Singleton.{Singleton}
use Rattle.uno_entities.specs.declared.entity.Singleton.TheVariants as singleton
use Rattle.uno_entities.specs.declared.entity.Body.{Body}
use Rattle.uno_entities.specs.declared.entity.Body.TheVariants as body
use Rattle.uno_entities.specs.declared.entity.Entity.{Entity}

-- a member of a struct, and a parameter
abbrev pub field_of : Field → plain.Field
field_of f = record { name = f.name; kind = kind_of f.kind }

abbrev pub param_of : Param → plain.Param
param_of p = record { way = p.way; name = p.name; kind = kind_of p.kind }

-- a base, and what an interface declares
abbrev pub base_of : Base → plain.Base
base_of b = record { optional = b.optional; name = b.name }

abbrev pub attribute_of : Attribute → plain.Attribute
attribute_of a = record { name = a.name; read_only = a.read_only; kind = kind_of a.kind; get_raises = a.get_raises.items; set_raises = a.set_raises.items }

abbrev pub method_of : Method → plain.Method
method_of m = record { name = m.name; oneway = m.oneway; result_kind = kind_of m.result; params = map param_of m.params.items; raises = m.raises.items }

abbrev pub member_of : Member → plain.Member
member_of (member.Attribute a) = plain.attribute (attribute_of a)
member_of (member.Method m) = plain.method (method_of m)

-- a member of an enum, and a constant
abbrev pub item_of : Item → plain.Item
item_of i = record { name = i.name; number = i.number }

abbrev pub constant_of : Constant → plain.Constant
constant_of c = record { name = c.name; number = c.number; kind = kind_of c.kind }

-- what a service has
abbrev pub constructor_of : Constructor → plain.Constructor
constructor_of c = record { name = c.name; params = map field_of c.params.items; rest = c.rest; raises = c.raises.items }

abbrev pub part_of : Part → plain.Part
part_of (part.Interface optional name) = plain.face optional name
part_of (part.Service optional name) = plain.subservice optional name
part_of (part.Property name flags k) = plain.property name flags (kind_of k)

-- what an entity is
abbrev pub service_of : Service → plain.Body
service_of (service.New base constructors) = plain.new_service base (map constructor_of constructors.items)
service_of (service.Old parts) = plain.old_service (map part_of parts.items)

abbrev pub singleton_of : Singleton → plain.Body
singleton_of (singleton.New base) = plain.new_singleton base
singleton_of (singleton.Old name) = plain.old_singleton name

abbrev pub body_of : Body → plain.Body
body_of (body.Interface bases members) = plain.interface (map base_of bases.items) (map member_of members.items)
body_of (body.Struct base members) = plain.struct base (map field_of members.items)
body_of (body.Exception base members) = plain.exception base (map field_of members.items)
body_of (body.Enum items) = plain.enum (map item_of items.items)
body_of (body.Constants constants) = plain.constants (map constant_of constants.items)
body_of (body.Typedef k) = plain.typedef (kind_of k)
body_of (body.Service s) = service_of s
body_of (body.Singleton s) = singleton_of s

-- a name with what it stands for, and a registry's list of them
abbrev pub entity_of : Entity → plain.Entity
entity_of e = record { name = e.name; published = e.published; body = body_of e.body }

abbrev pub entities_of : List Entity → List plain.Entity
entities_of = map entity_of
