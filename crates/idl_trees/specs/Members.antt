-- What stands in declarations, as plain trees.
use Rattle.std.specs.Prelude.{List, Option, map, option_map}
use Rattle.idl_model.specs.Trees as plain
use Rattle.idl_trees.specs.Expressions.{expr_of}
use Rattle.idl_trees.specs.Names.{id_of, path_of}
use Rattle.idl_trees.specs.Types.{type_of}
use Rattle.idl_trees.specs.declared.member.Attribute.{Attribute}
use Rattle.idl_trees.specs.declared.member.Constant.{Constant}
use Rattle.idl_trees.specs.declared.member.Constructor.{Constructor}
use Rattle.idl_trees.specs.declared.member.ConstructorParameter.{ConstructorParameter}
use Rattle.idl_trees.specs.declared.member.Fields.{Fields}
use Rattle.idl_trees.specs.declared.member.Flag.{Flag}
use Rattle.idl_trees.specs.declared.member.Flag.TheVariants as flag
use Rattle.idl_trees.specs.declared.member.InterfaceMember.{InterfaceMember}
use Rattle.idl_trees.specs.declared.member.InterfaceMember.TheVariants as member
use Rattle.idl_trees.specs.declared.member.Item.{Item}
use Rattle.idl_trees.specs.declared.member.Method.{Method}
use Rattle.idl_trees.specs.declared.member.Parameter.{Parameter}
use Rattle.idl_trees.specs.declared.member.Property.{Property}
use Rattle.idl_trees.specs.declared.member.ServiceMember.{ServiceMember}
use Rattle.idl_trees.specs.declared.member.ServiceMember.TheVariants as service
use Rattle.idl_trees.specs.declared.name.Path.{Path}
use Rattle.std.specs.declared.alloc.Global.{Global}
use Rattle.std.specs.declared.vec.Vec.{Vec}

abbrev pub fields_of : Fields → plain.Fields
fields_of f = record { type = type_of f.kind; names = map id_of f.names.items }

abbrev pub item_of : Item → plain.Item
item_of i = record { name = id_of i.name; value = option_map expr_of i.value }

abbrev pub constant_of : Constant → plain.Constant
constant_of c = record { type = type_of c.kind; name = id_of c.name; value = expr_of c.value }

abbrev pub flag_of : Flag → plain.Flag
flag_of flag.Bound = plain.bound_flag
flag_of flag.Constrained = plain.constrained_flag
flag_of flag.MaybeAmbiguous = plain.maybeambiguous_flag
flag_of flag.MaybeDefault = plain.maybedefault_flag
flag_of flag.MaybeVoid = plain.maybevoid_flag
flag_of flag.Optional = plain.optional_flag
flag_of flag.ReadOnly = plain.readonly_flag
flag_of flag.Removable = plain.removable_flag
flag_of flag.Transient = plain.transient_flag

abbrev pub flags_of : List Flag → List plain.Flag
flags_of = map flag_of

abbrev pub paths_of : Vec Path Global → List plain.Path
paths_of ps = map path_of ps.items

abbrev pub attribute_of : Attribute → plain.Attribute
attribute_of a =
    record {
      flags = flags_of a.flags.items;
      type = type_of a.kind;
      name = id_of a.name;
      get = option_map paths_of a.get;
      set = option_map paths_of a.set;
    }

abbrev pub parameter_of : Parameter → plain.Parameter
parameter_of p = record { way = p.way; type = type_of p.kind; name = id_of p.name }

abbrev pub method_of : Method → plain.Method
method_of m =
    record {
      oneway = m.oneway;
      result_type = type_of m.result;
      name = id_of m.name;
      parameters = map parameter_of m.parameters.items;
      raises = paths_of m.raises;
    }

abbrev pub interface_member_of : InterfaceMember → plain.InterfaceMember
interface_member_of (member.Base b) = plain.base_member b.optional (path_of b.path)
interface_member_of (member.Attribute a) = plain.attribute (attribute_of a)
interface_member_of (member.Method m) = plain.method (method_of m)

abbrev pub constructor_parameter_of : ConstructorParameter → plain.ConstructorParameter
constructor_parameter_of p = record { type = type_of p.kind; rest = p.rest; name = id_of p.name }

abbrev pub constructor_of : Constructor → plain.Constructor
constructor_of c = record { name = id_of c.name; parameters = map constructor_parameter_of c.parameters.items; raises = paths_of c.raises }

abbrev pub property_of : Property → plain.Property
property_of p = record { flags = flags_of p.flags.items; type = type_of p.kind; name = id_of p.name }

abbrev pub service_member_of : ServiceMember → plain.ServiceMember
service_member_of (service.Interface part) = plain.face part.optional (path_of part.path)
service_member_of (service.Service part) = plain.subservice part.optional (path_of part.path)
service_member_of (service.Property p) = plain.property (property_of p)
