-- The entities that files mean: each declaration with every name replaced by what it stands for, every typedef by its target, and what is implied written out.
use Rattle.std.specs.Prelude.{ℕ, zero, suc, ◌==◌, ℤ, pos, Bool, true, false, List, [], ◌∷◌, ◌++◌, map, length, Option, None, Some, unwrap_or, codes, if◌then◌else◌}
use Rattle.std.specs.List.{filter_map, flat_map, list_any}
use Rattle.std.specs.Option.{option_map, option_to_list}
use Rattle.std.specs.Ordering.{nat_cmp, is_lt}
use Rattle.std.specs.Cmp.Lexicographic.{slice_cmp}
use Rattle.uno_model.specs.BuiltIn.{built_in, x_interface_name}
use Rattle.uno_model.specs.Entities.{Entity, Body}
use Rattle.uno_model.specs.Entities as uno
use Rattle.uno_model.specs.Kinds.{Kind}
use Rattle.uno_model.specs.Kinds as kd
use Rattle.uno_model.specs.NamedTypes.{kind_of_entity}
use Rattle.uno_model.specs.Registry.{find_entity, mandatory_bases}
use Rattle.uno_model.specs.Sound.{is_some_list}
use Rattle.uno_model.specs.declared.flags.Flags.{Flags}
use Rattle.idl_model.specs.Trees.{Path, Simple, WrittenType, simple, named, sequence_of, Fields, Flag, Declaration, Tree}
use Rattle.idl_model.specs.Trees as tree
use Rattle.idl_meaning_model.specs.Declarations.{Declared, declarations, entities_declared, dotted, full_name, first_item, Valued, constant_valued, items_valued, all_valued}
use Rattle.idl_meaning_model.specs.Scopes.{declared_as, entity_named}
use Rattle.idl_meaning_model.specs.Uses.{accessor_raises}
use Rattle.idl_meaning_model.specs.ConstantsMeant.{value_meant}

-- ---- names and types

-- the entity that a path names; the name as it is written, where it names none
unfoldable pub name_meant : List Declared → List (List ℕ) → Path → List ℕ
name_meant ds modules path = unwrap_or (entity_named ds modules path) (dotted path.parts)

-- float and double are no types of a registry; they are refused before
abbrev pub simple_meant : Simple → Kind
simple_meant tree.void = kd.void
simple_meant tree.char = kd.char
simple_meant tree.boolean = kd.boolean
simple_meant tree.byte = kd.byte
simple_meant tree.short = kd.short
simple_meant tree.unsigned_short = kd.unsigned_short
simple_meant tree.long = kd.long
simple_meant tree.unsigned_long = kd.unsigned_long
simple_meant tree.hyper = kd.hyper
simple_meant tree.unsigned_hyper = kd.unsigned_hyper
simple_meant tree.float = kd.void
simple_meant tree.double = kd.void
simple_meant tree.str = kd.str
simple_meant tree.kind = kd.kind
simple_meant tree.any = kd.any

-- a written type where paths mean these types, and the same where some of them mean none
unfoldable pub type_over : (Path → Kind) → WrittenType → Kind
type_over meaning (simple p s) = simple_meant s
type_over meaning (named path ts) = meaning path
type_over meaning (sequence_of p t) = kd.sequence (type_over meaning t)

unfoldable pub type_if : (Path → Option Kind) → WrittenType → Option Kind
type_if meaning (simple p s) = Some (simple_meant s)
type_if meaning (named path ts) = meaning path
type_if meaning (sequence_of p t) = option_map kd.sequence (type_if meaning t)

-- the type of an entity that is declared so, with its typedef's target behind; what is no type stands as a struct
abbrev pub declared_type : (WrittenType → Option Kind) → List ℕ → Declaration → Option Kind
declared_type target name (tree.interface base members) = Some (kd.interface name)
declared_type target name (tree.exception base members) = Some (kd.exception name)
declared_type target name (tree.enum items) = Some (kd.enum name)
declared_type target name (tree.typedef t) = target t
declared_type target name _ = Some (kd.struct name)

abbrev pub type_of_declared : (Declared → WrittenType → Option Kind) → List ℕ → Option Declared → Option Kind
type_of_declared target name None = kind_of_entity name (find_entity name built_in)
type_of_declared target name (Some d) = declared_type (target d) name d.body

-- the type that an entity's name means over so many typedefs
unfoldable pub type_named : ℕ → List Declared → List ℕ → Option Kind
type_named zero ds name = type_of_declared (λ d t. None) name (declared_as ds name)
type_named (suc steps) ds name = type_of_declared (λ d t. type_if (λ path. type_named steps ds (name_meant ds d.modules path)) t) name (declared_as ds name)

-- a chain of typedefs that ends has no more steps than there are declarations; the name of one that does not end stands for itself
unfoldable pub name_type : List Declared → List ℕ → Kind
name_type ds name = unwrap_or (type_named (suc (length ds)) ds name) (kd.struct name)

abbrev pub path_meant : List Declared → List (List ℕ) → Path → Kind
path_meant ds modules path = name_type ds (name_meant ds modules path)

-- the type that a written type means in these modules
unfoldable pub type_meant : List Declared → List (List ℕ) → WrittenType → Kind
type_meant ds modules t = type_over (path_meant ds modules) t

-- ---- the parts of entities, in the modules of their declaration

-- one member for each name
abbrev pub fields_meant : List Declared → List (List ℕ) → Fields → List uno.Field
fields_meant ds modules m = map (λ id. record { name = id.name; kind = type_meant ds modules m.type }) m.names

-- an interface has one base behind `:`, or bases among its members; without one that is not optional it has XInterface before the others
abbrev pub base_meant : List Declared → List (List ℕ) → tree.InterfaceMember → Option uno.Base
base_meant ds modules (tree.base_member optional path) = Some (record { optional = optional; name = name_meant ds modules path })
base_meant ds modules _ = None

abbrev pub bases_written : List Declared → List (List ℕ) → Option Path → List tree.InterfaceMember → List uno.Base
bases_written ds modules base members =
    map (λ path. record { optional = false; name = name_meant ds modules path }) (option_to_list base) ++ filter_map (base_meant ds modules) members

unfoldable pub with_root : List uno.Base → List uno.Base
with_root bases = if is_some_list (mandatory_bases bases) then bases else record { optional = false; name = x_interface_name } ∷ bases

abbrev pub is_readonly : Flag → Bool
is_readonly tree.readonly_flag = true
is_readonly _ = false

abbrev pub is_read_only : tree.Attribute → Bool
is_read_only a = list_any is_readonly a.flags

abbrev pub attribute_meant : List Declared → List (List ℕ) → tree.Attribute → uno.Attribute
attribute_meant ds modules a =
    record {
      name = a.name.name;
      read_only = is_read_only a;
      kind = type_meant ds modules a.type;
      get_raises = map (name_meant ds modules) (accessor_raises a.get);
      set_raises = map (name_meant ds modules) (accessor_raises a.set);
    }

abbrev pub parameter_meant : List Declared → List (List ℕ) → tree.Parameter → uno.Param
parameter_meant ds modules p = record { way = p.way; name = p.name.name; kind = type_meant ds modules p.type }

abbrev pub method_meant : List Declared → List (List ℕ) → tree.Method → uno.Method
method_meant ds modules m =
    record {
      name = m.name.name;
      oneway = m.oneway;
      result_kind = type_meant ds modules m.result_type;
      params = map (parameter_meant ds modules) m.parameters;
      raises = map (name_meant ds modules) m.raises;
    }

abbrev pub member_meant : List Declared → List (List ℕ) → tree.InterfaceMember → Option uno.Member
member_meant ds modules (tree.base_member optional path) = None
member_meant ds modules (tree.attribute a) = Some (uno.attribute (attribute_meant ds modules a))
member_meant ds modules (tree.method m) = Some (uno.method (method_meant ds modules m))

-- a constant and an item without a value stand with 0
abbrev pub number_meant : List Valued → Valued → ℤ
number_meant vs v = unwrap_or (value_meant vs v) (pos 0)

abbrev pub item_meant : List Valued → Valued → uno.Item
item_meant vs v = record { name = v.name.name; number = number_meant vs v }

abbrev pub constant_meant : List Declared → Declared → tree.Constant → uno.Constant
constant_meant ds d c =
    record {
      name = c.name.name;
      number = number_meant (all_valued ds) (constant_valued d c);
      kind = type_meant ds d.modules c.type;
    }

-- the last parameter of a constructor takes the rest, where `...` stands behind its type
abbrev pub parameters_before : List tree.ConstructorParameter → List tree.ConstructorParameter
parameters_before [] = []
parameters_before (p ∷ []) = if p.rest then [] else p ∷ []
parameters_before (p ∷ q ∷ ps) = p ∷ parameters_before (q ∷ ps)

abbrev pub rest_parameter : List tree.ConstructorParameter → Option (List ℕ)
rest_parameter [] = None
rest_parameter (p ∷ []) = if p.rest then Some p.name.name else None
rest_parameter (p ∷ q ∷ ps) = rest_parameter (q ∷ ps)

abbrev pub constructor_meant : List Declared → List (List ℕ) → tree.Constructor → uno.Constructor
constructor_meant ds modules c =
    record {
      name = c.name.name;
      params = map (λ p. record { name = p.name.name; kind = type_meant ds modules p.type }) (parameters_before c.parameters);
      rest = rest_parameter c.parameters;
      raises = map (name_meant ds modules) c.raises;
    }

-- a service without constructors has `create`, without parameters
abbrev pub create : uno.Constructor
create = record { name = codes "create"; params = []; rest = None; raises = [] }

unfoldable pub with_create : List uno.Constructor → List uno.Constructor
with_create [] = create ∷ []
with_create (c ∷ cs) = c ∷ cs

-- the flags of a property as a set
abbrev pub flag_number : Flag → ℕ
flag_number tree.bound_flag = 0
flag_number tree.constrained_flag = 1
flag_number tree.maybeambiguous_flag = 2
flag_number tree.maybedefault_flag = 3
flag_number tree.maybevoid_flag = 4
flag_number tree.optional_flag = 5
flag_number tree.readonly_flag = 6
flag_number tree.removable_flag = 7
flag_number tree.transient_flag = 8

unfoldable pub has_flag : Flag → List Flag → Bool
has_flag flag flags = list_any (λ f. flag_number f == flag_number flag) flags

unfoldable pub flags_meant : List Flag → Flags
flags_meant flags =
    record {
      bound = has_flag tree.bound_flag flags;
      constrained = has_flag tree.constrained_flag flags;
      maybeambiguous = has_flag tree.maybeambiguous_flag flags;
      maybedefault = has_flag tree.maybedefault_flag flags;
      maybevoid = has_flag tree.maybevoid_flag flags;
      optional = has_flag tree.optional_flag flags;
      readonly = has_flag tree.readonly_flag flags;
      removable = has_flag tree.removable_flag flags;
      transient = has_flag tree.transient_flag flags;
    }

abbrev pub part_meant : List Declared → List (List ℕ) → tree.ServiceMember → uno.Part
part_meant ds modules (tree.face optional path) = uno.face optional (name_meant ds modules path)
part_meant ds modules (tree.subservice optional path) = uno.subservice optional (name_meant ds modules path)
part_meant ds modules (tree.property p) = uno.property p.name.name (flags_meant p.flags) (type_meant ds modules p.type)

-- ---- entities

-- a forward declaration is none by itself
unfoldable pub body_meant : List Declared → Declared → Declaration → Body
body_meant ds d tree.forward = uno.interface [] []
body_meant ds d (tree.interface base members) = uno.interface (with_root (bases_written ds d.modules base members)) (filter_map (member_meant ds d.modules) members)
body_meant ds d (tree.struct base members) = uno.struct (option_map (name_meant ds d.modules) base) (flat_map (fields_meant ds d.modules) members)
body_meant ds d (tree.exception base members) = uno.exception (option_map (name_meant ds d.modules) base) (flat_map (fields_meant ds d.modules) members)
body_meant ds d (tree.enum items) = uno.enum (map (item_meant (all_valued ds)) (items_valued d first_item items))
body_meant ds d (tree.constants cs) = uno.constants (map (constant_meant ds d) cs)
body_meant ds d (tree.typedef t) = uno.typedef (type_meant ds d.modules t)
body_meant ds d (tree.new_service base constructors) = uno.new_service (name_meant ds d.modules base) (with_create (map (constructor_meant ds d.modules) constructors))
body_meant ds d (tree.old_service members) = uno.old_service (map (part_meant ds d.modules) members)
body_meant ds d (tree.new_singleton base) = uno.new_singleton (name_meant ds d.modules base)
body_meant ds d (tree.old_singleton service) = uno.old_singleton (name_meant ds d.modules service)

abbrev pub entity_meant : List Declared → Declared → Entity
entity_meant ds d = record { name = full_name d; published = d.published; body = body_meant ds d d.body }

-- ---- the registry

-- an entity put before the first whose name is greater
unfoldable pub placed : Entity → List Entity → List Entity
placed e [] = e ∷ []
placed e (f ∷ fs) = if is_lt (slice_cmp nat_cmp e.name f.name) then e ∷ (f ∷ fs) else f ∷ placed e fs

unfoldable pub sorted : List Entity → List Entity
sorted [] = []
sorted (e ∷ es) = placed e (sorted es)

-- the entities of the declarations, and those that are built in, in rising order of their names
unfoldable pub registry_of : List Declared → List Entity
registry_of ds = sorted (built_in ++ map (entity_meant ds) (entities_declared ds))

unfoldable pub meant : List Tree → List Entity
meant trees = registry_of (declarations trees)
