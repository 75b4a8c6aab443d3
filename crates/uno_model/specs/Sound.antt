-- A sound registry, as facts of which each has one rule (UNOIDL grammar, the rules on names, types and bases).
use Rattle.std.specs.Prelude.{ℕ, ◌+◌, ◌≤◌, Bool, true, false, not, ◌&&◌, ◌||◌, nat_le, List, [], ◌∷◌, length, map, Option, None, Some, IsTrue, Contains, codes}
use Rattle.std.specs.List.{list_all, list_any}
use Rattle.std.specs.Str.{bytes_eq}
use Rattle.uno_model.specs.Circles.{HasNoCircle}
use Rattle.uno_model.specs.Kinds.{Kind, name_of, nesting}
use Rattle.uno_model.specs.Kinds as kd
use Rattle.uno_model.specs.Names.{is_identifier, is_entity_name, parts_of}
use Rattle.uno_model.specs.Entities.{Entity, Body, Base, Member, attribute, method, interface}
use Rattle.uno_model.specs.Entities.{struct, exception, enum, constants, typedef, new_service, old_service, new_singleton, old_singleton}
use Rattle.uno_model.specs.Registry.{find_entity, at_most_one, mandatory_bases, all_members, leads_to}
use Rattle.uno_model.specs.Uses.{inner_names, raised_names, interfaces_used, services_used, value_kinds, result_kinds, target_kinds, kinds_in, param_counts}
use Rattle.uno_model.specs.Functions.{functions_of}

-- ---- names are identifiers, joined by points in an entity's name

abbrev pub is_named : Entity → Bool
is_named e = is_entity_name e.name && list_all is_identifier (inner_names e.body)

-- ---- the items of an enum have different names

unfoldable pub all_differ : List (List ℕ) → Bool
all_differ [] = true
all_differ (name ∷ names) = not (list_any (bytes_eq name) names) && all_differ names

abbrev pub items_differ : Entity → Bool
items_differ e = of_body e.body
  where
    of_body : Body → Bool
    of_body (enum items) = all_differ (map (λ i. i.name) items)
    of_body _ = true

-- ---- each name that is used is an entity of the kind that its place asks

abbrev pub is_interface : Body → Bool
is_interface (interface bases members) = true
is_interface _ = false

abbrev pub is_struct : Body → Bool
is_struct (struct base members) = true
is_struct _ = false

abbrev pub is_exception : Body → Bool
is_exception (exception base members) = true
is_exception _ = false

abbrev pub is_enum : Body → Bool
is_enum (enum items) = true
is_enum _ = false

abbrev pub is_service : Body → Bool
is_service (new_service base constructors) = true
is_service (old_service parts) = true
is_service _ = false

-- the name is there, and its entity is of this kind
abbrev pub is_there : List Entity → (Body → Bool) → List ℕ → Bool
is_there reg wanted name = found (find_entity name reg)
  where
    found : Option Entity → Bool
    found None = false
    found (Some e) = wanted e.body

-- each name in a type is an entity of its kind
abbrev pub kind_known : List Entity → Kind → Bool
kind_known reg (kd.enum name) = is_there reg is_enum name
kind_known reg (kd.struct name) = is_there reg is_struct name
kind_known reg (kd.exception name) = is_there reg is_exception name
kind_known reg (kd.interface name) = is_there reg is_interface name
kind_known reg (kd.sequence k) = kind_known reg k
kind_known reg _ = true

-- the bases of an interface, optional ones too, are interfaces, that of a struct is a struct, that of an exception an exception
abbrev pub bases_known : List Entity → Body → Bool
bases_known reg (interface bases members) = list_all (λ b. is_there reg is_interface b.name) bases
bases_known reg (struct base members) = list_all (is_there reg is_struct) (at_most_one base)
bases_known reg (exception base members) = list_all (is_there reg is_exception) (at_most_one base)
bases_known reg _ = true

-- what may be raised are exceptions
abbrev pub raises_known : List Entity → Body → Bool
raises_known reg body = list_all (is_there reg is_exception) (raised_names body)

-- a service stands over an interface, or has interfaces and services, and a singleton stands over an interface or a service
abbrev pub services_known : List Entity → Body → Bool
services_known reg body = list_all (is_there reg is_interface) (interfaces_used body) && list_all (is_there reg is_service) (services_used body)

-- each name in a type is an entity of its kind
abbrev pub types_known : List Entity → Body → Bool
types_known reg body = list_all (kind_known reg) (kinds_in body)

-- ---- void is a method's result alone, and exceptions are no members, parameters or elements

-- its values may be members, parameters and elements: neither void nor an exception
abbrev pub is_storable : Kind → Bool
is_storable kd.void = false
is_storable (kd.exception name) = false
is_storable _ = true

-- so may the elements of each sequence in it
abbrev pub elements_storable : Kind → Bool
elements_storable (kd.sequence k) = is_storable k && elements_storable k
elements_storable _ = true

-- what a member, an attribute, a parameter, a constant or a property may be
abbrev pub is_value : Kind → Bool
is_value k = is_storable k && elements_storable k

-- what a typedef may stand for
abbrev pub is_target : Kind → Bool
is_target kd.void = false
is_target k = elements_storable k

abbrev pub types_allowed : Body → Bool
types_allowed body = list_all is_value (value_kinds body) && (list_all elements_storable (result_kinds body) && list_all is_target (target_kinds body))

-- ---- what an entity may not be without

-- there is one
abbrev pub is_some_list : {X : Type 0} → List X → Bool
is_some_list [] = false
is_some_list (x ∷ xs) = true

-- an interface has a base that is not optional, but for the one on which all stand; an enum has an item, a service a constructor
abbrev pub is_complete : Entity → Bool
is_complete e = of_body e.body
  where
    of_body : Body → Bool
    of_body (interface bases members) = bytes_eq e.name (codes "com.sun.star.uno.XInterface") || is_some_list (mandatory_bases bases)
    of_body (enum items) = is_some_list items
    of_body (new_service base constructors) = is_some_list constructors
    of_body _ = true

-- a struct or an exception has a member, those of its bases counted
abbrev pub has_member : List Entity → Entity → Bool
has_member reg e = (not (is_struct e.body || is_exception e.body)) || is_some_list (all_members reg e.name)

-- ---- limits

-- the name of a type has at most 4,096 bytes and 64 `[]`
abbrev pub is_namable : Kind → Bool
is_namable k = nat_le (length (name_of k)) 4096 && nat_le (nesting k) 64

-- the entity is a type
abbrev pub is_type_body : Body → Bool
is_type_body body = (is_interface body || is_enum body) || (is_struct body || is_exception body)

-- an entity stands in at most 64 modules, its name has at most 4,096 bytes where it is a type, the types that it writes have short names, and a method or
-- a constructor has at most 64 parameters, a rest parameter among them
abbrev pub few_modules : List ℕ → Bool
few_modules name = nat_le (length (parts_of name)) 65

abbrev pub short_name : List ℕ → Bool
short_name name = nat_le (length name) 4096

abbrev pub few_params : ℕ → Bool
few_params count = nat_le count 64

abbrev pub is_within_limits : Entity → Bool
is_within_limits e = (few_modules e.name && (not (is_type_body e.body) || short_name e.name)) && (list_all is_namable (kinds_in e.body) && list_all few_params (param_counts e.body))

-- each entity has at most 65,536 functions, those of its bases counted
abbrev pub HasFewFunctions : List Entity → Type 0
HasFewFunctions reg = (e : Entity) → Contains reg e → length (functions_of reg e.name) ≤ 65536

-- ---- a sound registry

pub record IsSound (reg : List Entity) : Type 0 where
  -- names are identifiers, joined by points in an entity's name
  pub named : IsTrue (list_all is_named reg)
  -- the items of each enum have different names
  pub differ : IsTrue (list_all items_differ reg)
  -- each name that is used is an entity of the kind that its place asks: bases, what is raised, services and singletons, types
  pub bases : IsTrue (list_all (λ e. bases_known reg e.body) reg)
  pub raises : IsTrue (list_all (λ e. raises_known reg e.body) reg)
  pub services : IsTrue (list_all (λ e. services_known reg e.body) reg)
  pub types : IsTrue (list_all (λ e. types_known reg e.body) reg)
  -- void is a method's result alone, and exceptions are no members, parameters or elements
  pub allowed : IsTrue (list_all (λ e. types_allowed e.body) reg)
  -- an interface has a base, an enum an item, a service a constructor, a struct or an exception a member
  pub complete : IsTrue (list_all is_complete reg)
  pub members : IsTrue (list_all (has_member reg) reg)
  -- the limits on names, parameters and functions
  pub limits : IsTrue (list_all is_within_limits reg)
  pub functions : HasFewFunctions reg
  -- no circle of bases, nor of structs that contain one another without a sequence
  pub no_circle : HasNoCircle (leads_to reg)
