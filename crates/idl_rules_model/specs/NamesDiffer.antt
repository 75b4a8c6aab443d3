-- The third rule: the names of members, parameters, constructors and items differ, those that come from bases among them, and in an interface those of all
-- functions, an interface that is met twice counted once; at the second name. A name of a built-in entity has no place, and leaves it to the one before.
use Rattle.std.specs.Prelude.{ℕ, zero, suc, List, [], ◌∷◌, ◌++◌, map, length, Option, None, Some, unwrap_or, codes, if◌then◌else◌}
use Rattle.std.specs.List.{flat_map}
use Rattle.std.specs.Option.{option_or}
use Rattle.std.specs.Str.{bytes_eq}
use Rattle.uno_model.specs.BuiltIn.{built_in}
use Rattle.uno_model.specs.Entities.{Entity}
use Rattle.uno_model.specs.Functions.{declared_by, interfaces_of}
use Rattle.uno_model.specs.Registry.{find_entity, own_members, member_bases}
use Rattle.idl_model.specs.Places.{Place}
use Rattle.idl_model.specs.Trees.{Id, InterfaceMember, base_member, attribute, method, ServiceMember, property}
use Rattle.idl_model.specs.Trees.{Declaration, interface, struct, exception, enum, constants, new_service, old_service}
use Rattle.idl_meaning_model.specs.Declarations.{Declared, full_name}
use Rattle.idl_meaning_model.specs.Meaning.{is_read_only}
use Rattle.idl_meaning_model.specs.Scopes.{declared_as}

-- ---- names that are equal

-- a name, and its place in the files, if it is not built in
pub record NameAt : Type 0 where
  pub name : List ℕ
  pub place : Option Place

abbrev pub written_at : Id → NameAt
written_at id = record { name = id.name; place = Some id.place }

abbrev pub without_place : List ℕ → NameAt
without_place name = record { name = name; place = None }

-- the place of the second of two equal names, else of the first, else of the declaration that has both
abbrev pub place_of_second : Place → NameAt → NameAt → List Place
place_of_second own first second = if bytes_eq first.name second.name then unwrap_or (option_or second.place first.place) own ∷ [] else []

unfoldable pub second_names : Place → List NameAt → List Place
second_names own [] = []
second_names own (name ∷ names) = flat_map (place_of_second own name) names ++ second_names own names

-- ---- members of structs and exceptions

abbrev pub own_fields : Declaration → List NameAt
own_fields (struct base members) = flat_map (λ m. map written_at m.names) members
own_fields (exception base members) = flat_map (λ m. map written_at m.names) members
own_fields _ = []

abbrev pub fields_of : List ℕ → Option Declared → List NameAt
fields_of name (Some d) = own_fields d.body
fields_of name None = map (λ f. without_place f.name) (own_members (find_entity name built_in))

-- those of its bases first, over so many levels
unfoldable pub fields_within : ℕ → List Declared → List Entity → List ℕ → List NameAt
fields_within zero ds reg name = []
fields_within (suc levels) ds reg name = flat_map (fields_within levels ds reg) (member_bases (find_entity name reg)) ++ fields_of name (declared_as ds name)

unfoldable pub all_fields : List Declared → List Entity → List ℕ → List NameAt
all_fields ds reg name = fields_within (suc (length reg)) ds reg name

-- ---- functions of interfaces

abbrev pub accessor_at : List ℕ → Id → NameAt
accessor_at word id = record { name = word ++ id.name; place = Some id.place }

abbrev pub accessors : InterfaceMember → List NameAt
accessors (attribute a) = if is_read_only a then accessor_at (codes "get:") a.name ∷ [] else accessor_at (codes "get:") a.name ∷ (accessor_at (codes "set:") a.name ∷ [])
accessors _ = []

abbrev pub calls : InterfaceMember → List NameAt
calls (method m) = written_at m.name ∷ []
calls _ = []

abbrev pub own_functions : Declaration → List NameAt
own_functions (interface base members) = flat_map accessors members ++ flat_map calls members
own_functions _ = []

abbrev pub functions_of_owner : List ℕ → Option Declared → List NameAt
functions_of_owner owner (Some d) = own_functions d.body
functions_of_owner owner None = map (λ f. without_place f.name) (declared_by owner (find_entity owner built_in))

-- in the order of the function table
unfoldable pub all_functions : List Declared → List Entity → List ℕ → List NameAt
all_functions ds reg name = flat_map (λ owner. functions_of_owner owner (declared_as ds owner)) (interfaces_of reg name)

-- ---- the rule

abbrev pub member_name : InterfaceMember → List NameAt
member_name (base_member optional path) = []
member_name (attribute a) = written_at a.name ∷ []
member_name (method m) = written_at m.name ∷ []

abbrev pub parameter_names : InterfaceMember → List NameAt
parameter_names (method m) = map (λ p. written_at p.name) m.parameters
parameter_names _ = []

abbrev pub property_name : ServiceMember → List NameAt
property_name (property p) = written_at p.name ∷ []
property_name _ = []

-- lists of names in each of which no two are equal
abbrev pub name_lists : List Declared → List Entity → List ℕ → Declaration → List (List NameAt)
name_lists ds reg name (interface base members) = flat_map member_name members ∷ (all_functions ds reg name ∷ map parameter_names members)
name_lists ds reg name (struct base members) = all_fields ds reg name ∷ []
name_lists ds reg name (exception base members) = all_fields ds reg name ∷ []
name_lists ds reg name (enum items) = map (λ i. written_at i.name) items ∷ []
name_lists ds reg name (constants cs) = map (λ c. written_at c.name) cs ∷ []
name_lists ds reg name (new_service base constructors) =
    map (λ c. written_at c.name) constructors ∷ map (λ c. map (λ p. written_at p.name) c.parameters) constructors
name_lists ds reg name (old_service members) = flat_map property_name members ∷ []
name_lists ds reg name _ = []

unfoldable pub repeated_names : List Declared → List Entity → Declared → List Place
repeated_names ds reg d = flat_map (second_names d.name.place) (name_lists ds reg (full_name d) d.body)
