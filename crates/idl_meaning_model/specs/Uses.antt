-- The names that files use: each path with where it stands and what it may name there.
use Rattle.std.specs.Prelude.{ℕ, List, [], ◌∷◌, ◌++◌, map, Option, None, Some}
use Rattle.std.specs.List.{flat_map}
use Rattle.std.specs.Option.{option_map, option_to_list}
use Rattle.idl_model.specs.Places.{Place}
use Rattle.idl_model.specs.Trees.{Path, WrittenType, simple, named, sequence_of, Arguments, no_arguments, argument, float, double}
use Rattle.idl_model.specs.Trees.{Expr, number, truth, constant, parentheses, signed, chain, Operands, no_operands, operand}
use Rattle.idl_model.specs.Trees.{InterfaceMember, base_member, attribute, method, Constructor, ServiceMember, face, subservice, property}
use Rattle.idl_model.specs.Trees.{Declaration, forward, interface, struct, exception, enum, constants, typedef, new_service, old_service, new_singleton, old_singleton}
use Rattle.idl_meaning_model.specs.Declarations.{Declared, Scope, scope_of, all_valued, value_name}
use Rattle.idl_meaning_model.specs.Scopes.{entity_named, constant_named}

-- ---- the paths and types of a declaration, from the front

-- a path that is to name an entity, or a constant or an item
pub data Used : Type 0 where
  an_entity : Path → Used
  a_value : Path → Used

-- paths in a type, and in an expression
unfoldable mutual
  pub type_paths : WrittenType → List Path
  type_paths (simple p s) = []
  type_paths (named path ts) = path ∷ argument_paths ts
  type_paths (sequence_of p t) = type_paths t

  pub argument_paths : Arguments → List Path
  argument_paths no_arguments = []
  argument_paths (argument t ts) = type_paths t ++ argument_paths ts

unfoldable mutual
  pub expr_paths : Expr → List Path
  expr_paths (number n) = []
  expr_paths (truth b) = []
  expr_paths (constant path) = path ∷ []
  expr_paths (parentheses e) = expr_paths e
  expr_paths (signed signs e) = expr_paths e
  expr_paths (chain e es) = expr_paths e ++ operand_paths es

  pub operand_paths : Operands → List Path
  operand_paths no_operands = []
  operand_paths (operand op e es) = expr_paths e ++ operand_paths es

-- what `get` or `set` raises, where it is written
abbrev pub accessor_raises : Option (List Path) → List Path
accessor_raises None = []
accessor_raises (Some paths) = paths

-- all paths of a declaration that are to name entities
abbrev pub member_paths : InterfaceMember → List Path
member_paths (base_member optional path) = path ∷ []
member_paths (attribute a) = type_paths a.type ++ (accessor_raises a.get ++ accessor_raises a.set)
member_paths (method m) = type_paths m.result_type ++ (flat_map (λ p. type_paths p.type) m.parameters ++ m.raises)

abbrev pub constructor_paths : Constructor → List Path
constructor_paths c = flat_map (λ p. type_paths p.type) c.parameters ++ c.raises

abbrev pub service_paths : ServiceMember → List Path
service_paths (face optional path) = path ∷ []
service_paths (subservice optional path) = path ∷ []
service_paths (property p) = type_paths p.type

abbrev pub entity_paths : List Path → List Used
entity_paths paths = map an_entity paths

abbrev pub value_paths : Expr → List Used
value_paths e = map a_value (expr_paths e)

-- the names that a declaration uses
unfoldable pub used_in : Declaration → List Used
used_in forward = []
used_in (interface base members) = entity_paths (option_to_list base ++ flat_map member_paths members)
used_in (struct base members) = entity_paths (option_to_list base ++ flat_map (λ m. type_paths m.type) members)
used_in (exception base members) = entity_paths (option_to_list base ++ flat_map (λ m. type_paths m.type) members)
used_in (enum items) = flat_map (λ i. flat_map value_paths (option_to_list i.value)) items
used_in (constants cs) = flat_map (λ c. entity_paths (type_paths c.type) ++ value_paths c.value) cs
used_in (typedef t) = entity_paths (type_paths t)
used_in (new_service base constructors) = entity_paths (base ∷ flat_map constructor_paths constructors)
used_in (old_service members) = entity_paths (flat_map service_paths members)
used_in (new_singleton base) = entity_paths (base ∷ [])
used_in (old_singleton service) = entity_paths (service ∷ [])

-- ---- uses

-- a name that is used, and where
pub record Use : Type 0 where
  pub scope : Scope
  pub used : Used

abbrev pub path_of : Used → Path
path_of (an_entity path) = path
path_of (a_value path) = path

unfoldable pub uses_of : Declared → List Use
uses_of d = map (λ u. record { scope = scope_of d; used = u }) (used_in d.body)

unfoldable pub uses : List Declared → List Use
uses ds = flat_map uses_of ds

-- what a use stands for: the full name of an entity, or the name of a constant or item behind that of its group or enum
abbrev pub used_meant : List Declared → Scope → Used → Option (List ℕ)
used_meant ds scope (an_entity path) = entity_named ds scope.modules path
used_meant ds scope (a_value path) = option_map value_name (constant_named (all_valued ds) scope path)

unfoldable pub stands_for : List Declared → Use → Option (List ℕ)
stands_for ds u = used_meant ds u.scope u.used

-- ---- types

-- all types that a declaration writes
abbrev pub member_types : InterfaceMember → List WrittenType
member_types (base_member optional path) = []
member_types (attribute a) = a.type ∷ []
member_types (method m) = m.result_type ∷ map (λ p. p.type) m.parameters

abbrev pub service_types : ServiceMember → List WrittenType
service_types (property p) = p.type ∷ []
service_types _ = []

unfoldable pub types_in : Declaration → List WrittenType
types_in (interface base members) = flat_map member_types members
types_in (struct base members) = map (λ m. m.type) members
types_in (exception base members) = map (λ m. m.type) members
types_in (constants cs) = map (λ c. c.type) cs
types_in (typedef t) = t ∷ []
types_in (new_service base constructors) = flat_map (λ c. map (λ p. p.type) c.parameters) constructors
types_in (old_service members) = flat_map service_types members
types_in _ = []

-- the places of float and double in a type
unfoldable mutual
  pub floats : WrittenType → List Place
  floats (simple p float) = p ∷ []
  floats (simple p double) = p ∷ []
  floats (simple p s) = []
  floats (named path ts) = argument_floats ts
  floats (sequence_of p t) = floats t

  pub argument_floats : Arguments → List Place
  argument_floats no_arguments = []
  argument_floats (argument t ts) = floats t ++ argument_floats ts
