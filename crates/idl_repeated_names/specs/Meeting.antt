-- That names are met behind others, and that lists of names are asked, each for itself.
use Rattle.std.specs.Prelude.{◌≡◌, ℕ, List, [], ◌∷◌, ◌++◌, map, None, Some, if◌then◌else◌}
use Rattle.std.specs.List.{AllByRecursion, flat_map}
use Rattle.idl_joint_places.specs.Circles.{FindsLeast}
use Rattle.idl_meaning_model.specs.Meaning.{is_read_only}
use Rattle.idl_model.specs.Places.{Place}
use Rattle.idl_model.specs.Trees as tree
use Rattle.idl_model.specs.Trees.{Declaration, InterfaceMember, ServiceMember, interface, struct, exception, enum, constants, new_service, old_service}
use Rattle.idl_repeated_names.specs.Twins.{FindsSeconds, HasMet, HaveKeys, Named, name_at}
use Rattle.idl_repeated_names.specs.declared.twins.Twins.{Twins}
use Rattle.idl_rules_model.specs.NamesDiffer.{second_names}
use Rattle.idl_trees.specs.Names.{place_of}
use Rattle.uno_model.specs.Entities as uno

-- names are met behind those that were, and what is found of second names is found of all of them
pub record Meets (old new : Twins) (more : List Named) : Type 0 where
  pub met : (ns : List Named) → HasMet old ns → HasMet new (ns ++ more)
  pub own : new.own ≡ old.own
  pub least : new.least ≡ old.least
  pub found : (ns : List Named) → HasMet old ns → HaveKeys (ns ++ more) → FindsSeconds ns old → FindsSeconds (ns ++ more) new

-- the least of the places of second names of each list is known, and of those that were
pub record Asks (old new : Twins) (lists : List (List Named)) : Type 0 where
  pub own : new.own ≡ old.own
  pub least : (ps : List Place) → AllByRecursion HaveKeys lists → FindsLeast ps old.least
      → FindsLeast (ps ++ flat_map (λ names. second_names (place_of old.own) (map name_at names)) lists) new.least

-- ---- the lists that a declaration has by itself

-- a name by the number of what stands before it in that of a function
abbrev pub at_accessor : ℕ → tree.Id → Named
at_accessor number id = record { key = (number, id.name); place = Some id.place }

abbrev pub at_id : tree.Id → Named
at_id id = at_accessor 0 id

abbrev pub member_named : InterfaceMember → List Named
member_named (tree.base_member optional path) = []
member_named (tree.attribute a) = at_id a.name ∷ []
member_named (tree.method m) = at_id m.name ∷ []

abbrev pub parameters_named : InterfaceMember → List Named
parameters_named (tree.method m) = map (λ p. at_id p.name) m.parameters
parameters_named _ = []

abbrev pub arguments_named : tree.Constructor → List Named
arguments_named c = map (λ p. at_id p.name) c.parameters

abbrev pub property_named : ServiceMember → List Named
property_named (tree.property p) = at_id p.name ∷ []
property_named _ = []

abbrev pub own_lists : Declaration → List (List Named)
own_lists (interface base members) = (flat_map member_named members ∷ []) ++ map parameters_named members
own_lists (enum items) = map (λ i. at_id i.name) items ∷ []
own_lists (constants cs) = map (λ c. at_id c.name) cs ∷ []
own_lists (new_service base constructors) = (map (λ c. at_id c.name) constructors ∷ []) ++ map arguments_named constructors
own_lists (old_service members) = flat_map property_named members ∷ []
own_lists _ = []

-- ---- the names that an entity declares itself

abbrev pub attribute_named : tree.Attribute → List Named
attribute_named a = if is_read_only a then at_accessor 1 a.name ∷ [] else at_accessor 1 a.name ∷ (at_accessor 2 a.name ∷ [])

abbrev pub accessors_named : InterfaceMember → List Named
accessors_named (tree.attribute a) = attribute_named a
accessors_named _ = []

abbrev pub calls_named : InterfaceMember → List Named
calls_named (tree.method m) = at_id m.name ∷ []
calls_named _ = []

abbrev pub line_named : tree.Fields → List Named
line_named m = map at_id m.names

-- the functions of an interface
abbrev pub own_functions_named : Declaration → List Named
own_functions_named (interface base members) = flat_map accessors_named members ++ flat_map calls_named members
own_functions_named _ = []

-- the members of a struct or an exception
abbrev pub own_fields_named : Declaration → List Named
own_fields_named (struct base members) = flat_map line_named members
own_fields_named (exception base members) = flat_map line_named members
own_fields_named _ = []

-- ---- the names that a built-in entity declares

abbrev pub at_nowhere : List ℕ → Named
at_nowhere name = record { key = (0, name); place = None }

abbrev pub method_named : uno.Member → List Named
method_named (uno.method m) = at_nowhere m.name ∷ []
method_named (uno.attribute a) = []

-- the methods of an interface; none that is built in has attributes
abbrev pub methods_named : uno.Body → List Named
methods_named (uno.interface bases members) = flat_map method_named members
methods_named _ = []

abbrev pub members_named : uno.Body → List Named
members_named (uno.struct base members) = map (λ f. at_nowhere f.name) members
members_named (uno.exception base members) = map (λ f. at_nowhere f.name) members
members_named _ = []
