-- The functions of an interface, in the order of their numbers (Developer's Guide, Professional UNO, 'Mapping of multiple-inheritance interfaces').
use Rattle.std.specs.Prelude.{◌≡◌, ℕ, zero, suc, Bool, true, false, List, [], ◌∷◌, ◌++◌, length, codes, Option, None, Some, if◌then◌else◌}
use Rattle.std.specs.List.{flat_map, list_any}
use Rattle.std.specs.Str.{bytes_eq}
use Rattle.uno_model.specs.Kinds.{Kind}
use Rattle.uno_model.specs.Kinds as kd
use Rattle.uno_model.specs.Entities.{Entity, Body, Param, Member, Attribute, Method, attribute, method, interface}
use Rattle.uno_model.specs.BuiltIn.{x_interface_name, query_interface, acquire, release}
use Rattle.uno_model.specs.Registry.{find_entity, stands_on}
use Rattle.uno_model.specs.declared.way.Way.TheVariants.{Into}

-- a function, and the interface that declares it
pub record Function : Type 0 where
  pub owner : List ℕ
  pub name : List ℕ
  pub oneway : Bool
  pub result_kind : Kind
  pub params : List Param
  pub raises : List (List ℕ)

-- an attribute is read by one function, and written by another one, whose parameter has the attribute's name
abbrev pub getter : List ℕ → Attribute → Function
getter owner a = record { owner = owner; name = codes "get:" ++ a.name; oneway = false; result_kind = a.kind; params = []; raises = a.get_raises }

abbrev pub setter : List ℕ → Attribute → Function
setter owner a =
    record {
      owner = owner;
      name = codes "set:" ++ a.name;
      oneway = false;
      result_kind = kd.void;
      params = record { way = Into; name = a.name; kind = a.kind } ∷ [];
      raises = a.set_raises;
    }

-- a read-only attribute has no function that writes it
abbrev pub accessors_of : List ℕ → Member → List Function
accessors_of owner (attribute a) = if a.read_only then getter owner a ∷ [] else getter owner a ∷ (setter owner a ∷ [])
accessors_of owner (method m) = []

-- a method is one function
abbrev pub call : List ℕ → Method → Function
call owner m = record { owner = owner; name = m.name; oneway = m.oneway; result_kind = m.result_kind; params = m.params; raises = m.raises }

abbrev pub calls_of : List ℕ → Member → List Function
calls_of owner (attribute a) = []
calls_of owner (method m) = call owner m ∷ []

-- the functions that an interface declares itself: those of its attributes, and then its methods
abbrev pub declared_in : List ℕ → Body → List Function
declared_in owner (interface bases members) = flat_map (accessors_of owner) members ++ flat_map (calls_of owner) members
declared_in owner _ = []

abbrev pub declared_by : List ℕ → Option Entity → List Function
declared_by owner None = []
declared_by owner (Some e) = declared_in owner e.body

-- a name is one of those that were met
unfoldable pub is_met : List ℕ → List (List ℕ) → Bool
is_met name met = list_any (bytes_eq name) met

-- each of them visited, one after the other
unfoldable pub visit_all : (List (List ℕ) → List ℕ → List (List ℕ)) → List (List ℕ) → List (List ℕ) → List (List ℕ)
visit_all visit met [] = met
visit_all visit met (name ∷ names) = visit_all visit (visit met name) names

-- the interfaces that were met, and behind them those that an interface brings in over so many levels of bases: what its bases bring in, in their order,
-- and then itself; one that was met before is left out
unfoldable pub met_within : ℕ → List Entity → List (List ℕ) → List ℕ → List (List ℕ)
met_within zero reg met name = met
met_within (suc levels) reg met name = if is_met name met then met else visit_all (met_within levels reg) met (stands_on reg name) ++ name ∷ []

-- an interface visited with all its bases: a way over bases that comes to no name twice has no more levels than there are entities
abbrev pub visit : List Entity → List (List ℕ) → List ℕ → List (List ℕ)
visit reg met name = met_within (suc (length reg)) reg met name

-- the interfaces whose functions an interface has, in the order in which they are numbered; optional bases add none
abbrev pub interfaces_of : List Entity → List ℕ → List (List ℕ)
interfaces_of reg name = visit reg [] name

-- the functions of an interface
abbrev pub functions_of : List Entity → List ℕ → List Function
functions_of reg name = flat_map (λ owner. declared_by owner (find_entity owner reg)) (interfaces_of reg name)

-- the three functions that every interface has first
abbrev pub root_functions : List Function
root_functions = call x_interface_name query_interface ∷ (call x_interface_name acquire ∷ (call x_interface_name release ∷ []))
