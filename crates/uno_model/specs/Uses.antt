-- What an entity writes: the names that it declares, the names of other entities by their place, and the types by what their place allows.
use Rattle.std.specs.Prelude.{ℕ, ◌+◌, Bool, List, [], ◌∷◌, ◌++◌, length, map}
use Rattle.std.specs.List.{flat_map}
use Rattle.uno_model.specs.Kinds.{Kind}
use Rattle.uno_model.specs.Entities.{Body, Member, attribute, method, Constructor, Part, face, subservice, property, interface}
use Rattle.uno_model.specs.Entities.{struct, exception, enum, constants, typedef, new_service, old_service, new_singleton, old_singleton}
use Rattle.uno_model.specs.Registry.{at_most_one}

-- the names that a member of an interface, a constructor, or a part of a service declares
abbrev pub member_names : Member → List (List ℕ)
member_names (attribute a) = a.name ∷ []
member_names (method m) = m.name ∷ map (λ p. p.name) m.params

abbrev pub constructor_names : Constructor → List (List ℕ)
constructor_names c = (c.name ∷ map (λ p. p.name) c.params) ++ at_most_one c.rest

abbrev pub part_names : Part → List (List ℕ)
part_names (face optional name) = []
part_names (subservice optional name) = []
part_names (property name flags k) = name ∷ []

-- the names that an entity declares inside
abbrev pub inner_names : Body → List (List ℕ)
inner_names (interface bases members) = flat_map member_names members
inner_names (struct base members) = map (λ f. f.name) members
inner_names (exception base members) = map (λ f. f.name) members
inner_names (enum items) = map (λ i. i.name) items
inner_names (constants cs) = map (λ c. c.name) cs
inner_names (typedef k) = []
inner_names (new_service base constructors) = flat_map constructor_names constructors
inner_names (old_service parts) = flat_map part_names parts
inner_names (new_singleton base) = []
inner_names (old_singleton service) = []

-- ---- the names of other entities

-- what the members of an interface and the constructors of a service may raise
abbrev pub raised_by : Member → List (List ℕ)
raised_by (attribute a) = a.get_raises ++ a.set_raises
raised_by (method m) = m.raises

abbrev pub raised_names : Body → List (List ℕ)
raised_names (interface bases members) = flat_map raised_by members
raised_names (new_service base constructors) = flat_map (λ c. c.raises) constructors
raised_names _ = []

-- the interfaces that a service or a singleton stands over or has, and the services
abbrev pub interfaces_of_part : Part → List (List ℕ)
interfaces_of_part (face optional name) = name ∷ []
interfaces_of_part _ = []

abbrev pub services_of_part : Part → List (List ℕ)
services_of_part (subservice optional name) = name ∷ []
services_of_part _ = []

abbrev pub interfaces_used : Body → List (List ℕ)
interfaces_used (new_service base constructors) = base ∷ []
interfaces_used (old_service parts) = flat_map interfaces_of_part parts
interfaces_used (new_singleton base) = base ∷ []
interfaces_used _ = []

abbrev pub services_used : Body → List (List ℕ)
services_used (old_service parts) = flat_map services_of_part parts
services_used (old_singleton service) = service ∷ []
services_used _ = []

-- ---- the types

-- those of attributes and parameters, of members, constants and properties
abbrev pub value_kinds_of : Member → List Kind
value_kinds_of (attribute a) = a.kind ∷ []
value_kinds_of (method m) = map (λ p. p.kind) m.params

abbrev pub property_kinds : Part → List Kind
property_kinds (property name flags k) = k ∷ []
property_kinds _ = []

abbrev pub value_kinds : Body → List Kind
value_kinds (interface bases members) = flat_map value_kinds_of members
value_kinds (struct base members) = map (λ f. f.kind) members
value_kinds (exception base members) = map (λ f. f.kind) members
value_kinds (constants cs) = map (λ c. c.kind) cs
value_kinds (new_service base constructors) = flat_map (λ c. map (λ p. p.kind) c.params) constructors
value_kinds (old_service parts) = flat_map property_kinds parts
value_kinds _ = []

-- those of the results of methods
abbrev pub result_kinds_of : Member → List Kind
result_kinds_of (attribute a) = []
result_kinds_of (method m) = m.result_kind ∷ []

abbrev pub result_kinds : Body → List Kind
result_kinds (interface bases members) = flat_map result_kinds_of members
result_kinds _ = []

-- what a typedef stands for
abbrev pub target_kinds : Body → List Kind
target_kinds (typedef k) = k ∷ []
target_kinds _ = []

abbrev pub kinds_in : Body → List Kind
kinds_in body = value_kinds body ++ (result_kinds body ++ target_kinds body)

-- how many parameters each method or constructor has, a rest parameter among them
abbrev pub param_counts_of : Member → List ℕ
param_counts_of (attribute a) = []
param_counts_of (method m) = length m.params ∷ []

abbrev pub param_counts : Body → List ℕ
param_counts (interface bases members) = flat_map param_counts_of members
param_counts (new_service base constructors) = map (λ c. length c.params + length (at_most_one c.rest)) constructors
param_counts _ = []
