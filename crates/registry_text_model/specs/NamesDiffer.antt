-- The third rule: the names of members, parameters, constructors and items differ, and in an interface those over all its functions, an interface that is met
-- twice counted once.
use Rattle.std.specs.Prelude.{ℕ, Bool, true, ◌&&◌, List, ◌++◌, map}
use Rattle.std.specs.List.{list_all, flat_map}
use Rattle.uno_model.specs.Entities.{Entity, Body, Member, attribute, method, Constructor, interface, struct, exception, enum, constants, new_service, old_service}
use Rattle.uno_model.specs.Functions.{functions_of}
use Rattle.uno_model.specs.Registry.{all_members, at_most_one}
use Rattle.uno_model.specs.Sound.{all_differ}
use Rattle.uno_model.specs.Uses.{part_names}

-- an attribute and a method of one interface have different names too
abbrev pub declared_name : Member → List ℕ
declared_name (attribute a) = a.name
declared_name (method m) = m.name

abbrev pub params_differ : Member → Bool
params_differ (attribute a) = true
params_differ (method m) = all_differ (map (λ p. p.name) m.params)

-- a rest parameter is a parameter
abbrev pub given_differ : Constructor → Bool
given_differ c = all_differ (map (λ p. p.name) c.params ++ at_most_one c.rest)

-- the names that a body declares itself
abbrev pub own_names_differ : Body → Bool
own_names_differ (interface bases members) = all_differ (map declared_name members) && list_all params_differ members
own_names_differ (enum items) = all_differ (map (λ i. i.name) items)
own_names_differ (constants cs) = all_differ (map (λ c. c.name) cs)
own_names_differ (new_service base constructors) = all_differ (map (λ c. c.name) constructors) && list_all given_differ constructors
own_names_differ (old_service parts) = all_differ (flat_map part_names parts)
own_names_differ _ = true

-- and those that it has from its bases too
abbrev pub all_names_differ : List Entity → List ℕ → Body → Bool
all_names_differ reg name (interface bases members) = all_differ (map (λ f. f.name) (functions_of reg name))
all_names_differ reg name (struct base members) = all_differ (map (λ f. f.name) (all_members reg name))
all_names_differ reg name (exception base members) = all_differ (map (λ f. f.name) (all_members reg name))
all_names_differ reg name _ = true

unfoldable pub names_differ : List Entity → Entity → Bool
names_differ reg e = own_names_differ e.body && all_names_differ reg e.name e.body
