-- What a name stands for: it is looked for in the innermost module and outwards, and the first module counts in which the whole path names what is wanted.
use Rattle.std.specs.Prelude.{ℕ, Bool, not, ◌&&◌, ◌||◌, is_some, List, [], ◌∷◌, ◌++◌, map, Option, None, Some, if◌then◌else◌}
use Rattle.std.specs.List.{find, filter_map}
use Rattle.std.specs.Option.{option_to_list}
use Rattle.std.specs.Str.{bytes_eq}
use Rattle.uno_model.specs.BuiltIn.{built_in}
use Rattle.uno_model.specs.Registry.{find_entity}
use Rattle.idl_model.specs.Trees.{Path}
use Rattle.idl_meaning_model.specs.Declarations.{Declared, dotted, full_name, is_forward, Scope, Valued, value_name}

-- ---- where a name is looked for

-- modules, and those that they stand in, the innermost first
unfoldable pub outwards : List (List ℕ) → List (List (List ℕ))
outwards [] = [] ∷ []
outwards (m ∷ ms) = map (λ inner. m ∷ inner) (outwards ms) ++ [] ∷ []

-- the full names that a path may mean, in the order in which they are tried
unfoldable pub full_names : List (List ℕ) → Path → List (List ℕ)
full_names modules path = if path.absolute then dotted path.parts ∷ [] else map (λ ms. dotted (ms ++ path.parts)) (outwards modules)

-- ---- entities

-- the first declaration of an entity of this name
unfoldable pub declared_as : List Declared → List ℕ → Option Declared
declared_as ds name = find (λ d. not (is_forward d.body) && bytes_eq name (full_name d)) ds

unfoldable pub is_built_in : List ℕ → Bool
is_built_in name = is_some (find_entity name built_in)

abbrev pub is_entity : List Declared → List ℕ → Bool
is_entity ds name = is_built_in name || is_some (declared_as ds name)

-- the entity that a path names in these modules
unfoldable pub entity_named : List Declared → List (List ℕ) → Path → Option (List ℕ)
entity_named ds modules path = find (is_entity ds) (full_names modules path)

-- ---- constants and items

-- one identifier is a constant of the own group; all others have their group or enum before them
abbrev pub own_constant : Option (List ℕ) → Path → List (List ℕ)
own_constant group path = if path.absolute then [] else map (λ g. dotted (g ∷ path.parts)) (option_to_list group)

abbrev pub names_of_parts : Scope → Path → List (List ℕ) → List (List ℕ)
names_of_parts scope path (x ∷ []) = own_constant scope.group path
names_of_parts scope path _ = full_names scope.modules path

unfoldable pub value_names : Scope → Path → List (List ℕ)
value_names scope path = names_of_parts scope path path.parts

-- the first constant or item of this name
unfoldable pub valued_as : List Valued → List ℕ → Option Valued
valued_as vs name = find (λ v. bytes_eq name (value_name v)) vs

-- an element, if there is one, before others
abbrev pub first_of : {X : Type 0} → List X → Option X
first_of [] = None
first_of (x ∷ xs) = Some x

-- the constant or item that a path names in an expression there
unfoldable pub constant_named : List Valued → Scope → Path → Option Valued
constant_named vs scope path = first_of (filter_map (valued_as vs) (value_names scope path))
