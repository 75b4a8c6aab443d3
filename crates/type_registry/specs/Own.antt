-- The functions that interfaces declare themselves, and a search for the one at a number.
use Rattle.std.specs.Prelude.{◌≡◌, ℕ, ◌+◌, ◌≤◌, List, [], ◌∷◌, length, slice_get, Option, None, Some}
use Rattle.std.specs.List.{flat_map}
use Rattle.uno_model.specs.Entities.{Entity, Member}
use Rattle.uno_model.specs.Functions.{Function, accessors_of, calls_of, declared_by, met_within}
use Rattle.uno_model.specs.Registry.{find_entity}
use Rattle.type_registry.specs.Functions.{lent_function}
use Rattle.type_registry.specs.declared.own.Group.{Group}
use Rattle.type_registry.specs.declared.own.Group.TheVariants as group
use Rattle.type_registry.specs.declared.own.Sought.{Sought}
use Rattle.type_registry.specs.declared.own.Sought.TheVariants as sought

-- the functions of a group that a member is
abbrev pub functions_in : Group → List ℕ → Member → List Function
functions_in group.Accessors = accessors_of
functions_in group.Methods = calls_of

-- what interfaces declare, one after the other
abbrev pub functions_by : List Entity → List (List ℕ) → List Function
functions_by reg names = flat_map (λ owner. declared_by owner (find_entity owner reg)) names

-- the function at the number is found, or the number lies so far past all of them
abbrev pub Seeks : List Function → ℕ → Sought → Type 0
Seeks fs number (sought.Found f) = slice_get fs number ≡ Some (lent_function f)
Seeks fs number (sought.Past left) = number ≡ length fs + left

-- the same among the functions of an interface, over so many levels of bases and over any number more
abbrev pub SeeksOver : List Entity → List ℕ → ℕ → ℕ → Sought → Type 0
SeeksOver reg name levels number sought = (more : ℕ) → levels ≤ more → Seeks (functions_by reg (met_within more reg [] name)) number sought

-- what is there, or nothing
abbrev pub one_or_none : {A : Type 0} → Option A → List A
one_or_none None = []
one_or_none (Some f) = f ∷ []
