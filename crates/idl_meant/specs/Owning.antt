-- The declarations of entities, by the numbers of their paths.
use Rattle.std.specs.Option.{option_and_then}
use Rattle.std.specs.Prelude.{◌≡◌, ◌==◌, ℕ, List, map, get_or, slice_get, Option, None, if◌then◌else◌}
use Rattle.idl_meaning_model.specs.Declarations.{is_forward}
use Rattle.idl_names.specs.declared.declaration.Declared.{Declared}
use Rattle.idl_trees.specs.Trees.{declaration_of}
use Rattle.idl_values.specs.Places.{first_place}

-- the number of its path; a forward declaration declares no entity, and the outermost path is that of none
abbrev pub entity_number : Declared → ℕ
entity_number d = if is_forward (declaration_of d.body.now) then 0 else d.path

-- a table has for each number the first declaration of its entity
abbrev pub AreOwners : List Declared → List (Option ℕ) → Type 0
AreOwners all owners = (n : ℕ) → get_or owners n None ≡ first_place (λ m. m == n) (map entity_number all)

-- the declaration of the entity of a number
abbrev pub owner_at : List Declared → List (Option ℕ) → ℕ → Option Declared
owner_at all owners n = option_and_then (slice_get all) (get_or owners n None)
