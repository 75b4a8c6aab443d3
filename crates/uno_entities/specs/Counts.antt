-- How many functions stand at the places of a registry, and where it is known.
use Rattle.std.specs.Prelude.{◌≡◌, ℕ, ◌+◌, ◌-◌, ◌^◌, ◌≤◌, min, Bool, true, false, List, [], ◌∷◌, length, Some, slice_get}
use Rattle.uno_model.specs.Entities.{Entity, Body, Member, attribute, method, interface}
use Rattle.uno_model.specs.Functions.{functions_of}
use Rattle.uno_entities.specs.Marks.{Marked}

-- how many functions an attribute has, and a member, and an entity itself
abbrev pub accessors : Bool → ℕ
accessors true = 1
accessors false = 2

abbrev pub functions_of_member : Member → ℕ
functions_of_member (attribute a) = accessors a.read_only
functions_of_member (method m) = 1

unfoldable pub functions_in : List Member → ℕ
functions_in [] = 0
functions_in (m ∷ ms) = functions_of_member m + functions_in ms

abbrev pub own_functions : Body → ℕ
own_functions (interface bases members) = functions_in members
own_functions _ = 0

-- how many functions all entities have themselves
unfoldable pub total_functions : List Entity → ℕ
total_functions [] = 0
total_functions (e ∷ es) = own_functions e.body + total_functions es

-- the functions of what is marked, each entity counted once
unfoldable pub marked_functions : List Bool → List Entity → ℕ
marked_functions [] reg = 0
marked_functions (mark ∷ marks) [] = 0
marked_functions (true ∷ marks) (e ∷ es) = own_functions e.body + marked_functions marks es
marked_functions (false ∷ marks) (e ∷ es) = marked_functions marks es

-- the entity at a place has at most 65,536 functions, those of its bases counted
abbrev pub FewAt : List Entity → ℕ → Type 0
FewAt reg place = (e : Entity) → slice_get reg place ≡ Some e → length (functions_of reg e.name) ≤ 65536

-- each entity that is not put off has few
abbrev pub AllFewBut : List Bool → List Entity → Type 0
AllFewBut later reg = (place : ℕ) → slice_get later place ≡ Some false → FewAt reg place

-- each entity that is marked has few
pub record KnownFew (reg : List Entity) (known : List Bool) : Type 0 where
  pub one_each : length known ≡ length reg
  pub few : (place : ℕ) → Marked known place → FewAt reg place

-- a count is what the one number is more than the other, as far as a `u64` counts
pub record IsShare (count whole rest : ℕ) : Type 0 where
  pub share : ℕ
  pub parts : whole ≡ share + rest
  pub counted : count ≡ min share (2 ^ 64 - 1)
