-- What is known of the depths of structs, place by place.
use Rattle.std.specs.Prelude.{◌≡◌, ℕ, ◌≤◌, true, List, length, get_or, slice_get, Some, Contains}
use Rattle.uno_model.specs.Entities.{Entity}
use Rattle.uno_model.specs.Registry.{own_members}
use Rattle.uno_model.specs.Sound.{is_struct}
use Rattle.uno_entities.specs.Finding.{IsPlaceOf}
use Rattle.default_depths.specs.Depths.{deepest, depth_named, told}

-- if there is a struct at the place, its depth is in the table
abbrev pub IsTold : List Entity → List ℕ → ℕ → Type 0
IsTold reg depths place = (e : Entity) → slice_get reg place ≡ Some e → is_struct e.body ≡ true → get_or depths place 0 ≡ told (depth_named reg e.name)

-- so are those of all structs
pub record AreTold (reg : List Entity) (depths : List ℕ) : Type 0 where
  pub long : length depths ≡ length reg
  pub told : (place : ℕ) → IsTold reg depths place

-- if the name is there, the depth of its default is in the table
abbrev pub IsKnown : List Entity → List ℕ → List ℕ → Type 0
IsKnown reg depths name = (place : ℕ) → IsPlaceOf name reg place → get_or depths place 0 ≡ told (depth_named reg name)

abbrev pub AreKnown : List Entity → List ℕ → List (List ℕ) → Type 0
AreKnown reg depths names = (name : List ℕ) → Contains names name → IsKnown reg depths name

-- the default of each member is nested at most 1,023 deep
abbrev pub HasShallowMembers : List Entity → Type 0
HasShallowMembers reg = (place : ℕ) (e : Entity) → slice_get reg place ≡ Some e → deepest reg (own_members (Some e)) ≤ 1023
