-- Where a name stands in a registry, or where it would.
use Rattle.std.specs.Prelude.{◌≡◌, ◌↔◌, ℕ, ◌<◌, ◌≤◌, Bool, true, List, length, Some, None, get_or, slice_get}
use Rattle.std.specs.declared.cmp.Ordering.TheVariants.{Less, Greater}
use Rattle.std.specs.Ordering.{nat_cmp}
use Rattle.std.specs.Cmp.Lexicographic.{slice_cmp}
use Rattle.uno_model.specs.Entities.{Entity}
use Rattle.uno_model.specs.Registry.{find_entity, IsBaseOf}

-- the entity of the name stands at this place
pub record IsPlaceOf (name : List ℕ) (reg : List Entity) (i : ℕ) : Type 0 where
  pub within : i < length reg
  pub found : find_entity name reg ≡ slice_get reg i

-- the name is not there: all names before this place are below it, and all from it on above
pub record IsGapOf (name : List ℕ) (reg : List Entity) (i : ℕ) : Type 0 where
  pub within : i ≤ length reg
  pub absent : find_entity name reg ≡ None
  pub before : (k : ℕ) (d : Entity) → k < i → slice_cmp nat_cmp (get_or reg k d).name name ≡ Less
  pub after : (k : ℕ) (d : Entity) → i ≤ k → k < length reg → slice_cmp nat_cmp (get_or reg k d).name name ≡ Greater

-- the test says whether the entity at the second place is a base of the one at the first
abbrev pub IsBaseAt : List Entity → ℕ → ℕ → Bool → Type 0
IsBaseAt reg source target test = (e f : Entity) → slice_get reg source ≡ Some e → slice_get reg target ≡ Some f → (test ≡ true) ↔ IsBaseOf reg f.name e.name
