-- An entity that stands on one other alone.
use Rattle.std.specs.Prelude.{◌≡◌, ℕ, ◌<◌, List, [], ◌∷◌}
use Rattle.uno_model.specs.Entities.{Entity}
use Rattle.uno_entities.specs.Finding.{IsPlaceOf}
use Rattle.rules_over_bases.specs.declared.standing.Standing.{Standing}
use Rattle.rules_over_bases.specs.declared.standing.Standing.TheVariants.{OnNone, OnOne, Otherwise}

-- of these bases there is but one, and it stands at the place
pub record IsOnlyBase (reg : List Entity) (bases : List (List ℕ)) (place : ℕ) : Type 0 where
  pub name : List ℕ
  pub alone : bases ≡ name ∷ []
  pub there : IsPlaceOf name reg place

abbrev pub IsStanding : List Entity → List (List ℕ) → Standing → Type 0
IsStanding reg bases OnNone = bases ≡ []
IsStanding reg bases (OnOne place) = IsOnlyBase reg bases place
IsStanding reg bases Otherwise = Unit

-- the one alone, if there is one, is below a number
abbrev pub IsWithin : ℕ → Standing → Type 0
IsWithin count OnNone = Unit
IsWithin count (OnOne place) = place < count
IsWithin count Otherwise = Unit
