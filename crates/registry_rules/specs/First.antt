-- The first entity that breaks a rule.
use Rattle.std.specs.Prelude.{◌≡◌, ℕ, ◌<◌, List, length, Option, Some, MatchOption, slice_get}
use Rattle.uno_model.specs.Entities.{Entity}

-- the entity at the place breaks the rule, and none before it does
pub record IsFirst (reg : List Entity) (Keeps : Entity → Type 0) (place : ℕ) : Type 0 where
  pub within : place < length reg
  pub broken : (e : Entity) → slice_get reg place ≡ Some e → ¬ Keeps e
  pub before : (i : ℕ) (e : Entity) → i < place → slice_get reg i ≡ Some e → Keeps e

-- each entity keeps it
abbrev pub AllKeep : List Entity → (Entity → Type 0) → Type 0
AllKeep reg Keeps = (i : ℕ) (e : Entity) → slice_get reg i ≡ Some e → Keeps e

-- none is found where all keep the rule, and otherwise the first that does not
abbrev pub FindsFirst : List Entity → (Entity → Type 0) → Option ℕ → Type 0
FindsFirst reg Keeps found = MatchOption found (AllKeep reg Keeps) (λ place. IsFirst reg Keeps place)
