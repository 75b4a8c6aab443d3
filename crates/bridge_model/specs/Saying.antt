-- Which messages can be said: those that may be, and are not too heavy for a block.
use Rattle.std.specs.Prelude.{ℕ, ◌≤◌, List, [], ◌∷◌}
use Rattle.message_model.specs.Messages.{Message}
use Rattle.message_model.specs.Sayable.{MayBeSaid, message_weight}
use Rattle.uno_model.specs.Entities.{Entity}

-- a message may be said, and is not too heavy for a block
pub record IsSayable (reg : List Entity) (m : Message) : Type 0 where
  pub may : MayBeSaid reg m
  pub light : message_weight m ≤ 16777216

-- and so is each of these
abbrev pub AreSayable : List Entity → List Message → Type 0
AreSayable reg [] = Unit
AreSayable reg (m ∷ ms) = IsSayable reg m × AreSayable reg ms
