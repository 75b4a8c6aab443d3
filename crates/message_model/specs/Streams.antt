-- A stream as messages: its blocks, the messages of each, and what a reader remembers between them.
use Rattle.std.specs.Prelude.{◌≡◌, ℕ, ◌^◌, ◌<◌, ◌≤◌, List, [], ◌∷◌, ◌++◌, length}
use Rattle.uno_model.specs.Entities.{Entity}
use Rattle.urp_model.specs.Blocks.{spell_block}
use Rattle.message_model.specs.Calls.{Waits}
use Rattle.message_model.specs.Headers.{Heard}
use Rattle.message_model.specs.Messages.{Message}
use Rattle.message_model.specs.Sayable.{MayBeSaid, message_weight, MessageSpellable, IsAwaited}
use Rattle.message_model.specs.SpellingMessages.{SpellsMessage}

-- the bytes are these messages, one after the other and nothing behind them, each read while these calls wait
unfoldable pub SpellsBody : List Entity → List Waits → List ℕ → Heard → List Message → Heard → Type 0
SpellsBody reg [] bytes heard [] after = (bytes ≡ []) × (after ≡ heard)
SpellsBody reg [] bytes heard (m ∷ ms) after = ⊥
SpellsBody reg (waits ∷ ws) bytes heard [] after = ⊥
SpellsBody reg (waits ∷ ws) bytes heard (m ∷ ms) after =
    (used : List ℕ) × (rest : List ℕ) × (between : Heard) × (bytes ≡ used ++ rest) × SpellsMessage reg waits heard m used between × SpellsBody reg ws rest between ms after

-- a block of a stream has a message, and at most 16 MiB behind its header
pub record IsStreamBlock (count : ℕ) (body : List ℕ) : Type 0 where
  pub some : 0 < count
  pub few : count < 2 ^ 32
  pub size : length body ≤ 16777216

-- the bytes are blocks, one after the other and nothing behind them, and the body of each is so many messages as its header says
unfoldable pub SpellsStream : List Entity → List (List Waits) → List ℕ → Heard → List (List Message) → Heard → Type 0
SpellsStream reg [] bytes heard [] after = (bytes ≡ []) × (after ≡ heard)
SpellsStream reg [] bytes heard (ms ∷ mss) after = ⊥
SpellsStream reg (ws ∷ wss) bytes heard [] after = ⊥
SpellsStream reg (ws ∷ wss) bytes heard (ms ∷ mss) after =
    (body : List ℕ) × (rest : List ℕ) × (between : Heard) × (bytes ≡ spell_block (length ms) body ++ rest) × IsStreamBlock (length ms) body
    × SpellsBody reg ws body heard ms between × SpellsStream reg wss rest between mss after

-- ---- what is said

-- a message may be said, is not too heavy, can be carried by bytes, and answers what its reader waits for
pub record CanBeSaid (reg : List Entity) (waits : Waits) (m : Message) : Type 0 where
  pub may : MayBeSaid reg m
  pub light : message_weight m ≤ 16777216
  pub carried : MessageSpellable m
  pub awaited : IsAwaited waits m

-- each of these messages can be said, while these calls wait for the one and those for the next
unfoldable pub EachCanBeSaid : List Entity → List Waits → List Message → Type 0
EachCanBeSaid reg [] [] = Unit
EachCanBeSaid reg [] (m ∷ ms) = ⊥
EachCanBeSaid reg (waits ∷ ws) [] = ⊥
EachCanBeSaid reg (waits ∷ ws) (m ∷ ms) = CanBeSaid reg waits m × EachCanBeSaid reg ws ms
