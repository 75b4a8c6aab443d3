-- What goes out: which bytes wait, and what a drain leaves.
use Rattle.std.specs.Prelude.{◌≡◌, ℕ, List, ◌++◌}
use Rattle.message_model.specs.Messages.{Message}
use Rattle.message_model.specs.WritingMessages.{messages_spelling}
use Rattle.uno_model.specs.Entities.{Entity}
use Rattle.bridge_model.specs.Going.{spells_for, less_ready}
use Rattle.bridge_model.specs.Sides.{Outgoing}
use Rattle.bridge_streams.specs.Queues.{Queue, with_said}

-- all bytes that wait where these messages are not spelled
abbrev pub waiting_bytes : List Entity → List Message → Outgoing → List ℕ
waiting_bytes reg said o = o.ready ++ messages_spelling reg said o.spoken

-- so many bytes went: as few messages are spelled as serve for them, and the rest of what is spelled waits
pub record Drained (reg : List Entity) (n : ℕ) (before : Outgoing) (queue : Queue) (after : Outgoing) (rest : Queue) : Type 0 where
  pub outgoing : after ≡ less_ready n (spells_for reg n queue.said before).outgoing
  pub unsaid : rest ≡ with_said (spells_for reg n queue.said before).unsaid queue
