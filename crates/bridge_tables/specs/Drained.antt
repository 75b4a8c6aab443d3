-- What bytes that go leave of what was said.
use Rattle.std.specs.Prelude.{ℕ, List}
use Rattle.message_model.specs.Messages.{Message}
use Rattle.uno_model.specs.Entities.{Entity}
use Rattle.bridge_model.specs.Sides.{Outgoing, Tables}
use Rattle.bridge_model.specs.Going.{spells_for, less_ready}

-- as few messages are spelled as serve for so many bytes
abbrev pub drained : List Entity → ℕ → Outgoing → Tables → Tables
drained reg n o t = record t { unsaid = (spells_for reg n t.unsaid o).unsaid }

-- and the rest of their bytes waits
abbrev pub goes_on : List Entity → ℕ → List Message → Outgoing → Outgoing
goes_on reg n said o = less_ready n (spells_for reg n said o).outgoing
