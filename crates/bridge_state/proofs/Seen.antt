-- What a contract sees of the parts of a side.
use Rattle.std.proofs.Common.{ℕ, List, Option}
use Rattle.plan_model.specs.Frames.{Stack}
use Rattle.bridge_model.specs.Sides.{Side, Incoming, Outgoing}
use Rattle.bridge_model.specs.declared.cause.Cause.{Cause}
use Rattle.bridge_tables.specs.EndTables.{EndTables}
use Rattle.bridge_state.specs.EndSides.{EndSide}

abbrev pub side_by : EndTables → List Stack → Incoming → Outgoing → ℕ → Option Cause → Side
side_by t ss i o n c = record { tables = t.tables; stacks = ss; incoming = i; outgoing = o; entries = n; cause = c }

abbrev pub seen : EndTables → List Stack → Incoming → Outgoing → ℕ → Option Cause → EndSide
seen t ss i o n c = record { prefix = t.prefix; first = t.first; release_tid = t.release_tid; side = side_by t ss i o n c }
