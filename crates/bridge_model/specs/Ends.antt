-- The end of a bridge: what its cause does to the stacks, to the roots that wait, and to what is held.
use Rattle.std.specs.Prelude.{[], map, Option, None, Some}
use Rattle.std.specs.List.{filter}
use Rattle.table_model.specs.Holdings.{outlasts}
use Rattle.bridge_model.specs.Sides.{Outcome, disposed, no_memory, RootState, waits_call, waits_query, answered, Tables, nothing_came, nothing_goes, Side}
use Rattle.bridge_model.specs.declared.cause.Cause.{Cause}
use Rattle.bridge_model.specs.declared.cause.Cause.TheVariants as cause

-- what a root gets that waits
abbrev pub outcome_at_end : Cause → Outcome
outcome_at_end cause.NoMemory = no_memory
outcome_at_end why = disposed why

-- a root that waits is answered
abbrev pub state_at_end : Cause → RootState → RootState
state_at_end why waits_call = answered (outcome_at_end why)
state_at_end why (waits_query wanted) = answered (outcome_at_end why)
state_at_end why s = s

-- what frames hold goes, and nothing is released
abbrev pub tables_at_end : Cause → Tables → Tables
tables_at_end why t = record t { holdings = filter outlasts t.holdings; stubs = []; roots = map (state_at_end why) t.roots }

-- all stacks are cleared, stubs are gone, and what came in is forgotten; what was said can still be drained
unfoldable pub ends_by : Cause → Side → Side
ends_by why s = record s { tables = tables_at_end why s.tables; stacks = []; incoming = nothing_came; cause = Some why }

-- what was said and is not drained is forgotten
abbrev pub forgets : Side → Side
forgets s = record s { tables = record s.tables { unsaid = [] }; outgoing = nothing_goes }

-- want of memory takes the place of the cause where there is one; nothing is drained any more
unfoldable pub runs_out : Option Cause → Side → Side
runs_out None s = forgets (ends_by cause.NoMemory s)
runs_out (Some why) s = forgets (record s { cause = Some cause.NoMemory })
