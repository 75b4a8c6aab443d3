-- The first message of a body, and why it breaks the protocol.
use Rattle.std.specs.Prelude.{ℕ, List, Option, Some, Result, Ok, Err}
use Rattle.message_model.specs.Headers.{Heard as Remembered}
use Rattle.message_model.specs.Messages.{Message}
use Rattle.message_model.specs.ReadingMessages.{message_at}
use Rattle.message_model.specs.ReadingStreams.{reason_of}
use Rattle.urp_model.specs.declared.fault.Fault.{Fault}
use Rattle.urp_model.specs.declared.reason.Reason.{Reason}
use Rattle.bridge_model.specs.Receiving.{refusal}
use Rattle.bridge_model.specs.Settings.{Setting}
use Rattle.bridge_model.specs.Sides.{Side}
use Rattle.bridge_model.specs.Stacks.{waits_of}

-- the first message of a body, under the calls that wait
abbrev pub reads : Setting → Side → List ℕ → Result (Message × Remembered × List ℕ) Fault
reads g s body = message_at g.registry (waits_of s.stacks) s.incoming.heard body

-- why it breaks the protocol
abbrev pub break_of : Setting → Side → Result (Message × Remembered × List ℕ) Fault → Option Reason
break_of g s (Err fault) = Some (reason_of fault)
break_of g s (Ok read) = refusal g s read.0
