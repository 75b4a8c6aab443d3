-- A call that waits, as plain data, and what is read of its answer.
use Rattle.std.specs.Prelude.{List, ℕ, Bool, Option, None, Some, Result, Ok, if◌then◌else◌}
use Rattle.message_model.specs.Calls as call
use Rattle.message_model.specs.Calls.{Waits, waiting, may_raise}
use Rattle.message_model.specs.Headers.{Heard}
use Rattle.message_model.specs.Messages.{Message, reply}
use Rattle.message_model.specs.ReadingMessages.{awaited, answer_at, hearing_tid}
use Rattle.type_registry.specs.Functions.{lent_function}
use Rattle.uno_model.specs.Entities.{Entity}
use Rattle.uno_model.specs.Functions as plain
use Rattle.uno_model.specs.Kinds.{Kind}
use Rattle.urp_model.specs.NamedKinds.{is_any}
use Rattle.urp_model.specs.Parts.{◌>>=◌, judged}
use Rattle.urp_model.specs.declared.fault.Fault.{Fault}
use Rattle.urp_model.specs.declared.reason.Reason.{Reason}
use Rattle.urp_model.specs.declared.reason.Reason.TheVariants.{NobodyWaits, BadAny, BadException}
use Rattle.urp_message.specs.declared.listener.reply.Awaited.{Awaited}

-- the interface and the number that were called, and the function
abbrev pub awaited_of : Awaited → call.Waiting × plain.Function
awaited_of a = (record { face = a.face; function = a.number }, lent_function a.function)

-- a reply behind its thread
abbrev pub answered_at : List Entity → Waits → Heard → List ℕ → Bool → List ℕ → Result (Message × Heard × List ℕ) Fault
answered_at reg waits heard tid is_raised bytes = do
  call ← judged NobodyWaits (awaited reg (waiting tid waits))
  answer ← answer_at is_raised reg call.1 heard.tables bytes
  Ok (reply tid call.0.face call.0.function answer.0, hearing_tid heard tid answer.1, answer.2)

-- why a type is none of an exception that a function may raise: an any holds no any, which is judged first
abbrev pub misplaced : List Entity → plain.Function → Kind → Option Reason
misplaced reg f k = if is_any k then Some BadAny else (if may_raise reg f k then None else Some BadException)
