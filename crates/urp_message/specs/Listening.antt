-- What a contract sees of a `Listener`, and why it refuses.
use Rattle.std.specs.Prelude.{◌≡◌, Option, Result, Err}
use Rattle.message_model.specs.Headers.{Heard}
use Rattle.urp_message.specs.declared.error.ReadError.{ReadError}
use Rattle.urp_message.specs.declared.error.ReadError.TheVariants as refusal
use Rattle.urp_model.specs.declared.fault.Fault.{Fault}
use Rattle.urp_model.specs.declared.fault.Fault.TheVariants as fault
use Rattle.urp_model.specs.declared.reason.Reason.{Reason}
use Rattle.urp_model.specs.declared.reason.Reason.TheVariants.{ShortMessage}
use Rattle.urp_wire.specs.declared.error.WireError.{WireError}
use Rattle.urp_wire.specs.declared.error.WireError.TheVariants as error

-- what it remembers of a direction, and its refusal, if there was one
pub record Listening : Type 0 where
  pub heard : Heard
  pub refusal : Option ReadError

-- the reason for which a body is refused: where the next part is not whole, the message runs past the block
abbrev pub reason_of : Fault → Reason
reason_of fault.Short = ShortMessage
reason_of (fault.Bad reason) = reason

-- a refusal of what is not read
abbrev pub refusal_of : WireError → ReadError
refusal_of error.NoMemory = refusal.NoMemory
refusal_of error.Short = refusal.Broken ShortMessage
refusal_of (error.Bad reason) = refusal.Broken reason

-- a refusal says why the verdict on the bytes is a fault; want of memory says nothing of it
abbrev pub Refuses : {A : Type 0} → ReadError → Result A Fault → Type 0
Refuses refusal.NoMemory verdict = Unit
Refuses (refusal.Broken reason) verdict = (e : Fault) × (verdict ≡ Err e) × (reason ≡ reason_of e)
