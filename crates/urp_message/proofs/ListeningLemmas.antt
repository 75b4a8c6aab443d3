-- What a listener refuses begins no message.
use Rattle.std.proofs.Common.{◌≡◌, ℕ, List, ◌++◌, refl}
use Rattle.message_model.specs.Calls.{Waits}
use Rattle.message_model.specs.Headers.{Heard}
use Rattle.message_model.specs.Messages.{Message}
use Rattle.message_model.specs.ReadingMessages.{message_at}
use Rattle.message_model.specs.SpellingMessages.{SpellsMessage}
use Rattle.message_model.proofs.MessageReadingLaws.{message_agrees}
use Rattle.uno_model.specs.Entities.{Entity}
use Rattle.uno_model.specs.Sound.{IsSound}
use Rattle.urp_model.proofs.ReadFronts.{no_fault}
use Rattle.urp_message.specs.Listening.{refusal_of}
use Rattle.urp_message.specs.declared.error.ReadError.TheVariants as refusal
use Rattle.urp_wire.specs.Gives.{Fails}
use Rattle.urp_wire.specs.declared.error.WireError.{WireError}
use Rattle.urp_wire.specs.declared.error.WireError.TheVariants as error

-- where a message stands at the front, memory alone is what is wanted
pub memory_alone : (reg : List Entity) (waits : Waits) (heard : Heard) (bytes : List ℕ) → IsSound reg → (e : WireError) → Fails e (message_at reg waits heard bytes)
    → (m : Message) (used rest : List ℕ) (after : Heard) → SpellsMessage reg waits heard m used after → bytes ≡ used ++ rest → refusal_of e ≡ refusal.NoMemory
memory_alone reg waits heard bytes sound error.NoMemory fails m used rest after spelled whole = refl
memory_alone reg waits heard bytes sound error.Short fails m used rest after spelled whole =
    absurd (no_fault (message_agrees reg waits heard sound.named) bytes _ fails m after used rest spelled whole)
memory_alone reg waits heard bytes sound (error.Bad reason) fails m used rest after spelled whole =
    absurd (no_fault (message_agrees reg waits heard sound.named) bytes _ fails m after used rest spelled whole)
