-- What an answer says, by why it stopped.
use Rattle.std.proofs.Common.{◌≡◌, subst, ℕ, Bool, true, false, List, Option, Result, Ok, Err}
use Rattle.std.specs.Io.KnownBytes.{IsAtEnd}
use Rattle.uno_base.specs.Causes.{Rose}
use Rattle.bridge_model.specs.Settings.{Setting}
use Rattle.bridge_model.specs.declared.cause.Cause.{Cause}
use Rattle.bridge_model.specs.declared.cause.Cause.TheVariants as reason
use Rattle.answering.specs.Answering.{WasRead, AnsweredWhole, GoesOnTelling, InputEnded, AnsweredPart}
use Rattle.answering.specs.Serving.{HoldsFront, Serves, Reads}
use Rattle.answering.specs.declared.stopped.Halted.{Halted}
use Rattle.answering.specs.declared.stopped.Stopped.{Stopped}
use Rattle.answering.specs.declared.stopped.Stopped.TheVariants as stopped
use Rattle.answering.proofs.ServingLaws.{holds_front, answered_over, answered_all, answered_part, input_ended}

module _ (g : Setting) (i j o p : Option (List ℕ)) where
  -- whatever it is, a front of what went out was taken
  front_at : (r : Result Stopped Halted) → Serves g i j o p r → HoldsFront g i j o p
  front_at (Ok (stopped.Bridge why)) is = holds_front is.holds
  front_at (Ok (stopped.Input cut)) is = holds_front is.all.holds
  front_at (Ok stopped.ReadFault) is = holds_front is.holds
  front_at (Ok stopped.WriteFault) is = absurd is
  front_at (Ok stopped.NoMemory) is = absurd is
  front_at (Err why) is = is

  pub part_at : (r : Result Stopped Halted) → Serves g i j o p r → (s : List ℕ) → WasRead i j s → AnsweredPart g s o p
  part_at r is s was = answered_part (front_at r is) s was

  -- and the input goes on telling what it has left, if it told
  pub goes_on_at : (r : Result Stopped Halted) → Serves g i j o p r → GoesOnTelling i j
  goes_on_at r is = let front = front_at r is in record { front = front.read; consumed = front.consumed }

  module _ (x : Stopped) (is : Serves g i j o p (Ok x)) where
    pub bridge_at : (why : Cause) → x ≡ stopped.Bridge why → (s : List ℕ) → WasRead i j s → AnsweredWhole g s false o p why
    bridge_at why at s was = answered_over (subst (λ z. Serves g i j o p (Ok z)) at is) s was

    pub input_at : (cut : Bool) → x ≡ stopped.Input cut → (s : List ℕ) → WasRead i j s → AnsweredWhole g s true o p reason.Ended
    input_at cut at s was = let cut_so = subst (λ z. Serves g i j o p (Ok z)) at is in answered_all cut_so.all s was

    pub fault_at : x ≡ stopped.ReadFault → (s : List ℕ) → WasRead i j s → AnsweredWhole g s true o p reason.Ended
    fault_at at s was = answered_all (subst (λ z. Serves g i j o p (Ok z)) at is) s was
