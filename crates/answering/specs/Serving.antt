-- How far an input was answered.
use Rattle.std.specs.Prelude.{◌≡◌, ℕ, Bool, true, List, [], ◌++◌, Option, Some, Result, Ok, Err}
use Rattle.std.specs.Io.KnownBytes.{Appends, Consumes, IsAtEnd}
use Rattle.uno_base.specs.Causes.{Rose}
use Rattle.uno_io.specs.Fronts.{AppendsFront}
use Rattle.plan_model.specs.Roots.{Run}
use Rattle.bridge_model.specs.Answers.{awaits_input}
use Rattle.bridge_model.specs.Histories.{Told}
use Rattle.bridge_model.specs.Settings.{Setting}
use Rattle.bridge_model.specs.Sides.{stands}
use Rattle.bridge_model.specs.declared.cause.Cause.{Cause}
use Rattle.bridge_model.specs.declared.cause.Cause.TheVariants as cause
use Rattle.bridge_laws.specs.Working.{AllIsDone, IsInOrder}
use Rattle.answering.specs.declared.stopped.Halted.{Halted}
use Rattle.answering.specs.declared.stopped.Halted.TheVariants as halted
use Rattle.answering.specs.declared.stopped.Stopped.{Stopped}
use Rattle.answering.specs.declared.stopped.Stopped.TheVariants as stopped

-- these bytes were read, and whatever comes behind them, an end that was told this is in order, with this left of them; and all that went out was taken
pub record Holds (g : Setting) (in_old in_new out_old out_new : Option (List ℕ)) (t : Told) (runs : List Run) (left : List ℕ) : Type 0 where
  pub read : List ℕ
  pub consumed : Consumes in_old in_new read
  pub order : (more : List ℕ) → IsInOrder g (read ++ more) t runs (left ++ more)
  pub written : Appends out_old out_new t.bytes_out

-- or a front of it
pub record HoldsFront (g : Setting) (in_old in_new out_old out_new : Option (List ℕ)) : Type 0 where
  pub told : Told
  pub runs : List Run
  pub left : List ℕ
  pub read : List ℕ
  pub consumed : Consumes in_old in_new read
  pub order : (more : List ℕ) → IsInOrder g (read ++ more) told runs (left ++ more)
  pub written : AppendsFront out_old out_new told.bytes_out

-- the bridge has ended for this cause, and all is done
pub record IsOver (g : Setting) (in_old in_new out_old out_new : Option (List ℕ)) (why : Cause) : Type 0 where
  pub told : Told
  pub runs : List Run
  pub left : List ℕ
  pub holds : Holds g in_old in_new out_old out_new told runs left
  pub done : AllIsDone g told.side runs
  pub ended : told.side.cause ≡ Some why

-- all was done with the bytes that came; then the input ended, and all was done again
pub record IsAllIn (g : Setting) (in_old in_new out_old out_new : Option (List ℕ)) : Type 0 where
  pub before : Told
  pub runs : List Run
  pub holds : Holds g in_old in_new out_old out_new before runs []
  pub done : AllIsDone g before.side runs
  pub stood : stands before.side ≡ true
  pub told : Told
  pub next : List Run
  pub order : IsInOrder g holds.read told next []
  pub all_done : AllIsDone g told.side next
  pub out : told.bytes_out ≡ before.bytes_out
  pub ended : told.side.cause ≡ Some cause.Ended

-- and the bridge awaited more, or not
pub record IsCutOrNot (g : Setting) (in_old in_new out_old out_new : Option (List ℕ)) (cut : Bool) : Type 0 where
  pub all : IsAllIn g in_old in_new out_old out_new
  pub awaited : awaits_input all.before.side ≡ cut

-- why it is over
abbrev pub Serves : Setting → (in_old in_new out_old out_new : Option (List ℕ)) → Result Stopped Halted → Type 0
Serves g i j o p (Ok (stopped.Bridge why)) = IsOver g i j o p why
Serves g i j o p (Ok (stopped.Input cut)) = IsCutOrNot g i j o p cut
Serves g i j o p (Ok stopped.ReadFault) = IsAllIn g i j o p
Serves g i j o p (Ok stopped.WriteFault) = ⊥
Serves g i j o p (Ok stopped.NoMemory) = ⊥
Serves g i j o p (Err why) = HoldsFront g i j o p

-- the input failed only where that is answered, and where it ended nothing is left
abbrev pub Reads : (before now : ℕ) → Option (List ℕ) → Stopped → Type 0
Reads before now left (stopped.Bridge why) = now ≡ before
Reads before now left (stopped.Input cut) = (now ≡ before) × IsAtEnd left
Reads before now left stopped.ReadFault = Rose before now
Reads before now left why = Unit

-- the output failed only where that is answered
abbrev pub Writes : {X : Type 0} → (before now : ℕ) → Result X Halted → Type 0
Writes before now (Ok x) = now ≡ before
Writes before now (Err halted.WriteFault) = Rose before now
Writes before now (Err halted.NoMemory) = now ≡ before
