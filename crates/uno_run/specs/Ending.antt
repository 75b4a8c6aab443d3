-- The status with which a run of `answer` ends where nothing hinders it: that of the order of work.
use Rattle.std.specs.Prelude.{◌≡◌, ◌⊎◌, ℕ, true, false, List, Option, None, Some}
use Rattle.uno_base.specs.Causes.{Rose}
use Rattle.uno_io.specs.Files.{Stored}
use Rattle.bridge_model.specs.Histories.{Told}
use Rattle.bridge_model.specs.Settings.{Setting}
use Rattle.bridge_model.specs.declared.cause.Cause.{Cause}
use Rattle.bridge_model.specs.declared.cause.Cause.TheVariants as cause
use Rattle.bridge_laws.specs.Working.{IsDone}
use Rattle.answering.specs.Answering.{InputEnded}
use Rattle.command_words.specs.Names.{Text}
use Rattle.uno_run.specs.Answer.{IsOfFiles}
use Rattle.uno_run.specs.declared.status.Status.{Status}
use Rattle.uno_run.specs.declared.status.Status.TheVariants.{Done, Broken, Cut, Full}

-- the status that says why the bridge has ended; where it ended with its input, that has an end that was awaited, or none
abbrev pub EndsAs : Setting → List ℕ → Option Cause → Status → Type 0
EndsAs g bytes (Some cause.Disposed) status = status ≡ Done
EndsAs g bytes (Some (cause.Broken why place)) status = status ≡ Broken why place
EndsAs g bytes (Some cause.Full) status = status ≡ Full
EndsAs g bytes (Some cause.Ended) status = ((status ≡ Done) × InputEnded g bytes false) ⊎ ((status ≡ Cut) × InputEnded g bytes true)
EndsAs g bytes why status = ⊥

-- an input has these bytes, with which the order of work ends where this is told, and no stream fails
pub record IsUnhindered {I O : Type 0} (left : I → Option (List ℕ)) (reads : I → ℕ) (writes : O → ℕ)
    (g : Setting) (input_old input_new : I) (output_old output_new : O) (bytes : List ℕ) (told : Told) : Type 0 where
  pub had : left input_old ≡ Some bytes
  pub done : IsDone g bytes told
  pub read : ¬ Rose (reads input_old) (reads input_new)
  pub written : ¬ Rose (writes output_old) (writes output_new)

-- a store tells its files, the texts of two are those of this setting, and it does not fail
pub record AreWell {F : Type 0} (stored : F → Option Stored) (readings : F → ℕ)
    (types plan : Text) (tag : List ℕ) (files_old files_new : F) (g : Setting) : Type 0 where
  pub store : Stored
  pub tells : stored files_old ≡ Some store
  pub is_of : IsOfFiles (stored files_old) types plan tag g
  pub read : ¬ Rose (readings files_old) (readings files_new)
