-- The promise of `answer`: an endpoint of two texts over the input and the output, and what each status says.
use Rattle.std.specs.Prelude.{◌≡◌, ◌≢◌, ◌⊎◌, ℕ, true, false, List, Option, None, Some}
use Rattle.std.specs.Io.KnownBytes.{IsAtEnd}
use Rattle.uno_base.specs.Causes.{Rose}
use Rattle.uno_io.specs.Files.{Stored}
use Rattle.uno_model.specs.Entities.{Entity}
use Rattle.urp_model.specs.declared.reason.Reason.{Reason}
use Rattle.plan_model.specs.declared.line_reason.LineReason.{LineReason}
use Rattle.bridge_model.specs.Settings.{Setting}
use Rattle.bridge_model.specs.declared.cause.Cause.TheVariants as cause
use Rattle.command_words.specs.Names.{Text}
use Rattle.answering.specs.Answering.{AnsweredPart, AnsweredWhole, GoesOnTelling, InputEnded, WasRead}
use Rattle.uno_run.specs.Idl.{IsOfFile, IsRegistryText, Refused, Tells}
use Rattle.uno_run.specs.Plans.{IsPlan, IsRefusedPlan, NoOwnEnd}
use Rattle.uno_run.specs.declared.reason.RegistryReason.{RegistryReason}
use Rattle.uno_run.specs.declared.status.Status.{Status}
use Rattle.uno_run.specs.declared.status.Status.TheVariants.{Done, BadRegistry, BadPlan, ReadFault, WriteFault, Broken, Cut, Full, NoFile, NoMemory}

-- the setting of an endpoint with this tag: the registry and the plan of two texts
pub record IsOf (types plan tag : List ℕ) (g : Setting) : Type 0 where
  pub is_text : IsRegistryText types g.registry
  pub is_plan : IsPlan g.registry plan g.plan
  pub tagged : g.tag ≡ tag

-- the same of the texts that two files have, where the store tells its files
pub record IsOfFiles (store : Option Stored) (types plan : Text) (tag : List ℕ) (g : Setting) : Type 0 where
  pub types_text : List ℕ
  pub plan_text : List ℕ
  pub types_told : Tells store types (Some types_text)
  pub plan_told : Tells store plan (Some plan_text)
  pub is_of : IsOf types_text plan_text tag g

-- the statuses with which the serving of an endpoint ends
abbrev pub EndsServing : Status → Type 0
EndsServing Done = Unit
EndsServing ReadFault = Unit
EndsServing WriteFault = Unit
EndsServing (Broken why place) = Unit
EndsServing Cut = Unit
EndsServing Full = Unit
EndsServing NoMemory = Unit
EndsServing status = ⊥

-- an endpoint of this setting over an input and an output, and how the run ended
pub record Served {I O : Type 0} (left : I → Option (List ℕ)) (reads : I → ℕ) (taken : O → Option (List ℕ)) (writes : O → ℕ) (g : Setting)
    (input_old input_new : I) (output_old output_new : O) (status : Status) : Type 0 where
  pub only : EndsServing status
  -- an input that tells what it has left goes on telling it, whatever the status
  pub goes_on : GoesOnTelling (left input_old) (left input_new)
  -- the bridge was disposed; or the input ended at the edge of a block, while no call waited for an answer
  pub done : status ≡ Done → (s : List ℕ) → WasRead (left input_old) (left input_new) s
      → AnsweredWhole g s false (taken output_old) (taken output_new) cause.Disposed ⊎ (AnsweredWhole g s true (taken output_old) (taken output_new) cause.Ended × InputEnded g s false × IsAtEnd (left input_new))
  pub cut : status ≡ Cut → (s : List ℕ) → WasRead (left input_old) (left input_new) s
      → AnsweredWhole g s true (taken output_old) (taken output_new) cause.Ended × InputEnded g s true × IsAtEnd (left input_new)
  pub broken : (why : Reason) (place : ℕ) → status ≡ Broken why place → (s : List ℕ) → WasRead (left input_old) (left input_new) s
      → AnsweredWhole g s false (taken output_old) (taken output_new) (cause.Broken why place)
  pub full : status ≡ Full → (s : List ℕ) → WasRead (left input_old) (left input_new) s → AnsweredWhole g s false (taken output_old) (taken output_new) cause.Full
  pub fault : status ≡ ReadFault → (s : List ℕ) → WasRead (left input_old) (left input_new) s → AnsweredWhole g s true (taken output_old) (taken output_new) cause.Ended
  -- whatever it is, a prefix of what is owed was written
  pub part : (s : List ℕ) → WasRead (left input_old) (left input_new) s → AnsweredPart g s (taken output_old) (taken output_new)
  pub read_fault : status ≡ ReadFault → Rose (reads input_old) (reads input_new)
  pub no_read_fault : status ≢ ReadFault → status ≢ WriteFault → status ≢ NoMemory → reads input_new ≡ reads input_old
  pub write_fault : status ≡ WriteFault → Rose (writes output_old) (writes output_new)
  pub no_write_fault : status ≢ WriteFault → writes output_new ≡ writes output_old

-- an endpoint of these texts was
pub record WasServed {I O : Type 0} (left : I → Option (List ℕ)) (reads : I → ℕ) (taken : O → Option (List ℕ)) (writes : O → ℕ) (types plan tag : List ℕ)
    (input_old input_new : I) (output_old output_new : O) (status : Status) : Type 0 where
  pub setting : Setting
  pub is_of : IsOf types plan tag setting
  pub served : Served left reads taken writes setting input_old input_new output_old output_new status

-- nothing was read, and nothing was written
abbrev pub IsIdle : {I O : Type 0} → I → I → O → O → Type 0
IsIdle input_old input_new output_old output_new = (input_new ≡ input_old) × (output_new ≡ output_old)

-- the statuses of an endpoint that was
abbrev pub HasServed : Status → Type 0
HasServed Done = Unit
HasServed Cut = Unit
HasServed (Broken why place) = Unit
HasServed Full = Unit
HasServed WriteFault = Unit
HasServed status = ⊥

-- a run of `answer` alone, with texts of its own: an endpoint of them was served, or there was none, for the reason that the status says
abbrev pub OwnRun : {I O : Type 0} → (I → Option (List ℕ)) → (I → ℕ) → (O → Option (List ℕ)) → (O → ℕ) → (types plan tag : List ℕ) → I → I → O → O → Status → Type 0
OwnRun left reads taken writes types plan tag input_old input_new output_old output_new status =
    WasServed left reads taken writes types plan tag input_old input_new output_old output_new status
    ⊎ (NoOwnEnd types plan status × IsIdle input_old input_new output_old output_new)

-- an endpoint of the texts of two files was
pub record FilesServed {I O : Type 0} (left : I → Option (List ℕ)) (reads : I → ℕ) (taken : O → Option (List ℕ)) (writes : O → ℕ) (store : Option Stored) (types plan : Text) (tag : List ℕ)
    (input_old input_new : I) (output_old output_new : O) (status : Status) : Type 0 where
  pub setting : Setting
  pub is_of : IsOfFiles store types plan tag setting
  pub served : Served left reads taken writes setting input_old input_new output_old output_new status

-- the first file is the text of a registry, and the second is refused as a plan in it, first at this line for this reason
pub record RefusedPlan (store : Option Stored) (types plan : Text) (line : ℕ) (why : LineReason) : Type 0 where
  pub registry : List Entity
  pub is_of : IsOfFile store types registry
  pub plan_text : List ℕ
  pub plan_told : Tells store plan (Some plan_text)
  pub refused : IsRefusedPlan registry plan_text line why

-- the first file is the text of a registry, and the second is not there
pub record LacksPlan (store : Option Stored) (types plan : Text) : Type 0 where
  pub registry : List Entity
  pub is_of : IsOfFile store types registry
  pub plan_told : Tells store plan None

-- the statuses of `answer` on two files
abbrev pub EndsAnswering : Status → Type 0
EndsAnswering Done = Unit
EndsAnswering (BadRegistry file line reason) = Unit
EndsAnswering (BadPlan file line why) = Unit
EndsAnswering ReadFault = Unit
EndsAnswering WriteFault = Unit
EndsAnswering (Broken why place) = Unit
EndsAnswering Cut = Unit
EndsAnswering Full = Unit
EndsAnswering (NoFile file) = Unit
EndsAnswering NoMemory = Unit
EndsAnswering status = ⊥

-- a run of `answer` on two files
pub record AnswerRun {F I O : Type 0} (stored : F → Option Stored) (readings : F → ℕ) (left : I → Option (List ℕ)) (reads : I → ℕ) (taken : O → Option (List ℕ)) (writes : O → ℕ)
    (types plan : Text) (tag : List ℕ) (files_old files_new : F) (input_old input_new : I) (output_old output_new : O) (status : Status) : Type 0 where
  pub only : EndsAnswering status
  pub served : HasServed status → FilesServed left reads taken writes (stored files_old) types plan tag input_old input_new output_old output_new status
  -- a file failed, or the files were read and the input failed
  pub read_fault : status ≡ ReadFault → (Rose (readings files_old) (readings files_new) × IsIdle input_old input_new output_old output_new)
      ⊎ ((readings files_new ≡ readings files_old)
      × FilesServed left reads taken writes (stored files_old) types plan tag input_old input_new output_old output_new status)
  pub no_memory : status ≡ NoMemory → IsIdle input_old input_new output_old output_new
      ⊎ FilesServed left reads taken writes (stored files_old) types plan tag input_old input_new output_old output_new status
  -- the first file that is refused or is not there ends the run, and nothing is read or written
  pub bad_registry : (file line : ℕ) (reason : RegistryReason) → status ≡ BadRegistry file line reason → (file ≡ 0) × Refused (stored files_old) types line reason
  pub bad_plan : (file line : ℕ) (why : LineReason) → status ≡ BadPlan file line why → (file ≡ 1) × RefusedPlan (stored files_old) types plan line why
  pub no_file : (file : ℕ) → status ≡ NoFile file → ((file ≡ 0) × Tells (stored files_old) types None) ⊎ ((file ≡ 1) × LacksPlan (stored files_old) types plan)
  pub idle : HasServed status ⊎ ((status ≡ ReadFault) ⊎ (status ≡ NoMemory)) ⊎ IsIdle input_old input_new output_old output_new
  pub no_file_fault : status ≢ ReadFault → readings files_new ≡ readings files_old
