-- The promise of `pair`: two ends of the texts of three files, joined in memory; the report of what they come to; and what each other status says.
use Rattle.std.specs.Prelude.{◌≡◌, ◌≢◌, ◌⊎◌, ℕ, List, Option, None, Some, codes}
use Rattle.std.specs.Io.KnownBytes.{Appends}
use Rattle.uno_base.specs.Causes.{Rose}
use Rattle.uno_io.specs.Files.{Stored}
use Rattle.uno_io.specs.Fronts.{AppendsFront}
use Rattle.uno_model.specs.Entities.{Entity}
use Rattle.plan_model.specs.Plans.{Plan}
use Rattle.plan_model.specs.declared.line_reason.LineReason.{LineReason}
use Rattle.world_model.specs.Pairs.{Pairing, IsPaired}
use Rattle.report_model.specs.Pairs.{IsPairReport, ReachesLimit}
use Rattle.world_laws.specs.Ready.{AreReady}
use Rattle.world_model.specs.Worlds.{Settings}
use Rattle.command_words.specs.Names.{Text}
use Rattle.uno_run.specs.Answer.{LacksPlan, RefusedPlan}
use Rattle.uno_run.specs.Idl.{IsOfFile, IsRegistryText, Refused, Tells}
use Rattle.uno_run.specs.Plans.{IsPlan}
use Rattle.uno_run.specs.Promises.{KeepsPromise}
use Rattle.uno_run.specs.declared.reason.RegistryReason.{RegistryReason}
use Rattle.uno_run.specs.declared.status.Status.{Status}
use Rattle.uno_run.specs.declared.status.Status.TheVariants.{Done, BadRegistry, BadPlan, ReadFault, WriteFault, Full, NoFile, NoMemory}

-- ---- two ends of texts

-- the settings of two ends with the tags A and B: the registry of a text, and the plan of another for each
pub record AreOf (types plan_a plan_b : List ℕ) (g : Settings) : Type 0 where
  pub is_text : IsRegistryText types g.registry
  pub is_plan_a : IsPlan g.registry plan_a g.a.plan
  pub is_plan_b : IsPlan g.registry plan_b g.b.plan
  pub tag_a : g.a.tag ≡ codes "A"
  pub tag_b : g.b.tag ≡ codes "B"

-- the same of the texts that three files have, where the store tells its files
pub record AreOfFiles (store : Option Stored) (types plan_a plan_b : Text) (g : Settings) : Type 0 where
  pub types_text : List ℕ
  pub a_text : List ℕ
  pub b_text : List ℕ
  pub types_told : Tells store types (Some types_text)
  pub a_told : Tells store plan_a (Some a_text)
  pub b_told : Tells store plan_b (Some b_text)
  pub are_of : AreOf types_text a_text b_text g

-- this is the report of what two ends of the files' texts come to, which is a function of their settings, the seed and the cut
pub record FilesReported (store : Option Stored) (types plan_a plan_b : Text) (seed : Option ℕ) (cut : ℕ) (report : List ℕ) : Type 0 where
  pub settings : Settings
  pub are_of : AreOfFiles store types plan_a plan_b settings
  pub ready : AreReady settings
  pub reported : IsPairReport settings seed cut report

-- one of the two reaches a limit
pub record FilesLimited (store : Option Stored) (types plan_a plan_b : Text) (seed : Option ℕ) (cut : ℕ) : Type 0 where
  pub settings : Settings
  pub are_of : AreOfFiles store types plan_a plan_b settings
  pub ready : AreReady settings
  pub limited : ReachesLimit settings seed cut

-- two ends of the files' texts, with all that they do, keep their promise
pub record FilesKeep (store : Option Stored) (types plan_a plan_b : Text) (seed : Option ℕ) (cut : ℕ) : Type 0 where
  pub settings : Settings
  pub are_of : AreOfFiles store types plan_a plan_b settings
  pub last : Pairing
  pub paired : IsPaired settings seed cut last
  pub keeps : KeepsPromise settings last

-- ---- files

-- the first file is the text of a registry, and this one that of a plan in it
pub record HasPlan (store : Option Stored) (types plan : Text) : Type 0 where
  pub registry : List Entity
  pub is_of : IsOfFile store types registry
  pub read : Plan
  pub plan_text : List ℕ
  pub plan_told : Tells store plan (Some plan_text)
  pub is_plan : IsPlan registry plan_text read

-- the second file is refused; or it is a plan, and the third is refused
abbrev pub RefusedPlanOf : Option Stored → (types plan_a plan_b : Text) → (file line : ℕ) → LineReason → Type 0
RefusedPlanOf store types plan_a plan_b file line why =
    ((file ≡ 1) × RefusedPlan store types plan_a line why) ⊎ ((file ≡ 2) × HasPlan store types plan_a × RefusedPlan store types plan_b line why)

-- the first file is not there; or it is the text of a registry, and the second is not there; or that is a plan, and the third is not there
abbrev pub MissingOf : Option Stored → (types plan_a plan_b : Text) → (file : ℕ) → Type 0
MissingOf store types plan_a plan_b file =
    ((file ≡ 0) × Tells store types None) ⊎ (((file ≡ 1) × LacksPlan store types plan_a) ⊎ ((file ≡ 2) × HasPlan store types plan_a × LacksPlan store types plan_b))

-- ---- a run

-- the output took a text that was owed, or a prefix of one
pub record Wrote (owed : List ℕ → Type 0) (old new : Option (List ℕ)) : Type 0 where
  pub text : List ℕ
  pub is_owed : owed text
  pub written : Appends old new text

pub record WroteSome (owed : List ℕ → Type 0) (old new : Option (List ℕ)) : Type 0 where
  pub text : List ℕ
  pub is_owed : owed text
  pub written : AppendsFront old new text

-- the statuses of `pair`: no bridge of two ends is broken or cut off
abbrev pub EndsPairing : Status → Type 0
EndsPairing Done = Unit
EndsPairing (BadRegistry file line reason) = Unit
EndsPairing (BadPlan file line why) = Unit
EndsPairing ReadFault = Unit
EndsPairing WriteFault = Unit
EndsPairing Full = Unit
EndsPairing (NoFile file) = Unit
EndsPairing NoMemory = Unit
EndsPairing status = ⊥

-- a run of `pair` on three files, by a seed, if there is one, and a cut
pub record PairRun {F O : Type 0} (stored : F → Option Stored) (reads : F → ℕ) (taken : O → Option (List ℕ)) (writes : O → ℕ) (types plan_a plan_b : Text) (seed : Option ℕ) (cut : ℕ)
    (files_old files_new : F) (output_old output_new : O) (status : Status) : Type 0 where
  pub only : EndsPairing status
  -- the output took the report of both ends
  pub done : status ≡ Done → Wrote (FilesReported (stored files_old) types plan_a plan_b seed cut) (taken output_old) (taken output_new)
  -- whatever the seed and the cut: what comes home is the object that was sent out, an identity and interface has one proxy at most, no live proxy's object is gone while both ends stand,
  -- and each outcome is its own call's
  pub promise : (status ≡ Done) ⊎ (status ≡ Full) → FilesKeep (stored files_old) types plan_a plan_b seed cut
  -- an end reached a limit
  pub full : status ≡ Full → FilesLimited (stored files_old) types plan_a plan_b seed cut
  -- the first file that is refused or is not there ends the run
  pub bad_registry : (file line : ℕ) (reason : RegistryReason) → status ≡ BadRegistry file line reason → (file ≡ 0) × Refused (stored files_old) types line reason
  pub bad_plan : (file line : ℕ) (why : LineReason) → status ≡ BadPlan file line why → RefusedPlanOf (stored files_old) types plan_a plan_b file line why
  pub no_file : (file : ℕ) → status ≡ NoFile file → MissingOf (stored files_old) types plan_a plan_b file
  pub read_fault : status ≡ ReadFault → Rose (reads files_old) (reads files_new)
  pub no_read_fault : status ≢ ReadFault → reads files_new ≡ reads files_old
  pub write_fault : status ≡ WriteFault
      → Rose (writes output_old) (writes output_new) × WroteSome (FilesReported (stored files_old) types plan_a plan_b seed cut) (taken output_old) (taken output_new)
  pub no_write_fault : status ≢ WriteFault → writes output_new ≡ writes output_old
  pub silent : status ≢ Done → status ≢ WriteFault → output_new ≡ output_old
  -- where the store has texts that are accepted, and neither it nor the output fails
  pub well : (files : Stored) (g : Settings) → stored files_old ≡ Some files → AreOfFiles (stored files_old) types plan_a plan_b g
      → ¬ Rose (reads files_old) (reads files_new) → ¬ Rose (writes output_old) (writes output_new) → (status ≡ Done) ⊎ ((status ≡ Full) ⊎ (status ≡ NoMemory))
