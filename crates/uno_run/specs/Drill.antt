-- The promise of `drill`: two ends of texts of its own, and the summary of what they come to.
use Rattle.std.specs.Prelude.{◌≡◌, ◌≢◌, ◌⊎◌, ℕ, List, Option, Some}
use Rattle.uno_base.specs.Causes.{Rose}
use Rattle.world_model.specs.Pairs.{Pairing, IsPaired}
use Rattle.plan_model.specs.declared.line_reason.LineReason.{LineReason}
use Rattle.report_model.specs.Drills.{calling_plan, node_plan}
use Rattle.report_model.specs.Pairs.{IsSummary, ReachesLimit}
use Rattle.world_laws.specs.Ready.{AreReady}
use Rattle.world_model.specs.Worlds.{Settings}
use Rattle.uno_run.specs.Idl.{IsRefused}
use Rattle.uno_run.specs.Own.{own_types}
use Rattle.uno_run.specs.Pair.{AreOf, Wrote, WroteSome}
use Rattle.uno_run.specs.Plans.{RefusedWith}
use Rattle.uno_run.specs.Promises.{KeepsPromise}
use Rattle.uno_run.specs.declared.reason.RegistryReason.{RegistryReason}
use Rattle.uno_run.specs.declared.status.Status.{Status}
use Rattle.uno_run.specs.declared.status.Status.TheVariants.{Done, BadRegistry, BadPlan, WriteFault, Full, NoMemory}

-- the settings of the two ends of so many rounds
abbrev pub AreOfDrill : (rounds seed : ℕ) → Settings → Type 0
AreOfDrill rounds seed g = AreOf own_types (calling_plan rounds seed) node_plan g

-- the summary of so many rounds by this seed
pub record Drilled (rounds seed : ℕ) (text : List ℕ) : Type 0 where
  pub settings : Settings
  pub are_of : AreOfDrill rounds seed settings
  pub ready : AreReady settings
  pub summed : IsSummary rounds seed settings text

pub record DrillLimited (rounds seed : ℕ) : Type 0 where
  pub settings : Settings
  pub are_of : AreOfDrill rounds seed settings
  pub ready : AreReady settings
  pub limited : ReachesLimit settings (Some seed) 65536

pub record DrillKeeps (rounds seed : ℕ) : Type 0 where
  pub settings : Settings
  pub are_of : AreOfDrill rounds seed settings
  pub last : Pairing
  pub paired : IsPaired settings (Some seed) 65536 last
  pub keeps : KeepsPromise settings last

-- the text of the one end, or of the other, is refused
abbrev pub RefusedDrillPlan : (rounds seed file line : ℕ) → LineReason → Type 0
RefusedDrillPlan rounds seed file line why =
    ((file ≡ 1) × RefusedWith own_types (calling_plan rounds seed) line why) ⊎ ((file ≡ 2) × RefusedWith own_types node_plan line why)

-- the statuses of `drill`
abbrev pub EndsDrilling : Status → Type 0
EndsDrilling Done = Unit
EndsDrilling (BadRegistry file line reason) = Unit
EndsDrilling (BadPlan file line why) = Unit
EndsDrilling WriteFault = Unit
EndsDrilling Full = Unit
EndsDrilling NoMemory = Unit
EndsDrilling status = ⊥

pub record DrillRun {O : Type 0} (taken : O → Option (List ℕ)) (writes : O → ℕ) (rounds seed : ℕ) (output_old output_new : O) (status : Status) : Type 0 where
  pub only : EndsDrilling status
  pub done : status ≡ Done → Wrote (Drilled rounds seed) (taken output_old) (taken output_new)
  -- as of `pair`: what comes home is the object that was sent out, and so on
  pub promise : (status ≡ Done) ⊎ (status ≡ Full) → DrillKeeps rounds seed
  pub full : status ≡ Full → DrillLimited rounds seed
  -- the first of its own texts that is refused ends the run
  pub bad_registry : (file line : ℕ) (reason : RegistryReason) → status ≡ BadRegistry file line reason → (file ≡ 0) × IsRefused own_types line reason
  pub bad_plan : (file line : ℕ) (why : LineReason) → status ≡ BadPlan file line why → RefusedDrillPlan rounds seed file line why
  pub write_fault : status ≡ WriteFault → Rose (writes output_old) (writes output_new) × WroteSome (Drilled rounds seed) (taken output_old) (taken output_new)
  pub no_write_fault : status ≢ WriteFault → writes output_new ≡ writes output_old
  pub silent : status ≢ Done → status ≢ WriteFault → output_new ≡ output_old
  -- where its texts are accepted, and the output does not fail
  pub well : (g : Settings) → AreOfDrill rounds seed g → ¬ Rose (writes output_old) (writes output_new) → (status ≡ Done) ⊎ ((status ≡ Full) ⊎ (status ≡ NoMemory))
