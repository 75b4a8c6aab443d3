-- What a status says where no endpoint was set up.
use Rattle.std.specs.Prelude.{◌≡◌, ◌⊎◌, ℕ, List, Option, None}
use Rattle.uno_base.specs.Causes.{Rose}
use Rattle.uno_io.specs.Files.{Stored}
use Rattle.uno_model.specs.Entities.{Entity}
use Rattle.behaviour_text.specs.declared.error.PlanError.{PlanError}
use Rattle.behaviour_text.specs.declared.error.PlanError.TheVariants as error
use Rattle.command_words.specs.Names.{Text}
use Rattle.uno_run.specs.Answer.{LacksPlan, RefusedPlan}
use Rattle.uno_run.specs.Idl.{IsRefused, Refused, Tells}
use Rattle.uno_run.specs.Plans.{IsRefusedPlan}
use Rattle.uno_run.specs.declared.status.Status.{Status}
use Rattle.uno_run.specs.declared.status.Status.TheVariants.{BadRegistry, BadPlan, ReadFault, NoFile, NoMemory}

-- ---- what a status says of a refused text

-- of a registry, which is the first file
abbrev pub RefusedRegistry : List ℕ → Status → Type 0
RefusedRegistry text (BadRegistry file line reason) = (file ≡ 0) × IsRefused text line reason
RefusedRegistry text NoMemory = Unit
RefusedRegistry text _ = ⊥

-- of a plan, which is the second
abbrev pub RefusedText : List Entity → List ℕ → Status → Type 0
RefusedText registry text (BadPlan file line why) = (file ≡ 1) × IsRefusedPlan registry text line why
RefusedText registry text NoMemory = Unit
RefusedText registry text _ = ⊥

abbrev pub plan_refused : PlanError → Status
plan_refused error.NoMemory = NoMemory
plan_refused (error.BadLine line why) = BadPlan 1 line why

-- ---- the first file that is refused, is not there or cannot be read, or out of memory

abbrev pub NotSetUp : Option Stored → (types plan : Text) → (before now : ℕ) → Status → Type 0
NotSetUp store types plan before now (BadRegistry file line reason) = (file ≡ 0) × Refused store types line reason × (now ≡ before)
NotSetUp store types plan before now (BadPlan file line why) = (file ≡ 1) × RefusedPlan store types plan line why × (now ≡ before)
NotSetUp store types plan before now (NoFile file) = (((file ≡ 0) × Tells store types None) ⊎ ((file ≡ 1) × LacksPlan store types plan)) × (now ≡ before)
NotSetUp store types plan before now ReadFault = Rose before now
NotSetUp store types plan before now NoMemory = now ≡ before
NotSetUp store types plan before now _ = ⊥
