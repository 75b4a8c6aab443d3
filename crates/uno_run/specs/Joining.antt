-- The steps of `pair` and `drill`: ends of plans in one registry, two of them joined, and what they come to.
use Rattle.std.specs.Prelude.{◌≡◌, ℕ, List, [], Option, None, Some}
use Rattle.uno_base.specs.Causes.{Rose}
use Rattle.uno_io.specs.Files.{Stored}
use Rattle.uno_model.specs.Entities.{Entity}
use Rattle.behaviour_text.specs.declared.error.PlanError.{PlanError}
use Rattle.behaviour_text.specs.declared.error.PlanError.TheVariants as error
use Rattle.bridge_core.specs.declared.side.Side.{Side}
use Rattle.bridge_endpoint.specs.Journals.{setting_at, side_at}
use Rattle.bridge_model.specs.Answers.{Counts, counts_of}
use Rattle.bridge_model.specs.Orders.{first_runs}
use Rattle.bridge_model.specs.Settings.{Setting}
use Rattle.bridge_setting.specs.Settings.{setting_of}
use Rattle.bridge_world.specs.Joined.{Joined, end_at, settings_of}
use Rattle.bridge_world.specs.declared.error.RunError.{RunError}
use Rattle.bridge_world.specs.declared.error.RunError.TheVariants as why
use Rattle.command_words.specs.Names.{Text}
use Rattle.world_model.specs.Moves.{Progress}
use Rattle.world_model.specs.Pairs.{Pairing}
use Rattle.plan_model.specs.declared.line_reason.LineReason.{LineReason}
use Rattle.report_model.specs.Pairs.{EndsWell, ReachesLimit}
use Rattle.world_laws.specs.Ready.{AreReady}
use Rattle.world_model.specs.Worlds.{Settings}
use Rattle.uno_run.specs.Drill.{DrillLimited, RefusedDrillPlan}
use Rattle.uno_run.specs.Idl.{IsRefused, Refused, Tells}
use Rattle.uno_run.specs.Own.{own_types}
use Rattle.uno_run.specs.Pair.{FilesLimited, MissingOf, RefusedPlanOf}
use Rattle.uno_run.specs.Plans.{IsPlan, IsRefusedPlan}
use Rattle.uno_run.specs.declared.status.Status.{Status}
use Rattle.uno_run.specs.declared.status.Status.TheVariants.{BadRegistry, BadPlan, ReadFault, Full, NoFile, NoMemory}

-- ---- one end

-- with this tag, in this registry, of a plan's text
pub record IsEndWith (registry : List Entity) (text tag : List ℕ) (g : Setting) : Type 0 where
  pub is_plan : IsPlan registry text g.plan
  pub same : g.registry ≡ registry
  pub tagged : g.tag ≡ tag

-- of the text that a file has
pub record IsEndOf (store : Option Stored) (registry : List Entity) (plan : Text) (tag : List ℕ) (g : Setting) : Type 0 where
  pub text : List ℕ
  pub told : Tells store plan (Some text)
  pub is_end : IsEndWith registry text tag g

-- the text, which is that of the file at a place, is refused, or memory is wanted
abbrev pub RefusedAt : List Entity → List ℕ → (place : ℕ) → Status → Type 0
RefusedAt registry text place (BadPlan file line why) = (file ≡ place) × IsRefusedPlan registry text line why
RefusedAt registry text place NoMemory = Unit
RefusedAt registry text place _ = ⊥

abbrev pub refused_at : PlanError → (place : ℕ) → Status
refused_at error.NoMemory place = NoMemory
refused_at (error.BadLine line why) place = BadPlan place line why

pub record RefusedIn (store : Option Stored) (registry : List Entity) (plan : Text) (line : ℕ) (why : LineReason) : Type 0 where
  pub text : List ℕ
  pub told : Tells store plan (Some text)
  pub refused : IsRefusedPlan registry text line why

-- the file at a place is refused, is not there or cannot be read, or memory is wanted
abbrev pub NoEnd : Option Stored → List Entity → (plan : Text) → (place before now : ℕ) → Status → Type 0
NoEnd store registry plan place before now (BadPlan file line why) = (file ≡ place) × RefusedIn store registry plan line why × (now ≡ before)
NoEnd store registry plan place before now (NoFile file) = (file ≡ place) × Tells store plan None × (now ≡ before)
NoEnd store registry plan place before now ReadFault = Rose before now
NoEnd store registry plan place before now NoMemory = now ≡ before
NoEnd store registry plan place before now _ = ⊥

-- ---- two

-- they are ready, and nothing has happened at them
pub record IsFresh (j : Joined) : Type 0 where
  pub events : j.events ≡ []
  pub registry : (setting_of j.b).registry ≡ (setting_of j.a).registry
  pub ready : AreReady (settings_of j)

-- a file is refused, is not there or cannot be read, or memory is wanted
abbrev pub NotJoined : Option Stored → (types plan_a plan_b : Text) → (before now : ℕ) → Status → Type 0
NotJoined store types plan_a plan_b before now (BadRegistry file line reason) = (file ≡ 0) × Refused store types line reason × (now ≡ before)
NotJoined store types plan_a plan_b before now (BadPlan file line why) = RefusedPlanOf store types plan_a plan_b file line why × (now ≡ before)
NotJoined store types plan_a plan_b before now (NoFile file) = MissingOf store types plan_a plan_b file × (now ≡ before)
NotJoined store types plan_a plan_b before now ReadFault = Rose before now
NotJoined store types plan_a plan_b before now NoMemory = now ≡ before
NotJoined store types plan_a plan_b before now _ = ⊥

-- ---- what they come to

-- the runs of the threads of both plans at their beginnings
pub record AreFirst (g : Settings) (p : Progress) : Type 0 where
  pub a : p.a ≡ first_runs 1 g.a.plan.threads
  pub b : p.b ≡ first_runs 1 g.b.plan.threads

-- they came to their end within their limits, and so did their roots
pub record Ran (seed : Option ℕ) (cut : ℕ) (j k : Joined) (p : Progress) : Type 0 where
  pub last : Pairing
  pub ends : EndsWell (settings_of j) seed cut last
  pub same_a : k.a ≡ j.a
  pub same_b : k.b ≡ j.b
  pub events : k.events ≡ last.events
  pub runs : p ≡ last.runs

abbrev pub stopped : RunError → Status
stopped why.NoMemory = NoMemory
stopped why.Full = Full

-- how many stubs, living proxies and objects an end has
abbrev pub counts_seen : Joined → Side → Counts
counts_seen j s = counts_of (setting_at (end_at j s)) (side_at (end_at j s))

-- an end reached a limit, or memory was wanted
abbrev pub StopsSo : Settings → (seed : Option ℕ) → (cut : ℕ) → Status → Type 0
StopsSo g seed cut Full = ReachesLimit g seed cut
StopsSo g seed cut NoMemory = Unit
StopsSo g seed cut _ = ⊥

-- or a file is refused, is not there or cannot be read
abbrev pub NotReported : Option Stored → (types plan_a plan_b : Text) → (seed : Option ℕ) → (cut before now : ℕ) → Status → Type 0
NotReported store types plan_a plan_b seed cut before now Full = FilesLimited store types plan_a plan_b seed cut × (now ≡ before)
NotReported store types plan_a plan_b seed cut before now status = NotJoined store types plan_a plan_b before now status

-- one of its own texts is refused, an end reached a limit, or memory was wanted
abbrev pub NotDrilled : (rounds seed : ℕ) → Status → Type 0
NotDrilled rounds seed (BadRegistry file line reason) = (file ≡ 0) × IsRefused own_types line reason
NotDrilled rounds seed (BadPlan file line why) = RefusedDrillPlan rounds seed file line why
NotDrilled rounds seed Full = DrillLimited rounds seed
NotDrilled rounds seed NoMemory = Unit
NotDrilled rounds seed _ = ⊥
