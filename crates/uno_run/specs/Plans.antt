-- Texts of plans: what is accepted in a registry, and what a refusal says.
use Rattle.std.specs.Prelude.{◌≡◌, ◌⊎◌, ℕ, List, Err}
use Rattle.default_depths.specs.Depths.{HasShallowDefaults}
use Rattle.plan_model.specs.Keeps.{IsTextOf, IsVerdict}
use Rattle.plan_model.specs.Plans.{Plan}
use Rattle.plan_model.specs.declared.line_reason.LineReason.{LineReason}
use Rattle.plan_model.specs.declared.line_reason.LineReason.TheVariants.{Limit}
use Rattle.uno_model.specs.Entities.{Entity}
use Rattle.uno_run.specs.Idl.{IsRefused, IsRegistryText}
use Rattle.uno_run.specs.declared.status.Status.{Status}
use Rattle.uno_run.specs.declared.status.Status.TheVariants.{BadRegistry, BadPlan, NoMemory}

-- the defaults that an end of this plan makes are nested at most 1,024 deep
abbrev pub IsShallow : List Entity → Plan → Type 0
IsShallow registry plan = HasShallowDefaults registry

-- the text is that of this plan, and it is shallow
abbrev pub IsPlan : List Entity → List ℕ → Plan → Type 0
IsPlan registry text plan = IsTextOf registry text plan × IsShallow registry plan

-- the text is that of a plan that is not, which is told at line 0
pub record IsTooDeep (registry : List Entity) (text : List ℕ) (line : ℕ) (why : LineReason) : Type 0 where
  pub plan : Plan
  pub is_text : IsTextOf registry text plan
  pub deep : ¬ IsShallow registry plan
  pub at : line ≡ 0
  pub reason : why ≡ Limit

-- the text is refused, first at this line for this reason, or it is that of a plan that is too deep
abbrev pub IsRefusedPlan : List Entity → List ℕ → ℕ → LineReason → Type 0
IsRefusedPlan registry text line why = IsVerdict registry text (Err (record { line = line; reason = why })) ⊎ IsTooDeep registry text line why

-- ---- own texts

-- the one text is that of a registry in which the other is refused
pub record RefusedWith (types text : List ℕ) (line : ℕ) (why : LineReason) : Type 0 where
  pub registry : List Entity
  pub is_text : IsRegistryText types registry
  pub refused : IsRefusedPlan registry text line why

-- what a status says where no end is made of two texts that are the program's own
abbrev pub NoOwnEnd : (types plan : List ℕ) → Status → Type 0
NoOwnEnd types plan (BadRegistry file line reason) = (file ≡ 0) × IsRefused types line reason
NoOwnEnd types plan (BadPlan file line why) = (file ≡ 1) × RefusedWith types plan line why
NoOwnEnd types plan NoMemory = Unit
NoOwnEnd types plan _ = ⊥
