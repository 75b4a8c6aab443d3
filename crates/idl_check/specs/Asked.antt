-- What the rules are asked of, and how far they are kept.
use Rattle.std.specs.Prelude.{◌≡◌, ℕ, suc, ◌<◌, List, [], map, IsTrue, Result, IfErr, OnOk}
use Rattle.std.specs.List.{AllByRecursion}
use Rattle.idl_check.specs.declared.error.CheckError.{CheckError}
use Rattle.idl_check.specs.declared.error.CheckError.TheVariants as error
use Rattle.idl_entities.specs.Telling.{Telling}
use Rattle.idl_meaning_model.specs.Declarations.{Declared, all_valued, entities_declared}
use Rattle.idl_meaning_model.specs.FromFiles.{are_apart, leaf_places}
use Rattle.idl_meaning_model.specs.Meaning.{registry_of}
use Rattle.idl_meaning_model.specs.NameFaults.{declared_twice}
use Rattle.idl_model.specs.Places.{Place, IsLeast}
use Rattle.idl_names.specs.Collected.{HasNumbers}
use Rattle.idl_names.specs.declared.resolving.Resolved.{Resolved}
use Rattle.idl_rules_model.specs.CheckVerdicts.{broken_among}
use Rattle.idl_trees.specs.Names.{place_of}
use Rattle.registry_reading_model.specs.Changes.{entity_changed}
use Rattle.registry_reading_model.specs.Kept.{limited}
use Rattle.registry_text_model.specs.Rules.{Rule, number_of}
use Rattle.uno_model.specs.Entities.{Entity}

-- ---- declarations

-- declarations such as those of files whose names stand for something
pub record AreResolvedAmong (ds : List Declared) : Type 0 where
  pub apart : IsTrue (are_apart (leaf_places ds))
  pub once : declared_twice ds ≡ []
  pub values : IsTrue (are_apart (map (λ v. v.name.place) (all_valued ds)))

-- a declaration told among all of them, where no more is kept of types and numbers than shows what is beyond all limits
abbrev pub told_among : List Declared → Declared → Telling
told_among ds d = record { all = ds; declared = d; kept = limited }

abbrev pub told_of : List Declared → List Telling
told_of ds = map (told_among ds) (entities_declared ds)

-- the entities of the registry that declarations mean, with so much kept
abbrev pub entities_kept : List Declared → List Entity
entities_kept ds = map (entity_changed limited) (registry_of ds)

-- these declarations are told, and these are all entities
pub record IsAsked (ds : List Declared) (ts : List Telling) (reg : List Entity) : Type 0 where
  pub resolved : AreResolvedAmong ds
  pub told : ts ≡ told_of ds
  pub registry : reg ≡ entities_kept ds

-- declarations have the numbers of their paths
abbrev pub AreNumbered : Resolved → Type 0
AreNumbered r = AllByRecursion (HasNumbers r.paths) r.declared.items

-- ---- verdicts

-- no rule of a lesser number is broken
abbrev pub NoneBelow : ℕ → List Declared → Type 0
NoneBelow number ds = (r : Rule) → number_of r < number → broken_among r ds ≡ []

-- the rule that is broken first, at its least place; of want of memory nothing is said
pub record BreaksAt (ds : List Declared) (number : ℕ) (place : Place) : Type 0 where
  pub rule : Rule
  pub numbered : number_of rule ≡ number
  pub least : IsLeast place (broken_among rule ds)
  pub lesser : NoneBelow number ds

abbrev pub IsRefusedFor : List Declared → CheckError → Type 0
IsRefusedFor ds error.NoMemory = Unit {0}
IsRefusedFor ds (error.Rule number place) = BreaksAt ds number (place_of place)

-- a rule is kept as all of lesser numbers are, or it is the one that files are refused for
abbrev pub IsJudged : ℕ → List Declared → Result (Unit {0}) CheckError → Type 0
IsJudged number ds result = OnOk result (NoneBelow (suc number) ds) × IfErr result (IsRefusedFor ds)

-- no rule is broken, and this is the registry that declarations mean
abbrev pub IsKeptAmong : List Declared → List Entity → Type 0
IsKeptAmong ds reg = ((r : Rule) → broken_among r ds ≡ []) × (reg ≡ registry_of ds)
