-- The variables of a method that begins fit its parameters, where the arguments fit theirs.
use Rattle.std.proofs.Common.{◌≡◌, refl, sym, ap, ◌∙◌, ℕ, Bool, true, false, ◌&&◌, List, [], ◌∷◌, Option, None, Some, drop, slice_get, unwrap_or, if◌then◌else◌}
use Rattle.std.specs.List.{list_all}
use Rattle.std.proofs.lemmas.Bool.{and_parts}
use mathlib.Core.Path.{subst}
use Rattle.message_model.specs.Calls.{goes, kinds_on}
use Rattle.uno_model.specs.Defaults.{default_of_kind}
use Rattle.uno_model.specs.Entities.{Entity, Param}
use Rattle.uno_model.specs.Fits.{Fits, FitEach}
use Rattle.uno_model.specs.Kinds.{Kind}
use Rattle.uno_model.specs.Sound.{IsSound}
use Rattle.uno_model.specs.Types.{is_type}
use Rattle.uno_model.specs.Values.{Plain, Plains, plains}
use Rattle.uno_model.specs.Values as v
use Rattle.uno_model.proofs.DefaultLaws.{default_fits}
use Rattle.plan_model.specs.Contexts.{parameters}
use Rattle.plan_model.specs.Frames.{Variable}
use Rattle.plan_model.specs.Holdings.{first_value, behind_argument, first_variables}
use Rattle.plan_typing.specs.Scenes.{VariablesFit}

-- the types of parameters are types of the registry
abbrev pub param_types : List Entity → List Param → Bool
param_types reg ps = list_all (λ p. is_type reg p.kind) ps

module _ (reg : List Entity) (sound : IsSound reg) where
  -- a parameter that goes in takes the first argument, another one has its default
  first_fits : (p : Param) (ps : List Param) (args : List Plain) (b : Bool) → goes p.way ≡ b → is_type reg p.kind ≡ true
      → FitEach reg (plains args) (kinds_on goes (p ∷ ps)) → Fits reg (first_value reg p args) p.kind × FitEach reg (plains (behind_argument p args)) (kinds_on goes ps)
  unfolding FitEach kinds_on
  first_fits p ps [] true is there fit = absurd (rw is at fit)
  first_fits p ps (x ∷ args) true is there fit =
      let parts : FitEach reg (plains (x ∷ args)) (p.kind ∷ kinds_on goes ps) = subst (λ b. FitEach reg (plains (x ∷ args)) (if b then p.kind ∷ kinds_on goes ps else kinds_on goes ps)) is fit in
      rw is parts
  first_fits p ps args false is there fit =
      let same : FitEach reg (plains args) (kinds_on goes ps) = subst (λ b. FitEach reg (plains args) (if b then p.kind ∷ kinds_on goes ps else kinds_on goes ps)) is fit in
      rw is (default_fits reg sound p.kind there, same)

  pub first_variables_fit : (ps : List Param) (args : List Plain) → param_types reg ps ≡ true → FitEach reg (plains args) (kinds_on goes ps)
      → VariablesFit reg (first_variables reg ps args) (parameters ps)
  unfolding first_variables parameters VariablesFit
  first_variables_fit [] args types fit = tt
  first_variables_fit (p ∷ ps) args types fit =
      let there = and_parts (is_type reg p.kind) (param_types reg ps) types in
      let first = first_fits p ps args (goes p.way) refl there.0 fit in
      (refl, first.0, first_variables_fit ps (behind_argument p args) there.1 first.1)
