-- The variables behind a call fit the types behind it, where the answer fits the function.
use Rattle.std.proofs.Common.{◌≡◌, refl, sym, ap, ◌∙◌, ℕ, Bool, true, false, ◌&&◌, List, [], ◌∷◌, ◌++◌, Option, None, Some}
use Rattle.std.specs.Prelude.{IsTrue}
use Rattle.std.specs.List.{list_all}
use Rattle.std.proofs.lemmas.Bool.{and_parts, and_from}
use Rattle.std.proofs.lemmas.List.{append-nil}
use mathlib.Core.Path.{subst}
use Rattle.message_model.specs.Calls.{comes, kinds_on}
use Rattle.uno_model.specs.Entities.{Entity, Field, Param}
use Rattle.uno_model.specs.Fits.{Fits, FitEach}
use Rattle.uno_model.specs.Kinds.{Kind}
use Rattle.uno_model.specs.Sound.{IsSound}
use Rattle.uno_model.specs.Types.{is_type}
use Rattle.uno_model.specs.Values.{Plain, plains}
use Rattle.plan_model.specs.Contexts.{Scoped}
use Rattle.plan_model.specs.Expressions.{Argument}
use Rattle.plan_model.specs.Frames.{Variable}
use Rattle.plan_model.specs.Holdings.{Taken, takes_outs, takes_result, takes_answer}
use Rattle.plan_model.specs.Statements.{Call}
use Rattle.plan_typing.specs.Scenes.{VariablesFit}
use Rattle.plan_typing.specs.Statements.{ArgumentsFit, ResultFits, with_result}
use Rattle.plan_typing.specs.Types.{Types}
use Rattle.plan_typing.proofs.FramePuts.{added_fits, are_types}
use Rattle.plan_typing.proofs.FrameTakes.{outs_fit}
use Rattle.plan_typing.proofs.ValueKinds.{fits_wider}

-- one type more, of the registry
pub more_types : (reg : List Entity) (ts : List Scoped) (t : Scoped) → are_types reg ts ≡ true → is_type reg t.kind ≡ true → are_types reg (ts ++ t ∷ []) ≡ true
more_types reg [] t all is = rw is refl
more_types reg (u ∷ ts) t all is =
    let parts = and_parts (is_type reg u.kind) (are_types reg ts) all in
    and_from (is_type reg u.kind) (are_types reg (ts ++ t ∷ [])) parts.0 (more_types reg ts t parts.1 is)

pub result_types : (reg : List Entity) (tys : Types) (k : Kind) (to : Option Field) → are_types reg tys.variables ≡ true → ResultFits reg k to
    → are_types reg (with_result to tys).variables ≡ true
result_types reg tys k None types fits = types
result_types reg tys k (Some f) types fits = more_types reg tys.variables (record { name = f.name; kind = f.kind; comes_out = false }) types fits.0

module _ (reg : List Entity) (sound : IsSound reg) where
  -- the result, where it is named
  result_fits : (tys : Types) (k : Kind) (to : Option Field) (x : Plain) (xs : List Variable) → ResultFits reg k to → Fits reg x k → VariablesFit reg xs tys.variables
      → VariablesFit reg (takes_result to x xs).variables (with_result to tys).variables
  result_fits tys k None x xs fits value fit = fit
  result_fits tys k (Some f) x xs fits value fit = added_fits reg f.name x xs tys.variables f.kind fit (fits_wider reg sound x f.kind k fits.0 fits.1 value)

  -- the other values behind it
  behind_result : (tys : Types) (to : Option Field) (ps : List Param) (args : List Argument) (outs : List Plain) (t : Taken) → are_types reg (with_result to tys).variables ≡ true
      → ArgumentsFit reg tys ps args → FitEach reg (plains outs) (kinds_on comes ps) → VariablesFit reg t.variables (with_result to tys).variables
      → VariablesFit reg (takes_outs args outs t).variables (with_result to tys).variables
  behind_result tys None ps args outs t types typed values fit =
      let none = append-nil tys.variables in
      subst (λ ts. VariablesFit reg (takes_outs args outs t).variables ts) none
      (outs_fit reg sound tys [] ps args outs t (subst (λ ts. are_types reg ts ≡ true) (sym none) types) typed values
      (subst (λ ts. VariablesFit reg t.variables ts) (sym none) fit))
  behind_result tys (Some f) ps args outs t types typed values fit =
      outs_fit reg sound tys (record { name = f.name; kind = f.kind; comes_out = false } ∷ []) ps args outs t types typed values fit

  pub answer_taken : (tys : Types) (c : Call) (ps : List Param) (k : Kind) (x : Plain) (outs : List Plain) (xs : List Variable) → are_types reg tys.variables ≡ true
      → ArgumentsFit reg tys ps c.arguments → ResultFits reg k c.to → Fits reg x k → FitEach reg (plains outs) (kinds_on comes ps) → VariablesFit reg xs tys.variables
      → VariablesFit reg (takes_answer c x outs xs).variables (with_result c.to tys).variables
  unfolding takes_answer
  answer_taken tys c ps k x outs xs types typed result value values fit =
      behind_result tys c.to ps c.arguments outs (takes_result c.to x xs) (result_types reg tys k c.to types result) typed values (result_fits tys k c.to x xs result value fit)
