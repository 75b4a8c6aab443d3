-- What a typed statement asks fits, where what words stand for fits their types.
use Rattle.std.proofs.Common.{◌≡◌, refl, sym, ◌∙◌, ℕ, Bool, true, false, List, [], ◌∷◌, Option, None, Some, if◌then◌else◌}
use Rattle.std.specs.Str.{bytes_eq}
use mathlib.Core.Path.{subst}
use Rattle.message_model.specs.Messages.{returned, raised}
use Rattle.message_model.proofs.FunctionKindLaws.{numbered_typed}
use Rattle.uno_model.specs.BuiltIn.{HasBuiltIn}
use Rattle.uno_model.specs.Entities.{Entity, Field}
use Rattle.uno_model.specs.Fits.{Fits}
use Rattle.uno_model.specs.Kinds.{Kind}
use Rattle.uno_model.specs.Kinds as kd
use Rattle.uno_model.specs.Sound.{IsSound}
use Rattle.uno_model.specs.Types.{is_type}
use Rattle.uno_model.specs.Values.{Plain}
use Rattle.uno_model.specs.Values as v
use Rattle.uno_model.proofs.Options.{same_some}
use Rattle.plan_model.specs.Asking.{skips, Running, returns_value, out_values}
use Rattle.plan_model.specs.Effects.{return_effect, let_effect, set_effect, set_field_effect, when_effect, raise_effect, statement_effect, place_effect}
use Rattle.plan_model.specs.Evaluation.{value_of_word, compares}
use Rattle.plan_model.specs.Expressions.{Expression}
use Rattle.plan_model.specs.Frames.{Variable}
use Rattle.plan_model.specs.Holdings.{put, variables_after, fields_after}
use Rattle.plan_model.specs.Plans.{Plan}
use Rattle.plan_model.specs.Statements.{Test, Statement, let_variable, set_variable, set_field, call, query, make, drop_variable, when, return, raise, dispose}
use Rattle.plan_typing.specs.Effects.{NamesDiffer, RunFits, EffectFits}
use Rattle.plan_typing.specs.Scenes.{FieldsFit}
use Rattle.plan_typing.specs.Statements.{BackFits, IsSet, IsTyped, types_behind}
use Rattle.plan_typing.specs.Types.{Types, HasType, variable_type, field_type}
use Rattle.plan_typing.proofs.EffectCalls.{call_effect_fits, query_effect_fits}
use Rattle.plan_typing.proofs.EffectOuts.{out_values_fit}
use Rattle.plan_typing.proofs.EffectTypes.{found_field_type, exception_type}
use Rattle.plan_typing.proofs.EffectValues.{valued, Fitting, ends_fit, fails_fit}
use Rattle.plan_typing.proofs.FramePuts.{put_fits, added_fits, without_fits, found_type}
use Rattle.plan_typing.proofs.ValueFits.{value_fits}
use Rattle.plan_typing.proofs.ValueWords.{found_field, found_field_is}

-- a field that gets a value of its type
put_field_fits : (reg : List Entity) (name : List ℕ) (y : Plain) (xs : List Variable) (fs : List Field) (k : Kind) → FieldsFit reg xs fs → found_field name fs ≡ Some k → Fits reg y k
    → FieldsFit reg (put name y xs) fs
unfolding FieldsFit put
put_field_fits reg name y [] [] k fit is fits = tt
put_field_fits reg name y [] (f ∷ fs) k fit is fits = absurd fit
put_field_fits reg name y (x ∷ xs) [] k fit is fits = absurd fit
put_field_fits reg name y (x ∷ xs) (f ∷ fs) k fit is fits = by_test (λ to. put_field_fits reg name y xs fs k fit.2 to fits) (bytes_eq name f.name) refl is
  where
    by_test : (found_field name fs ≡ Some k → FieldsFit reg (put name y xs) fs) → (b : Bool) → bytes_eq name f.name ≡ b → found_field name (f ∷ fs) ≡ Some k
        → FieldsFit reg (put name y (x ∷ xs)) (f ∷ fs)
    by_test later true same to =
        let kind : Some f.kind ≡ Some k = sym (found_field_is name f fs true same) ∙ to in
        let here : bytes_eq name x.name ≡ true = rw fit.0 same in
        rw here (fit.0, subst (λ j. Fits reg y j) (sym (same_some kind)) fits, fit.2)
    by_test later false other to =
        let here : bytes_eq name x.name ≡ false = rw fit.0 other in
        rw here (fit.0, fit.1, later (sym (found_field_is name f fs false other) ∙ to))

module _ (reg : List Entity) (sound : IsSound reg) (built : HasBuiltIn reg) (plan : Plan) (r : Running) (ts : Types) (fit : RunFits reg r ts) where
  -- ---- the end of the frame

  result_type : is_type reg r.function.result_kind ≡ true
  result_type = (numbered_typed reg sound r.face r.number r.function fit.found).0

  returns_fit : (us : Types) (x : Plain) → Fits reg x r.function.result_kind → Fitting reg built plan r ts us (returns_value reg r x)
  returns_fit us x fits =
      let outs = out_values_fit reg r.function.params r.scene.variables ts.variables fit.scene.variables fit.stand.outs in
      ends_fit reg built plan r ts us (returned x (out_values r.function.params r.scene.variables)) (fits, outs)

  void_fits : r.function.result_kind ≡ kd.void → Fits reg v.void r.function.result_kind
  unfolding Fits
  void_fits is = is

  pub return_fits : (us : Types) (back : Option Expression) → BackFits reg ts r.function.result_kind back → Fitting reg built plan r ts us (return_effect reg r back)
  unfolding return_effect
  return_fits us None typed = returns_fit us v.void (void_fits typed)
  return_fits us (Some a) typed =
      valued reg r (Fitting reg built plan r ts us) (fails_fit reg built plan r ts us) r.scene a (returns_value reg r)
      (λ x is. returns_fit us x (value_fits reg sound r.scene ts fit.scene a r.function.result_kind x result_type typed is.is))

  raised_fits : (name : List ℕ) (x : Plain) → is_type reg (kd.exception name) ≡ true → Fits reg x (kd.exception name) → Fits reg (v.any (kd.exception name) x) kd.any
  unfolding Fits
  raised_fits name x there fits = (refl, (λ e. absurd (cc)), there, fits)

  raise_fits : (us : Types) (name : List ℕ) (a : Expression) → HasType reg ts a (kd.exception name) → Fitting reg built plan r ts us (raise_effect reg r name a)
  unfolding raise_effect
  raise_fits us name a typed =
      let there = exception_type reg ts fit.stand.variables fit.stand.fields a name typed in
      valued reg r (Fitting reg built plan r ts us) (fails_fit reg built plan r ts us) r.scene a _
      (λ x is. ends_fit reg built plan r ts us (raised (kd.exception name) x)
      (raised_fits name x there (value_fits reg sound r.scene ts fit.scene a (kd.exception name) x there typed is.is)))

  -- ---- variables and fields

  let_fits : (x : Field) (a : Expression) → IsTyped reg plan r.function ts (let_variable x a)
      → Fitting reg built plan r ts (types_behind (let_variable x a) ts) (let_effect reg r x.name a)
  unfolding let_effect IsTyped types_behind EffectFits variables_after
  let_fits x a typed =
      valued reg r (Fitting reg built plan r ts (types_behind (let_variable x a) ts)) (fails_fit reg built plan r ts (types_behind (let_variable x a) ts)) r.scene a _
      (λ y is. added_fits reg x.name y r.scene.variables ts.variables x.kind fit.scene.variables (value_fits reg sound r.scene ts fit.scene a x.kind y typed.0 typed.1 is.is))

  set_fits : (name : List ℕ) (a : Expression) → IsSet reg ts (variable_type ts name) a → Fitting reg built plan r ts ts (set_effect reg r name a)
  unfolding set_effect EffectFits variables_after variable_type
  set_fits name a typed =
      let there = found_type reg name ts.variables typed.kind fit.stand.variables typed.typed in
      valued reg r (Fitting reg built plan r ts ts) (fails_fit reg built plan r ts ts) r.scene a _
      (λ y is. put_fits reg name y r.scene.variables ts.variables typed.kind fit.scene.variables typed.typed
      (value_fits reg sound r.scene ts fit.scene a typed.kind y there typed.value is.is))

  set_field_fits : (name : List ℕ) (a : Expression) → IsSet reg ts (field_type ts name) a → Fitting reg built plan r ts ts (set_field_effect reg r name a)
  unfolding set_field_effect EffectFits fields_after field_type
  set_field_fits name a typed =
      let there = found_field_type reg name ts.fields typed.kind fit.stand.fields typed.typed in
      valued reg r (Fitting reg built plan r ts ts) (fails_fit reg built plan r ts ts) r.scene a _
      (λ y is. (
        fit.scene.variables,
        put_field_fits reg name y r.scene.fields ts.fields typed.kind fit.scene.fields typed.typed
            (value_fits reg sound r.scene ts fit.scene a typed.kind y there typed.value is.is),
      ))

  drop_fits : (name : List ℕ) → EffectFits reg plan r.function r.tid ts (types_behind (drop_variable name) ts) r.scene (statement_effect reg r (drop_variable name))
  unfolding statement_effect types_behind EffectFits variables_after
  drop_fits name = without_fits reg name r.scene.variables ts.variables fit.scene.variables

  -- ---- tests

  skips_fit : Fitting reg built plan r ts ts skips
  unfolding EffectFits
  skips_fit = fit.scene.variables

  when_fits : (t : Test) (back : Option Expression) → BackFits reg ts r.function.result_kind back → Fitting reg built plan r ts ts (when_effect reg r t back)
  unfolding when_effect
  when_fits t back typed =
      valued reg r (Fitting reg built plan r ts ts) (fails_fit reg built plan r ts ts) r.scene t.right _ (λ x is. by_test (compares t.comparison (value_of_word r.scene t.left) x))
    where
      by_test : (b : Bool) → Fitting reg built plan r ts ts (if b then return_effect reg r back else skips)
      by_test true = return_fits ts back typed
      by_test false = skips_fit

  -- ---- each statement

  pub statement_fits : NamesDiffer reg → (s : Statement) → IsTyped reg plan r.function ts s
      → EffectFits reg plan r.function r.tid ts (types_behind s ts) r.scene (statement_effect reg r s)
  unfolding statement_effect IsTyped types_behind EffectFits
  statement_fits differ (let_variable x a) typed = let_fits x a typed
  statement_fits differ (set_variable name a) typed = set_fits name a typed
  statement_fits differ (set_field name a) typed = set_field_fits name a typed
  statement_fits differ (call c) typed = call_effect_fits reg sound built differ plan r ts (types_behind (call c) ts) fit c typed
  statement_fits differ (query q) typed = query_effect_fits reg sound built differ plan r ts (types_behind (query q) ts) fit q typed
  statement_fits differ (make m) typed = record { made = typed.behaviour; found = typed.found; supported = typed.supported; interface = typed.face }
  statement_fits differ (drop_variable name) typed = drop_fits name
  statement_fits differ (when t back) typed = when_fits t back typed.1
  statement_fits differ (return back) typed = return_fits ts back typed
  statement_fits differ (raise name a) typed = raise_fits ts name a typed
  statement_fits differ dispose typed = tt

  -- behind the last statement of a method that may go past it
  pub end_fits : (us : Types) → r.function.result_kind ≡ kd.void → EffectFits reg plan r.function r.tid ts us r.scene (place_effect reg r None)
  end_fits us is = return_fits us None is
