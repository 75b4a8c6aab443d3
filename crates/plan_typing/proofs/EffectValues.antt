-- How a frame goes on: with a value that fits and is within the limits, or with an end that is an answer.
use Rattle.std.proofs.Common.{◌≡◌, refl, sym, ap, ◌∙◌, ℕ, ◌≤◌, nat_lt, Bool, true, false, List, [], ◌∷◌, map, Option, None, Some, Result, Ok, Err, if◌then◌else◌}
use Rattle.std.specs.List.{list_all}
use Rattle.std.proofs.lemmas.Bool.{ltb-false, and_parts}
use mathlib.Core.Path.{subst}
use Rattle.message_model.specs.Calls.{comes, numbered, out_kinds}
use Rattle.message_model.specs.Messages.{Answer, returned, raised, request}
use Rattle.message_model.specs.Sayable.{AnswerFits, message_weight}
use Rattle.message_model.proofs.FunctionKindLaws.{numbered_typed, on_way_typed}
use Rattle.uno_model.specs.BuiltIn.{HasBuiltIn}
use Rattle.uno_model.specs.Defaults.{default_of_kind}
use Rattle.uno_model.specs.Entities.{Entity}
use Rattle.uno_model.specs.Fits.{FitEach}
use Rattle.uno_model.specs.Kinds.{Kind}
use Rattle.uno_model.specs.Sound.{IsSound, is_storable}
use Rattle.uno_model.specs.Types.{is_type}
use Rattle.uno_model.specs.Values.{Plain, plains, depth, depth_in}
use Rattle.uno_model.specs.Weights.{weight}
use Rattle.uno_model.proofs.DefaultLaws.{default_fits}
use Rattle.uno_model.proofs.UsedKindLaws.{is_member}
use Rattle.plan_model.specs.Asking.{Effect, Running, ending, ends_with, fails, on_value}
use Rattle.plan_model.specs.Calling.{is_full, sent}
use Rattle.plan_model.specs.Effects.{default_effect}
use Rattle.plan_model.specs.Evaluation.{Scene, is_heavy, is_deep, bounded, value_of, evaluated}
use Rattle.plan_model.specs.Expressions.{Expression}
use Rattle.plan_model.specs.Leaving.{message_of, caused, leaving}
use Rattle.plan_model.specs.Plans.{Plan}
use Rattle.plan_model.specs.declared.runtime_cause.RuntimeCause.{RuntimeCause}
use Rattle.plan_model.specs.declared.runtime_cause.RuntimeCause.TheVariants.{Range, Depth, TooLarge, TooDeep}
use Rattle.plan_typing.specs.Answers.{WorkedOut}
use Rattle.plan_typing.specs.Effects.{EffectFits}
use Rattle.plan_typing.specs.Types.{Types}
use Rattle.plan_typing.proofs.EffectLeaving.{leaving_answers}
use Rattle.plan_typing.proofs.EffectRuntime.{runtime_fits}

-- ---- values within the limits

-- a whole expression has this value, which is neither too heavy nor too deep
pub record Evaluates (s : Scene) (a : Expression) (x : Plain) : Type 0 where
  pub is : value_of s a ≡ Some x
  pub light : weight x ≤ 16777216
  pub flat : depth x ≤ 64

module _ (s : Scene) (a : Expression) (x : Plain) where
  bounded_value : (y : Plain) → value_of s a ≡ Some y → (heavy deep : Bool) → is_heavy (weight y) ≡ heavy → is_deep (depth y) ≡ deep → bounded y ≡ Ok x → Evaluates s a x
  unfolding is_heavy is_deep
  bounded_value y is true deep heavy nested to = let bad : Err TooLarge ≡ Ok x = rw heavy at to in absurd (cc)
  bounded_value y is false true heavy nested to = let bad : Err TooDeep ≡ Ok x = rw (heavy, nested) at to in absurd (cc)
  bounded_value y is false false heavy nested to =
      let same : Ok y ≡ Ok x = rw (heavy, nested) at to in
      let one : y ≡ x = cc in
      record {
        is = is ∙ ap Some one;
        light = subst (λ z. weight z ≤ 16777216) one (ltb-false 16777216 (weight y) heavy);
        flat = subst (λ z. depth z ≤ 64) one (ltb-false 64 (depth y) nested);
      }

  none_evaluates : value_of s a ≡ None → evaluated s a ≡ Err Range
  unfolding evaluated
  none_evaluates is = rw is refl

  some_evaluates : (y : Plain) → value_of s a ≡ Some y → evaluated s a ≡ bounded y
  unfolding evaluated
  some_evaluates y is = rw is refl

  pub evaluates : evaluated s a ≡ Ok x → Evaluates s a x
  evaluates to = by_value (value_of s a) refl
    where
      by_value : (o : Option Plain) → value_of s a ≡ o → Evaluates s a x
      by_value None is = let bad : Err Range ≡ Ok x = sym (none_evaluates is) ∙ to in absurd (cc)
      by_value (Some y) is = bounded_value y is (is_heavy (weight y)) (is_deep (depth y)) refl refl (sym (some_evaluates y is) ∙ to)

-- what holds of each end, and of what is done with a value, holds of both
module _ (reg : List Entity) (r : Running) (P : Effect → Type 0) (failed : (cause : RuntimeCause) → P (fails reg r cause)) where
  pub valued : (s : Scene) (a : Expression) (go : Plain → Effect) → ((x : Plain) → Evaluates s a x → P (go x)) → P (on_value reg r (evaluated s a) go)
  valued s a go on = by_result (evaluated s a) refl
    where
      by_result : (o : Result Plain RuntimeCause) → evaluated s a ≡ o → P (on_value reg r o go)
      by_result (Ok x) is = on x (evaluates s a x is)
      by_result (Err cause) is = failed cause

  -- a call or a query is within the limits of requests, or is not made
  pub sent_within : (oid face : List ℕ) (number : ℕ) (args : List Plain) (e : Effect)
      → (message_weight (request r.tid oid face number args) ≤ 16777216 → depth_in (plains args) ≤ 64 → P e) → P (sent reg r oid face number args e)
  unfolding is_heavy is_deep
  sent_within oid face number args e on =
      by_tests (is_full r.depth) (nat_lt 16777216 (message_weight (request r.tid oid face number args))) (nat_lt 64 (depth_in (plains args))) refl refl
    where
      by_tests : (full heavy deep : Bool) → nat_lt 16777216 (message_weight (request r.tid oid face number args)) ≡ heavy → nat_lt 64 (depth_in (plains args)) ≡ deep
          → P (if full then fails reg r Depth else (if heavy then fails reg r TooLarge else (if deep then fails reg r TooDeep else e)))
      by_tests true heavy deep h d = failed Depth
      by_tests false true deep h d = failed TooLarge
      by_tests false false true h d = failed TooDeep
      by_tests false false false h d = on (ltb-false 16777216 (message_weight (request r.tid oid face number args)) h) (ltb-false 64 (depth_in (plains args)) d)

-- ---- the end of a frame

module _ (reg : List Entity) (built : HasBuiltIn reg) (plan : Plan) (r : Running) (ts us : Types) where
  abbrev pub Fitting : Effect → Type 0
  Fitting e = EffectFits reg plan r.function r.tid ts us r.scene e

  ending_fits : (a : Answer) → AnswerFits reg r.function a → Fitting (ending a)
  unfolding EffectFits
  ending_fits (returned x outs) fits = fits
  ending_fits (raised k x) fits = fits

  pub ends_fit : (a : Answer) → WorkedOut reg r.function a → Fitting (ends_with reg r a)
  ends_fit a works = ending_fits (leaving reg r.tid r.face r.number r.function a) (leaving_answers reg built r.function r.tid r.face r.number a works)

  pub fails_fit : (cause : RuntimeCause) → Fitting (fails reg r cause)
  fails_fit cause = ends_fit (caused cause) (runtime_fits reg built (message_of cause))

-- ---- defaults

defaults_fit : (reg : List Entity) → IsSound reg → (ks : List Kind) → list_all (is_member reg) ks ≡ true → FitEach reg (plains (map (default_of_kind reg) ks)) ks
unfolding FitEach
defaults_fit reg sound [] all = tt
defaults_fit reg sound (k ∷ ks) all =
    let parts = and_parts (is_member reg k) (list_all (is_member reg) ks) all in
    let type = (and_parts (is_storable k) (is_type reg k) parts.0).1 in
    (default_fits reg sound k type, defaults_fit reg sound ks parts.1)

pub default_effect_fits : (reg : List Entity) → IsSound reg → HasBuiltIn reg → (plan : Plan) (r : Running) (ts us : Types) → numbered reg r.face r.number ≡ Some r.function
    → EffectFits reg plan r.function r.tid ts us r.scene (default_effect reg r)
unfolding default_effect
default_effect_fits reg sound built plan r ts us found =
    let types = numbered_typed reg sound r.face r.number r.function found in
    let result = default_fits reg sound r.function.result_kind types.0 in
    let outs = defaults_fit reg sound (out_kinds r.function) (on_way_typed reg comes r.function.params types.1) in
    ends_fit reg built plan r ts us (returned (default_of_kind reg r.function.result_kind) (map (default_of_kind reg) (out_kinds r.function))) (result, outs)
