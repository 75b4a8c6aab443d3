-- Behind what a frame does to its own variables and fields it fits still, and what a call asks is a call of the very function that it names.
use Rattle.std.proofs.Common.{◌≡◌, refl, sym, ℕ, List, Option, None, Some, option_map}
use mathlib.Core.Path.{subst}
use Rattle.message_model.specs.Calls.{numbered}
use Rattle.message_model.specs.Messages.{Answer, returned, raised}
use Rattle.uno_model.specs.BuiltIn.{HasBuiltIn}
use Rattle.uno_model.specs.Entities.{Entity, Field}
use Rattle.uno_model.specs.Fits.{Fits, InterfaceFits, HeldFits}
use Rattle.uno_model.specs.Kinds as kd
use Rattle.uno_model.specs.Sound.{IsSound}
use Rattle.uno_model.specs.Values.{Ref, null, own, peer, Plain}
use Rattle.uno_model.specs.Values as v
use Rattle.plan_model.specs.Asking.{Effect, lets, sets, sets_field, drops, skips, calls, Running, ending, fails}
use Rattle.plan_model.specs.Calling.{given_values, number_in, object_of, calls_object, calls_target, call_effect}
use Rattle.plan_model.specs.Evaluation.{value_of_word}
use Rattle.plan_model.specs.Holdings.{variables_after, fields_after}
use Rattle.plan_model.specs.Leaving.{leaving, caused}
use Rattle.plan_model.specs.Plans.{Plan}
use Rattle.plan_model.specs.Statements.{Call, Statement, let_variable, set_variable, set_field, call, query, make, drop_variable, when, return, raise, dispose}
use Rattle.plan_model.specs.declared.runtime_cause.RuntimeCause.{RuntimeCause}
use Rattle.plan_model.specs.declared.runtime_cause.RuntimeCause.TheVariants.{Null, Range}
use Rattle.plan_typing.specs.Effects.{NamesDiffer, TypesStand, RunFits, EffectFits}
use Rattle.plan_typing.specs.Going.{IsOwn, runs_after, IsFunctionOf, CallsFunction}
use Rattle.plan_typing.specs.Scenes.{VariablesFit, FieldsFit}
use Rattle.plan_typing.specs.Statements.{IsTyped, IsTypedCall, types_behind, with_result}
use Rattle.plan_typing.specs.Types.{Types}
use Rattle.plan_typing.proofs.CalleeNumbers.{number_fits}
use Rattle.plan_typing.proofs.EffectTypes.{types_stand_behind}
use Rattle.plan_typing.proofs.EffectValues.{sent_within}
use Rattle.plan_typing.proofs.ValueKinds.{interface_value}
use Rattle.plan_typing.proofs.ValueWords.{word_fits}

-- ---- a frame's own variables and fields

-- no statement changes the types of fields, or the interface of the own object
record Stays (ts us : Types) : Type 0 where
  fields : us.fields ≡ ts.fields
  own : us.own ≡ ts.own

result_stays : (ts : Types) (to : Option Field) → Stays ts (with_result to ts)
result_stays ts None = record { fields = refl; own = refl }
result_stays ts (Some x) = record { fields = refl; own = refl }

types_stay : (ts : Types) (s : Statement) → Stays ts (types_behind s ts)
unfolding types_behind
types_stay ts (let_variable x a) = record { fields = refl; own = refl }
types_stay ts (call c) = result_stays ts c.to
types_stay ts (query q) = record { fields = refl; own = refl }
types_stay ts (make m) = record { fields = refl; own = refl }
types_stay ts (drop_variable name) = record { fields = refl; own = refl }
types_stay ts (set_variable name a) = record { fields = refl; own = refl }
types_stay ts (set_field name a) = record { fields = refl; own = refl }
types_stay ts (when t back) = record { fields = refl; own = refl }
types_stay ts (return back) = record { fields = refl; own = refl }
types_stay ts (raise name a) = record { fields = refl; own = refl }
types_stay ts dispose = record { fields = refl; own = refl }

module _ (reg : List Entity) (plan : Plan) (r : Running) (ts us : Types) (fit : RunFits reg r ts) where
  own_variables : (e : Effect) → IsOwn e → EffectFits reg plan r.function r.tid ts us r.scene e → VariablesFit reg (variables_after e r.scene.variables) us.variables
  unfolding EffectFits variables_after
  own_variables (lets x) its fits = fits
  own_variables (sets x) its fits = fits
  own_variables (sets_field x) its fits = fits.0
  own_variables (drops name) its fits = fits
  own_variables skips its fits = fits
  own_variables e its fits = absurd its

  own_fields : (e : Effect) → IsOwn e → EffectFits reg plan r.function r.tid ts us r.scene e → FieldsFit reg (fields_after e r.scene.fields) ts.fields
  unfolding EffectFits fields_after
  own_fields (sets_field x) its fits = fits.1
  own_fields (lets x) its fits = fit.scene.fields
  own_fields (sets x) its fits = fit.scene.fields
  own_fields (drops name) its fits = fit.scene.fields
  own_fields skips its fits = fit.scene.fields
  own_fields e its fits = absurd its

  after_fits : (e : Effect) → IsOwn e → Stays ts us → TypesStand reg r.function us → EffectFits reg plan r.function r.tid ts us r.scene e → RunFits reg (runs_after e r) us
  after_fits e its stays stand fits =
      record {
        found = fit.found;
        stand = stand;
        scene =
            record {
              variables = own_variables e its fits;
              fields = subst (λ fs. FieldsFit reg (fields_after e r.scene.fields) fs) (sym stays.fields) (own_fields e its fits);
              own = subst (λ face. Fits reg (v.ref r.scene.own) (kd.interface face)) (sym stays.own) fit.scene.own;
            };
      }

-- the frame fits the types behind the statement
pub run_goes_on : (reg : List Entity) (plan : Plan) (r : Running) (ts : Types) → RunFits reg r ts → (s : Statement) → IsTyped reg plan r.function ts s → (e : Effect) → IsOwn e
    → EffectFits reg plan r.function r.tid ts (types_behind s ts) r.scene e → RunFits reg (runs_after e r) (types_behind s ts)
run_goes_on reg plan r ts fit s typed e its fits =
    after_fits reg plan r ts (types_behind s ts) fit e its (types_stay ts s) (types_stand_behind reg r.function plan ts s typed fit.stand) fits

-- ---- calls

module _ (reg : List Entity) (sound : IsSound reg) (built : HasBuiltIn reg) (differ : NamesDiffer reg) (r : Running) (ts : Types) (fit : RunFits reg r ts) (c : Call)
    (typed : IsTypedCall reg ts c) where
  abbrev Asks : Effect → Type 0
  Asks e = CallsFunction reg typed.function e

  ends_rightly : (a : Answer) → Asks (ending a)
  ends_rightly (returned x outs) = tt
  ends_rightly (raised k x) = tt

  fails_rightly : (cause : RuntimeCause) → Asks (fails reg r cause)
  fails_rightly cause = ends_rightly (leaving reg r.tid r.face r.number r.function (caused cause))

  object_called : (target : Ref) (oid face : List ℕ) → IsFunctionOf reg typed.function target (number_in reg face c.callee) → (o : Option (List Plain))
      → Asks (calls_object reg r c target oid face o)
  object_called target oid face is None = fails_rightly Range
  object_called target oid face is (Some args) =
      sent_within reg r Asks fails_rightly oid face (number_in reg face c.callee) args (calls target (number_in reg face c.callee) args (option_map (λ f. f.name) c.to)) (λ light flat. is)

  number_is : (face oid : List ℕ) → HeldFits reg oid face typed.face → numbered reg face (number_in reg face c.callee) ≡ Some typed.function
  number_is face oid held = (number_fits reg sound built differ face typed.face c.callee typed.function held.reached typed.found typed.owner typed.name).found

  target_called : (target : Ref) → InterfaceFits reg typed.face target → Asks (calls_target reg r c target)
  target_called null held = fails_rightly Null
  target_called (own oid face) held = object_called (own oid face) oid face (number_is face oid held) (given_values r.scene c.arguments)
  target_called (peer oid face) held = object_called (peer oid face) oid face (number_is face oid held) (given_values r.scene c.arguments)

  pub call_of_function : CallsFunction reg typed.function (call_effect reg r c)
  unfolding call_effect
  call_of_function =
      let x = value_of_word r.scene c.target in
      let value = interface_value reg typed.face x (word_fits reg r.scene ts c.target (kd.interface typed.face) fit.scene typed.target) in
      subst (λ y. Asks (calls_target reg r c (object_of y))) (sym value.is) (target_called value.ref value.fits)
