-- A frame from its beginning on: what it asks at its place fits, and behind each statement that does not end it the rest is typed.
use Rattle.std.proofs.Common.{◌≡◌, refl, sym, ◌∙◌, ℕ, suc, ◌==◌, Bool, true, false, List, drop, Option, None, Some, slice_get, inl, inr, arith, if◌then◌else◌}
use Rattle.std.specs.Prelude.{Contains}
use Rattle.std.specs.List.{AllByRecursion}
use mathlib.Core.Path.{subst}
use Rattle.message_model.specs.Calls.{numbered, argument_kinds}
use Rattle.message_model.proofs.FunctionKindLaws.{numbered_typed}
use Rattle.message_model.specs.Messages.{Answer, returned, raised}
use Rattle.uno_model.specs.BuiltIn.{HasBuiltIn, factory_name}
use Rattle.uno_model.specs.Entities.{Entity, Body, Field, Param, interface}
use Rattle.uno_model.specs.Fits.{Fits, FitEach, IsIdentity, IsInterface}
use Rattle.uno_model.specs.Functions.{Function, declared_in, declared_by}
use Rattle.uno_model.specs.Kinds as kd
use Rattle.uno_model.specs.Registry.{find_entity, IsBaseOf}
use Rattle.uno_model.specs.Sound.{IsSound, is_interface, is_storable}
use Rattle.uno_model.specs.Types.{is_type}
use Rattle.uno_model.specs.Values.{own, Plain, plains}
use Rattle.uno_model.specs.Values as v
use Rattle.uno_model.proofs.AllLaws.{each_of_both}
use Rattle.uno_model.proofs.Options.{same_some, none_some}
use Rattle.plan_model.specs.Asking.{Running, ending}
use Rattle.plan_model.specs.Contexts.{parameters}
use Rattle.plan_model.specs.Effects.{statement_effect, return_effect, raise_effect, method_effect, body_effect, manager_effect, method_for, methods_of}
use Rattle.plan_model.specs.Holdings.{first_variables}
use Rattle.plan_model.specs.Plans.{Plan, Behaviour, Method, manager}
use Rattle.plan_model.specs.Services.{fields_of_behaviour}
use Rattle.plan_model.specs.Statements.{Statement, return, raise}
use Rattle.plan_typing.specs.Effects.{NamesDiffer, RunFits, EffectFits}
use Rattle.plan_typing.specs.Going.{method_of, at_place, statement_at, types_at, beginning_types, RestTyped, IsEnd}
use Rattle.plan_typing.specs.Scenes.{VariablesFit, FieldsFit}
use Rattle.plan_typing.specs.Statements.{IsTyped, Ends, AreTyped, types_behind, IsTypedField, IsTypedBehaviour, IsTypedPlan}
use Rattle.plan_typing.specs.Types.{Types}
use Rattle.plan_typing.proofs.CalleeOwners.{declared_at}
use Rattle.plan_typing.proofs.EffectManager.{manager_fits}
use Rattle.plan_typing.proofs.EffectPlaces.{place_fits, rest_typed, all_at_place, numbered_declared, method_typed, types_stand_first}
use Rattle.plan_typing.proofs.EffectValues.{valued, default_effect_fits}
use Rattle.plan_typing.proofs.FrameFirst.{first_variables_fit}
use Rattle.plan_typing.proofs.TermFunctions.{interface_type}

-- ---- what a frame asks

module _ (reg : List Entity) (sound : IsSound reg) (built : HasBuiltIn reg) (differ : NamesDiffer reg) (plan : Plan) (r : Running) (ts : Types) (fit : RunFits reg r ts) where
  pub body_fits : (behaviour place : ℕ) → RestTyped reg plan behaviour place r.face r.function ts
      → EffectFits reg plan r.function r.tid ts (types_at (statement_at plan behaviour place r.function) ts) r.scene (body_effect reg plan behaviour place r)
  unfolding body_effect
  body_fits behaviour place rest = by_manager (behaviour == manager) refl (λ m is. rest.typed m is)
    where
      by_method : (o : Option Method) → ((m : Method) → o ≡ Some m → AreTyped reg plan r.function ts (drop place m.body))
          → EffectFits reg plan r.function r.tid ts (types_at (at_place place o) ts) r.scene (method_effect reg r place o)
      by_method None typed = default_effect_fits reg sound built plan r ts ts fit.found
      by_method (Some m) typed = place_fits reg sound built differ plan r ts fit m.body place (typed m refl)

      by_manager : (b : Bool) → (behaviour == manager) ≡ b
          → ((m : Method) → (if b then None else method_for r.function (methods_of (slice_get plan.behaviours behaviour))) ≡ Some m → AreTyped reg plan r.function ts (drop place m.body))
          → EffectFits reg plan r.function r.tid ts
          (types_at (at_place place (if b then None else method_for r.function (methods_of (slice_get plan.behaviours behaviour)))) ts)
          r.scene
          (if b then manager_effect reg plan r else method_effect reg r place (method_for r.function (methods_of (slice_get plan.behaviours behaviour))))
      by_manager true is typed = manager_fits reg sound built plan r ts ts fit.found (rest.manages is)
      by_manager false is typed = by_method (method_for r.function (methods_of (slice_get plan.behaviours behaviour))) typed

-- ---- going on

-- the rest behind a statement that does not end the method
pub rest_goes_on : (reg : List Entity) (plan : Plan) (behaviour place : ℕ) (face : List ℕ) (f : Function) (ts : Types) (s : Statement) → RestTyped reg plan behaviour place face f ts
    → statement_at plan behaviour place f ≡ Some s → (Ends s → ⊥) → IsTyped reg plan f ts s × RestTyped reg plan behaviour (suc place) face f (types_behind s ts)
rest_goes_on reg plan behaviour place face f ts s rest at on = by_method (method_of plan behaviour f) refl at
  where
    -- of the one method
    of_method : (m : Method) → method_of plan behaviour f ≡ Some m → slice_get m.body place ≡ Some s → IsTyped reg plan f ts s × AreTyped reg plan f (types_behind s ts) (drop (suc place) m.body)
    of_method m is there = let both = rest_typed reg plan f ts m.body place s (rest.typed m is) there in (both.0, elim both.1 [ inl ends ↦ absurd (on ends) | inr typed ↦ typed ])

    by_method : (o : Option Method) → method_of plan behaviour f ≡ o → at_place place o ≡ Some s → IsTyped reg plan f ts s × RestTyped reg plan behaviour (suc place) face f (types_behind s ts)
    by_method None is there = absurd (none_some there)
    by_method (Some m) is there =
        let one = of_method m is there in (
          one.0,
          record {
            manages = rest.manages;
            typed = λ n also. subst (λ k. AreTyped reg plan f (types_behind s ts) (drop (suc place) k.body)) (same_some (sym is ∙ also)) one.1;
          },
        )

-- a statement that ends the method asks for the end of its frame
ending_ends : (a : Answer) → IsEnd (ending a)
ending_ends (returned x outs) = tt
ending_ends (raised k x) = tt

pub ends_frame : (reg : List Entity) (r : Running) (s : Statement) → Ends s → IsEnd (statement_effect reg r s)
unfolding statement_effect return_effect raise_effect
ends_frame reg r (return None) ends = ending_ends _
ends_frame reg r (return (Some a)) ends = valued reg r IsEnd (λ cause. ending_ends _) r.scene a _ (λ x is. ending_ends _)
ends_frame reg r (raise name a) ends = valued reg r IsEnd (λ cause. ending_ends _) r.scene a _ (λ x is. ending_ends _)
ends_frame reg r s ends = absurd ends

-- ---- beginning

declares_is : (owner : List ℕ) (body : Body) (f : Function) → Contains (declared_in owner body) f → is_interface body ≡ true
declares_is owner (interface bases members) f has = refl
declares_is owner _ f has = absurd (omega (arith, has.1))

module _ (reg : List Entity) (sound : IsSound reg) where
  pub owner_type : (f : Function) → Contains (declared_at reg f.owner) f → IsInterface reg f.owner
  owner_type f has = by_entity (find_entity f.owner reg) refl has
    where
      by_entity : (o : Option Entity) → find_entity f.owner reg ≡ o → Contains (declared_by f.owner o) f → IsInterface reg f.owner
      by_entity None found there = absurd (omega (arith, there.1))
      by_entity (Some e) found there = interface_type reg sound f.owner e found (declares_is f.owner e.body f there)

  pub behaviour_fields : (plan : Plan) (n : ℕ) → IsTypedPlan reg plan → AllByRecursion (IsTypedField reg) (fields_of_behaviour (slice_get plan.behaviours n))
  behaviour_fields plan n typed = by_behaviour (slice_get plan.behaviours n) refl
    where
      by_behaviour : (o : Option Behaviour) → slice_get plan.behaviours n ≡ o → AllByRecursion (IsTypedField reg) (fields_of_behaviour o)
      by_behaviour None at = tt
      by_behaviour (Some b) at = (all_at_place (IsTypedBehaviour reg plan) plan.behaviours n b typed at).fields

  module _ (differ : NamesDiffer reg) (plan : Plan) (typed : IsTypedPlan reg plan) where
    -- the scene of a method that begins fits, with the object's fields
    pub run_begins : (r : Running) (args : List Plain) (fields : List Field) (oid : List ℕ) → numbered reg r.face r.number ≡ Some r.function
        → AllByRecursion (IsTypedField reg) fields → FitEach reg (plains args) (argument_kinds r.function) → FieldsFit reg r.scene.fields fields → IsIdentity oid
        → r.scene.variables ≡ first_variables reg r.function.params args → r.scene.own ≡ own oid r.function.owner → RunFits reg r (beginning_types r.function fields)
    unfolding Fits
    run_begins r args fields oid found types given fit identity variables itself =
        let params = (numbered_typed reg sound r.face r.number r.function found).1 in
        let kinds = (each_of_both (λ (p : Param). is_storable p.kind) (λ p. is_type reg p.kind) r.function.params params).1 in
        let held = owner_type r.function (numbered_declared reg differ r.face r.number r.function found) in
        let object : Fits reg (v.ref (own oid r.function.owner)) (kd.interface r.function.owner) = record { identity = identity; held = held; reached = inl refl } in
        record {
          found = found;
          stand = types_stand_first reg differ sound r.face r.number r.function fields r.function.owner found types;
          scene =
              record {
                variables = subst (λ xs. VariablesFit reg xs (parameters r.function.params)) (sym variables)
                    (first_variables_fit reg sound r.function.params args kinds given);
                fields = fit;
                own = subst (λ z. Fits reg (v.ref z) (kd.interface r.function.owner)) (sym itself) object;
              };
        }

    -- and its statements are typed from the first on
    pub rest_begins : (n : ℕ) (face : List ℕ) (number : ℕ) (f : Function) → numbered reg face number ≡ Some f → ((n == manager) ≡ true → IsBaseOf reg face factory_name)
        → RestTyped reg plan n 0 face f (beginning_types f (fields_of_behaviour (slice_get plan.behaviours n)))
    rest_begins n face number f found manages = record { manages = manages; typed = λ m is. by_manager m (n == manager) is }
      where
        by_behaviour : (m : Method) (o : Option Behaviour) → slice_get plan.behaviours n ≡ o → method_for f (methods_of o) ≡ Some m
            → AreTyped reg plan f (beginning_types f (fields_of_behaviour o)) m.body
        by_behaviour m None at is = absurd (none_some is)
        by_behaviour m (Some b) at is =
            let method = method_typed reg differ plan n b m f typed at is (numbered_declared reg differ face number f found) in
            subst (λ owner. AreTyped reg plan f (record { variables = parameters f.params; fields = b.fields; own = owner }) m.body) method.0 method.1

        by_manager : (m : Method) (b : Bool) → (if b then None else method_for f (methods_of (slice_get plan.behaviours n))) ≡ Some m
            → AreTyped reg plan f (beginning_types f (fields_of_behaviour (slice_get plan.behaviours n))) m.body
        by_manager m true is = absurd (none_some is)
        by_manager m false is = by_behaviour m (slice_get plan.behaviours n) refl is
