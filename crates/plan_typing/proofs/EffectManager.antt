-- What the service manager asks fits.
use Rattle.std.proofs.Common.{◌≡◌, refl, ℕ, Bool, true, false, List, [], ◌∷◌, map, Some, inl, inr, if◌then◌else◌}
use Rattle.std.specs.Str.{bytes_eq}
use mathlib.Core.Path.{subst}
use Rattle.message_model.specs.Calls.{numbered, kinds_on}
use Rattle.message_model.specs.Messages.{returned}
use Rattle.uno_model.specs.BuiltIn.{HasBuiltIn, factory_name, create_instance, create_with_arguments, available_names}
use Rattle.uno_model.specs.Entities.{Entity}
use Rattle.uno_model.specs.Fits.{Fits, FitEach, FitAll}
use Rattle.uno_model.specs.Functions.{Function, root_functions}
use Rattle.uno_model.specs.Functions as fn
use Rattle.uno_model.specs.Kinds as kd
use Rattle.uno_model.specs.Registry.{IsBaseOf}
use Rattle.uno_model.specs.Sound.{IsSound}
use Rattle.uno_model.specs.Values.{Plain, plains}
use Rattle.uno_model.specs.Values as v
use Rattle.plan_model.specs.Asking.{creates, Running, returns_value, out_values}
use Rattle.plan_model.specs.Effects.{default_effect, text_of, elements_of, given, manager_effect}
use Rattle.plan_model.specs.Plans.{Plan}
use Rattle.plan_model.specs.Services.{service_names}
use Rattle.plan_typing.specs.Answers.{WorkedOut}
use Rattle.plan_typing.specs.Effects.{EffectFits}
use Rattle.plan_typing.specs.Types.{Types}
use Rattle.plan_typing.proofs.EffectFactory.{manager_functions, none_named, one_named}
use Rattle.plan_typing.proofs.EffectValues.{Fitting, ends_fit, default_effect_fits}

-- texts as a sequence
texts_fit : (reg : List Entity) (ns : List (List ℕ)) → FitAll reg (plains (map v.str ns)) kd.str
unfolding Fits FitAll
texts_fit reg [] = tt
texts_fit reg (n ∷ ns) = (refl, texts_fit reg ns)

names_fit : (reg : List Entity) (ns : List (List ℕ)) → Fits reg (v.list kd.str (plains (map v.str ns))) (kd.sequence kd.str)
unfolding Fits
names_fit reg ns = (refl, (λ e. absurd (cc)), refl, texts_fit reg ns)

-- ---- what the service manager asks

module _ (reg : List Entity) (sound : IsSound reg) (built : HasBuiltIn reg) where
  -- the function of that name is the one that its interface declares
  names_function : (face : List ℕ) (number : ℕ) (f : Function) → IsBaseOf reg face factory_name → numbered reg face number ≡ Some f
      → bytes_eq f.name available_names.name ≡ true → fn.call factory_name available_names ≡ f
  names_function face number f base found named = elim (manager_functions reg sound built face number f base found) [
    | inl factory_own ↦
        one_named available_names.name f named (fn.call factory_name create_instance ∷ (fn.call factory_name create_with_arguments ∷ [])) (fn.call factory_name available_names)
        [] refl refl factory_own
    | inr root_own ↦ absurd (none_named available_names.name f named root_functions refl root_own)
  ]

  module _ (plan : Plan) (r : Running) (ts us : Types) (found : numbered reg r.face r.number ≡ Some r.function) (base : IsBaseOf reg r.face factory_name) where
    names_work : (x : Plain) → Fits reg x (kd.sequence kd.str) → fn.call factory_name available_names ≡ r.function
        → WorkedOut reg r.function (returned x (out_values r.function.params r.scene.variables))
    unfolding out_values kinds_on FitEach
    names_work x fits is = subst (λ f. WorkedOut reg f (returned x (out_values f.params r.scene.variables))) is (fits, tt)

    names_returned : bytes_eq r.function.name available_names.name ≡ true
        → Fitting reg built plan r ts us (returns_value reg r (v.list kd.str (plains (map v.str (service_names reg plan)))))
    names_returned named =
        let x = v.list kd.str (plains (map v.str (service_names reg plan))) in
        ends_fit reg built plan r ts us (returned x (out_values r.function.params r.scene.variables))
        (names_work x (names_fit reg (service_names reg plan)) (names_function r.face r.number r.function base found named))

    created_fits : (name : List ℕ) (args : List Plain) → Fitting reg built plan r ts us (creates name args)
    unfolding EffectFits
    created_fits name args = tt

    pub manager_fits : EffectFits reg plan r.function r.tid ts us r.scene (manager_effect reg plan r)
    unfolding manager_effect
    manager_fits =
        by_tests (bytes_eq r.function.name create_instance.name) (bytes_eq r.function.name create_with_arguments.name) (bytes_eq r.function.name available_names.name) refl
      where
        by_tests : (one more names : Bool) → bytes_eq r.function.name available_names.name ≡ names
            → Fitting reg built plan r ts us (
            if one then creates (text_of (given 0 r.scene)) []
            else (if more then creates (text_of (given 0 r.scene)) (elements_of (given 1 r.scene))
            else (if names then returns_value reg r (v.list kd.str (plains (map v.str (service_names reg plan)))) else default_effect reg r)))
        by_tests true more names named = created_fits (text_of (given 0 r.scene)) []
        by_tests false true names named = created_fits (text_of (given 0 r.scene)) (elements_of (given 1 r.scene))
        by_tests false false true named = names_returned named
        by_tests false false false named = default_effect_fits reg sound built plan r ts us found
