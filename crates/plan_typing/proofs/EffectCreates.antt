-- What the service manager is asked to create is given anys.
use Rattle.std.proofs.Common.{◌≡◌, refl, sym, ℕ, Bool, true, false, List, [], ◌∷◌, map, codes, Some, option_map, slice_get, unwrap_or, inl, inr, if◌then◌else◌}
use Rattle.std.specs.Prelude.{Contains}
use Rattle.std.specs.Str.{bytes_eq}
use mathlib.Core.Path.{subst}
use Rattle.message_model.specs.Calls.{numbered}
use Rattle.message_model.specs.Messages.{Answer, returned, raised}
use Rattle.uno_model.specs.BuiltIn.{HasBuiltIn, factory_name, create_instance, create_with_arguments, available_names}
use Rattle.uno_model.specs.Entities.{Entity}
use Rattle.uno_model.specs.Fits.{Fits, FitAll}
use Rattle.uno_model.specs.Functions.{Function, root_functions}
use Rattle.uno_model.specs.Functions as fn
use Rattle.uno_model.specs.Kinds.{Kind}
use Rattle.uno_model.specs.Kinds as kd
use Rattle.uno_model.specs.Registry.{IsBaseOf}
use Rattle.uno_model.specs.Sound.{IsSound}
use Rattle.uno_model.specs.Values.{Plain, Plains, plains}
use Rattle.uno_model.specs.Values as v
use Rattle.plan_model.specs.Asking.{creates, Running, ending, returns_value}
use Rattle.plan_model.specs.Contexts.{Scoped, parameters}
use Rattle.plan_model.specs.Effects.{default_effect, text_of, values_in, elements_of, given, manager_effect}
use Rattle.plan_model.specs.Frames.{Variable}
use Rattle.plan_model.specs.Plans.{Plan}
use Rattle.plan_model.specs.Services.{service_names}
use Rattle.plan_typing.specs.Going.{GivesAnys}
use Rattle.plan_typing.specs.Scenes.{VariablesFit}
use Rattle.plan_typing.proofs.EffectFactory.{factory_functions, manager_functions, none_named, one_named}

-- ---- the elements of a sequence

values_all : (reg : List Entity) (xs : Plains) (k : Kind) → FitAll reg xs k → FitAll reg (plains (values_in xs)) k
unfolding FitAll values_in
values_all reg v.none k fit = tt
values_all reg (v.more x xs) k fit = (fit.0, values_all reg xs k fit.1)

element_is : (k t : Kind) → kd.sequence k ≡ kd.sequence t → t ≡ k
element_is k t is = cc

elements_fit : (reg : List Entity) (x : Plain) (k : Kind) → Fits reg x (kd.sequence k) → FitAll reg (plains (elements_of x)) k
unfolding Fits FitAll
elements_fit reg (v.list t xs) k fits = values_all reg xs k (subst (λ j. FitAll reg xs j) (element_is k t fits.0) fits.3)
elements_fit reg _ k fits = tt

-- the second of two variables
second_fits : (reg : List Entity) (xs : List Variable) (a b : Scoped) → VariablesFit reg xs (a ∷ (b ∷ [])) → Fits reg (unwrap_or (option_map (λ x. x.value) (slice_get xs 1)) v.void) b.kind
unfolding VariablesFit
second_fits reg [] a b fit = absurd fit
second_fits reg (x ∷ []) a b fit = absurd fit.2
second_fits reg (x ∷ (y ∷ ys)) a b fit = fit.2.1

-- ---- the function with arguments

-- its second parameter is a sequence of anys
arguments_fit : (f : Function) (reg : List Entity) (xs : List Variable) → fn.call factory_name create_with_arguments ≡ f → VariablesFit reg xs (parameters f.params)
    → FitAll reg (plains (elements_of (unwrap_or (option_map (λ x. x.value) (slice_get xs 1)) v.void))) kd.any
unfolding parameters
arguments_fit f reg xs is fit =
    elements_fit reg (unwrap_or (option_map (λ x. x.value) (slice_get xs 1)) v.void) kd.any
    (second_fits reg xs (record { name = codes "ServiceSpecifier"; kind = kd.str; comes_out = false }) (record { name = codes "Arguments"; kind = kd.sequence kd.any; comes_out = false })
    (subst (λ g. VariablesFit reg xs (parameters g.params)) (sym is) fit))

-- ---- what it creates

module _ (reg : List Entity) (sound : IsSound reg) (built : HasBuiltIn reg) (plan : Plan) (r : Running) (found : numbered reg r.face r.number ≡ Some r.function)
    (base : IsBaseOf reg r.face factory_name) (fit : VariablesFit reg r.scene.variables (parameters r.function.params)) where
  ending_gives : (a : Answer) → GivesAnys reg (ending a)
  ending_gives (returned x outs) = tt
  ending_gives (raised k x) = tt

  default_gives : GivesAnys reg (default_effect reg r)
  unfolding default_effect
  default_gives = ending_gives _

  none_given : (name : List ℕ) → GivesAnys reg (creates name [])
  unfolding FitAll
  none_given name = tt

  its_function : Contains factory_functions r.function → bytes_eq r.function.name create_with_arguments.name ≡ true → fn.call factory_name create_with_arguments ≡ r.function
  its_function has named =
      one_named create_with_arguments.name r.function named (fn.call factory_name create_instance ∷ []) (fn.call factory_name create_with_arguments)
      (fn.call factory_name available_names ∷ []) refl refl has

  with_arguments : bytes_eq r.function.name create_with_arguments.name ≡ true → GivesAnys reg (creates (text_of (given 0 r.scene)) (elements_of (given 1 r.scene)))
  with_arguments named = elim (manager_functions reg sound built r.face r.number r.function base found) [
    | inl factory_own ↦ arguments_fit r.function reg r.scene.variables (its_function factory_own named) fit
    | inr root_own ↦ absurd (none_named create_with_arguments.name r.function named root_functions refl root_own)
  ]

  pub manager_gives : GivesAnys reg (manager_effect reg plan r)
  unfolding manager_effect
  manager_gives =
      by_tests (bytes_eq r.function.name create_instance.name) (bytes_eq r.function.name create_with_arguments.name) (bytes_eq r.function.name available_names.name) refl
    where
      by_tests : (one more names : Bool) → bytes_eq r.function.name create_with_arguments.name ≡ more
          → GivesAnys reg (
          if one then creates (text_of (given 0 r.scene)) []
          else (if more then creates (text_of (given 0 r.scene)) (elements_of (given 1 r.scene))
          else (if names then returns_value reg r (v.list kd.str (plains (map v.str (service_names reg plan)))) else default_effect reg r)))
      by_tests true more names named = none_given (text_of (given 0 r.scene))
      by_tests false true names named = with_arguments named
      by_tests false false true named = ending_gives _
      by_tests false false false named = default_gives
