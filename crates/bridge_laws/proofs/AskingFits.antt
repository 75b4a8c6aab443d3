-- What a method asks is what the statement at its place says: a call of its function, a query, a new object; and what ends it may go.
use Rattle.std.proofs.Common.{◌≡◌, ℕ, ◌==◌, Bool, true, false, if◌then◌else◌, List, [], ◌∷◌, map, Option, None, Some, option_map, slice_get, drop, refl, sym, subst, inl, inr}
use Rattle.std.specs.Str.{bytes_eq}
use Rattle.message_model.specs.Calls.{numbered, kinds_on, out_kinds}
use Rattle.message_model.specs.Messages.{Answer, returned, raised}
use Rattle.message_model.specs.Sayable.{IsThread}
use Rattle.uno_model.specs.BuiltIn.{HasBuiltIn, factory_name, x_interface_name, create_instance, create_with_arguments, available_names}
use Rattle.uno_model.specs.Defaults.{default_of_kind}
use Rattle.uno_model.specs.Entities.{Entity}
use Rattle.uno_model.specs.Fits.{IsInterface, InterfaceFits, FitAll}
use Rattle.uno_model.specs.Functions.{Function, root_functions}
use Rattle.uno_model.specs.Functions as fn
use Rattle.uno_model.specs.Kinds as kd
use Rattle.uno_model.specs.Registry.{IsBaseOf}
use Rattle.uno_model.specs.Sound.{IsSound}
use Rattle.uno_model.specs.Values.{Ref, null, own, peer, Plain, plains}
use Rattle.uno_model.specs.Values as v
use Rattle.plan_model.specs.Asking.{Effect, lets, sets, sets_field, drops, skips, calls, queries, makes, disposes, creates, returns, raises, Running, ending, ends_with, fails, out_values, returns_value}
use Rattle.plan_model.specs.Calling.{given_values, number_in, object_of, calls_object, calls_target, call_effect, queries_object, queries_target, query_effect}
use Rattle.plan_model.specs.Effects.{return_effect, default_effect, let_effect, set_effect, set_field_effect, when_effect, raise_effect, statement_effect, place_effect, text_of, elements_of, given, manager_effect, method_for, methods_of, method_effect, body_effect}
use Rattle.plan_model.specs.Evaluation.{value_of_word, compares}
use Rattle.plan_model.specs.Expressions.{Expression}
use Rattle.plan_model.specs.Leaving.{caused, leaving}
use Rattle.plan_model.specs.Plans.{Plan, Method, manager}
use Rattle.plan_model.specs.Services.{service_names}
use Rattle.plan_model.specs.Statements.{Call, Query, Making, Statement, let_variable, set_variable, set_field, call, query, make, drop_variable, when, return, raise, dispose}
use Rattle.plan_model.specs.declared.runtime_cause.RuntimeCause.{RuntimeCause}
use Rattle.plan_model.specs.declared.runtime_cause.RuntimeCause.TheVariants.{Range, Null}
use Rattle.plan_typing.specs.Effects.{NamesDiffer, RunFits}
use Rattle.plan_typing.specs.Going.{at_place, statement_at, RestTyped, IsFunctionOf, GivesAnys}
use Rattle.plan_typing.specs.Scenes.{VariablesFit}
use Rattle.plan_model.specs.Contexts.{parameters}
use Rattle.plan_typing.proofs.EffectCreates.{manager_gives}
use Rattle.plan_typing.specs.Statements.{IsTyped, IsTypedCall, Ends, AreTyped}
use Rattle.plan_typing.specs.Types.{Types}
use Rattle.plan_typing.proofs.CalleeNumbers.{number_fits}
use Rattle.plan_typing.proofs.EffectFactory.{manager_functions, none_named, one_named}
use Rattle.plan_typing.proofs.EffectPlaces.{rest_typed}
use Rattle.plan_typing.proofs.EffectValues.{valued, sent_within}
use Rattle.plan_typing.proofs.ValueKinds.{interface_value}
use Rattle.plan_typing.proofs.ValueWords.{word_fits}
use Rattle.bridge_laws.proofs.LeavingFits.{IsLight, leaving_light}

-- a statement that does not end the method
pub record GoesOn (o : Option Statement) : Type 0 where
  pub statement : Statement
  pub is : o ≡ Some statement
  pub on : ¬ Ends statement

pub record CallsAt (reg : List Entity) (ts : Types) (o : Option Statement) (target : Ref) (function : ℕ) : Type 0 where
  pub call : Call
  pub is : o ≡ Some (Statement.call call)
  pub typed : IsTypedCall reg ts call
  pub found : IsFunctionOf reg typed.function target function

pub record QueriesAt (reg : List Entity) (o : Option Statement) (asked : List ℕ) : Type 0 where
  pub query : Query
  pub is : o ≡ Some (Statement.query query)
  pub wanted : IsInterface reg query.wanted
  pub same : asked ≡ query.wanted

pub record MakesAt (o : Option Statement) (behaviour : ℕ) (face to : List ℕ) : Type 0 where
  pub making : Making
  pub is : o ≡ Some (make making)
  pub behaves : behaviour ≡ making.behaviour
  pub faced : face ≡ making.face
  pub named : to ≡ making.to

-- a function that returns an object and nothing else
pub record ReturnsObject (f : Function) : Type 0 where
  pub result : f.result_kind ≡ kd.interface x_interface_name
  pub outs : out_kinds f ≡ []

-- of the function of a frame on a thread, with the statement at its place
abbrev pub Asks : List Entity → Types → Function → (tid : List ℕ) → Option Statement → Effect → Type 0
Asks reg ts f tid o (lets x) = GoesOn o
Asks reg ts f tid o (sets x) = GoesOn o
Asks reg ts f tid o (sets_field x) = GoesOn o
Asks reg ts f tid o (drops name) = GoesOn o
Asks reg ts f tid o skips = GoesOn o
Asks reg ts f tid o (calls target function args to) = CallsAt reg ts o target function
Asks reg ts f tid o (queries target wanted to) = QueriesAt reg o wanted
Asks reg ts f tid o (makes behaviour face to) = MakesAt o behaviour face to
Asks reg ts f tid o disposes = Unit
Asks reg ts f tid o (creates name args) = ReturnsObject f × FitAll reg (plains args) kd.any
Asks reg ts f tid o (returns x outs) = IsLight tid (returned x outs)
Asks reg ts f tid o (raises k x) = IsLight tid (raised k x)

module _ (reg : List Entity) (sound : IsSound reg) (built : HasBuiltIn reg) (differ : NamesDiffer reg) (plan : Plan) (r : Running) (ts : Types) (fit : RunFits reg r ts)
    (thread : IsThread r.tid) where
  ending_asks : (o : Option Statement) (a : Answer) → IsLight r.tid a → Asks reg ts r.function r.tid o (ending a)
  ending_asks o (returned x outs) light = light
  ending_asks o (raised k x) light = light

  ends_with_asks : (o : Option Statement) (a : Answer) → Asks reg ts r.function r.tid o (ends_with reg r a)
  ends_with_asks o a = ending_asks o (leaving reg r.tid r.face r.number r.function a) (leaving_light reg r.tid r.face r.number r.function a thread)

  fails_asks : (o : Option Statement) (cause : RuntimeCause) → Asks reg ts r.function r.tid o (fails reg r cause)
  fails_asks o cause = ends_with_asks o (caused cause)

  return_asks : (o : Option Statement) (back : Option Expression) → Asks reg ts r.function r.tid o (return_effect reg r back)
  unfolding return_effect
  return_asks o None = ends_with_asks o (returned v.void (out_values r.function.params r.scene.variables))
  return_asks o (Some a) =
      valued reg r (Asks reg ts r.function r.tid o) (fails_asks o) r.scene a (returns_value reg r)
      (λ x is. ends_with_asks o (returned x (out_values r.function.params r.scene.variables)))

  default_asks : (o : Option Statement) → Asks reg ts r.function r.tid o (default_effect reg r)
  unfolding default_effect
  default_asks o = ends_with_asks o (returned (default_of_kind reg r.function.result_kind) (map (default_of_kind reg) (out_kinds r.function)))

  -- ---- calls and queries

  module _ (c : Call) (typed : IsTypedCall reg ts c) where
    abbrev AsksCall : Effect → Type 0
    AsksCall e = Asks reg ts r.function r.tid (Some (call c)) e

    object_called : (target : Ref) (oid face : List ℕ) → IsFunctionOf reg typed.function target (number_in reg face c.callee) → (o : Option (List Plain))
        → AsksCall (calls_object reg r c target oid face o)
    object_called target oid face is None = fails_asks (Some (call c)) Range
    object_called target oid face is (Some args) =
        sent_within reg r AsksCall (fails_asks (Some (call c))) oid face (number_in reg face c.callee) args
        (calls target (number_in reg face c.callee) args (option_map (λ f. f.name) c.to))
        (λ light flat. record { call = c; is = refl; typed = typed; found = is })

    number_is : (face oid : List ℕ) → InterfaceFits reg typed.face (own oid face) → numbered reg face (number_in reg face c.callee) ≡ Some typed.function
    number_is face oid held = (number_fits reg sound built differ face typed.face c.callee typed.function held.reached typed.found typed.owner typed.name).found

    target_called : (target : Ref) → InterfaceFits reg typed.face target → AsksCall (calls_target reg r c target)
    target_called null held = fails_asks (Some (call c)) Null
    target_called (own oid face) held = object_called (own oid face) oid face (number_is face oid held) (given_values r.scene c.arguments)
    target_called (peer oid face) held = object_called (peer oid face) oid face (number_is face oid held) (given_values r.scene c.arguments)

    call_asks : AsksCall (call_effect reg r c)
    unfolding call_effect
    call_asks =
        let x = value_of_word r.scene c.target in
        let value = interface_value reg typed.face x (word_fits reg r.scene ts c.target (kd.interface typed.face) fit.scene typed.target) in
        subst (λ y. AsksCall (calls_target reg r c (object_of y))) (sym value.is) (target_called value.ref value.fits)

  module _ (q : Query) (wanted : IsInterface reg q.wanted) where
    abbrev AsksQuery : Effect → Type 0
    AsksQuery e = Asks reg ts r.function r.tid (Some (query q)) e

    object_queried : (target : Ref) (oid face : List ℕ) → AsksQuery (queries_object reg r q target oid face)
    object_queried target oid face =
        sent_within reg r AsksQuery (fails_asks (Some (query q))) oid face 0 (v.kind (kd.interface q.wanted) ∷ []) (queries target q.wanted q.to)
        (λ light flat. record { query = q; is = refl; wanted = wanted; same = refl })

    target_queried : (target : Ref) → AsksQuery (queries_target reg r q target)
    target_queried null = fails_asks (Some (query q)) Null
    target_queried (own oid face) = object_queried (own oid face) oid face
    target_queried (peer oid face) = object_queried (peer oid face) oid face

    query_asks : AsksQuery (query_effect reg r q)
    unfolding query_effect
    query_asks = target_queried (object_of (value_of_word r.scene q.target))

  -- ---- statements

  when_asks : (o : Option Statement) (b : Bool) (back : Option Expression) → GoesOn o → Asks reg ts r.function r.tid o (if b then return_effect reg r back else skips)
  when_asks o true back on = return_asks o back
  when_asks o false back on = on

  pub statement_asks : (s : Statement) → IsTyped reg plan r.function ts s → Asks reg ts r.function r.tid (Some s) (statement_effect reg r s)
  unfolding IsTyped statement_effect let_effect set_effect set_field_effect when_effect raise_effect
  statement_asks (let_variable x a) typed =
      valued reg r (Asks reg ts r.function r.tid (Some (let_variable x a))) (fails_asks (Some (let_variable x a))) r.scene a (λ y. lets (record { name = x.name; value = y }))
      (λ y is. record { statement = let_variable x a; is = refl; on = λ ends. ends })
  statement_asks (set_variable name a) typed =
      valued reg r (Asks reg ts r.function r.tid (Some (set_variable name a))) (fails_asks (Some (set_variable name a))) r.scene a (λ y. sets (record { name = name; value = y }))
      (λ y is. record { statement = set_variable name a; is = refl; on = λ ends. ends })
  statement_asks (set_field name a) typed =
      valued reg r (Asks reg ts r.function r.tid (Some (set_field name a))) (fails_asks (Some (set_field name a))) r.scene a (λ y. sets_field (record { name = name; value = y }))
      (λ y is. record { statement = set_field name a; is = refl; on = λ ends. ends })
  statement_asks (call c) typed = call_asks c typed
  statement_asks (query q) typed = query_asks q typed.wanted
  statement_asks (make m) typed = record { making = m; is = refl; behaves = refl; faced = refl; named = refl }
  statement_asks (drop_variable name) typed = record { statement = drop_variable name; is = refl; on = λ ends. ends }
  statement_asks (when t back) typed =
      valued reg r (Asks reg ts r.function r.tid (Some (when t back))) (fails_asks (Some (when t back))) r.scene t.right
      (λ x. if compares t.comparison (value_of_word r.scene t.left) x then return_effect reg r back else skips)
      (λ x is. when_asks (Some (when t back)) (compares t.comparison (value_of_word r.scene t.left) x) back (record { statement = when t back; is = refl; on = λ ends. ends }))
  statement_asks (return back) typed = return_asks (Some (return back)) back
  statement_asks (raise name a) typed =
      valued reg r (Asks reg ts r.function r.tid (Some (raise name a))) (fails_asks (Some (raise name a))) r.scene a (λ x. ends_with reg r (raised (kd.exception name) x))
      (λ x is. ends_with_asks (Some (raise name a)) (raised (kd.exception name) x))
  statement_asks dispose typed = tt

  -- ---- the service manager

  instance_function : IsBaseOf reg r.face factory_name → bytes_eq r.function.name create_instance.name ≡ true → fn.call factory_name create_instance ≡ r.function
  instance_function base named = elim (manager_functions reg sound built r.face r.number r.function base fit.found) [
    | inl factory_own ↦
        one_named create_instance.name r.function named [] (fn.call factory_name create_instance)
        (fn.call factory_name create_with_arguments ∷ (fn.call factory_name available_names ∷ [])) refl refl factory_own
    | inr root_own ↦ absurd (none_named create_instance.name r.function named root_functions refl root_own)
  ]

  arguments_function : IsBaseOf reg r.face factory_name → bytes_eq r.function.name create_with_arguments.name ≡ true → fn.call factory_name create_with_arguments ≡ r.function
  arguments_function base named = elim (manager_functions reg sound built r.face r.number r.function base fit.found) [
    | inl factory_own ↦
        one_named create_with_arguments.name r.function named (fn.call factory_name create_instance ∷ []) (fn.call factory_name create_with_arguments)
        (fn.call factory_name available_names ∷ []) refl refl factory_own
    | inr root_own ↦ absurd (none_named create_with_arguments.name r.function named root_functions refl root_own)
  ]

  instance_returns : ReturnsObject (fn.call factory_name create_instance)
  unfolding kinds_on
  instance_returns = record { result = refl; outs = refl }

  arguments_return : ReturnsObject (fn.call factory_name create_with_arguments)
  unfolding kinds_on
  arguments_return = record { result = refl; outs = refl }

  manager_asks : (o : Option Statement) → IsBaseOf reg r.face factory_name → VariablesFit reg r.scene.variables (parameters r.function.params) → Asks reg ts r.function r.tid o (manager_effect reg plan r)
  unfolding manager_effect
  manager_asks o base variables =
      by_tests (bytes_eq r.function.name create_instance.name) (bytes_eq r.function.name create_with_arguments.name) (bytes_eq r.function.name available_names.name) refl refl
      (manager_gives reg sound built plan r fit.found base variables)
    where
      by_tests : (one more names : Bool) → bytes_eq r.function.name create_instance.name ≡ one → bytes_eq r.function.name create_with_arguments.name ≡ more
          → GivesAnys reg (
          if one then creates (text_of (given 0 r.scene)) []
          else (if more then creates (text_of (given 0 r.scene)) (elements_of (given 1 r.scene))
          else (if names then returns_value reg r (v.list kd.str (plains (map v.str (service_names reg plan)))) else default_effect reg r)))
          → Asks reg ts r.function r.tid o (
          if one then creates (text_of (given 0 r.scene)) []
          else (if more then creates (text_of (given 0 r.scene)) (elements_of (given 1 r.scene))
          else (if names then returns_value reg r (v.list kd.str (plains (map v.str (service_names reg plan)))) else default_effect reg r)))
      by_tests true more names first second anys = (subst ReturnsObject (instance_function base first) instance_returns, anys)
      by_tests false true names first second anys = (subst ReturnsObject (arguments_function base second) arguments_return, anys)
      by_tests false false true first second anys =
          ends_with_asks o (returned (v.list kd.str (plains (map v.str (service_names reg plan)))) (out_values r.function.params r.scene.variables))
      by_tests false false false first second anys = default_asks o

  -- ---- methods

  place_asks : (m : Method) (place : ℕ) (o : Option Statement) → slice_get m.body place ≡ o → AreTyped reg plan r.function ts (drop place m.body)
      → Asks reg ts r.function r.tid o (place_effect reg r o)
  place_asks m place None at typed = return_asks None None
  place_asks m place (Some s) at typed = statement_asks s (rest_typed reg plan r.function ts m.body place s typed at).0

  method_asks : (place : ℕ) (o : Option Method) → ((m : Method) → o ≡ Some m → AreTyped reg plan r.function ts (drop place m.body))
      → Asks reg ts r.function r.tid (at_place place o) (method_effect reg r place o)
  method_asks place None typed = default_asks None
  method_asks place (Some m) typed = place_asks m place (slice_get m.body place) refl (typed m refl)

  pub body_asks : (behaviour place : ℕ) → ((behaviour == manager) ≡ true → VariablesFit reg r.scene.variables (parameters r.function.params)) → RestTyped reg plan behaviour place r.face r.function ts
      → Asks reg ts r.function r.tid (statement_at plan behaviour place r.function) (body_effect reg plan behaviour place r)
  unfolding body_effect
  body_asks behaviour place begun rest = by_manager (behaviour == manager) refl rest.manages begun rest.typed
    where
      by_manager : (b : Bool) → (behaviour == manager) ≡ b → (b ≡ true → IsBaseOf reg r.face factory_name)
          → (b ≡ true → VariablesFit reg r.scene.variables (parameters r.function.params))
          → ((m : Method) → (if b then None else method_for r.function (methods_of (slice_get plan.behaviours behaviour))) ≡ Some m → AreTyped reg plan r.function ts (drop place m.body))
          → Asks reg ts r.function r.tid (at_place place (if b then None else method_for r.function (methods_of (slice_get plan.behaviours behaviour))))
          (if b then manager_effect reg plan r else method_effect reg r place (method_for r.function (methods_of (slice_get plan.behaviours behaviour))))
      by_manager true is manages begun typed = manager_asks None (manages refl) (begun refl)
      by_manager false is manages begun typed = method_asks place (method_for r.function (methods_of (slice_get plan.behaviours behaviour))) typed
