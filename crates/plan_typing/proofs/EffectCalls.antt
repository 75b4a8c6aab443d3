-- What a call and a query ask fits: the function is there in the object's own interface, and the arguments fit its parameters.
use Rattle.std.proofs.Common.{◌≡◌, refl, sym, ap, ◌∙◌, ℕ, ◌≤◌, true, false, List, [], ◌∷◌, Option, None, Some, option_map, arith}
use Rattle.std.specs.List.{list_all}
use Rattle.std.proofs.lemmas.Bool.{and_parts}
use mathlib.Core.Path.{subst}
use Rattle.message_model.specs.Calls.{goes, kinds_on}
use Rattle.message_model.specs.Messages.{request}
use Rattle.message_model.specs.Sayable.{message_weight}
use Rattle.uno_model.specs.BuiltIn.{HasBuiltIn, x_interface_name, query_interface}
use Rattle.uno_model.specs.Entities.{Entity, Param}
use Rattle.uno_model.specs.Fits.{Fits, FitEach, HeldFits, InterfaceFits, IsInterface}
use Rattle.uno_model.specs.Functions as fn
use Rattle.uno_model.specs.Kinds as kd
use Rattle.uno_model.specs.Sound.{IsSound, is_there, is_interface, kind_known, elements_storable, is_namable}
use Rattle.uno_model.specs.Types.{is_type, is_formed}
use Rattle.uno_model.specs.Values.{Ref, null, own, peer, Plain, plains, depth_in}
use Rattle.uno_model.specs.Values as v
use Rattle.uno_model.proofs.Options.{same_some, none_some}
use Rattle.plan_model.specs.Asking.{Running, calls, queries}
use Rattle.plan_model.specs.Calling.{given_values, number_in, object_of, calls_object, calls_target, call_effect, queries_object, queries_target, query_effect}
use Rattle.plan_model.specs.Evaluation.{Scene, value_under, value_of_word, value_of}
use Rattle.plan_model.specs.Expressions.{Expression, Argument, into, out, both}
use Rattle.plan_model.specs.Plans.{Plan}
use Rattle.plan_model.specs.Statements.{Call, Query}
use Rattle.plan_model.specs.declared.runtime_cause.RuntimeCause.TheVariants.{Null, Range}
use Rattle.plan_typing.specs.Effects.{NamesDiffer, RunFits, CallFits, EffectFits}
use Rattle.plan_typing.specs.Scenes.{SceneFits}
use Rattle.plan_typing.specs.Statements.{ArgumentsFit, IsTypedCall, IsTypedQuery}
use Rattle.plan_typing.specs.Types.{Types, variable_type}
use Rattle.plan_typing.proofs.CalleeNumbers.{number_fits, query_at}
use Rattle.plan_typing.proofs.EffectValues.{sent_within, Fitting, fails_fit}
use Rattle.plan_typing.proofs.TermFunctions.{called_typed}
use Rattle.plan_typing.proofs.ValueFits.{value_fits}
use Rattle.plan_typing.proofs.ValueKinds.{interface_value}
use Rattle.plan_typing.proofs.ValueLaws.{mapped}
use Rattle.plan_typing.proofs.ValueWords.{variable_fits, word_fits}

-- ---- arguments

-- a value in front of others, where both are there
abbrev joined : Option Plain → Option (List Plain) → Option (List Plain)
joined (Some x) (Some xs) = Some (x ∷ xs)
joined x xs = None

into_given : (s : Scene) (a : Expression) (args : List Argument) (o : Option Plain) (m : Option (List Plain)) → value_of s a ≡ o → given_values s args ≡ m
    → given_values s (into a ∷ args) ≡ joined o m
unfolding given_values
into_given s a args None m is more = rw is refl
into_given s a args (Some x) None is more = rw (is, more) refl
into_given s a args (Some x) (Some xs) is more = rw (is, more) refl

-- what there is of two
record Joined (o : Option Plain) (m : Option (List Plain)) (zs : List Plain) : Type 0 where
  first : Plain
  rest : List Plain
  first_is : o ≡ Some first
  rest_is : m ≡ Some rest
  whole : first ∷ rest ≡ zs

joined_there : (o : Option Plain) (m : Option (List Plain)) (zs : List Plain) → joined o m ≡ Some zs → Joined o m zs
joined_there None m zs is = absurd (none_some is)
joined_there (Some x) None zs is = absurd (none_some is)
joined_there (Some x) (Some xs) zs is = record { first = x; rest = xs; first_is = refl; rest_is = refl; whole = same_some is }

module _ (reg : List Entity) (sound : IsSound reg) (s : Scene) (ts : Types) (fit : SceneFits reg s ts) where
  -- a parameter that goes in has the value in front, another one none
  goes_on : (p : Param) (ps : List Param) (x : Plain) (xs : List Plain) → goes p.way ≡ true → Fits reg x p.kind → FitEach reg (plains xs) (kinds_on goes ps)
      → FitEach reg (plains (x ∷ xs)) (kinds_on goes (p ∷ ps))
  unfolding kinds_on FitEach
  goes_on p ps x xs in_too first rest = rw in_too (first, rest)

  goes_not : (p : Param) (ps : List Param) (xs : List Plain) → goes p.way ≡ false → FitEach reg (plains xs) (kinds_on goes ps) → FitEach reg (plains xs) (kinds_on goes (p ∷ ps))
  unfolding kinds_on
  goes_not p ps xs not_in rest = rw not_in rest

  pub given_fit : (ps : List Param) (args : List Argument) (xs : List Plain) → list_all (λ p. is_type reg p.kind) ps ≡ true → ArgumentsFit reg ts ps args
      → given_values s args ≡ Some xs → FitEach reg (plains xs) (kinds_on goes ps)
  unfolding ArgumentsFit given_values FitEach kinds_on variable_type
  given_fit [] [] xs types typed is = subst (λ z. FitEach reg (plains z) []) (same_some is) tt
  given_fit [] (a ∷ args) xs types typed is = absurd typed
  given_fit (p ∷ ps) [] xs types typed is = absurd typed
  given_fit (p ∷ ps) (into a ∷ args) xs types typed is =
      let parts = and_parts (is_type reg p.kind) (list_all (λ (q : Param). is_type reg q.kind) ps) types in
      let both = joined_there (value_of s a) (given_values s args) xs (sym (into_given s a args (value_of s a) (given_values s args) refl refl) ∙ is) in
      let first = value_fits reg sound s ts fit a p.kind both.first parts.0 typed.0.1 both.first_is in
      subst (λ z. FitEach reg (plains z) (kinds_on goes (p ∷ ps))) both.whole
      (goes_on p ps both.first both.rest (ap goes typed.0.0) first (given_fit ps args both.rest parts.1 typed.1 both.rest_is))
  given_fit (p ∷ ps) (out name ∷ args) xs types typed is =
      let parts = and_parts (is_type reg p.kind) (list_all (λ (q : Param). is_type reg q.kind) ps) types in
      goes_not p ps xs (ap goes typed.0.0) (given_fit ps args xs parts.1 typed.1 is)
  given_fit (p ∷ ps) (both name ∷ args) xs types typed is =
      let parts = and_parts (is_type reg p.kind) (list_all (λ (q : Param). is_type reg q.kind) ps) types in
      let from = mapped (λ zs. value_under name s.variables ∷ zs) (given_values s args) xs is in
      subst (λ z. FitEach reg (plains z) (kinds_on goes (p ∷ ps))) from.is
      (goes_on p ps (value_under name s.variables) from.from (ap goes typed.0.0) (variable_fits reg name s.variables ts.variables p.kind fit.variables typed.0.1)
      (given_fit ps args from.from parts.1 typed.1 from.there))

-- ---- interfaces

-- an interface of the registry is there
pub interface_there : (reg : List Entity) (face : List ℕ) → IsInterface reg face → is_there reg is_interface face ≡ true
interface_there reg face is =
    let formed = (and_parts (is_formed reg (kd.interface face)) (is_namable (kd.interface face)) is).0 in
    (and_parts (kind_known reg (kd.interface face)) (elements_storable (kd.interface face)) formed).0

-- ---- calls and queries

module _ (reg : List Entity) (sound : IsSound reg) (built : HasBuiltIn reg) (differ : NamesDiffer reg) (plan : Plan) (r : Running) (ts us : Types) (fit : RunFits reg r ts) where
  call_fits : (c : Call) (typed : IsTypedCall reg ts c) (oid face : List ℕ) (args : List Plain) → HeldFits reg oid face typed.face
      → given_values r.scene c.arguments ≡ Some args → message_weight (request r.tid oid face (number_in reg face c.callee) args) ≤ 16777216 → depth_in (plains args) ≤ 64
      → CallFits reg r.tid oid face (number_in reg face c.callee) args
  call_fits c typed oid face args held given light flat =
      let number = number_fits reg sound built differ face typed.face c.callee typed.function held.reached typed.found typed.owner typed.name in
      let types = called_typed reg sound typed.face c.callee.name typed.function typed.found in
      record {
        called = typed.function;
        interface = held.held;
        found = number.found;
        small = number.small;
        no_acquire = number.no_acquire;
        no_release = number.no_release;
        arguments =
            record { fit = given_fit reg sound r.scene ts fit.scene typed.function.params c.arguments args types.params typed.arguments given; deep = flat };
        light = light;
      }

  object_call : (c : Call) (typed : IsTypedCall reg ts c) (target : Ref) (oid face : List ℕ) → HeldFits reg oid face typed.face
      → ((n : ℕ) (args : List Plain) → CallFits reg r.tid oid face n args → Fitting reg built plan r ts us (calls target n args (option_map (λ f. f.name) c.to)))
      → (o : Option (List Plain)) → given_values r.scene c.arguments ≡ o → Fitting reg built plan r ts us (calls_object reg r c target oid face o)
  object_call c typed target oid face held on None given = fails_fit reg built plan r ts us Range
  object_call c typed target oid face held on (Some args) given =
      let number = number_in reg face c.callee in
      sent_within reg r (Fitting reg built plan r ts us) (fails_fit reg built plan r ts us) oid face number args (calls target number args (option_map (λ f. f.name) c.to))
      (λ light flat. on number args (call_fits c typed oid face args held given light flat))

  target_call : (c : Call) (typed : IsTypedCall reg ts c) (target : Ref) → InterfaceFits reg typed.face target → Fitting reg built plan r ts us (calls_target reg r c target)
  unfolding EffectFits
  target_call c typed null held = fails_fit reg built plan r ts us Null
  target_call c typed (own oid face) held = object_call c typed (own oid face) oid face held (λ n args fits. fits) (given_values r.scene c.arguments) refl
  target_call c typed (peer oid face) held = object_call c typed (peer oid face) oid face held (λ n args fits. fits) (given_values r.scene c.arguments) refl

  pub call_effect_fits : (c : Call) → IsTypedCall reg ts c → Fitting reg built plan r ts us (call_effect reg r c)
  unfolding call_effect
  call_effect_fits c typed =
      let x = value_of_word r.scene c.target in
      let value = interface_value reg typed.face x (word_fits reg r.scene ts c.target (kd.interface typed.face) fit.scene typed.target) in
      subst (λ y. Fitting reg built plan r ts us (calls_target reg r c (object_of y))) (sym value.is) (target_call c typed value.ref value.fits)

  -- a query is a call of queryInterface with a type
  query_fits : (wanted oid face : List ℕ) → IsInterface reg wanted → IsInterface reg face
      → message_weight (request r.tid oid face 0 (v.kind (kd.interface wanted) ∷ [])) ≤ 16777216 → depth_in (plains (v.kind (kd.interface wanted) ∷ [])) ≤ 64
      → CallFits reg r.tid oid face 0 (v.kind (kd.interface wanted) ∷ [])
  unfolding Fits FitEach kinds_on
  query_fits wanted oid face asked there light flat =
      record {
        called = fn.call x_interface_name query_interface;
        interface = there;
        found = query_at reg sound built face (interface_there reg face there);
        small = omega arith;
        no_acquire = λ is. omega (arith, is);
        no_release = λ is. omega (arith, is);
        arguments = record { fit = ((refl, asked), tt); deep = flat };
        light = light;
      }

  object_query : (q : Query) (typed : IsTypedQuery reg ts q) (target : Ref) (oid face : List ℕ) → HeldFits reg oid face typed.face
      → (CallFits reg r.tid oid face 0 (v.kind (kd.interface q.wanted) ∷ []) → Fitting reg built plan r ts us (queries target q.wanted q.to))
      → Fitting reg built plan r ts us (queries_object reg r q target oid face)
  object_query q typed target oid face held on =
      sent_within reg r (Fitting reg built plan r ts us) (fails_fit reg built plan r ts us) oid face 0 (v.kind (kd.interface q.wanted) ∷ []) (queries target q.wanted q.to)
      (λ light flat. on (query_fits q.wanted oid face typed.wanted held.held light flat))

  target_query : (q : Query) (typed : IsTypedQuery reg ts q) (target : Ref) → InterfaceFits reg typed.face target → Fitting reg built plan r ts us (queries_target reg r q target)
  unfolding EffectFits
  target_query q typed null held = fails_fit reg built plan r ts us Null
  target_query q typed (own oid face) held = object_query q typed (own oid face) oid face held (λ fits. fits)
  target_query q typed (peer oid face) held = object_query q typed (peer oid face) oid face held (λ fits. fits)

  pub query_effect_fits : (q : Query) → IsTypedQuery reg ts q → Fitting reg built plan r ts us (query_effect reg r q)
  unfolding query_effect
  query_effect_fits q typed =
      let x = value_of_word r.scene q.target in
      let value = interface_value reg typed.face x (word_fits reg r.scene ts q.target (kd.interface typed.face) fit.scene typed.target) in
      subst (λ y. Fitting reg built plan r ts us (queries_target reg r q (object_of y))) (sym value.is) (target_query q typed value.ref value.fits)
