-- What a method at the top of a thread asks, and what the service manager creates, can be carried by bytes.
use Rattle.std.proofs.Common.{◌≡◌, ℕ, Bool, true, false, ◌&&◌, ◌==◌, cond, if◌then◌else◌, List, [], ◌∷◌, map, codes, find, Option, None, Some, Result, Ok, Err, option_map, slice_get, unwrap_or, refl}
use Rattle.std.specs.List.{AllByRecursion, filter, list_all, list_any, position_or_len}
use Rattle.std.specs.Option.{option_or}
use Rattle.std.specs.Str.{IsUtf8, bytes_eq}
use Rattle.std.proofs.lemmas.Bool.{and_parts, and_from}
use Rattle.std.proofs.lemmas.Slice.Eq.{bytes_eq-Decides}
use Rattle.std.proofs.lemmas.Str.{IsUtf8-append}
use Rattle.message_model.specs.Calls.{numbered, out_kinds}
use Rattle.message_model.specs.Messages.{returned}
use Rattle.uno_model.specs.BuiltIn.{create_instance, create_with_arguments, available_names}
use Rattle.uno_model.specs.Defaults.{default_of_kind}
use Rattle.uno_model.specs.Entities.{Entity, Field, Constructor}
use Rattle.uno_model.specs.Entities as plain
use Rattle.uno_model.specs.Fits.{does_fit}
use Rattle.uno_model.specs.Functions.{Function}
use Rattle.uno_model.specs.Kinds.{Kind}
use Rattle.uno_model.specs.Kinds as kd
use Rattle.uno_model.specs.Names.{is_entity_name, is_identifier}
use Rattle.uno_model.specs.Registry.{find_entity}
use Rattle.uno_model.specs.Sound.{is_named, is_there, is_enum}
use Rattle.uno_model.specs.Spellable.{IsSpellable, AreSpellable}
use Rattle.uno_model.specs.Uses.{inner_names}
use Rattle.uno_model.specs.Values.{own, Plain, Plains, plains}
use Rattle.uno_model.specs.Values as v
use Rattle.urp_model.proofs.Utf8Laws.{utf8_of_ascii, name_ascii}
use Rattle.plan_model.specs.Asking.{creates, Running, returns_value}
use Rattle.plan_model.specs.Effects.{default_effect, place_effect, text_of, elements_of, values_in, given, manager_effect, method_for, methods_of, method_effect, body_effect, running, function_effect, effect}
use Rattle.plan_model.specs.Frames.{Variable, Body, body, Job}
use Rattle.plan_model.specs.Plans.{Plan, Behaviour, Method, Offer, manager}
use Rattle.plan_model.specs.Services.{Created, fresh, singleton, content_of, filled, rest_filled, all_filled, first_filled, field_value, fields_with, fields_of_behaviour, constructors_of, of_service, of_singleton, has_name, created, refusal_message, refusal_exception, service_names}
use Rattle.plan_model.specs.Statements.{Statement}
use Rattle.plan_model.specs.declared.refusal.Refusal.{Refusal}
use Rattle.plan_model.specs.declared.refusal.Refusal.TheVariants.{UnknownService, BadArguments}
use Rattle.bridge_laws.specs.Texts.{AreSmallItems, IsWritableStatement, IsWritableMethod, IsWritableBehaviour, IsWritablePlan}
use Rattle.bridge_laws.proofs.EffectSpelling.{EffectSpellable, message_spellable, ends_with_spellable, returns_spellable, return_spellable, statement_spellable, effect_by, got_one, found_one}
use Rattle.bridge_laws.proofs.EvaluationSpelling.{VariablesSpellable, SceneSpellable, void_spellable, list_made}
use Rattle.bridge_laws.proofs.ValueSpelling.{AllSpellable, all_map, as_plains, empty_utf8, default_spellable}

-- ---- names of entities

-- the name of an entity is UTF-8
entity_utf8 : (name : List ℕ) → is_entity_name name ≡ true → IsUtf8 name
unfolding find_entity
entity_utf8 name is =
    let e : Entity = record { name = name; published = false; body = plain.enum [] } in
    let one : list_all is_named (e ∷ []) ≡ true = and_from (is_named e) true (and_from (is_entity_name name) true is refl) refl in
    let there : is_there (e ∷ []) is_enum name ≡ true = rw ((bytes_eq-Decides name name).1 refl) refl in
    utf8_of_ascii name (name_ascii (e ∷ []) (kd.enum name) one there)

names_utf8 : (reg : List Entity) → list_all is_named reg ≡ true → AllByRecursion IsUtf8 (map (λ (e : Entity). e.name) reg)
names_utf8 [] named = tt
names_utf8 (e ∷ reg) named =
    let parts = and_parts (is_named e) (list_all is_named reg) named in
    (entity_utf8 e.name (and_parts (is_entity_name e.name) (list_all is_identifier (inner_names e.body)) parts.0).0, names_utf8 reg parts.1)

pub all_filtered : {X : Type 0} (P : X → Type 0) (test : X → Bool) (xs : List X) → AllByRecursion P xs → AllByRecursion P (filter test xs)
all_filtered P test [] all = tt
all_filtered P test (x ∷ xs) all = kept_by P (test x) x (filter test xs) all.0 (all_filtered P test xs all.1)
  where
    kept_by : {X : Type 0} (P : X → Type 0) (b : Bool) (x : X) (xs : List X) → P x → AllByRecursion P xs → AllByRecursion P (cond b (x ∷ xs) xs)
    kept_by P true x xs one all = (one, all)
    kept_by P false x xs one all = all

texts_spellable : (names : List (List ℕ)) → AllByRecursion IsUtf8 names → AllSpellable (map v.str names)
unfolding IsSpellable
texts_spellable [] all = tt
texts_spellable (n ∷ ns) all = (all.0, texts_spellable ns all.1)

services_spellable : (reg : List Entity) (plan : Plan) → list_all is_named reg ≡ true → IsSpellable (v.list kd.str (plains (map v.str (service_names reg plan))))
unfolding service_names
services_spellable reg plan named =
    list_made kd.str (plains (map v.str (service_names reg plan)))
    (as_plains (map v.str (service_names reg plan))
    (texts_spellable (service_names reg plan)
    (all_filtered IsUtf8 (λ name. list_any (has_name name) plan.services) (map (λ (e : Entity). e.name) reg) (names_utf8 reg named))))

-- ---- what the service manager is given

pub text_utf8 : (x : Plain) → IsSpellable x → IsUtf8 (text_of x)
unfolding IsSpellable
text_utf8 (v.str s) fine = fine
text_utf8 x fine = empty_utf8

values_in_spellable : (xs : Plains) → AreSpellable xs → AllSpellable (values_in xs)
unfolding values_in AreSpellable
values_in_spellable v.none fine = tt
values_in_spellable (v.more x xs) fine = (fine.0, values_in_spellable xs fine.1)

elements_spellable : (x : Plain) → IsSpellable x → AllSpellable (elements_of x)
unfolding IsSpellable
elements_spellable (v.list k xs) fine = values_in_spellable xs fine
elements_spellable x fine = tt

given_by : (xs : List Variable) (o : Option Variable) (n : ℕ) → slice_get xs n ≡ o → VariablesSpellable xs → IsSpellable (unwrap_or (option_map (λ x. x.value) o) v.void)
given_by xs None n is all = void_spellable
given_by xs (Some x) n is all = got_one (λ (y : Variable). IsSpellable y.value) xs n all x is

module _ (reg : List Entity) (named : list_all is_named reg ≡ true) (items : AreSmallItems reg) where
  default_spells : (r : Running) → EffectSpellable (default_effect reg r)
  unfolding default_effect
  default_spells r =
      ends_with_spellable reg r (returned (default_of_kind reg r.function.result_kind) (map (default_of_kind reg) (out_kinds r.function)))
      (default_spellable reg items r.function.result_kind, all_map IsSpellable (default_of_kind reg) (default_spellable reg items) (out_kinds r.function))

  manager_spellable : (plan : Plan) (r : Running) → SceneSpellable r.scene → EffectSpellable (manager_effect reg plan r)
  unfolding manager_effect
  manager_spellable plan r scene =
      let first = given_by r.scene.variables (slice_get r.scene.variables 0) 0 refl scene.variables in
      let second = given_by r.scene.variables (slice_get r.scene.variables 1) 1 refl scene.variables in
      let name = text_utf8 (given 0 r.scene) first in
      effect_by (bytes_eq r.function.name create_instance.name) (creates (text_of (given 0 r.scene)) [])
      (if bytes_eq r.function.name create_with_arguments.name then creates (text_of (given 0 r.scene)) (elements_of (given 1 r.scene))
      else (if bytes_eq r.function.name available_names.name then returns_value reg r (v.list kd.str (plains (map v.str (service_names reg plan))))
      else default_effect reg r))
      (name, tt)
      (effect_by (bytes_eq r.function.name create_with_arguments.name) (creates (text_of (given 0 r.scene)) (elements_of (given 1 r.scene)))
      (if bytes_eq r.function.name available_names.name then returns_value reg r (v.list kd.str (plains (map v.str (service_names reg plan)))) else default_effect reg r)
      (name, elements_spellable (given 1 r.scene) second)
      (effect_by (bytes_eq r.function.name available_names.name) (returns_value reg r (v.list kd.str (plains (map v.str (service_names reg plan))))) (default_effect reg r)
      (returns_spellable reg r (v.list kd.str (plains (map v.str (service_names reg plan)))) scene (services_spellable reg plan named))
      (default_spells r)))

  -- ---- methods

  place_spellable : (r : Running) (m : Method) (place : ℕ) (s : Option Statement) → slice_get m.body place ≡ s → SceneSpellable r.scene → IsWritableMethod m → EffectSpellable (place_effect reg r s)
  place_spellable r m place None is scene fine = return_spellable reg r None scene tt
  place_spellable r m place (Some s) is scene fine = statement_spellable reg r s scene (got_one IsWritableStatement m.body place fine s is)

  method_spellable : (r : Running) (place : ℕ) (ms : List Method) (m : Option Method) → method_for r.function ms ≡ m → SceneSpellable r.scene → AllByRecursion IsWritableMethod ms
      → EffectSpellable (method_effect reg r place m)
  method_spellable r place ms None is scene fine = default_spells r
  method_spellable r place ms (Some m) is scene fine =
      place_spellable r m place (slice_get m.body place) refl scene
      (found_one IsWritableMethod (λ m. bytes_eq m.face r.function.owner && bytes_eq m.function r.function.name) ms fine m is)

  methods_writable : (plan : Plan) (n : ℕ) (b : Option Behaviour) → slice_get plan.behaviours n ≡ b → IsWritablePlan plan → AllByRecursion IsWritableMethod (methods_of b)
  methods_writable plan n None is fine = tt
  methods_writable plan n (Some b) is fine = got_one IsWritableBehaviour plan.behaviours n fine.behaviours b is

  body_spellable : (plan : Plan) (behaviour place : ℕ) (r : Running) → SceneSpellable r.scene → IsWritablePlan plan → EffectSpellable (body_effect reg plan behaviour place r)
  unfolding body_effect
  body_spellable plan behaviour place r scene fine =
      effect_by (behaviour == manager) (manager_effect reg plan r)
      (method_effect reg r place (method_for r.function (methods_of (slice_get plan.behaviours behaviour))))
      (manager_spellable plan r scene)
      (method_spellable r place (methods_of (slice_get plan.behaviours behaviour)) (method_for r.function (methods_of (slice_get plan.behaviours behaviour))) refl scene
      (methods_writable plan behaviour (slice_get plan.behaviours behaviour) refl fine))

  function_spellable : (plan : Plan) (job : Job) (b : Body) (fn : Option Function) → VariablesSpellable b.variables → VariablesSpellable job.fields → IsUtf8 job.own → IsWritablePlan plan
      → EffectSpellable (function_effect reg plan job b fn)
  function_spellable plan job b None variables fields itself fine = tt
  function_spellable plan job b (Some fn) variables fields itself fine =
      body_spellable plan job.behaviour b.place (running job b fn) (record { variables = variables; fields = fields; own = itself }) fine

  -- what a method at the top of a thread asks
  pub job_spellable : (plan : Plan) (job : Job) (b : Body) → job.frame ≡ body b → VariablesSpellable b.variables → VariablesSpellable job.fields → IsUtf8 job.own → IsWritablePlan plan
      → EffectSpellable (effect plan reg job)
  unfolding effect
  job_spellable plan job b is variables fields itself fine = rw is (function_spellable plan (record job { frame = body b }) b (numbered reg b.face b.function) variables fields itself fine)

-- ---- what is created

abbrev pub CreatedSpellable : Result Created Refusal → Type 0
CreatedSpellable (Ok (fresh behaviour fields)) = AllSpellable fields
CreatedSpellable (Ok (singleton place)) = Unit
CreatedSpellable (Err why) = Unit

abbrev IfVariable : Option Variable → Type 0
IfVariable None = Unit
IfVariable (Some x) = IsSpellable x.value

abbrev IfVariables : Option (List Variable) → Type 0
IfVariables None = Unit
IfVariables (Some xs) = VariablesSpellable xs

content_spellable : (x : Plain) → IsSpellable x → IsSpellable (content_of x)
unfolding IsSpellable
content_spellable (v.any k x) fine = fine
content_spellable x fine = fine

fit_by : (b : Bool) (name : List ℕ) (x : Plain) → IsSpellable x → IfVariable (if b then Some (record { name = name; value = x }) else None)
fit_by true name x fine = fine
fit_by false name x fine = tt

filled_by : (reg : List Entity) (p : Field) (arg : Plain) (k : Kind) → p.kind ≡ k → IsSpellable arg → IfVariable (filled reg p arg)
filled_by reg p arg kd.any is fine = rw is fine
filled_by reg p arg k is fine = rw is (fit_by (does_fit reg (content_of arg) _) p.name (content_of arg) (content_spellable arg fine))

rest_spellable : (rest : Option (List ℕ)) (args : List Plain) → AllSpellable args → IfVariables (rest_filled rest args)
rest_spellable None [] fine = tt
rest_spellable None (arg ∷ args) fine = tt
rest_spellable (Some name) args fine = (list_made kd.any (plains args) (as_plains args fine), tt)

all_by : (reg : List Entity) (p : Field) (ps : List Field) (rest : Option (List ℕ)) (arg : Plain) (args : List Plain) (x : Option Variable) (xs : Option (List Variable))
    → filled reg p arg ≡ x → all_filled reg ps rest args ≡ xs → IfVariable x → IfVariables xs → IfVariables (all_filled reg (p ∷ ps) rest (arg ∷ args))
unfolding all_filled
all_by reg p ps rest arg args None xs is are here behind = rw is tt
all_by reg p ps rest arg args (Some x) None is are here behind = rw (is, are) tt
all_by reg p ps rest arg args (Some x) (Some xs) is are here behind = rw (is, are) (here, behind)

all_filled_spellable : (reg : List Entity) (ps : List Field) (rest : Option (List ℕ)) (args : List Plain) → AllSpellable args → IfVariables (all_filled reg ps rest args)
unfolding all_filled
all_filled_spellable reg [] rest args fine = rest_spellable rest args fine
all_filled_spellable reg (p ∷ ps) rest [] fine = tt
all_filled_spellable reg (p ∷ ps) rest (arg ∷ args) fine =
    all_by reg p ps rest arg args (filled reg p arg) (all_filled reg ps rest args) refl refl (filled_by reg p arg p.kind refl fine.0) (all_filled_spellable reg ps rest args fine.1)

or_spellable : (a b : Option (List Variable)) → IfVariables a → IfVariables b → IfVariables (option_or a b)
or_spellable None b here rest = rest
or_spellable (Some xs) b here rest = here

first_spellable : (reg : List Entity) (cs : List Constructor) (args : List Plain) → AllSpellable args → IfVariables (first_filled reg cs args)
unfolding first_filled
first_spellable reg [] args fine = tt
first_spellable reg (c ∷ cs) args fine =
    or_spellable (all_filled reg c.params c.rest args) (first_filled reg cs args) (all_filled_spellable reg c.params c.rest args fine) (first_spellable reg cs args fine)

module _ (reg : List Entity) (items : AreSmallItems reg) where
  field_by : (xs : List Variable) (fd : Field) (o : Option Variable) → find (λ x. bytes_eq fd.name x.name) xs ≡ o → VariablesSpellable xs → IsSpellable (field_value reg xs fd)
  field_by xs fd None is fine = rw is (default_spellable reg items fd.kind)
  field_by xs fd (Some x) is fine = rw is (found_one (λ (y : Variable). IsSpellable y.value) (λ x. bytes_eq fd.name x.name) xs fine x is)

  fields_spellable : (xs : List Variable) (fs : List Field) → VariablesSpellable xs → AllSpellable (fields_with reg xs fs)
  unfolding fields_with
  fields_spellable xs [] fine = tt
  fields_spellable xs (fd ∷ fs) fine = (field_by xs fd (find (λ x. bytes_eq fd.name x.name) xs) refl fine, fields_spellable xs fs fine)

  service_by : (plan : Plan) (o : Offer) (args : List Plain) (xs : Option (List Variable)) → first_filled reg (constructors_of (find_entity o.name reg)) args ≡ xs → IfVariables xs
      → CreatedSpellable (of_service reg plan o args)
  service_by plan o args None is fine = rw is tt
  service_by plan o args (Some xs) is fine = rw is (fields_spellable xs (fields_of_behaviour (slice_get plan.behaviours o.behaviour)) fine)

  singleton_spellable : (place : ℕ) (args : List Plain) → CreatedSpellable (of_singleton place args)
  singleton_spellable place [] = tt
  singleton_spellable place (arg ∷ args) = tt

  among_by : (b : Bool) (place : ℕ) (args : List Plain) (why : Refusal) → CreatedSpellable (if b then of_singleton place args else Err why)
  among_by true place args why = singleton_spellable place args
  among_by false place args why = tt

  created_by : (plan : Plan) (name : List ℕ) (args : List Plain) (o : Option Offer) → find (has_name name) plan.services ≡ o → AllSpellable args → CreatedSpellable (created plan reg name args)
  unfolding created
  created_by plan name args None is fine =
      rw is (among_by (list_any (has_name name) plan.singletons) (position_or_len (has_name name) plan.singletons) args UnknownService)
  created_by plan name args (Some o) is fine =
      rw is (service_by plan o args (first_filled reg (constructors_of (find_entity o.name reg)) args) refl (first_spellable reg (constructors_of (find_entity o.name reg)) args fine))

  pub created_spellable : (plan : Plan) (name : List ℕ) (args : List Plain) → AllSpellable args → CreatedSpellable (created plan reg name args)
  created_spellable plan name args fine = created_by plan name args (find (has_name name) plan.services) refl fine

refusal_utf8 : (why : Refusal) (name : List ℕ) → IsUtf8 name → IsUtf8 (refusal_message why name)
unfolding refusal_message
refusal_utf8 UnknownService name fine = IsUtf8-append (codes "unknown service ") name (utf8_of_ascii (codes "unknown service ") refl) fine
refusal_utf8 BadArguments name fine = IsUtf8-append (codes "bad arguments ") name (utf8_of_ascii (codes "bad arguments ") refl) fine

pub refusal_spellable : (why : Refusal) (name : List ℕ) → IsUtf8 name → IsSpellable (refusal_exception why name)
refusal_spellable why name fine = message_spellable _ (refusal_message why name) (refusal_utf8 why name fine)
