-- An exception that reaches a root left the frame of the root's own call, whose function may raise it.
use Rattle.std.proofs.Common.{◌≡◌, refl, sym, ◌∙◌, subst, ℕ, Bool, true, false, ◌==◌, List, [], ◌∷◌, map, Option, None, Some, Result, Ok, Err, slice_get, if◌then◌else◌}
use Rattle.std.proofs.lemmas.Bool.{eqb-false}
use Rattle.std.specs.Prelude.{IsTrue}
use Rattle.std.specs.Option.{option_map}
use Rattle.std.specs.Str.{bytes_eq}
use Rattle.message_model.specs.Calls.{numbered, out_kinds, may_raise}
use Rattle.message_model.specs.Messages.{Answer, returned, raised, request}
use Rattle.message_model.specs.Sayable.{message_weight}
use Rattle.plan_model.specs.Asking.{Effect, lets, sets, sets_field, drops, skips, calls, queries, makes, disposes, creates, returns, raises, Running, ending, ends_with, fails, on_value, out_values, returns_value}
use Rattle.plan_model.specs.Calling.{given_values, number_in, object_of, is_full, sent, calls_object, calls_target, call_effect, queries_target, query_effect}
use Rattle.plan_model.specs.Effects.{return_effect, default_effect, let_effect, set_effect, set_field_effect, when_effect, raise_effect, statement_effect, place_effect, text_of, elements_of, given, manager_effect, method_effect, method_for, methods_of, body_effect, running, function_effect, effect}
use Rattle.plan_model.specs.Evaluation.{value_of_word, evaluated, compares, is_heavy, is_deep}
use Rattle.plan_model.specs.Expressions.{Expression}
use Rattle.plan_model.specs.Frames.{Body, Outgoing, Frame, base, body, outgoing, Job}
use Rattle.plan_model.specs.Leaving.{caused, leaving, leaving_frame, MayLeave}
use Rattle.plan_model.specs.Plans.{Plan, Method, manager}
use Rattle.plan_model.specs.Services.{Created, fresh, singleton, created, refusal_exception, service_names}
use Rattle.plan_model.specs.Statements.{Call, Query, Statement, let_variable, set_variable, set_field, call, query, make, drop_variable, when, return, raise, dispose}
use Rattle.plan_model.specs.declared.refusal.Refusal.{Refusal}
use Rattle.plan_model.specs.declared.runtime_cause.RuntimeCause.{RuntimeCause}
use Rattle.plan_model.specs.declared.runtime_cause.RuntimeCause.TheVariants.{Null, Range, Depth, TooLarge, TooDeep}
use Rattle.plan_model.proofs.LeavingLaws.{leaving_may}
use Rattle.uno_model.specs.BuiltIn.{create_instance, create_with_arguments, available_names, exception_name}
use Rattle.uno_model.specs.Defaults.{default_of_kind}
use Rattle.uno_model.specs.Entities.{Entity}
use Rattle.uno_model.specs.Functions.{Function}
use Rattle.uno_model.specs.Kinds.{Kind}
use Rattle.uno_model.specs.Kinds as kd
use Rattle.uno_model.specs.Values.{Ref, null, own, peer, Plain, plains, depth_in}
use Rattle.uno_model.specs.Values as v
use Rattle.bridge_model.specs.Applying.{effect_at, job_of}
use Rattle.bridge_model.specs.Settings.{Setting}
use Rattle.bridge_model.specs.Sides.{Tables}
use Rattle.bridge_laws.specs.Outcomes.{for_root, for_peer, handed_down, frame_ended, creation, query_fate, fate_of}
use Rattle.bridge_laws.specs.Raising.{call_of, MayRaise, CallMayRaise, MayAnswer}

-- ---- effects

-- an effect that ends a frame with an exception ends it with one that the function may raise
abbrev Leaves : List Entity → Function → Effect → Type 0
Leaves reg f (raises k x) = IsTrue (may_raise reg f k)
Leaves reg f e = Unit

ending_leaves : (reg : List Entity) (f : Function) (a : Answer) → MayLeave reg f a → Leaves reg f (ending a)
ending_leaves reg f (returned x outs) may = tt
ending_leaves reg f (raised k x) may = may

either : (reg : List Entity) (f : Function) (b : Bool) (e h : Effect) → Leaves reg f e → Leaves reg f h → Leaves reg f (if b then e else h)
either reg f true e h one other = one
either reg f false e h one other = other

module _ (reg : List Entity) (r : Running) where
  ends : (a : Answer) → Leaves reg r.function (ends_with reg r a)
  ends a = ending_leaves reg r.function (leaving reg r.tid r.face r.number r.function a) (leaving_may reg r.tid r.face r.number r.function a)

  on : (o : Result Plain RuntimeCause) (go : Plain → Effect) → ((x : Plain) → Leaves reg r.function (go x)) → Leaves reg r.function (on_value reg r o go)
  on (Ok x) go goes = goes x
  on (Err why) go goes = ends (caused why)

  sends : (oid face : List ℕ) (number : ℕ) (args : List Plain) (e : Effect) → Leaves reg r.function e → Leaves reg r.function (sent reg r oid face number args e)
  sends oid face number args e leaves =
      let heavy = is_heavy (message_weight (request r.tid oid face number args)) in
      let deep = is_deep (depth_in (plains args)) in
      either reg r.function (is_full r.depth) (fails reg r Depth) (if heavy then fails reg r TooLarge else (if deep then fails reg r TooDeep else e)) (ends (caused Depth))
      (either reg r.function heavy (fails reg r TooLarge) (if deep then fails reg r TooDeep else e) (ends (caused TooLarge))
      (either reg r.function deep (fails reg r TooDeep) e (ends (caused TooDeep)) leaves))

  calls_one : (c : Call) (target : Ref) (oid face : List ℕ) (o : Option (List Plain)) → Leaves reg r.function (calls_object reg r c target oid face o)
  calls_one c target oid face None = ends (caused Range)
  calls_one c target oid face (Some args) = sends oid face (number_in reg face c.callee) args (calls target (number_in reg face c.callee) args (option_map (λ f. f.name) c.to)) tt

  calls_on : (c : Call) (target : Ref) → Leaves reg r.function (calls_target reg r c target)
  calls_on c null = ends (caused Null)
  calls_on c (own oid face) = calls_one c (own oid face) oid face (given_values r.scene c.arguments)
  calls_on c (peer oid face) = calls_one c (peer oid face) oid face (given_values r.scene c.arguments)

  queries_on : (q : Query) (target : Ref) → Leaves reg r.function (queries_target reg r q target)
  queries_on q null = ends (caused Null)
  queries_on q (own oid face) = sends oid face 0 (v.kind (kd.interface q.wanted) ∷ []) (queries (own oid face) q.wanted q.to) tt
  queries_on q (peer oid face) = sends oid face 0 (v.kind (kd.interface q.wanted) ∷ []) (queries (peer oid face) q.wanted q.to) tt

  returns_one : (o : Option Expression) → Leaves reg r.function (return_effect reg r o)
  unfolding return_effect
  returns_one None = ends (returned v.void (out_values r.function.params r.scene.variables))
  returns_one (Some a) = on (evaluated r.scene a) (returns_value reg r) (λ x. ends (returned x (out_values r.function.params r.scene.variables)))

  states : (s : Statement) → Leaves reg r.function (statement_effect reg r s)
  unfolding statement_effect let_effect set_effect set_field_effect when_effect raise_effect call_effect query_effect
  states (let_variable f a) = on (evaluated r.scene a) (λ x. lets (record { name = f.name; value = x })) (λ x. tt)
  states (set_variable name a) = on (evaluated r.scene a) (λ x. sets (record { name = name; value = x })) (λ x. tt)
  states (set_field name a) = on (evaluated r.scene a) (λ x. sets_field (record { name = name; value = x })) (λ x. tt)
  states (call c) = calls_on c (object_of (value_of_word r.scene c.target))
  states (query q) = queries_on q (object_of (value_of_word r.scene q.target))
  states (make m) = tt
  states (drop_variable name) = tt
  states (when t back) =
      on (evaluated r.scene t.right) (λ x. if compares t.comparison (value_of_word r.scene t.left) x then return_effect reg r back else skips)
      (λ x. either reg r.function (compares t.comparison (value_of_word r.scene t.left) x) (return_effect reg r back) skips (returns_one back) tt)
  states (return back) = returns_one back
  states (raise name a) = on (evaluated r.scene a) (λ x. ends_with reg r (raised (kd.exception name) x)) (λ x. ends (raised (kd.exception name) x))
  states dispose = tt

  places : (o : Option Statement) → Leaves reg r.function (place_effect reg r o)
  places None = returns_one None
  places (Some s) = states s

  defaults : Leaves reg r.function (default_effect reg r)
  unfolding default_effect
  defaults = ends (returned (default_of_kind reg r.function.result_kind) (map (default_of_kind reg) (out_kinds r.function)))

  manages : (plan : Plan) → Leaves reg r.function (manager_effect reg plan r)
  unfolding manager_effect
  manages plan =
      let one = creates (text_of (given 0 r.scene)) [] in
      let more = creates (text_of (given 0 r.scene)) (elements_of (given 1 r.scene)) in
      let names = returns_value reg r (v.list kd.str (plains (map v.str (service_names reg plan)))) in
      let last = if bytes_eq r.function.name available_names.name then names else default_effect reg r in
      either reg r.function (bytes_eq r.function.name create_instance.name) one (if bytes_eq r.function.name create_with_arguments.name then more else last) tt
      (either reg r.function (bytes_eq r.function.name create_with_arguments.name) more last tt
      (either reg r.function (bytes_eq r.function.name available_names.name) names (default_effect reg r)
      (ends (returned (v.list kd.str (plains (map v.str (service_names reg plan)))) (out_values r.function.params r.scene.variables))) defaults))

  method : (place : ℕ) (o : Option Method) → Leaves reg r.function (method_effect reg r place o)
  method place None = defaults
  method place (Some m) = places (slice_get m.body place)

  runs_on : (plan : Plan) (behaviour place : ℕ) → Leaves reg r.function (body_effect reg plan behaviour place r)
  unfolding body_effect
  runs_on plan behaviour place =
      either reg r.function (behaviour == manager) (manager_effect reg plan r) (method_effect reg r place (method_for r.function (methods_of (slice_get plan.behaviours behaviour)))) (manages plan) (method place (method_for r.function (methods_of (slice_get plan.behaviours behaviour))))

-- the frame of an effect may end so
abbrev FrameLeaves : List Entity → Body → Effect → Type 0
FrameLeaves reg b (raises k x) = MayRaise reg b.face b.function k
FrameLeaves reg b e = Unit

same_function : (f h : Function) → Some f ≡ Some h → f ≡ h
same_function f h is = cc

of_function : (reg : List Entity) (b : Body) (f : Function) (e : Effect) → numbered reg b.face b.function ≡ Some f → Leaves reg f e → FrameLeaves reg b e
of_function reg b f (raises k x) found leaves = λ h is. subst (λ z. IsTrue (may_raise reg z k)) (same_function f h (sym found ∙ is)) leaves
of_function reg b f (lets x) found leaves = tt
of_function reg b f (sets x) found leaves = tt
of_function reg b f (sets_field x) found leaves = tt
of_function reg b f (drops name) found leaves = tt
of_function reg b f skips found leaves = tt
of_function reg b f (calls target number args to) found leaves = tt
of_function reg b f (queries target wanted to) found leaves = tt
of_function reg b f (makes behaviour face to) found leaves = tt
of_function reg b f disposes found leaves = tt
of_function reg b f (creates name args) found leaves = tt
of_function reg b f (returns x outs) found leaves = tt

function_leaves : (reg : List Entity) (plan : Plan) (job : Job) (b : Body) (o : Option Function) → numbered reg b.face b.function ≡ o → FrameLeaves reg b (function_effect reg plan job b o)
function_leaves reg plan job b None found = tt
function_leaves reg plan job b (Some f) found = of_function reg b f (body_effect reg plan job.behaviour b.place (running job b f)) found (runs_on reg (running job b f) plan job.behaviour b.place)

effect_leaves : (g : Setting) (tid : List ℕ) (b : Body) (fs : List Frame) (t : Tables) → FrameLeaves g.registry b (effect_at g tid b fs t)
unfolding effect job_of
effect_leaves g tid b fs t = function_leaves g.registry g.plan (job_of g tid b fs t) b (numbered g.registry b.face b.function) refl

-- ---- frames that end

leaving_is : (reg : List Entity) (tid : List ℕ) (b : Body) (f : Function) (a : Answer) → numbered reg b.face b.function ≡ Some f → leaving_frame reg tid b a ≡ leaving reg tid b.face b.function f a
unfolding leaving_frame
leaving_is reg tid b f a found = rw found refl

answers_by : (reg : List Entity) (face : List ℕ) (number : ℕ) (a : Answer) → ((f : Function) → numbered reg face number ≡ Some f → MayLeave reg f a) → MayAnswer reg face number a
answers_by reg face number (returned x outs) may = tt
answers_by reg face number (raised k x) may = may

pub frame_answers : (reg : List Entity) (tid : List ℕ) (b : Body) (a : Answer) → MayAnswer reg b.face b.function (leaving_frame reg tid b a)
frame_answers reg tid b a =
    answers_by reg b.face b.function (leaving_frame reg tid b a)
    (λ f found. subst (MayLeave reg f) (sym (leaving_is reg tid b f a found)) (leaving_may reg tid b.face b.function f a))

-- a frame may have this answer of the one above it, or of itself
abbrev EndsWell : List Entity → Frame → Answer → Type 0
EndsWell reg (base root) a = ⊥
EndsWell reg (body b) a = MayAnswer reg b.face b.function a
EndsWell reg (outgoing o) a = MayAnswer reg o.face o.function a

same_answer : (n root : ℕ) (a b : Answer) → for_root n a ≡ for_root root b → (n ≡ root) × (a ≡ b)
same_answer n root a b is = (cc, cc)

on_root : (reg : List Entity) (f : Frame) (o : Option Frame) (n root : ℕ) (k : Kind) (b : Bool) → (n == root) ≡ b → n ≡ root → CallMayRaise reg (Some f) k → CallMayRaise reg (if b then Some f else o) k
on_root reg f o n root k true is same may = may
on_root reg f o n root k false is same may = absurd (eqb-false n root is same)

raised_well : (reg : List Entity) (f : Frame) (a : Answer) (k : Kind) (x : Plain) → a ≡ raised k x → EndsWell reg f a → CallMayRaise reg (Some f) k
raised_well reg (base root) a k x is well = well
raised_well reg (body b) a k x is well = subst (MayAnswer reg b.face b.function) is well
raised_well reg (outgoing o) a k x is well = subst (MayAnswer reg o.face o.function) is well

by_method : (reg : List Entity) (tid : List ℕ) (b : Body) (fs : List Frame) (root : ℕ) (c d : Answer) (Goal : Type 0) (p : Bool) → (if p then for_peer b fs c else handed_down reg tid c fs) ≡ for_root root d
    → (handed_down reg tid c fs ≡ for_root root d → Goal) → Goal
by_method reg tid b fs root c d Goal true is more = absurd (cc)
by_method reg tid b fs root c d Goal false is more = more is

-- what is handed to a root through these frames left the frame that stands on it
handed : (reg : List Entity) (tid : List ℕ) (a : Answer) (f : Frame) (fs : List Frame) (root : ℕ) (k : Kind) (x : Plain) → handed_down reg tid a fs ≡ for_root root (raised k x) → EndsWell reg f a
    → CallMayRaise reg (call_of root (f ∷ fs)) k
unfolding handed_down call_of
handed reg tid a f [] root k x is well = absurd (cc)
handed reg tid a f (base n ∷ fs) root k x is well =
    let same = same_answer n root a (raised k x) is in on_root reg f (call_of root (base n ∷ fs)) n root k (n == root) refl same.0 (raised_well reg f a k x same.1 well)
handed reg tid a f (outgoing o ∷ fs) root k x is well = absurd (cc)
handed reg tid (returned y outs) f (body b ∷ fs) root k x is well = absurd (cc)
handed reg tid (raised j y) f (body b ∷ fs) root k x is well =
    by_method reg tid b fs root (leaving_frame reg tid b (raised j y)) (raised k x) (CallMayRaise reg (call_of root (body b ∷ fs)) k) b.from_peer is
    (λ on. handed reg tid (leaving_frame reg tid b (raised j y)) (body b) fs root k x on (frame_answers reg tid b (raised j y)))

ended : (reg : List Entity) (tid : List ℕ) (b : Body) (a : Answer) (fs : List Frame) (root : ℕ) (k : Kind) (x : Plain) → frame_ended reg tid b a fs ≡ for_root root (raised k x) → MayAnswer reg b.face b.function a
    → CallMayRaise reg (call_of root (body b ∷ fs)) k
ended reg tid b a fs root k x is may =
    by_method reg tid b fs root a (raised k x) (CallMayRaise reg (call_of root (body b ∷ fs)) k) b.from_peer is (λ on. handed reg tid a (body b) fs root k x on may)

created_well : (g : Setting) (tid : List ℕ) (b : Body) (name : List ℕ) (c : Result Created Refusal) (t : Tables) → MayAnswer g.registry b.face b.function (creation g tid b name c t)
unfolding creation
created_well g tid b name (Ok (fresh behaviour fields)) t = tt
created_well g tid b name (Ok (singleton place)) t = tt
created_well g tid b name (Err why) t = frame_answers g.registry tid b (raised (kd.exception exception_name) (refusal_exception why name))

-- ---- statements

queried_well : (g : Setting) (tid : List ℕ) (target : Ref) (wanted : List ℕ) (b : Body) (fs : List Frame) (t : Tables) (root : ℕ) (k : Kind) (x : Plain)
    → query_fate g tid target wanted b fs t ≡ for_root root (raised k x) → CallMayRaise g.registry (call_of root (body b ∷ fs)) k
unfolding handed_down
queried_well g tid null wanted b fs t root k x is = absurd (cc)
queried_well g tid (own oid face) wanted b fs t root k x is = absurd (cc)
queried_well g tid (peer oid face) wanted b fs t root k x is = absurd (cc)

by_effect : (g : Setting) (tid : List ℕ) (b : Body) (fs : List Frame) (e : Effect) (t : Tables) (root : ℕ) (k : Kind) (x : Plain) → FrameLeaves g.registry b e → fate_of g tid b fs e t ≡ for_root root (raised k x)
    → CallMayRaise g.registry (call_of root (body b ∷ fs)) k
unfolding fate_of
by_effect g tid b fs (lets y) t root k x leaves is = absurd (cc)
by_effect g tid b fs (sets y) t root k x leaves is = absurd (cc)
by_effect g tid b fs (sets_field y) t root k x leaves is = absurd (cc)
by_effect g tid b fs (drops name) t root k x leaves is = absurd (cc)
by_effect g tid b fs skips t root k x leaves is = absurd (cc)
by_effect g tid b fs (calls target number args to) t root k x leaves is = absurd (cc)
by_effect g tid b fs (queries target wanted to) t root k x leaves is = queried_well g tid target wanted b fs t root k x is
by_effect g tid b fs (makes behaviour face to) t root k x leaves is = absurd (cc)
by_effect g tid b fs disposes t root k x leaves is = absurd (cc)
by_effect g tid b fs (creates name args) t root k x leaves is =
    ended g.registry tid b (creation g tid b name (created g.plan g.registry name args) t) fs root k x is (created_well g tid b name (created g.plan g.registry name args) t)
by_effect g tid b fs (returns y outs) t root k x leaves is = ended g.registry tid b (returned y outs) fs root k x is tt
by_effect g tid b fs (raises j y) t root k x leaves is = ended g.registry tid b (raised j y) fs root k x is leaves

pub statement_raises : (g : Setting) (tid : List ℕ) (b : Body) (fs : List Frame) (t : Tables) (root : ℕ) (k : Kind) (x : Plain) → fate_of g tid b fs (effect_at g tid b fs t) t ≡ for_root root (raised k x)
    → CallMayRaise g.registry (call_of root (body b ∷ fs)) k
statement_raises g tid b fs t root k x is = by_effect g tid b fs (effect_at g tid b fs t) t root k x (effect_leaves g tid b fs t) is

pub reply_raises : (reg : List Entity) (tid : List ℕ) (a : Answer) (o : Outgoing) (fs : List Frame) (root : ℕ) (k : Kind) (x : Plain) → MayAnswer reg o.face o.function a → handed_down reg tid a fs ≡ for_root root (raised k x)
    → CallMayRaise reg (call_of root (outgoing o ∷ fs)) k
reply_raises reg tid a o fs root k x may is = handed reg tid a (outgoing o) fs root k x is may
