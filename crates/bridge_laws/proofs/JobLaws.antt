-- The references in the effect of a job are those of its frame, of its object, or of the plan's constants.
use Rattle.std.proofs.Common.{◌≡◌, ℕ, ◌≤◌, Bool, true, false, ◌&&◌, ◌==◌, if◌then◌else◌, List, [], ◌∷◌, map, flat_map, Option, None, Some, option_map, slice_get, unwrap_or, refl, arith}
use Rattle.std.specs.Str.{bytes_eq}
use Rattle.message_model.specs.Calls.{numbered}
use Rattle.uno_model.specs.BuiltIn.{create_instance, create_with_arguments, available_names}
use Rattle.uno_model.specs.Entities.{Entity}
use Rattle.uno_model.specs.Functions.{Function}
use Rattle.uno_model.specs.Kinds.{Kind}
use Rattle.uno_model.specs.Kinds as kd
use Rattle.uno_model.specs.Values.{Ref, own, Plain, Plains, refs, refs_in, object_in, plains}
use Rattle.uno_model.specs.Values as v
use Rattle.plan_model.specs.Asking.{Effect, creates, Running, returns_value}
use Rattle.plan_model.specs.Effects.{place_effect, text_of, elements_of, given, default_effect, manager_effect, method_for, methods_of, method_effect, body_effect, running, function_effect, effect}
use Rattle.plan_model.specs.Frames.{Variable, Body, body, Job}
use Rattle.plan_model.specs.Holdings.{refs_under}
use Rattle.plan_model.specs.Plans.{Plan, Behaviour, Method, manager}
use Rattle.plan_model.specs.Services.{service_names}
use Rattle.plan_model.specs.Statements.{Statement}
use Rattle.bridge_model.specs.References.{refs_of_values}
use Rattle.bridge_laws.specs.Counting.{total}
use Rattle.bridge_laws.specs.Living.{statement_constants, plan_constants}
use Rattle.bridge_laws.proofs.EffectLaws.{effect_counts, plains_count, values_in_count, void_counts, returns_value_counts, return_counts, default_counts, statement_counts}
use Rattle.bridge_laws.proofs.EvaluationLaws.{scene_counts}
use Rattle.bridge_laws.proofs.Sums.{total_flat_map, got_at_most, found_at_most}
use Rattle.bridge_laws.proofs.VariableLaws.{values_more, values_none}

-- ---- methods

-- what the constants of a method count
abbrev pub method_constants : (Ref → ℕ) → Method → ℕ
method_constants f m = total f (flat_map statement_constants m.body)

abbrev pub behaviour_constants : (Ref → ℕ) → Behaviour → ℕ
behaviour_constants f b = total f (flat_map (λ m. flat_map statement_constants m.body) b.methods)

place_counts : (f : Ref → ℕ) (reg : List Entity) (r : Running) (m : Method) (place : ℕ) (s : Option Statement) → slice_get m.body place ≡ s → scene_counts f r.scene ≡ 0
    → method_constants f m ≡ 0 → effect_counts f (place_effect reg r s) ≡ 0
unfolding total
place_counts f reg r m place None is scene constants = return_counts f reg r None scene refl
place_counts f reg r m place (Some s) is scene constants =
    let all = total_flat_map f statement_constants m.body in
    let one = got_at_most (λ s. total f (statement_constants s)) m.body place s is in
    statement_counts f reg r s scene (omega arith)

method_counts : (f : Ref → ℕ) (reg : List Entity) (r : Running) (place : ℕ) (ms : List Method) (m : Option Method) → method_for r.function ms ≡ m → scene_counts f r.scene ≡ 0
    → total f (flat_map (λ m. flat_map statement_constants m.body) ms) ≡ 0 → effect_counts f (method_effect reg r place m) ≡ 0
method_counts f reg r place ms None is scene constants = default_counts f reg r
method_counts f reg r place ms (Some m) is scene constants =
    let all = total_flat_map f (λ m. flat_map statement_constants m.body) ms in
    let one = found_at_most (method_constants f) (λ m. bytes_eq m.face r.function.owner && bytes_eq m.function r.function.name) m ms is in
    place_counts f reg r m place (slice_get m.body place) refl scene (omega arith)

methods_count : (f : Ref → ℕ) (plan : Plan) (n : ℕ) (b : Option Behaviour) → slice_get plan.behaviours n ≡ b → total f (plan_constants plan) ≡ 0
    → total f (flat_map (λ m. flat_map statement_constants m.body) (methods_of b)) ≡ 0
unfolding plan_constants total
methods_count f plan n None is constants = refl
methods_count f plan n (Some b) is constants =
    let all = total_flat_map f (λ b. flat_map (λ m. flat_map statement_constants m.body) b.methods) plan.behaviours in
    let one = got_at_most (behaviour_constants f) plan.behaviours n b is in omega arith

-- ---- the service manager

given_by : (f : Ref → ℕ) (xs : List Variable) (o : Option Variable) (n : ℕ) → slice_get xs n ≡ o
    → total f (refs (unwrap_or (option_map (λ x. x.value) o) v.void)) ≤ total f (refs_under xs)
unfolding refs_under
given_by f xs None n is = let nothing = void_counts f in omega arith
given_by f xs (Some x) n is =
    let all = total_flat_map f (λ x. refs x.value) xs in let one = got_at_most (λ x. total f (refs x.value)) xs n x is in omega arith

elements_count : (f : Ref → ℕ) (x : Plain) → total f (refs_of_values (elements_of x)) ≤ total f (refs x)
unfolding refs
elements_count f (v.list k xs) = let same = values_in_count f xs in omega arith
elements_count f x = let nothing = values_none f in omega arith

names_count : (f : Ref → ℕ) (names : List (List ℕ)) → total f (refs_of_values (map v.str names)) ≡ 0
unfolding refs total
names_count f [] = values_none f
names_count f (n ∷ ns) = let parts = values_more f (v.str n) (map v.str ns) in let rest = names_count f ns in omega arith

pub listed_count : (f : Ref → ℕ) (k : Kind) (xs : List Plain) → total f (refs (v.list k (plains xs))) ≡ total f (refs_of_values xs)
unfolding refs
listed_count f k xs = plains_count f xs

manager_by : (f : Ref → ℕ) (a b c : Bool) (x y z w : Effect) → effect_counts f x ≡ 0 → effect_counts f y ≡ 0 → effect_counts f z ≡ 0 → effect_counts f w ≡ 0
    → effect_counts f (if a then x else (if b then y else (if c then z else w))) ≡ 0
manager_by f true b c x y z w p q r s = p
manager_by f false true c x y z w p q r s = q
manager_by f false false true x y z w p q r s = r
manager_by f false false false x y z w p q r s = s

manager_counts : (f : Ref → ℕ) (reg : List Entity) (plan : Plan) (r : Running) → scene_counts f r.scene ≡ 0 → effect_counts f (manager_effect reg plan r) ≡ 0
unfolding manager_effect
manager_counts f reg plan r scene =
    let second = given_by f r.scene.variables (slice_get r.scene.variables 1) 1 refl in
    let elements = elements_count f (given 1 r.scene) in
    let names = names_count f (service_names reg plan) in
    let listed = listed_count f kd.str (map v.str (service_names reg plan)) in
    manager_by f (bytes_eq r.function.name create_instance.name) (bytes_eq r.function.name create_with_arguments.name) (bytes_eq r.function.name available_names.name)
    (creates (text_of (given 0 r.scene)) [])
    (creates (text_of (given 0 r.scene)) (elements_of (given 1 r.scene)))
    (returns_value reg r (v.list kd.str (plains (map v.str (service_names reg plan)))))
    (default_effect reg r)
    (values_none f)
    (omega arith)
    (returns_value_counts f reg r (v.list kd.str (plains (map v.str (service_names reg plan)))) scene (omega arith))
    (default_counts f reg r)

-- ---- the effect of a job

body_by : (f : Ref → ℕ) (b : Bool) (x y : Effect) → effect_counts f x ≡ 0 → effect_counts f y ≡ 0 → effect_counts f (if b then x else y) ≡ 0
body_by f true x y p q = p
body_by f false x y p q = q

pub body_counts : (f : Ref → ℕ) (reg : List Entity) (plan : Plan) (behaviour place : ℕ) (r : Running) → scene_counts f r.scene ≡ 0 → total f (plan_constants plan) ≡ 0
    → effect_counts f (body_effect reg plan behaviour place r) ≡ 0
unfolding body_effect
body_counts f reg plan behaviour place r scene constants =
    body_by f (behaviour == manager) (manager_effect reg plan r)
    (method_effect reg r place (method_for r.function (methods_of (slice_get plan.behaviours behaviour))))
    (manager_counts f reg plan r scene)
    (method_counts f reg r place (methods_of (slice_get plan.behaviours behaviour)) (method_for r.function (methods_of (slice_get plan.behaviours behaviour))) refl scene
    (methods_count f plan behaviour (slice_get plan.behaviours behaviour) refl constants))

function_counts : (f : Ref → ℕ) (reg : List Entity) (plan : Plan) (job : Job) (b : Body) (fn : Option Function)
    → total f (refs_under b.variables) ≡ 0 → total f (refs_under job.fields) ≡ 0 → ((face : List ℕ) → f (own job.own face) ≡ 0) → total f (plan_constants plan) ≡ 0
    → effect_counts f (function_effect reg plan job b fn) ≡ 0
unfolding total
function_counts f reg plan job b None variables fields itself constants = refl
function_counts f reg plan job b (Some fn) variables fields itself constants =
    let here = itself fn.owner in body_counts f reg plan job.behaviour b.place (running job b fn) (omega arith) constants

-- what a method at the top of a thread asks refers to what its frame and its object have, to that object, and to the plan's constants
pub job_counts : (f : Ref → ℕ) (reg : List Entity) (plan : Plan) (job : Job) (b : Body) → job.frame ≡ body b
    → total f (refs_under b.variables) ≡ 0 → total f (refs_under job.fields) ≡ 0 → ((face : List ℕ) → f (own job.own face) ≡ 0) → total f (plan_constants plan) ≡ 0
    → effect_counts f (effect plan reg job) ≡ 0
unfolding effect
job_counts f reg plan job b is variables fields itself constants =
    rw is (function_counts f reg plan job b (numbered reg b.face b.function) variables fields itself constants)
