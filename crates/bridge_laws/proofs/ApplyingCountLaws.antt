-- What references count in frames and objects stays nothing: when methods begin, and behind each effect whose own references count nothing.
use Rattle.std.proofs.Common.{◌≡◌, ℕ, suc, ◌+◌, ◌≤◌, Bool, true, false, ◌==◌, if◌then◌else◌, List, [], ◌∷◌, ◌++◌, map, Option, None, Some, Result, Ok, Err, refl, ap, ◌∙◌, arith}
use Rattle.message_model.specs.Calls.{numbered}
use Rattle.message_model.specs.Messages.{returned, raised}
use Rattle.uno_model.specs.BuiltIn.{exception_name, x_interface_name}
use Rattle.uno_model.specs.Defaults.{default_of_kind}
use Rattle.uno_model.specs.Entities.{Field}
use Rattle.uno_model.specs.Kinds.{Kind}
use Rattle.uno_model.specs.Kinds as kd
use Rattle.uno_model.specs.Values.{Ref, null, own, peer, Plain, refs}
use Rattle.uno_model.specs.Values as v
use Rattle.uno_model.proofs.DefaultLaws.{default_holds_none}
use Rattle.table_model.specs.declared.holder.Holder.TheVariants as holder
use Rattle.plan_model.specs.Asking.{Effect, lets, sets, sets_field, drops, skips, calls, queries, makes, disposes, creates, returns, raises}
use Rattle.plan_model.specs.Frames.{Variable, Body, Frame, body}
use Rattle.plan_model.specs.Holdings.{put, variables_after, fields_after, held_by, let_go_by, with_variable, goes_on, refs_under, query_answer, no_object}
use Rattle.plan_model.specs.Leaving.{leaving_frame}
use Rattle.plan_model.specs.Plans.{singleton_object, supports}
use Rattle.plan_model.specs.Services.{Created, fresh, singleton, created, refusal_exception}
use Rattle.plan_model.specs.declared.refusal.Refusal.{Refusal}
use Rattle.bridge_model.specs.Applying.{with_fields_after, changes_own, goes_on_after, applies_call, answers_query, applies_query, applies_making, applies_creating, applies}
use Rattle.bridge_model.specs.Calls.{params_of, first_body, calls_own, serves, calls_peer, query_args}
use Rattle.bridge_model.specs.Handing.{gains_below}
use Rattle.bridge_model.specs.Objects.{object_numbered, variables_of, object_answer, faces_at, object_named, makes_object, makes_default, defaults_of, makes_all, field_values, with_fields, fields_of}
use Rattle.bridge_model.specs.References.{says, gains_all, takes_all, lets_go_all, refs_of_values, refs_of_answer}
use Rattle.bridge_model.specs.Settings.{Setting, own_oid}
use Rattle.bridge_model.specs.Sides.{Object, Tables}
use Rattle.bridge_laws.specs.Counting.{total}
use Rattle.bridge_laws.proofs.CreatedLaws.{created_counts, created_refs}
use Rattle.bridge_laws.proofs.EffectLaws.{effect_counts, leaving_frame_counts}
use Rattle.bridge_laws.proofs.FrameCountLaws.{frames_count, fields_count, objects_count, IsFree, body_counts, outgoing_counts, goes_on_counts, takes_all_objects, lets_go_all_objects, gains_below_objects, same_count, hands_free, ends_frame_free}
use Rattle.bridge_laws.proofs.HandingLaws.{returned_owes}
use Rattle.bridge_laws.proofs.ObjectLaws.{fields_in, variables_owe}
use Rattle.bridge_laws.proofs.OccurrenceLaws.{gains_all_objects}
use Rattle.bridge_laws.proofs.Sums.{total_push, total_found}
use Rattle.bridge_laws.proofs.VariableLaws.{values_more, values_none, put_owes, without_owes, with_variable_owes, first_variables_owe, field_values_owe}

-- ---- methods that begin

first_body_counts : (f : Ref → ℕ) (g : Setting) (from_peer : Bool) (oid face : List ℕ) (function : ℕ) (args : List Plain) (fs : List Frame) (t : Tables)
    → frames_count f (body (first_body g from_peer oid face function args t) ∷ fs) ≤ total f (refs_of_values args) + frames_count f fs
first_body_counts f g from_peer oid face function args fs t =
    let all = body_counts f (first_body g from_peer oid face function args t) fs in
    let first = first_variables_owe f g.registry (params_of (numbered g.registry face function)) args in omega arith

pub calls_own_free : (f : Ref → ℕ) (g : Setting) (oid face : List ℕ) (function : ℕ) (args : List Plain) (fs : List Frame) (t : Tables)
    → frames_count f fs + total f (refs_of_values args) + objects_count f t.objects ≡ 0 → IsFree f (calls_own g oid face function args fs t)
unfolding calls_own
calls_own_free f g oid face function args fs t free =
    let first = first_body_counts f g false oid face function args fs t in
    same_count f (frames_count f (body (first_body g false oid face function args t) ∷ fs)) (gains_all (holder.Frame t.frames_made) (refs_of_values args) t) t
    (gains_all_objects (holder.Frame t.frames_made) (refs_of_values args) t) (omega arith)

pub serves_free : (f : Ref → ℕ) (g : Setting) (oid face : List ℕ) (function : ℕ) (args : List Plain) (fs : List Frame) (t : Tables)
    → frames_count f fs + total f (refs_of_values args) + objects_count f t.objects ≡ 0 → IsFree f (serves g oid face function args fs t)
unfolding serves
serves_free f g oid face function args fs t free =
    let first = first_body_counts f g true oid face function args fs t in
    same_count f (frames_count f (body (first_body g true oid face function args t) ∷ fs)) (takes_all g (holder.Frame t.frames_made) (refs_of_values args) t) t
    (takes_all_objects g (holder.Frame t.frames_made) (refs_of_values args) t) (omega arith)

pub calls_peer_free : (f : Ref → ℕ) (g : Setting) (tid oid face : List ℕ) (function : ℕ) (args : List Plain) (fs : List Frame) (t : Tables)
    → frames_count f fs + objects_count f t.objects ≡ 0 → IsFree f (calls_peer g tid oid face function args fs t)
unfolding calls_peer says
calls_peer_free f g tid oid face function args fs t free =
    let all = outgoing_counts f (record { number = t.frames_made; oid = oid; face = face; function = function }) fs in omega arith

-- ---- objects that are made

object_more : (f : Ref → ℕ) (o : Object) (os : List Object) → objects_count f (os ++ o ∷ []) ≡ objects_count f os + total f (refs_of_values o.fields)
unfolding fields_count
object_more f o os = total_push (λ o. total f (refs_of_values o.fields)) os o

pub makes_counts : (f : Ref → ℕ) (behaviour : ℕ) (fields : List Plain) (t : Tables)
    → objects_count f (makes_object behaviour fields t).objects ≡ objects_count f t.objects + total f (refs_of_values fields)
unfolding makes_object
makes_counts f behaviour fields t =
    ap (objects_count f) (gains_all_objects (holder.Object (suc t.objects_made)) (refs_of_values fields) (record t { objects = t.objects ++ record { number = suc t.objects_made; behaviour = behaviour; fields = fields } ∷ []; objects_made = suc t.objects_made }))
    ∙ object_more f (record { number = suc t.objects_made; behaviour = behaviour; fields = fields }) t.objects

-- defaults refer to nothing
defaults_by : (f : Ref → ℕ) (g : Setting) (fs : List Field) → total f (refs_of_values (map (λ x. default_of_kind g.registry x.kind) fs)) ≡ 0
unfolding total
defaults_by f g [] = values_none f
defaults_by f g (x ∷ fs) =
    let parts = values_more f (default_of_kind g.registry x.kind) (map (λ x. default_of_kind g.registry x.kind) fs) in
    let here = ap (total f) (default_holds_none g.registry x.kind) in let rest = defaults_by f g fs in omega arith

pub defaults_none : (f : Ref → ℕ) (g : Setting) (behaviour : ℕ) → total f (refs_of_values (defaults_of g behaviour)) ≡ 0
defaults_none f g behaviour = defaults_by f g (fields_of g behaviour)

pub makes_default_counts : (f : Ref → ℕ) (g : Setting) (behaviour : ℕ) (t : Tables) → objects_count f (makes_default g behaviour t).objects ≡ objects_count f t.objects
makes_default_counts f g behaviour t = let made = makes_counts f behaviour (defaults_of g behaviour) t in let nothing = defaults_none f g behaviour in omega arith

pub makes_all_counts : (f : Ref → ℕ) (g : Setting) (behaviours : List ℕ) (t : Tables) → objects_count f (makes_all g behaviours t).objects ≡ objects_count f t.objects
unfolding makes_all
makes_all_counts f g [] t = refl
makes_all_counts f g (b ∷ bs) t = makes_all_counts f g bs (makes_default g b t) ∙ makes_default_counts f g b t

-- ---- fields

-- the fields of the object that is found count no more than all
pub found_counts : (f : Ref → ℕ) (n : ℕ) (os : List Object) (o : Option Object) → object_numbered n os ≡ o → total f (refs_of_values (fields_in o)) ≤ objects_count f os
unfolding object_numbered fields_count
found_counts f n os None is = let nothing = values_none f in omega arith
found_counts f n os (Some o) is = let parts = total_found (λ o. total f (refs_of_values o.fields)) (λ o. n == o.number) o os is in omega arith

pub variables_of_counts : (f : Ref → ℕ) (g : Setting) (n : ℕ) (os : List Object) → total f (refs_under (variables_of g (object_numbered n os))) ≤ objects_count f os
variables_of_counts f g n os = let found = found_counts f n os (object_numbered n os) refl in let fields = variables_owe f g (object_numbered n os) in omega arith

with_step : (f : Ref → ℕ) (b : Bool) (fields : List Plain) (o : Object) (os new : List Object) → objects_count f new ≤ objects_count f os + total f (refs_of_values fields)
    → objects_count f (if b then record o { fields = fields } ∷ os else o ∷ new) ≤ objects_count f (o ∷ os) + total f (refs_of_values fields)
unfolding total fields_count
with_step f true fields o os new rest = omega arith
with_step f false fields o os new rest = omega arith

with_counts : (f : Ref → ℕ) (n : ℕ) (fields : List Plain) (os : List Object) → objects_count f (with_fields n fields os) ≤ objects_count f os + total f (refs_of_values fields)
unfolding with_fields
with_counts f n fields [] = omega arith
with_counts f n fields (o ∷ os) = with_step f (n == o.number) fields o os (with_fields n fields os) (with_counts f n fields os)

field_free : (f : Ref → ℕ) (g : Setting) (x : Variable) (b : Body) (fs : List Frame) (t : Tables) → frames_count f (body b ∷ fs) + total f (refs x.value) + objects_count f t.objects ≡ 0
    → IsFree f (goes_on_after g (sets_field x) b fs t)
unfolding variables_after fields_after let_go_by held_by
field_free f g x b fs t free =
    let all = body_counts f b fs in
    let after = goes_on_counts f b b.variables fs in
    let fields = variables_of g (object_numbered b.object t.objects) in
    let held = gains_all (holder.Object b.object) (refs x.value) t in
    let same = ap (objects_count f) (gains_all_objects (holder.Object b.object) (refs x.value) t) in
    let found = variables_of_counts f g b.object t.objects in
    let placed = put_owes f x.name x.value (variables_of g (object_numbered b.object t.objects)) in
    let values = field_values_owe f (put x.name x.value (variables_of g (object_numbered b.object t.objects))) in
    let more = with_counts f b.object (field_values (put x.name x.value (variables_of g (object_numbered b.object t.objects)))) (gains_all (holder.Object b.object) (refs x.value) t).objects in
    same_count f (frames_count f (body (goes_on b.variables b) ∷ fs))
    (changes_own g (sets_field x) b (variables_of g (object_numbered b.object t.objects)) t)
    (with_fields_after (sets_field x) b (variables_of g (object_numbered b.object t.objects)) (gains_all (holder.Object b.object) (refs x.value) t))
    (lets_go_all_objects g (holder.Object b.object) _ _)
    (omega arith)

-- ---- variables

after_counts : (f : Ref → ℕ) (e : Effect) (xs : List Variable) → total f (refs_under (variables_after e xs)) ≤ total f (refs_under xs) + total f (held_by e)
unfolding variables_after held_by total
after_counts f (lets x) xs = let more = with_variable_owes f x.name x.value xs in omega arith
after_counts f (sets x) xs = let placed = put_owes f x.name x.value xs in omega arith
after_counts f (drops name) xs = let rest = without_owes f name xs in omega arith
after_counts f e xs = omega arith

variable_free : (f : Ref → ℕ) (e : Effect) (b : Body) (fs : List Frame) (now os : List Object) → now ≡ os
    → frames_count f (body b ∷ fs) + total f (held_by e) + objects_count f os ≡ 0
    → frames_count f (body (goes_on (variables_after e b.variables) b) ∷ fs) + objects_count f now ≡ 0
variable_free f e b fs now os same free =
    let all = body_counts f b fs in
    let after = goes_on_counts f b (variables_after e b.variables) fs in
    let most = after_counts f e b.variables in
    let alike : objects_count f now ≡ objects_count f os = ap (objects_count f) same in omega arith

frame_objects : (g : Setting) (b : Body) (gone held : List Ref) (t : Tables)
    → (lets_go_all g (holder.Frame b.number) gone (gains_all (holder.Frame b.number) held t)).objects ≡ t.objects
frame_objects g b gone held t =
    lets_go_all_objects g (holder.Frame b.number) gone (gains_all (holder.Frame b.number) held t) ∙ gains_all_objects (holder.Frame b.number) held t

-- ---- calls and queries

applies_call_free : (f : Ref → ℕ) (g : Setting) (tid : List ℕ) (target : Ref) (function : ℕ) (args : List Plain) (fs : List Frame) (t : Tables)
    → frames_count f fs + total f (refs_of_values args) + objects_count f t.objects ≡ 0 → IsFree f (applies_call g tid target function args fs t)
applies_call_free f g tid null function args fs t free = omega arith
applies_call_free f g tid (own oid face) function args fs t free = calls_own_free f g oid face function args fs t free
applies_call_free f g tid (peer oid face) function args fs t free = calls_peer_free f g tid oid face function args fs t (omega arith)

-- what an object answers refers to itself
answer_by : (f : Ref → ℕ) (b : Bool) (oid wanted : List ℕ) → f (own oid wanted) ≡ 0 → total f (refs (if b then v.any (kd.interface wanted) (v.ref (own oid wanted)) else no_object)) ≡ 0
unfolding refs total
answer_by f true oid wanted itself = omega arith
answer_by f false oid wanted itself = refl

query_answer_counts : (f : Ref → ℕ) (g : Setting) (faces : List (List ℕ)) (oid wanted : List ℕ) → ((face : List ℕ) → f (own oid face) ≡ 0)
    → total f (refs (query_answer g.registry faces oid (kd.interface wanted))) ≡ 0
unfolding query_answer
query_answer_counts f g faces oid wanted itself = answer_by f (supports g.registry faces wanted) oid wanted (itself wanted)

pub object_answer_counts : (f : Ref → ℕ) (g : Setting) (oid wanted : List ℕ) (os : List Object) → ((face : List ℕ) → f (own oid face) ≡ 0)
    → total f (refs (object_answer g oid (kd.interface wanted) os)) ≡ 0
unfolding object_answer
object_answer_counts f g oid wanted os itself = query_answer_counts f g (faces_at g (object_named g oid os)) oid wanted itself

-- what an answer with a value alone counts
pub alone_counts : (f : Ref → ℕ) (x : Plain) → total f (refs_of_answer (returned x [])) ≡ total f (refs x)
alone_counts f x = let parts = returned_owes f x [] in let nothing = values_none f in omega arith

pub answers_query_free : (f : Ref → ℕ) (g : Setting) (tid : List ℕ) (x : Plain) (fs : List Frame) (t : Tables)
    → frames_count f fs + total f (refs x) + objects_count f t.objects ≡ 0 → IsFree f (answers_query g tid x fs t)
answers_query_free f g tid x fs t free =
    let one = alone_counts f x in
    hands_free f g tid (returned x []) fs (gains_below fs (returned x []) t)
    (same_count f (frames_count f fs + total f (refs_of_answer (returned x []))) (gains_below fs (returned x []) t) t (gains_below_objects fs (returned x []) t) (omega arith))

-- an identity under each interface counts nothing
abbrev pub IsUncounted : (Ref → ℕ) → List ℕ → Type 0
IsUncounted f oid = (face : List ℕ) → f (own oid face) ≡ 0

applies_query_free : (f : Ref → ℕ) (g : Setting) (tid : List ℕ) (target : Ref) (wanted : List ℕ) (fs : List Frame) (t : Tables)
    → ((oid face : List ℕ) → target ≡ own oid face → IsUncounted f oid)
    → frames_count f fs + objects_count f t.objects ≡ 0 → IsFree f (applies_query g tid target wanted fs t)
applies_query_free f g tid null wanted fs t known free = omega arith
applies_query_free f g tid (own oid face) wanted fs t known free =
    let answer = object_answer_counts f g oid wanted t.objects (known oid face refl) in
    answers_query_free f g tid (object_answer g oid (kd.interface wanted) t.objects) fs t (omega arith)
applies_query_free f g tid (peer oid face) wanted fs t known free = calls_peer_free f g tid oid face 0 (query_args wanted) fs t free

-- ---- new objects

pub own_counts : (f : Ref → ℕ) (oid face : List ℕ) → total f (refs (v.ref (own oid face))) ≡ f (own oid face)
unfolding refs total
own_counts f oid face = omega arith

making_free : (f : Ref → ℕ) (g : Setting) (behaviour : ℕ) (face to : List ℕ) (b : Body) (fs : List Frame) (t : Tables) → IsUncounted f (own_oid g (suc t.objects_made))
    → frames_count f (body b ∷ fs) + objects_count f t.objects ≡ 0 → IsFree f (applies_making g behaviour face to b fs t)
making_free f g behaviour face to b fs t itself free =
    let all = body_counts f b fs in
    let after = goes_on_counts f b (with_variable to (v.ref (own (own_oid g (suc t.objects_made)) face)) b.variables) fs in
    let more = with_variable_owes f to (v.ref (own (own_oid g (suc t.objects_made)) face)) b.variables in
    let one = own_counts f (own_oid g (suc t.objects_made)) face in
    let here = itself face in
    let made = makes_default_counts f g behaviour t in omega arith

-- ---- the service manager

pub refusal_counts : (f : Ref → ℕ) (k : Kind) (why : Refusal) (name : List ℕ) → total f (refs_of_answer (raised k (refusal_exception why name))) ≡ 0
unfolding refs_of_answer refs total
refusal_counts f k why name = refl

pub object_alone : (f : Ref → ℕ) (oid face : List ℕ) → total f (refs_of_answer (returned (v.ref (own oid face)) [])) ≡ f (own oid face)
object_alone f oid face = alone_counts f (v.ref (own oid face)) ∙ own_counts f oid face

creating_free : (f : Ref → ℕ) (g : Setting) (tid : List ℕ) (b : Body) (name : List ℕ) (made : Result Created Refusal) (fs : List Frame) (t : Tables)
    → ((n : ℕ) → IsUncounted f (own_oid g n)) → created_counts f made ≡ 0
    → frames_count f (body b ∷ fs) + objects_count f t.objects ≡ 0 → IsFree f (applies_creating g tid b name made fs t)
unfolding applies_creating
creating_free f g tid b name (Ok (fresh behaviour fields)) fs t itself fine free =
    let all = body_counts f b fs in
    let one = object_alone f (own_oid g (suc t.objects_made)) x_interface_name in
    let here = itself (suc t.objects_made) x_interface_name in
    let more = makes_counts f behaviour fields t in
    ends_frame_free f g tid b (returned (v.ref (own (own_oid g (suc t.objects_made)) x_interface_name)) []) fs (makes_object behaviour fields t) (omega arith)
creating_free f g tid b name (Ok (singleton place)) fs t itself fine free =
    let all = body_counts f b fs in
    let one = object_alone f (own_oid g (singleton_object g.plan place)) x_interface_name in
    let here = itself (singleton_object g.plan place) x_interface_name in
    ends_frame_free f g tid b (returned (v.ref (own (own_oid g (singleton_object g.plan place)) x_interface_name)) []) fs t (omega arith)
creating_free f g tid b name (Err why) fs t itself fine free =
    let all = body_counts f b fs in
    let left = leaving_frame_counts f g.registry tid b (raised (kd.exception exception_name) (refusal_exception why name)) in
    let nothing = refusal_counts f (kd.exception exception_name) why name in
    ends_frame_free f g tid b (leaving_frame g.registry tid b (raised (kd.exception exception_name) (refusal_exception why name))) fs t (omega arith)

-- ---- effects

-- the object that is asked counts nothing under any interface
abbrev pub IsTargetUncounted : (Ref → ℕ) → Effect → Type 0
IsTargetUncounted f (queries target wanted to) = (oid face : List ℕ) → target ≡ own oid face → IsUncounted f oid
IsTargetUncounted f e = Unit {0}

pub applies_free : (f : Ref → ℕ) (g : Setting) (tid : List ℕ) (b : Body) (fs : List Frame) (e : Effect) (t : Tables) → ((n : ℕ) → IsUncounted f (own_oid g n)) → IsTargetUncounted f e
    → effect_counts f e ≡ 0 → frames_count f (body b ∷ fs) + objects_count f t.objects ≡ 0 → IsFree f (applies g tid b fs e t)
unfolding applies held_by let_go_by total
applies_free f g tid b fs (lets x) t itself known fine free = variable_free f (lets x) b fs _ _ (frame_objects g b [] (refs x.value) t) (omega arith)
applies_free f g tid b fs (sets x) t itself known fine free = variable_free f (sets x) b fs _ _ (frame_objects g b _ (refs x.value) t) (omega arith)
applies_free f g tid b fs (sets_field x) t itself known fine free = field_free f g x b fs t (omega arith)
applies_free f g tid b fs (drops name) t itself known fine free = variable_free f (drops name) b fs _ _ (frame_objects g b _ [] t) (omega arith)
applies_free f g tid b fs skips t itself known fine free = variable_free f skips b fs _ _ (frame_objects g b [] [] t) (omega arith)
applies_free f g tid b fs (calls target function args to) t itself known fine free = applies_call_free f g tid target function args (body b ∷ fs) t (omega arith)
applies_free f g tid b fs (queries target wanted to) t itself known fine free = applies_query_free f g tid target wanted (body b ∷ fs) t known free
applies_free f g tid b fs (makes behaviour face to) t itself known fine free = making_free f g behaviour face to b fs t (itself (suc t.objects_made)) free
applies_free f g tid b fs disposes t itself known fine free = free
applies_free f g tid b fs (creates name args) t itself known fine free =
    creating_free f g tid b name (created g.plan g.registry name args) fs t itself (created_refs f g.registry g.plan name args fine) free
applies_free f g tid b fs (returns x outs) t itself known fine free = let all = body_counts f b fs in ends_frame_free f g tid b (returned x outs) fs t (omega arith)
applies_free f g tid b fs (raises k x) t itself known fine free = let all = body_counts f b fs in ends_frame_free f g tid b (raised k x) fs t (omega arith)
