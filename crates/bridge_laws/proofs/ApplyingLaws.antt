-- What frames and objects have is covered behind calls that begin and behind each effect of a statement.
use Rattle.std.proofs.Common.{◌≡◌, ℕ, suc, ◌+◌, ◌≤◌, Bool, true, false, List, [], ◌∷◌, Result, Ok, Err, ap, arith}
use Rattle.message_model.specs.Calls.{numbered}
use Rattle.message_model.specs.Messages.{returned, raised, request}
use Rattle.uno_model.specs.BuiltIn.{exception_name, x_interface_name}
use Rattle.uno_model.specs.Kinds.{Kind}
use Rattle.uno_model.specs.Kinds as kd
use Rattle.uno_model.specs.Values.{Ref, null, own, peer, Plain, refs}
use Rattle.uno_model.specs.Values as v
use Rattle.table_model.specs.Holdings.{Hold}
use Rattle.table_model.specs.declared.holder.Holder.TheVariants as holder
use Rattle.plan_model.specs.Asking.{Effect, lets, sets, sets_field, drops, skips, calls, queries, makes, disposes, creates, returns, raises}
use Rattle.plan_model.specs.Evaluation.{value_under}
use Rattle.plan_model.specs.Frames.{Variable, Body, Frame, body}
use Rattle.plan_model.specs.Holdings.{put, variables_after, fields_after, held_by, let_go_by, with_variable, goes_on, refs_under}
use Rattle.plan_model.specs.Leaving.{leaving_frame}
use Rattle.plan_model.specs.Plans.{singleton_object}
use Rattle.plan_model.specs.Services.{Created, fresh, singleton, created, refusal_exception}
use Rattle.plan_model.specs.declared.refusal.Refusal.{Refusal}
use Rattle.bridge_model.specs.Applying.{with_fields_after, goes_on_after, applies_call, answers_query, applies_query, applies_making, applies_creating, applies}
use Rattle.bridge_model.specs.Calls.{params_of, first_body, calls_own, serves, calls_peer, query_args}
use Rattle.bridge_model.specs.Handing.{gains_below}
use Rattle.bridge_model.specs.Objects.{object_numbered, variables_of, object_answer, makes_object, makes_default, defaults_of, field_values, with_fields}
use Rattle.bridge_model.specs.References.{gains_all, takes_all, lets_go_all, refs_of_values}
use Rattle.bridge_model.specs.Settings.{Setting, own_oid}
use Rattle.bridge_model.specs.Sides.{Tables}
use Rattle.bridge_laws.specs.Counting.{total}
use Rattle.bridge_laws.proofs.HandingLaws.{frames_have, body_has, FramesCover, body_parts, goes_on_has, method_more, outgoing_more, gains_below_covers, hands_covers, ends_frame_covers}
use Rattle.bridge_laws.proofs.ObjectLaws.{makes_covers, field_owes}
use Rattle.bridge_laws.proofs.OccurrenceLaws.{ref_owes, refs_owe, objects_have, Covers, says_covers, gains_all_objects, gains_all_times, gains_covers, gains_all_covers, takes_all_covers, lets_go_all_covers}
use Rattle.bridge_laws.proofs.VariableLaws.{put_owes, without_owes, with_variable_owes, first_variables_owe}

-- ---- calls

-- a method that begins has what its arguments have, and its own object
first_body_has : (g : Setting) (from_peer : Bool) (oid face : List ℕ) (function : ℕ) (args : List Plain) (h : Hold) (t : Tables)
    → body_has g h (first_body g from_peer oid face function args t)
    ≤ refs_owe h (holder.Frame t.frames_made) (refs_of_values args)
    + ref_owes h (holder.Frame t.frames_made) (own (own_oid g (first_body g from_peer oid face function args t).object) face)
first_body_has g from_peer oid face function args h t =
    let parts = body_parts g h (first_body g from_peer oid face function args t) in
    let first = first_variables_owe (ref_owes h (holder.Frame t.frames_made)) g.registry (params_of (numbered g.registry face function)) args in omega arith

pub calls_own_covers : (g : Setting) (oid face : List ℕ) (function : ℕ) (args : List Plain) (fs : List Frame) (h : Hold) (n : ℕ) (t : Tables)
    → Covers h (n + frames_have g h fs) t → FramesCover g h n (calls_own g oid face function args fs t)
unfolding calls_own
calls_own_covers g oid face function args fs h n t fine =
    let has = first_body_has g false oid face function args h t in
    let all = method_more g h (first_body g false oid face function args t) fs in
    let arguments = gains_all_covers (holder.Frame t.frames_made) (refs_of_values args) h (n + frames_have g h fs) t fine in
    let held =
    gains_covers (holder.Frame t.frames_made) (own (own_oid g (first_body g false oid face function args t).object) face) h
    (n + frames_have g h fs + refs_owe h (holder.Frame t.frames_made) (refs_of_values args))
    (gains_all (holder.Frame t.frames_made) (refs_of_values args) t) arguments in
    omega arith

pub serves_covers : (g : Setting) (oid face : List ℕ) (function : ℕ) (args : List Plain) (fs : List Frame) (h : Hold) (n : ℕ) (t : Tables)
    → Covers h (n + frames_have g h fs) t → FramesCover g h n (serves g oid face function args fs t)
unfolding serves
serves_covers g oid face function args fs h n t fine =
    let has = first_body_has g true oid face function args h t in
    let all = method_more g h (first_body g true oid face function args t) fs in
    let arguments = takes_all_covers g (holder.Frame t.frames_made) (refs_of_values args) h (n + frames_have g h fs) t fine in
    let held =
    gains_covers (holder.Frame t.frames_made) (own (own_oid g (first_body g true oid face function args t).object) face) h
    (n + frames_have g h fs + refs_owe h (holder.Frame t.frames_made) (refs_of_values args))
    (takes_all g (holder.Frame t.frames_made) (refs_of_values args) t) arguments in
    omega arith

pub calls_peer_covers : (g : Setting) (tid oid face : List ℕ) (function : ℕ) (args : List Plain) (fs : List Frame) (h : Hold) (n : ℕ) (t : Tables)
    → Covers h (n + frames_have g h fs) t → FramesCover g h n (calls_peer g tid oid face function args fs t)
unfolding calls_peer
calls_peer_covers g tid oid face function args fs h n t fine =
    let all = outgoing_more g h (record { number = t.frames_made; oid = oid; face = face; function = function }) fs in
    let said = says_covers g (request tid oid face function args) h (n + frames_have g h fs) t fine in omega arith

-- ---- its own frame and object

-- what an effect does to variables: what is gained covers what they have more, and what is let go
abbrev pub KeepsVariables : Effect → Type 0
KeepsVariables e = (f : Ref → ℕ) (xs fields : List Variable)
    → total f (refs_under (variables_after e xs)) + total f (let_go_by xs fields e) ≤ total f (refs_under xs) + total f (held_by e)

pub lets_keeps : (x : Variable) → KeepsVariables (lets x)
unfolding variables_after let_go_by held_by total
lets_keeps x f xs fields = let more = with_variable_owes f x.name x.value xs in omega arith

pub sets_keeps : (x : Variable) → KeepsVariables (sets x)
unfolding variables_after let_go_by held_by
sets_keeps x f xs fields = put_owes f x.name x.value xs

pub drops_keeps : (name : List ℕ) → KeepsVariables (drops name)
unfolding variables_after let_go_by held_by total
drops_keeps name f xs fields = let rest = without_owes f name xs in omega arith

pub skips_keeps : KeepsVariables skips
unfolding variables_after let_go_by held_by total
skips_keeps f xs fields = omega arith

-- the frame goes on, with what it gained and without what it let go
frame_goes_on : (g : Setting) (e : Effect) (b : Body) (fs : List Frame) → KeepsVariables e → (h : Hold) (n : ℕ) (t : Tables) (fields : List Variable)
    → Covers h (n + frames_have g h (body b ∷ fs)) t
    → Covers h (n + frames_have g h (body (goes_on (variables_after e b.variables) b) ∷ fs))
    (lets_go_all g (holder.Frame b.number) (let_go_by b.variables fields e) (gains_all (holder.Frame b.number) (held_by e) t))
frame_goes_on g e b fs keeps h n t fields fine =
    let enough = keeps (ref_owes h (holder.Frame b.number)) b.variables fields in
    let before = method_more g h b fs in
    let after = method_more g h (goes_on (variables_after e b.variables) b) fs in
    let on = goes_on_has g h b (variables_after e b.variables) in
    let gained = gains_all_covers (holder.Frame b.number) (held_by e) h (n + frames_have g h (body b ∷ fs)) t fine in
    lets_go_all_covers g (holder.Frame b.number) (let_go_by b.variables fields e) h
    (n + frames_have g h (body (goes_on (variables_after e b.variables) b) ∷ fs))
    (gains_all (holder.Frame b.number) (held_by e) t)
    (omega arith)

-- the values of its object's fields, with another one under a name
abbrev pub fields_with : Setting → Body → Variable → Tables → List Plain
fields_with g b x t = field_values (put x.name x.value (variables_of g (object_numbered b.object t.objects)))

-- a field of its object gets a value
field_goes_on : (g : Setting) (x : Variable) (b : Body) (fs : List Frame) (h : Hold) (n : ℕ) (t : Tables)
    → Covers h (n + frames_have g h (body b ∷ fs)) t → FramesCover g h n (goes_on_after g (sets_field x) b fs t)
unfolding variables_after fields_after let_go_by held_by
field_goes_on g x b fs h n t fine =
    let before = method_more g h b fs in
    let after = method_more g h (goes_on b.variables b) fs in
    let on = goes_on_has g h b b.variables in
    let field = field_owes g h b.object x.name x.value t.objects in
    let same = ap (λ os. objects_have h (with_fields b.object (fields_with g b x t) os)) (gains_all_objects (holder.Object b.object) (refs x.value) t) in
    let gained = gains_all_times (holder.Object b.object) (refs x.value) h t in
    lets_go_all_covers g (holder.Object b.object) (refs (value_under x.name (variables_of g (object_numbered b.object t.objects)))) h
    (n + frames_have g h (body (goes_on b.variables b) ∷ fs))
    (with_fields_after (sets_field x) b (variables_of g (object_numbered b.object t.objects)) (gains_all (holder.Object b.object) (refs x.value) t))
    (omega arith)

-- ---- queries, and new objects

answers_query_covers : (g : Setting) (tid : List ℕ) (x : Plain) (fs : List Frame) (h : Hold) (n : ℕ) (t : Tables)
    → Covers h (n + frames_have g h fs) t → FramesCover g h n (answers_query g tid x fs t)
answers_query_covers g tid x fs h n t fine =
    let gained = gains_below_covers fs (returned x []) h (n + frames_have g h fs) t fine in
    hands_covers g tid (returned x []) fs h n (gains_below fs (returned x []) t) (omega arith)

applies_call_covers : (g : Setting) (tid : List ℕ) (target : Ref) (function : ℕ) (args : List Plain) (fs : List Frame) (h : Hold) (n : ℕ) (t : Tables)
    → Covers h (n + frames_have g h fs) t → FramesCover g h n (applies_call g tid target function args fs t)
applies_call_covers g tid null function args fs h n t fine = fine
applies_call_covers g tid (own oid face) function args fs h n t fine = calls_own_covers g oid face function args fs h n t fine
applies_call_covers g tid (peer oid face) function args fs h n t fine = calls_peer_covers g tid oid face function args fs h n t fine

applies_query_covers : (g : Setting) (tid : List ℕ) (target : Ref) (wanted : List ℕ) (fs : List Frame) (h : Hold) (n : ℕ) (t : Tables)
    → Covers h (n + frames_have g h fs) t → FramesCover g h n (applies_query g tid target wanted fs t)
applies_query_covers g tid null wanted fs h n t fine = fine
applies_query_covers g tid (own oid face) wanted fs h n t fine = answers_query_covers g tid (object_answer g oid (kd.interface wanted) t.objects) fs h n t fine
applies_query_covers g tid (peer oid face) wanted fs h n t fine = calls_peer_covers g tid oid face 0 (query_args wanted) fs h n t fine

pub own_owes : (f : Ref → ℕ) (oid face : List ℕ) → total f (refs (v.ref (own oid face))) ≡ f (own oid face)
unfolding refs total
own_owes f oid face = omega arith

making_covers : (g : Setting) (behaviour : ℕ) (face to : List ℕ) (b : Body) (fs : List Frame) (h : Hold) (n : ℕ) (t : Tables)
    → Covers h (n + frames_have g h (body b ∷ fs)) t → FramesCover g h n (applies_making g behaviour face to b fs t)
making_covers g behaviour face to b fs h n t fine =
    let before = method_more g h b fs in
    let after = method_more g h (goes_on (with_variable to (v.ref (own (own_oid g (suc t.objects_made)) face)) b.variables) b) fs in
    let on = goes_on_has g h b (with_variable to (v.ref (own (own_oid g (suc t.objects_made)) face)) b.variables) in
    let more = with_variable_owes (ref_owes h (holder.Frame b.number)) to (v.ref (own (own_oid g (suc t.objects_made)) face)) b.variables in
    let one = own_owes (ref_owes h (holder.Frame b.number)) (own_oid g (suc t.objects_made)) face in
    let made = makes_covers behaviour (defaults_of g behaviour) h (n + frames_have g h (body b ∷ fs)) t fine in
    let held = gains_covers (holder.Frame b.number) (own (own_oid g (suc t.objects_made)) face) h (n + frames_have g h (body b ∷ fs)) (makes_default g behaviour t) made in
    omega arith

creating_covers : (g : Setting) (tid : List ℕ) (b : Body) (name : List ℕ) (made : Result Created Refusal) (fs : List Frame) (h : Hold) (n : ℕ) (t : Tables)
    → Covers h (n + frames_have g h (body b ∷ fs)) t → FramesCover g h n (applies_creating g tid b name made fs t)
unfolding applies_creating
creating_covers g tid b name (Ok (fresh behaviour fields)) fs h n t fine =
    ends_frame_covers g tid b (returned (v.ref (own (own_oid g (suc t.objects_made)) x_interface_name)) []) fs h n (makes_object behaviour fields t)
    (makes_covers behaviour fields h (n + frames_have g h (body b ∷ fs)) t fine)
creating_covers g tid b name (Ok (singleton place)) fs h n t fine =
    ends_frame_covers g tid b (returned (v.ref (own (own_oid g (singleton_object g.plan place)) x_interface_name)) []) fs h n t fine
creating_covers g tid b name (Err why) fs h n t fine =
    ends_frame_covers g tid b (leaving_frame g.registry tid b (raised (kd.exception exception_name) (refusal_exception why name))) fs h n t fine

-- ---- effects

pub applies_covers : (g : Setting) (tid : List ℕ) (b : Body) (fs : List Frame) (e : Effect) (h : Hold) (n : ℕ) (t : Tables)
    → Covers h (n + frames_have g h (body b ∷ fs)) t → FramesCover g h n (applies g tid b fs e t)
unfolding applies
applies_covers g tid b fs (lets x) h n t fine = frame_goes_on g (lets x) b fs (lets_keeps x) h n t (variables_of g (object_numbered b.object t.objects)) fine
applies_covers g tid b fs (sets x) h n t fine = frame_goes_on g (sets x) b fs (sets_keeps x) h n t (variables_of g (object_numbered b.object t.objects)) fine
applies_covers g tid b fs (sets_field x) h n t fine = field_goes_on g x b fs h n t fine
applies_covers g tid b fs (drops name) h n t fine = frame_goes_on g (drops name) b fs (drops_keeps name) h n t (variables_of g (object_numbered b.object t.objects)) fine
applies_covers g tid b fs skips h n t fine = frame_goes_on g skips b fs skips_keeps h n t (variables_of g (object_numbered b.object t.objects)) fine
applies_covers g tid b fs (calls target function args to) h n t fine = applies_call_covers g tid target function args (body b ∷ fs) h n t fine
applies_covers g tid b fs (queries target wanted to) h n t fine = applies_query_covers g tid target wanted (body b ∷ fs) h n t fine
applies_covers g tid b fs (makes behaviour face to) h n t fine = making_covers g behaviour face to b fs h n t fine
applies_covers g tid b fs disposes h n t fine = fine
applies_covers g tid b fs (creates name args) h n t fine = creating_covers g tid b name (created g.plan g.registry name args) fs h n t fine
applies_covers g tid b fs (returns x outs) h n t fine = ends_frame_covers g tid b (returned x outs) fs h n t fine
applies_covers g tid b fs (raises k x) h n t fine = ends_frame_covers g tid b (raised k x) fs h n t fine
