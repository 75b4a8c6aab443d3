-- Room behind effects: what a frame and its object gain needs none, a new object needs one place, and what leaves a method may need one for each reference.
use Rattle.std.proofs.Common.{◌≡◌, ℕ, suc, ◌+◌, ◌≤◌, Bool, true, false, ◌==◌, if◌then◌else◌, List, [], ◌∷◌, length, Result, Ok, Err, refl, ap, arith}
use Rattle.message_model.specs.Messages.{returned, raised, request}
use Rattle.uno_model.specs.BuiltIn.{exception_name, x_interface_name}
use Rattle.uno_model.specs.Kinds as kd
use Rattle.uno_model.specs.Values.{Ref, null, own, peer, Plain, refs}
use Rattle.uno_model.specs.Values as v
use Rattle.table_model.specs.declared.holder.Holder.TheVariants as holder
use Rattle.plan_model.specs.Asking.{Effect, lets, sets, sets_field, drops, skips, calls, queries, makes, disposes, creates, returns, raises}
use Rattle.plan_model.specs.Frames.{Variable, Body, Frame, body}
use Rattle.plan_model.specs.Holdings.{fields_after, held_by, let_go_by}
use Rattle.plan_model.specs.Leaving.{leaving_frame}
use Rattle.plan_model.specs.Plans.{singleton_object}
use Rattle.plan_model.specs.Services.{Created, fresh, singleton, created, refusal_exception}
use Rattle.plan_model.specs.declared.refusal.Refusal.{Refusal}
use Rattle.bridge_model.specs.Applying.{holder_for, with_fields_after, changes_own, goes_on_after, applies_call, answers_query, applies_query, applies_making, applies_creating, applies}
use Rattle.bridge_model.specs.Calls.{first_body, holds_call, takes_call, counts_frame, calls_own, serves, calls_peer, query_args}
use Rattle.bridge_model.specs.Handing.{gains_below, hands}
use Rattle.bridge_model.specs.Objects.{object_numbered, variables_of, object_answer, makes_object, makes_default, field_values, with_fields}
use Rattle.bridge_model.specs.References.{says, gains_all, takes_all, refs_of_values, refs_of_answer}
use Rattle.bridge_model.specs.Settings.{Setting, own_oid}
use Rattle.bridge_model.specs.Sides.{Object, Tables}
use Rattle.bridge_laws.specs.Counting.{total}
use Rattle.bridge_laws.proofs.ApplyingCountLaws.{refusal_counts, object_alone}
use Rattle.bridge_laws.specs.Room.{effect_brings}
use Rattle.bridge_laws.proofs.TableRoom.{kept, says_kept, for_root, gains_kept, gains_all_kept, takes_all_kept, lets_go_all_kept, makes_object_kept, makes_default_kept}
use Rattle.bridge_laws.proofs.FrameRoom.{total_ones, leaving_refs, leaves, gains_below_kept, goes_on_with_kept, ends_frame_kept}

-- ---- the method's own frame and object

swap_length : (b : Bool) (o p : Object) (os new : List Object) → length new ≡ length os → length (if b then p ∷ os else o ∷ new) ≡ suc (length os)
swap_length true o p os new same = refl
swap_length false o p os new same = ap (λ n. suc n) same

fields_length : (n : ℕ) (fields : List Plain) (os : List Object) → length (with_fields n fields os) ≡ length os
unfolding with_fields
fields_length n fields [] = refl
fields_length n fields (o ∷ os) = swap_length (n == o.number) o (record o { fields = fields }) os (with_fields n fields os) (fields_length n fields os)

objects_kept : (os : List Object) (t : Tables) → length os ≡ length t.objects → kept (record t { objects = os }) ≡ kept t
unfolding kept
objects_kept os t same = omega arith

with_fields_kept : (e : Effect) (b : Body) (fields : List Variable) (t : Tables) → kept (with_fields_after e b fields t) ≡ kept t
with_fields_kept (sets_field x) b fields t =
    let values = field_values (fields_after (sets_field x) fields) in
    objects_kept (with_fields b.object values t.objects) t (fields_length b.object values t.objects)
with_fields_kept e b fields t = refl

-- neither a frame nor an object is a root
not_root : (e : Effect) (b : Body) (n : ℕ) → for_root (holder_for e b) n ≡ 0
not_root (sets_field x) b n = refl
not_root e b n = refl

changes_kept : (g : Setting) (e : Effect) (b : Body) (fields : List Variable) (t : Tables) → kept (changes_own g e b fields t) ≤ kept t
changes_kept g e b fields t =
    let held = gains_all_kept (holder_for e b) (held_by e) t in
    let quiet = not_root e b (length (held_by e)) in
    let same = with_fields_kept e b fields (gains_all (holder_for e b) (held_by e) t) in
    let gone = lets_go_all_kept g (holder_for e b) (let_go_by b.variables fields e) (with_fields_after e b fields (gains_all (holder_for e b) (held_by e) t)) in omega arith

after_kept : (g : Setting) (e : Effect) (b : Body) (fs : List Frame) (t : Tables) → kept (goes_on_after g e b fs t).tables ≤ kept t
after_kept g e b fs t = changes_kept g e b (variables_of g (object_numbered b.object t.objects)) t

-- ---- calls and queries

frame_kept : (t : Tables) → kept (counts_frame t) ≡ kept t
unfolding kept
frame_kept t = refl

holds_call_kept : (g : Setting) (b : Body) (args : List Plain) (t : Tables) → kept (holds_call g b args t) ≤ kept t
holds_call_kept g b args t =
    let held = gains_all_kept (holder.Frame b.number) (refs_of_values args) t in
    let itself = gains_kept (holder.Frame b.number) (own (own_oid g b.object) b.face) (gains_all (holder.Frame b.number) (refs_of_values args) t) in omega arith

takes_call_kept : (g : Setting) (b : Body) (args : List Plain) (t : Tables) → kept (takes_call g b args t) ≤ kept t
takes_call_kept g b args t =
    let held = takes_all_kept g (holder.Frame b.number) (refs_of_values args) t in
    let itself = gains_kept (holder.Frame b.number) (own (own_oid g b.object) b.face) (takes_all g (holder.Frame b.number) (refs_of_values args) t) in omega arith

pub calls_own_kept : (g : Setting) (oid face : List ℕ) (function : ℕ) (args : List Plain) (fs : List Frame) (t : Tables)
    → kept (calls_own g oid face function args fs t).tables ≤ kept t
unfolding calls_own
calls_own_kept g oid face function args fs t =
    let held = holds_call_kept g (first_body g false oid face function args t) args t in
    let same = frame_kept (holds_call g (first_body g false oid face function args t) args t) in omega arith

pub serves_kept : (g : Setting) (oid face : List ℕ) (function : ℕ) (args : List Plain) (fs : List Frame) (t : Tables) → kept (serves g oid face function args fs t).tables ≤ kept t
unfolding serves
serves_kept g oid face function args fs t =
    let held = takes_call_kept g (first_body g true oid face function args t) args t in
    let same = frame_kept (takes_call g (first_body g true oid face function args t) args t) in omega arith

pub calls_peer_kept : (g : Setting) (tid oid face : List ℕ) (function : ℕ) (args : List Plain) (fs : List Frame) (t : Tables)
    → kept (calls_peer g tid oid face function args fs t).tables ≤ kept t
unfolding calls_peer
calls_peer_kept g tid oid face function args fs t =
    let said = says_kept g (request tid oid face function args) t in
    let same = frame_kept (says g (request tid oid face function args) t) in omega arith

call_kept : (g : Setting) (tid : List ℕ) (r : Ref) (function : ℕ) (args : List Plain) (fs : List Frame) (t : Tables)
    → kept (applies_call g tid r function args fs t).tables ≤ kept t
call_kept g tid null function args fs t = omega arith
call_kept g tid (own oid face) function args fs t = calls_own_kept g oid face function args fs t
call_kept g tid (peer oid face) function args fs t = calls_peer_kept g tid oid face function args fs t

-- ---- an answer of few references

own_refs : (oid face : List ℕ) → length (refs_of_answer (returned (v.ref (own oid face)) [])) ≡ 1
own_refs oid face = sym_ones (refs_of_answer (returned (v.ref (own oid face)) [])) (object_alone (λ r. 1) oid face)
  where
    sym_ones : (rs : List Ref) → total (λ r. 1) rs ≡ 1 → length rs ≡ 1
    sym_ones rs one = let all = total_ones rs in omega arith

refusal_refs : (k : kd.Kind) (why : Refusal) (name : List ℕ) → length (refs_of_answer (raised k (refusal_exception why name))) ≡ 0
refusal_refs k why name =
    let none = refusal_counts (λ r. 1) k why name in let all = total_ones (refs_of_answer (raised k (refusal_exception why name))) in omega arith

-- ---- a query

-- a method that asks an own object goes on
answers_query_kept : (g : Setting) (tid : List ℕ) (x : Plain) (b : Body) (fs : List Frame) (t : Tables) → kept (answers_query g tid x (body b ∷ fs) t).tables ≤ kept t
unfolding hands
answers_query_kept g tid x b fs t =
    let held = gains_below_kept (body b ∷ fs) (returned x []) t in
    let on = goes_on_with_kept g b x [] fs (gains_below (body b ∷ fs) (returned x []) t) in omega arith

query_kept : (g : Setting) (tid : List ℕ) (r : Ref) (wanted : List ℕ) (b : Body) (fs : List Frame) (t : Tables)
    → kept (applies_query g tid r wanted (body b ∷ fs) t).tables ≤ kept t
query_kept g tid null wanted b fs t = omega arith
query_kept g tid (own oid face) wanted b fs t = answers_query_kept g tid (object_answer g oid (kd.interface wanted) t.objects) b fs t
query_kept g tid (peer oid face) wanted b fs t = calls_peer_kept g tid oid face 0 (query_args wanted) (body b ∷ fs) t

-- ---- new objects

making_kept : (g : Setting) (behaviour : ℕ) (face to : List ℕ) (b : Body) (fs : List Frame) (t : Tables) → kept (applies_making g behaviour face to b fs t).tables ≤ 1 + kept t
making_kept g behaviour face to b fs t =
    let made = makes_default_kept g behaviour t in
    let held = gains_kept (holder.Frame b.number) (own (own_oid g (suc t.objects_made)) face) (makes_default g behaviour t) in omega arith

leaves_one : (b : Body) (n : ℕ) → leaves b n ≤ n
leaves_one b n = by_peer b.from_peer
  where
    by_peer : (p : Bool) → (if p then 0 else n) ≤ n
    by_peer true = omega arith
    by_peer false = omega arith

creating_kept : (g : Setting) (tid : List ℕ) (b : Body) (name : List ℕ) (made : Result Created Refusal) (fs : List Frame) (t : Tables)
    → kept (applies_creating g tid b name made fs t).tables ≤ 2 + kept t
unfolding applies_creating
creating_kept g tid b name (Ok (fresh behaviour fields)) fs t =
    let more = makes_object_kept behaviour fields t in
    let one = own_refs (own_oid g (suc t.objects_made)) x_interface_name in
    let most = leaves_one b (length (refs_of_answer (returned (v.ref (own (own_oid g (suc t.objects_made)) x_interface_name)) []))) in
    let ended = ends_frame_kept g tid b (returned (v.ref (own (own_oid g (suc t.objects_made)) x_interface_name)) []) fs (makes_object behaviour fields t) in omega arith
creating_kept g tid b name (Ok (singleton place)) fs t =
    let one = own_refs (own_oid g (singleton_object g.plan place)) x_interface_name in
    let most = leaves_one b (length (refs_of_answer (returned (v.ref (own (own_oid g (singleton_object g.plan place)) x_interface_name)) []))) in
    let ended = ends_frame_kept g tid b (returned (v.ref (own (own_oid g (singleton_object g.plan place)) x_interface_name)) []) fs t in omega arith
creating_kept g tid b name (Err why) fs t =
    let none = refusal_refs (kd.exception exception_name) why name in
    let fewer = leaving_refs g.registry tid b (raised (kd.exception exception_name) (refusal_exception why name)) in
    let most = leaves_one b (length (refs_of_answer (leaving_frame g.registry tid b (raised (kd.exception exception_name) (refusal_exception why name))))) in
    let ended = ends_frame_kept g tid b (leaving_frame g.registry tid b (raised (kd.exception exception_name) (refusal_exception why name))) fs t in omega arith

-- ---- effects

pub applies_kept : (g : Setting) (tid : List ℕ) (b : Body) (fs : List Frame) (e : Effect) (t : Tables) → kept (applies g tid b fs e t).tables ≤ effect_brings b e + kept t
unfolding applies refs_of_answer
applies_kept g tid b fs (lets x) t = let on = after_kept g (lets x) b fs t in omega arith
applies_kept g tid b fs (sets x) t = let on = after_kept g (sets x) b fs t in omega arith
applies_kept g tid b fs (sets_field x) t = let on = after_kept g (sets_field x) b fs t in omega arith
applies_kept g tid b fs (drops name) t = let on = after_kept g (drops name) b fs t in omega arith
applies_kept g tid b fs skips t = let on = after_kept g skips b fs t in omega arith
applies_kept g tid b fs (calls target function args to) t = let on = call_kept g tid target function args (body b ∷ fs) t in omega arith
applies_kept g tid b fs (queries target wanted to) t = let on = query_kept g tid target wanted b fs t in omega arith
applies_kept g tid b fs (makes behaviour face to) t = making_kept g behaviour face to b fs t
applies_kept g tid b fs disposes t = omega arith
applies_kept g tid b fs (creates name args) t = creating_kept g tid b name (created g.plan g.registry name args) fs t
applies_kept g tid b fs (returns x outs) t = ends_frame_kept g tid b (returned x outs) fs t
applies_kept g tid b fs (raises k x) t = ends_frame_kept g tid b (raised k x) fs t
