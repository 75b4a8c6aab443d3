-- What effects do to the frames of a thread: it goes on from the same beginning, or it ends.
use Rattle.std.proofs.Common.{◌≡◌, refl, ◌∙◌, ℕ, suc, true, false, List, [], ◌∷◌, Result, Ok, Err}
use Rattle.message_model.specs.Messages.{returned, raised}
use Rattle.uno_model.specs.Kinds as kd
use Rattle.uno_model.specs.Values.{Ref, null, own, peer, Plain}
use Rattle.uno_model.specs.Values as v
use Rattle.table_model.specs.declared.holder.Holder.TheVariants as holder
use Rattle.plan_model.specs.Asking.{Effect, lets, sets, sets_field, drops, skips, calls, queries, makes, disposes, creates, returns, raises}
use Rattle.plan_model.specs.Frames.{Variable, Body, Frame, body, outgoing, Outgoing, first_frame}
use Rattle.plan_model.specs.Holdings.{let_go_by, held_by, variables_after, with_variable}
use Rattle.plan_model.specs.Services.{Created, fresh, singleton, created}
use Rattle.plan_model.specs.declared.refusal.Refusal.{Refusal}
use Rattle.bridge_model.specs.Applying.{holder_for, with_fields_after, changes_own, goes_on_after, applies_call, applies_query, applies_making, applies_creating, applies}
use Rattle.bridge_model.specs.Calls.{first_body, holds_call, takes_call, calls_own, serves, calls_peer, query_args}
use Rattle.bridge_model.specs.Handing.{gains_below}
use Rattle.bridge_model.specs.Objects.{object_numbered, variables_of, object_answer, makes_object, makes_default}
use Rattle.bridge_model.specs.References.{says, gains_all, takes_all, refs_of_values}
use Rattle.bridge_model.specs.Settings.{Setting, own_oid}
use Rattle.bridge_model.specs.Sides.{RootState, Tables}
use Rattle.bridge_laws.proofs.FrameLaws.{began_body, began_outgoing, Moved, still, from_roots, goes_on_live, stack_of, stay_gains_below, moved_hands, moved_ends}
use Rattle.bridge_laws.specs.Grounded.{is_caller, is_awaited, is_stack, is_live, began}
use Rattle.bridge_laws.proofs.RootStateLaws.{Stay, stay_gains, stay_gains_all, stay_takes_all, stay_lets_go_all, stay_makes_object, stay_makes_default}

-- ---- the method's own frame and object

stay_with_fields : (e : Effect) (b : Body) (fields : List Variable) (t : Tables) → Stay t (with_fields_after e b fields t)
stay_with_fields (sets_field x) b fields t = refl
stay_with_fields e b fields t = refl

stay_changes : (g : Setting) (e : Effect) (b : Body) (fields : List Variable) (t : Tables) → Stay t (changes_own g e b fields t)
stay_changes g e b fields t =
    let held = gains_all (holder_for e b) (held_by e) t in
    stay_lets_go_all g (holder_for e b) (let_go_by b.variables fields e) (with_fields_after e b fields held)
    ∙ (stay_with_fields e b fields held ∙ stay_gains_all (holder_for e b) (held_by e) t)

moved_after : (g : Setting) (e : Effect) (b : Body) (fs : List Frame) (t : Tables) → is_stack (body b ∷ fs) ≡ true
    → Moved (body b ∷ fs) t.roots (goes_on_after g e b fs t).frames (goes_on_after g e b fs t).tables.roots
moved_after g e b fs t is =
    goes_on_live b (variables_after e b.variables) fs t.roots _ is (stay_changes g e b (variables_of g (object_numbered b.object t.objects)) t)

-- ---- calls and queries

-- a method of this end is called, by a method or a root
pub stay_holds_call : (g : Setting) (b : Body) (args : List Plain) (t : Tables) → Stay t (holds_call g b args t)
stay_holds_call g b args t =
    let held = gains_all (holder.Frame b.number) (refs_of_values args) t in
    stay_gains (holder.Frame b.number) (own (own_oid g b.object) b.face) held ∙ stay_gains_all (holder.Frame b.number) (refs_of_values args) t

pub stay_takes_call : (g : Setting) (b : Body) (args : List Plain) (t : Tables) → Stay t (takes_call g b args t)
stay_takes_call g b args t =
    let held = takes_all g (holder.Frame b.number) (refs_of_values args) t in
    stay_gains (holder.Frame b.number) (own (own_oid g b.object) b.face) held ∙ stay_takes_all g (holder.Frame b.number) (refs_of_values args) t

-- what is called stands on its caller
pub record Stands (fs : List Frame) (roots : List RootState) (gs : List Frame) (now : List RootState) : Type 0 where
  pub live : is_live gs ≡ true
  pub same : began gs ≡ began fs
  pub stay : now ≡ roots

pub own_stands : (g : Setting) (oid face : List ℕ) (function : ℕ) (args : List Plain) (fs : List Frame) (t : Tables) → is_caller (first_frame fs) ≡ true → is_stack fs ≡ true
    → Stands fs t.roots (calls_own g oid face function args fs t).frames (calls_own g oid face function args fs t).tables.roots
unfolding calls_own
own_stands g oid face function args fs t on is =
    let b = first_body g false oid face function args t in
    record { live = stack_of (body b) fs on is; same = began_body b fs; stay = stay_holds_call g b args t }

pub peer_stands : (g : Setting) (tid oid face : List ℕ) (function : ℕ) (args : List Plain) (fs : List Frame) (t : Tables) → is_caller (first_frame fs) ≡ true → is_stack fs ≡ true
    → Stands fs t.roots (calls_peer g tid oid face function args fs t).frames (calls_peer g tid oid face function args fs t).tables.roots
unfolding calls_peer says
peer_stands g tid oid face function args fs t on is =
    let o : Outgoing = record { number = t.frames_made; oid = oid; face = face; function = function } in
    record { live = stack_of (outgoing o) fs on is; same = began_outgoing o fs; stay = refl }

-- so does what the peer calls, on a call that waits or on nothing
pub served_stands : (g : Setting) (oid face : List ℕ) (function : ℕ) (args : List Plain) (fs : List Frame) (t : Tables) → is_awaited (first_frame fs) ≡ true → is_stack fs ≡ true
    → Stands fs t.roots (serves g oid face function args fs t).frames (serves g oid face function args fs t).tables.roots
unfolding serves
served_stands g oid face function args fs t waits is =
    let b = first_body g true oid face function args t in
    record { live = stack_of (body b) fs waits is; same = began_body b fs; stay = stay_takes_call g b args t }

moved_on : (b : Body) (fs : List Frame) (roots : List RootState) (gs : List Frame) (now : List RootState) → is_stack (body b ∷ fs) ≡ true → Stands (body b ∷ fs) roots gs now
    → Moved (body b ∷ fs) roots gs now
moved_on b fs roots gs now is stands = still is stands.live stands.same stands.stay

moved_call : (g : Setting) (tid : List ℕ) (r : Ref) (function : ℕ) (args : List Plain) (b : Body) (fs : List Frame) (t : Tables) → is_stack (body b ∷ fs) ≡ true
    → Moved (body b ∷ fs) t.roots (applies_call g tid r function args (body b ∷ fs) t).frames (applies_call g tid r function args (body b ∷ fs) t).tables.roots
moved_call g tid null function args b fs t is = still is is refl refl
moved_call g tid (own oid face) function args b fs t is =
    moved_on b fs t.roots _ _ is (own_stands g oid face function args (body b ∷ fs) t refl is)
moved_call g tid (peer oid face) function args b fs t is =
    moved_on b fs t.roots _ _ is (peer_stands g tid oid face function args (body b ∷ fs) t refl is)

moved_query : (g : Setting) (tid : List ℕ) (r : Ref) (wanted : List ℕ) (b : Body) (fs : List Frame) (t : Tables) → is_stack (body b ∷ fs) ≡ true
    → Moved (body b ∷ fs) t.roots (applies_query g tid r wanted (body b ∷ fs) t).frames (applies_query g tid r wanted (body b ∷ fs) t).tables.roots
moved_query g tid null wanted b fs t is = still is is refl refl
moved_query g tid (own oid face) wanted b fs t is =
    let x = object_answer g oid (kd.interface wanted) t.objects in
    let below = gains_below (body b ∷ fs) (returned x []) t in
    from_roots (body b ∷ fs) t below _ _ (stay_gains_below (body b ∷ fs) (returned x []) t) (moved_hands g tid (returned x []) (body b ∷ fs) below is)
moved_query g tid (peer oid face) wanted b fs t is =
    moved_on b fs t.roots _ _ is (peer_stands g tid oid face 0 (query_args wanted) (body b ∷ fs) t refl is)

-- ---- new objects

moved_making : (g : Setting) (behaviour : ℕ) (face to : List ℕ) (b : Body) (fs : List Frame) (t : Tables) → is_stack (body b ∷ fs) ≡ true
    → Moved (body b ∷ fs) t.roots (applies_making g behaviour face to b fs t).frames (applies_making g behaviour face to b fs t).tables.roots
moved_making g behaviour face to b fs t is =
    goes_on_live b (with_variable to (v.ref (own (own_oid g (suc t.objects_made)) face)) b.variables) fs t.roots _ is
    (stay_gains (holder.Frame b.number) (own (own_oid g (suc t.objects_made)) face) (makes_default g behaviour t) ∙ stay_makes_default g behaviour t)

moved_creating : (g : Setting) (tid : List ℕ) (b : Body) (name : List ℕ) (r : Result Created Refusal) (fs : List Frame) (t : Tables) → is_stack (body b ∷ fs) ≡ true
    → Moved (body b ∷ fs) t.roots (applies_creating g tid b name r fs t).frames (applies_creating g tid b name r fs t).tables.roots
unfolding applies_creating
moved_creating g tid b name (Ok (fresh behaviour fields)) fs t is =
    from_roots (body b ∷ fs) t (makes_object behaviour fields t) _ _ (stay_makes_object behaviour fields t) (moved_ends g tid b _ fs (makes_object behaviour fields t) is)
moved_creating g tid b name (Ok (singleton place)) fs t is = moved_ends g tid b _ fs t is
moved_creating g tid b name (Err why) fs t is = moved_ends g tid b _ fs t is

-- ---- effects

pub moved_applies : (g : Setting) (tid : List ℕ) (b : Body) (fs : List Frame) (e : Effect) (t : Tables) → is_stack (body b ∷ fs) ≡ true
    → Moved (body b ∷ fs) t.roots (applies g tid b fs e t).frames (applies g tid b fs e t).tables.roots
unfolding applies
moved_applies g tid b fs (lets x) t is = moved_after g (lets x) b fs t is
moved_applies g tid b fs (sets x) t is = moved_after g (sets x) b fs t is
moved_applies g tid b fs (sets_field x) t is = moved_after g (sets_field x) b fs t is
moved_applies g tid b fs (drops name) t is = moved_after g (drops name) b fs t is
moved_applies g tid b fs skips t is = moved_after g skips b fs t is
moved_applies g tid b fs (calls target function args to) t is = moved_call g tid target function args b fs t is
moved_applies g tid b fs (queries target wanted to) t is = moved_query g tid target wanted b fs t is
moved_applies g tid b fs (makes behaviour face to) t is = moved_making g behaviour face to b fs t is
moved_applies g tid b fs disposes t is = still is is refl refl
moved_applies g tid b fs (creates name args) t is = moved_creating g tid b name (created g.plan g.registry name args) fs t is
moved_applies g tid b fs (returns x outs) t is = moved_ends g tid b (returned x outs) fs t is
moved_applies g tid b fs (raises k x) t is = moved_ends g tid b (raised k x) fs t is
