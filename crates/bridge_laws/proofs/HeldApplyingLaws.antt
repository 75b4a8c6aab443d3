-- What a root has is held behind calls that begin and behind each effect of a statement.
use Rattle.std.proofs.Common.{◌≡◌, refl, ◌∙◌, ℕ, suc, ◌+◌, true, false, List, [], ◌∷◌, Result, Ok, Err}
use Rattle.message_model.specs.Messages.{returned, raised}
use Rattle.uno_model.specs.BuiltIn.{exception_name, x_interface_name}
use Rattle.uno_model.specs.Kinds as kd
use Rattle.uno_model.specs.Values.{Ref, null, own, peer, Plain, refs}
use Rattle.uno_model.specs.Values as v
use Rattle.table_model.specs.Holdings.{Hold}
use Rattle.table_model.specs.declared.holder.Holder.TheVariants as holder
use Rattle.plan_model.specs.Asking.{Effect, lets, sets, sets_field, drops, skips, calls, queries, makes, disposes, creates, returns, raises}
use Rattle.plan_model.specs.Frames.{Variable, Body, Frame, body}
use Rattle.plan_model.specs.Holdings.{let_go_by, held_by}
use Rattle.plan_model.specs.Leaving.{leaving_frame}
use Rattle.plan_model.specs.Plans.{singleton_object}
use Rattle.plan_model.specs.Services.{Created, fresh, singleton, created, refusal_exception}
use Rattle.plan_model.specs.declared.refusal.Refusal.{Refusal}
use Rattle.bridge_model.specs.Applying.{holder_for, with_fields_after, changes_own, applies_call, applies_query, applies_creating, applies}
use Rattle.bridge_model.specs.Calls.{first_body, calls_own, serves, calls_peer, query_args}
use Rattle.bridge_model.specs.Handing.{gains_below}
use Rattle.bridge_model.specs.Objects.{object_numbered, variables_of, object_answer, makes_object, makes_default}
use Rattle.bridge_model.specs.References.{says, gains_all}
use Rattle.bridge_model.specs.Settings.{Setting, own_oid}
use Rattle.bridge_model.specs.Sides.{Tables}
use Rattle.bridge_laws.proofs.ApplyingLaws.{calls_own_covers, serves_covers, calls_peer_covers, applies_covers}
use Rattle.bridge_laws.proofs.EffectStackLaws.{stay_holds_call, stay_takes_call}
use Rattle.bridge_laws.proofs.ObjectLaws.{makes_covers}
use Rattle.bridge_laws.proofs.RootStateLaws.{Stay, stay_gains, stay_gains_all, stay_lets_go_all, stay_makes_object, stay_makes_default}
use Rattle.bridge_laws.proofs.HeldAnswerLaws.{gains_below_rooted, hands_rooted, ends_frame_rooted}
use Rattle.bridge_laws.proofs.StateLaws.{owed_in, Rooted, kept_in, unwound_in, with_frames}

-- ---- the method's own frame and object

stay_with_fields : (e : Effect) (b : Body) (fields : List Variable) (t : Tables) → Stay t (with_fields_after e b fields t)
stay_with_fields (sets_field x) b fields t = refl
stay_with_fields e b fields t = refl

pub stay_changes : (g : Setting) (e : Effect) (b : Body) (fields : List Variable) (t : Tables) → Stay t (changes_own g e b fields t)
stay_changes g e b fields t =
    let held = gains_all (holder_for e b) (held_by e) t in
    stay_lets_go_all g (holder_for e b) (let_go_by b.variables fields e) (with_fields_after e b fields held)
    ∙ (stay_with_fields e b fields held ∙ stay_gains_all (holder_for e b) (held_by e) t)

-- ---- calls leave roots as they are

pub own_stays : (g : Setting) (oid face : List ℕ) (function : ℕ) (args : List Plain) (fs : List Frame) (t : Tables) → Stay t (calls_own g oid face function args fs t).tables
unfolding calls_own
own_stays g oid face function args fs t = stay_holds_call g (first_body g false oid face function args t) args t

pub served_stays : (g : Setting) (oid face : List ℕ) (function : ℕ) (args : List Plain) (fs : List Frame) (t : Tables) → Stay t (serves g oid face function args fs t).tables
unfolding serves
served_stays g oid face function args fs t = stay_takes_call g (first_body g true oid face function args t) args t

pub peer_stays : (g : Setting) (tid oid face : List ℕ) (function : ℕ) (args : List Plain) (fs : List Frame) (t : Tables) → Stay t (calls_peer g tid oid face function args fs t).tables
unfolding calls_peer says
peer_stays g tid oid face function args fs t = refl

module _ (g : Setting) (h : Hold) (k : ℕ) (of_root : h.holder ≡ holder.Root k) where
  -- ---- calls

  pub calls_own_rooted : (oid face : List ℕ) (function : ℕ) (args : List Plain) (fs : List Frame) (n : ℕ) (t : Tables) → Rooted h k n t
      → Rooted h k n (calls_own g oid face function args fs t).tables
  calls_own_rooted oid face function args fs n t fine =
      unwound_in g h k n t (calls_own g oid face function args fs t) (own_stays g oid face function args fs t)
      (calls_own_covers g oid face function args fs h (n + owed_in h k t.roots) t (with_frames g h k of_root fs n t fine))

  pub serves_rooted : (oid face : List ℕ) (function : ℕ) (args : List Plain) (fs : List Frame) (n : ℕ) (t : Tables) → Rooted h k n t
      → Rooted h k n (serves g oid face function args fs t).tables
  serves_rooted oid face function args fs n t fine =
      unwound_in g h k n t (serves g oid face function args fs t) (served_stays g oid face function args fs t)
      (serves_covers g oid face function args fs h (n + owed_in h k t.roots) t (with_frames g h k of_root fs n t fine))

  pub calls_peer_rooted : (tid oid face : List ℕ) (function : ℕ) (args : List Plain) (fs : List Frame) (n : ℕ) (t : Tables) → Rooted h k n t
      → Rooted h k n (calls_peer g tid oid face function args fs t).tables
  calls_peer_rooted tid oid face function args fs n t fine =
      unwound_in g h k n t (calls_peer g tid oid face function args fs t) (peer_stays g tid oid face function args fs t)
      (calls_peer_covers g tid oid face function args fs h (n + owed_in h k t.roots) t (with_frames g h k of_root fs n t fine))

  call_rooted : (tid : List ℕ) (target : Ref) (function : ℕ) (args : List Plain) (fs : List Frame) (n : ℕ) (t : Tables) → Rooted h k n t
      → Rooted h k n (applies_call g tid target function args fs t).tables
  call_rooted tid null function args fs n t fine = fine
  call_rooted tid (own oid face) function args fs n t fine = calls_own_rooted oid face function args fs n t fine
  call_rooted tid (peer oid face) function args fs n t fine = calls_peer_rooted tid oid face function args fs n t fine

  query_rooted : (tid : List ℕ) (target : Ref) (wanted : List ℕ) (fs : List Frame) (n : ℕ) (t : Tables) → Rooted h k n t
      → Rooted h k n (applies_query g tid target wanted fs t).tables
  query_rooted tid null wanted fs n t fine = fine
  query_rooted tid (own oid face) wanted fs n t fine =
      let x = object_answer g oid (kd.interface wanted) t.objects in
      hands_rooted g h k of_root tid (returned x []) fs n (gains_below fs (returned x []) t) (gains_below_rooted h k fs (returned x []) n t fine)
  query_rooted tid (peer oid face) wanted fs n t fine = calls_peer_rooted tid oid face 0 (query_args wanted) fs n t fine

  -- ---- new objects

  pub makes_rooted : (behaviour : ℕ) (fields : List Plain) (n : ℕ) (t : Tables) → Rooted h k n t → Rooted h k n (makes_object behaviour fields t)
  makes_rooted behaviour fields n t fine =
      kept_in h k n t (makes_object behaviour fields t) (stay_makes_object behaviour fields t) (makes_covers behaviour fields h (n + owed_in h k t.roots) t fine)

  creating_rooted : (tid : List ℕ) (b : Body) (name : List ℕ) (made : Result Created Refusal) (fs : List Frame) (n : ℕ) (t : Tables) → Rooted h k n t
      → Rooted h k n (applies_creating g tid b name made fs t).tables
  unfolding applies_creating
  creating_rooted tid b name (Ok (fresh behaviour fields)) fs n t fine =
      ends_frame_rooted g h k of_root tid b (returned (v.ref (own (own_oid g (suc t.objects_made)) x_interface_name)) []) fs n (makes_object behaviour fields t)
      (makes_rooted behaviour fields n t fine)
  creating_rooted tid b name (Ok (singleton place)) fs n t fine =
      ends_frame_rooted g h k of_root tid b (returned (v.ref (own (own_oid g (singleton_object g.plan place)) x_interface_name)) []) fs n t fine
  creating_rooted tid b name (Err why) fs n t fine =
      ends_frame_rooted g h k of_root tid b (leaving_frame g.registry tid b (raised (kd.exception exception_name) (refusal_exception why name))) fs n t fine

  -- ---- effects

  -- an effect that leaves roots as they are
  effect_in : (tid : List ℕ) (b : Body) (fs : List Frame) (e : Effect) (n : ℕ) (t : Tables) → Stay t (applies g tid b fs e t).tables → Rooted h k n t
      → Rooted h k n (applies g tid b fs e t).tables
  effect_in tid b fs e n t stay fine =
      unwound_in g h k n t (applies g tid b fs e t) stay (applies_covers g tid b fs e h (n + owed_in h k t.roots) t (with_frames g h k of_root (body b ∷ fs) n t fine))

  pub applies_rooted : (tid : List ℕ) (b : Body) (fs : List Frame) (e : Effect) (n : ℕ) (t : Tables) → Rooted h k n t → Rooted h k n (applies g tid b fs e t).tables
  unfolding applies
  applies_rooted tid b fs (lets x) n t fine = effect_in tid b fs (lets x) n t (stay_changes g (lets x) b (variables_of g (object_numbered b.object t.objects)) t) fine
  applies_rooted tid b fs (sets x) n t fine = effect_in tid b fs (sets x) n t (stay_changes g (sets x) b (variables_of g (object_numbered b.object t.objects)) t) fine
  applies_rooted tid b fs (sets_field x) n t fine = effect_in tid b fs (sets_field x) n t (stay_changes g (sets_field x) b (variables_of g (object_numbered b.object t.objects)) t) fine
  applies_rooted tid b fs (drops name) n t fine = effect_in tid b fs (drops name) n t (stay_changes g (drops name) b (variables_of g (object_numbered b.object t.objects)) t) fine
  applies_rooted tid b fs skips n t fine = effect_in tid b fs skips n t (stay_changes g skips b (variables_of g (object_numbered b.object t.objects)) t) fine
  applies_rooted tid b fs (calls target function args to) n t fine = call_rooted tid target function args (body b ∷ fs) n t fine
  applies_rooted tid b fs (queries target wanted to) n t fine = query_rooted tid target wanted (body b ∷ fs) n t fine
  applies_rooted tid b fs (makes behaviour face to) n t fine =
      effect_in tid b fs (makes behaviour face to) n t
      (stay_gains (holder.Frame b.number) (own (own_oid g (suc t.objects_made)) face) (makes_default g behaviour t) ∙ stay_makes_default g behaviour t) fine
  applies_rooted tid b fs disposes n t fine = fine
  applies_rooted tid b fs (creates name args) n t fine = creating_rooted tid b name (created g.plan g.registry name args) fs n t fine
  applies_rooted tid b fs (returns x outs) n t fine = ends_frame_rooted g h k of_root tid b (returned x outs) fs n t fine
  applies_rooted tid b fs (raises j x) n t fine = ends_frame_rooted g h k of_root tid b (raised j x) fs n t fine
