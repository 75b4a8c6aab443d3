-- Each effect of a statement keeps that all that is held lives, where all that it refers to does.
use Rattle.std.proofs.Common.{◌≡◌, ℕ, suc, ◌≤◌, ◌<◌, Bool, ◌==◌, List, [], ◌∷◌, length, map, Option, None, Some, Result, Ok, Err, refl, sym, ap, ◌∙◌, arith}
use Rattle.std.proofs.lemmas.Bool.{or_right}
use Rattle.std.proofs.lemmas.Slice.Eq.{bytes_eq-Decides}
use Rattle.std.specs.Str.{bytes_eq}
use Rattle.message_model.specs.Messages.{returned, raised}
use Rattle.uno_model.specs.BuiltIn.{exception_name, x_interface_name}
use Rattle.uno_model.specs.Defaults.{default_of_kind}
use Rattle.uno_model.specs.Entities.{Entity, Field}
use Rattle.uno_model.specs.Kinds as kd
use Rattle.uno_model.specs.Values.{Ref, null, own, peer, Plain, refs, object_in}
use Rattle.uno_model.specs.Values as v
use Rattle.uno_model.proofs.DefaultLaws.{default_holds_none}
use Rattle.table_model.specs.declared.holder.Holder.TheVariants as holder
use Rattle.plan_model.specs.Asking.{Effect, lets, sets, sets_field, drops, skips, calls, queries, makes, disposes, creates, returns, raises}
use Rattle.plan_model.specs.Frames.{Variable, Body, Frame, body}
use Rattle.plan_model.specs.Holdings.{put, variables_after, fields_after, held_by, let_go_by, with_variable, goes_on, refs_under}
use Rattle.plan_model.specs.Leaving.{leaving_frame}
use Rattle.plan_model.specs.Plans.{Plan, first_objects, singleton_object}
use Rattle.plan_model.specs.Services.{Created, fresh, singleton, created, refusal_exception}
use Rattle.plan_model.specs.declared.refusal.Refusal.{Refusal}
use Rattle.bridge_model.specs.Applying.{goes_on_after, applies_call, answers_query, applies_query, applies_making, returns_object, applies_creating, applies}
use Rattle.bridge_model.specs.Calls.{Unwound, unwound, query_args}
use Rattle.bridge_model.specs.Handing.{gains_below}
use Rattle.bridge_model.specs.Objects.{object_numbered, fields_of, variables_of, object_answer, makes_object, makes_default, defaults_of, field_values, with_fields}
use Rattle.bridge_model.specs.References.{gains_all, lets_go_all, refs_of_values, refs_of_answer}
use Rattle.bridge_model.specs.Settings.{Setting, own_oid}
use Rattle.bridge_model.specs.Sides.{Object, Tables}
use Rattle.bridge_laws.specs.Counting.{total}
use Rattle.bridge_laws.proofs.ApplyingLaws.{KeepsVariables, lets_keeps, sets_keeps, drops_keeps, skips_keeps, own_owes}
use Rattle.bridge_laws.proofs.CreatedLaws.{created_counts, created_refs, IsPlaced, created_placed, singleton_there}
use Rattle.bridge_laws.proofs.EffectLaws.{effect_counts, leaving_frame_counts}
use Rattle.bridge_laws.proofs.HandingLaws.{returned_owes}
use Rattle.bridge_laws.proofs.IdentityLaws.{given_own, there_lives, own_alive, alive_own, object_answer_lives}
use Rattle.bridge_laws.proofs.LivingFrameLaws.{frames_untold, Living, AnswerLives, body_told, calls_own_lives, calls_peer_lives, gains_below_alive, hands_lives, ends_frame_lives}
use Rattle.bridge_laws.proofs.LivingTableLaws.{object_untold, AliveIn, lives_with, gains_alive, gains_all_alive, lets_go_all_alive, makes_alive, fields_alive}
use Rattle.bridge_laws.proofs.ObjectLaws.{fields_in, variables_owe}
use Rattle.bridge_laws.proofs.StrayLaws.{untold, strays, told_unless_stray}
use Rattle.bridge_laws.proofs.Sums.{found_at_most}
use Rattle.bridge_laws.proofs.VariableLaws.{put_owes, with_variable_owes, field_values_owe, values_more, values_none}

-- ---- words

-- all that is held lives, whatever it is by then
pub record SomeLiving (g : Setting) (m : ℕ) (u : Unwound) : Type 0 where
  pub live : List ℕ → Bool
  pub living : Living g m live u

-- ---- its own frame

frame_lives : (g : Setting) (m : ℕ) (live : List ℕ → Bool) (e : Effect) (b : Body) (fs : List Frame) (t : Tables) (fields : List Variable) → KeepsVariables e
    → total (strays g live) (held_by e) ≡ 0 → frames_untold g (body b ∷ fs) ≡ 0 → AliveIn g m live t
    → Living g m live (unwound (body (goes_on (variables_after e b.variables) b) ∷ fs)
    (lets_go_all g (holder.Frame b.number) (let_go_by b.variables fields e) (gains_all (holder.Frame b.number) (held_by e) t)))
unfolding goes_on
frame_lives g m live e b fs t fields keeps fine told alive =
    let before = body_told g b fs in
    let after = body_told g (goes_on (variables_after e b.variables) b) fs in
    let enough = keeps (untold g) b.variables fields in
    let most = told_unless_stray g live (held_by e) in (
      lets_go_all_alive g m live (holder.Frame b.number) (let_go_by b.variables fields e) (gains_all (holder.Frame b.number) (held_by e) t)
          (gains_all_alive g m live (holder.Frame b.number) (held_by e) t fine alive),
      omega arith,
    )

held_lets : (f : Ref → ℕ) (x : Variable) → total f (held_by (lets x)) ≡ effect_counts f (lets x)
unfolding held_by
held_lets f x = refl

held_sets : (f : Ref → ℕ) (x : Variable) → total f (held_by (sets x)) ≡ effect_counts f (sets x)
unfolding held_by
held_sets f x = refl

held_none : (f : Ref → ℕ) (e : Effect) → held_by e ≡ [] → total f (held_by e) ≡ 0
unfolding total
held_none f e is = ap (total f) is

drops_none : (name : List ℕ) → held_by (drops name) ≡ []
unfolding held_by
drops_none name = refl

skips_none : held_by skips ≡ []
unfolding held_by
skips_none = refl

-- ---- a field of its object

pub found_told : (g : Setting) (n : ℕ) (o : Option Object) (os : List Object) → object_numbered n os ≡ o → total (object_untold g) os ≡ 0 → total (untold g) (refs_of_values (fields_in o)) ≡ 0
unfolding object_numbered object_untold
found_told g n None os is told = values_none (untold g)
found_told g n (Some o) os is told = let one = found_at_most (object_untold g) (λ o. n == o.number) o os is in omega arith

-- the fields of an object tell their references
pub variables_told : (g : Setting) (n : ℕ) (os : List Object) → total (object_untold g) os ≡ 0 → total (untold g) (refs_under (variables_of g (object_numbered n os))) ≡ 0
variables_told g n os told =
    let fields = found_told g n (object_numbered n os) os refl told in
    let most = variables_owe (untold g) g (object_numbered n os) in omega arith

field_told : (g : Setting) (x : Variable) (n : ℕ) (os : List Object) → total (untold g) (refs x.value) ≡ 0 → total (object_untold g) os ≡ 0
    → total (untold g) (refs_of_values (field_values (put x.name x.value (variables_of g (object_numbered n os))))) ≡ 0
field_told g x n os fine told =
    let variables = variables_told g n os told in
    let values = field_values_owe (untold g) (put x.name x.value (variables_of g (object_numbered n os))) in
    let placed = put_owes (untold g) x.name x.value (variables_of g (object_numbered n os)) in omega arith

field_lives : (g : Setting) (m : ℕ) (live : List ℕ → Bool) (x : Variable) (b : Body) (fs : List Frame) (t : Tables) → total (strays g live) (refs x.value) ≡ 0
    → frames_untold g (body b ∷ fs) ≡ 0 → AliveIn g m live t → Living g m live (goes_on_after g (sets_field x) b fs t)
unfolding goes_on variables_after fields_after let_go_by held_by
field_lives g m live x b fs t fine told alive =
    let before = body_told g b fs in
    let after = body_told g (goes_on b.variables b) fs in
    let most = told_unless_stray g live (refs x.value) in
    let objects = alive.told in (
      lets_go_all_alive g m live (holder.Object b.object) (let_go_by b.variables (variables_of g (object_numbered b.object t.objects)) (sets_field x))
          (record (gains_all (holder.Object b.object) (refs x.value) t) {
            objects = with_fields b.object (field_values (put x.name x.value (variables_of g (object_numbered b.object t.objects)))) (gains_all (holder.Object b.object) (refs x.value) t).objects;
          })
          (fields_alive g m live b.object (field_values (put x.name x.value (variables_of g (object_numbered b.object t.objects)))) (gains_all (holder.Object b.object) (refs x.value) t)
          (field_told g x b.object t.objects (omega arith) alive.told)
          (gains_all_alive g m live (holder.Object b.object) (refs x.value) t fine alive)),
      omega arith,
    )

-- ---- calls and queries

call_lives : (g : Setting) (m : ℕ) (live : List ℕ → Bool) (tid : List ℕ) (target : Ref) (function : ℕ) (args : List Plain) (fs : List Frame) (t : Tables)
    → total (strays g live) (object_in target) ≡ 0 → total (strays g live) (refs_of_values args) ≡ 0 → frames_untold g fs ≡ 0 → AliveIn g m live t
    → Living g m live (applies_call g tid target function args fs t)
unfolding total
call_lives g m live tid null function args fs t target fine told alive = (alive, told)
call_lives g m live tid (own oid face) function args fs t target fine told alive = calls_own_lives g m live oid face function args fs t (omega arith) fine told alive
call_lives g m live tid (peer oid face) function args fs t target fine told alive = calls_peer_lives g m live tid oid face function args fs t fine told alive

pub single_answer : (f : Ref → ℕ) (x : Plain) → total f (refs x) ≡ 0 → total f (refs_of_answer (returned x [])) ≡ 0
single_answer f x fine = let parts = returned_owes f x [] in let none = values_none f in omega arith

answered_lives : (g : Setting) (m : ℕ) (live : List ℕ → Bool) (tid : List ℕ) (x : Plain) (fs : List Frame) (t : Tables) → total (strays g live) (refs x) ≡ 0 → frames_untold g fs ≡ 0
    → AliveIn g m live t → Living g m live (answers_query g tid x fs t)
answered_lives g m live tid x fs t fine told alive =
    hands_lives g m live tid (returned x []) fs (gains_below fs (returned x []) t) (single_answer (strays g live) x fine) told
    (gains_below_alive g m live fs (returned x []) t (single_answer (strays g live) x fine) alive)

-- what a query asks with refers to nothing
pub query_args_live : (f : Ref → ℕ) (wanted : List ℕ) → total f (refs_of_values (query_args wanted)) ≡ 0
unfolding refs total
query_args_live f wanted = let parts = values_more f (v.kind (kd.interface wanted)) [] in let none = values_none f in omega arith

query_lives : (g : Setting) (m : ℕ) (live : List ℕ → Bool) (tid : List ℕ) (target : Ref) (wanted : List ℕ) (fs : List Frame) (t : Tables) → total (strays g live) (object_in target) ≡ 0
    → frames_untold g fs ≡ 0 → AliveIn g m live t → Living g m live (applies_query g tid target wanted fs t)
unfolding total
query_lives g m live tid null wanted fs t target told alive = (alive, told)
query_lives g m live tid (own oid face) wanted fs t target told alive =
    answered_lives g m live tid (object_answer g oid (kd.interface wanted) t.objects) fs t
    (object_answer_lives g m live oid (kd.interface wanted) t (own_alive g live oid face (omega arith)).0 alive) told alive
query_lives g m live tid (peer oid face) wanted fs t target told alive = calls_peer_lives g m live tid oid face 0 (query_args wanted) fs t (query_args_live (strays g live) wanted) told alive

-- ---- new objects

pub defaults_of_fields : (f : Ref → ℕ) (reg : List Entity) (fs : List Field) → total f (refs_of_values (map (λ x. default_of_kind reg x.kind) fs)) ≡ 0
unfolding total
defaults_of_fields f reg [] = values_none f
defaults_of_fields f reg (x ∷ xs) =
    let parts = values_more f (default_of_kind reg x.kind) (map (λ x. default_of_kind reg x.kind) xs) in
    let here = ap (total f) (default_holds_none reg x.kind) in let rest = defaults_of_fields f reg xs in omega arith

pub default_alive : (g : Setting) (m : ℕ) (live : List ℕ → Bool) (behaviour : ℕ) (t : Tables) → AliveIn g m live t
    → AliveIn g m (lives_with g live (suc t.objects_made)) (makes_default g behaviour t)
default_alive g m live behaviour t alive = makes_alive g m live behaviour (defaults_of g behaviour) t (defaults_of_fields (strays g live) g.registry (fields_of g behaviour)) alive

one_total : (f : Ref → ℕ) (r : Ref) → total f (r ∷ []) ≡ f r
unfolding total
one_total f r = omega arith

-- the object that is made lives
pub made_lives : (g : Setting) (live : List ℕ → Bool) (n : ℕ) (face : List ℕ) → strays g (lives_with g live n) (own (own_oid g n) face) ≡ 0
made_lives g live n face =
    alive_own g (lives_with g live n) (own_oid g n) face (given_own g n) (or_right (live (own_oid g n)) (bytes_eq (own_oid g n) (own_oid g n)) ((bytes_eq-Decides (own_oid g n) (own_oid g n)).1 refl))

making_lives : (g : Setting) (m : ℕ) (live : List ℕ → Bool) (behaviour : ℕ) (face to : List ℕ) (b : Body) (fs : List Frame) (t : Tables) → frames_untold g (body b ∷ fs) ≡ 0
    → AliveIn g m live t → Living g m (lives_with g live (suc t.objects_made)) (applies_making g behaviour face to b fs t)
unfolding goes_on
making_lives g m live behaviour face to b fs t told alive =
    let before = body_told g b fs in
    let after = body_told g (goes_on (with_variable to (v.ref (own (own_oid g (suc t.objects_made)) face)) b.variables) b) fs in
    let more = with_variable_owes (untold g) to (v.ref (own (own_oid g (suc t.objects_made)) face)) b.variables in
    let one = own_owes (untold g) (own_oid g (suc t.objects_made)) face in
    let made = made_lives g live (suc t.objects_made) face in
    let most = told_unless_stray g (lives_with g live (suc t.objects_made)) (own (own_oid g (suc t.objects_made)) face ∷ []) in
    let left = one_total (untold g) (own (own_oid g (suc t.objects_made)) face) in
    let right = one_total (strays g (lives_with g live (suc t.objects_made))) (own (own_oid g (suc t.objects_made)) face) in (
      gains_alive g m (lives_with g live (suc t.objects_made)) (holder.Frame b.number) (own (own_oid g (suc t.objects_made)) face) (makes_default g behaviour t) made
          (default_alive g m live behaviour t alive),
      omega arith,
    )

returned_object : (g : Setting) (live : List ℕ → Bool) (n : ℕ) → strays g live (own (own_oid g n) x_interface_name) ≡ 0
    → AnswerLives g live (returned (v.ref (own (own_oid g n) x_interface_name)) [])
returned_object g live n fine =
    single_answer (strays g live) (v.ref (own (own_oid g n) x_interface_name)) (own_owes (strays g live) (own_oid g n) x_interface_name ∙ fine)

returns_object_lives : (g : Setting) (m : ℕ) (live : List ℕ → Bool) (tid : List ℕ) (b : Body) (n : ℕ) (fs : List Frame) (t : Tables)
    → strays g live (own (own_oid g n) x_interface_name) ≡ 0 → frames_untold g (body b ∷ fs) ≡ 0 → AliveIn g m live t → Living g m live (returns_object g tid b n fs t)
returns_object_lives g m live tid b n fs t fine told alive =
    let all = body_told g b fs in
    ends_frame_lives g m live tid b (returned (v.ref (own (own_oid g n) x_interface_name)) []) fs t (returned_object g live n fine) (omega arith) alive

singleton_least : (p : Plan) (place : ℕ) → 1 ≤ singleton_object p place
unfolding singleton_object
singleton_least p place = omega arith

-- a singleton lives
singleton_lives : (g : Setting) (live : List ℕ → Bool) (place : ℕ) (t : Tables) → place < length g.plan.singletons → AliveIn g (length (first_objects g.plan)) live t
    → strays g live (own (own_oid g (singleton_object g.plan place)) x_interface_name) ≡ 0
singleton_lives g live place t within alive =
    let there = alive.there (singleton_object g.plan place) (singleton_least g.plan place) (singleton_there g.plan place within) in
    alive_own g live (own_oid g (singleton_object g.plan place)) x_interface_name (given_own g (singleton_object g.plan place))
    (sym (alive.named (own_oid g (singleton_object g.plan place))) ∙ there_lives g (singleton_object g.plan place) t.objects there)

refusal_none : (f : Ref → ℕ) (why : Refusal) (name : List ℕ) → total f (refs_of_answer (raised (kd.exception exception_name) (refusal_exception why name))) ≡ 0
unfolding refs_of_answer refs total
refusal_none f why name = refl

creating_lives : (g : Setting) (live : List ℕ → Bool) (tid : List ℕ) (b : Body) (name : List ℕ) (made : Result Created Refusal) (fs : List Frame) (t : Tables)
    → created_counts (strays g live) made ≡ 0 → IsPlaced g.plan made → frames_untold g (body b ∷ fs) ≡ 0 → AliveIn g (length (first_objects g.plan)) live t
    → SomeLiving g (length (first_objects g.plan)) (applies_creating g tid b name made fs t)
unfolding applies_creating
creating_lives g live tid b name (Ok (fresh behaviour fields)) fs t fine placed told alive =
    record {
      live = lives_with g live (suc t.objects_made);
      living =
          returns_object_lives g (length (first_objects g.plan)) (lives_with g live (suc t.objects_made)) tid b (suc t.objects_made) fs (makes_object behaviour fields t)
          (made_lives g live (suc t.objects_made) x_interface_name) told
          (makes_alive g (length (first_objects g.plan)) live behaviour fields t fine alive);
    }
creating_lives g live tid b name (Ok (singleton place)) fs t fine placed told alive =
    record {
      live = live;
      living =
          returns_object_lives g (length (first_objects g.plan)) live tid b (singleton_object g.plan place) fs t (singleton_lives g live place t placed alive) told alive;
    }
creating_lives g live tid b name (Err why) fs t fine placed told alive =
    let all = body_told g b fs in
    let most = leaving_frame_counts (strays g live) g.registry tid b (raised (kd.exception exception_name) (refusal_exception why name)) in
    let none = refusal_none (strays g live) why name in
    record {
      live = live;
      living =
          ends_frame_lives g (length (first_objects g.plan)) live tid b (leaving_frame g.registry tid b (raised (kd.exception exception_name) (refusal_exception why name))) fs t
          (omega arith) (omega arith) alive;
    }

-- ---- effects

living_by : {g : Setting} {m : ℕ} {u : Unwound} (live : List ℕ → Bool) → Living g m live u → SomeLiving g m u
living_by live living = record { live = live; living = living }

-- the frames below a method tell their references
below_told : (g : Setting) (b : Body) (fs : List Frame) → frames_untold g (body b ∷ fs) ≡ 0 → frames_untold g fs ≡ 0
below_told g b fs told = let all = body_told g b fs in omega arith

pub applies_lives : (g : Setting) (live : List ℕ → Bool) (tid : List ℕ) (b : Body) (fs : List Frame) (e : Effect) (t : Tables) → effect_counts (strays g live) e ≡ 0
    → frames_untold g (body b ∷ fs) ≡ 0 → AliveIn g (length (first_objects g.plan)) live t → SomeLiving g (length (first_objects g.plan)) (applies g tid b fs e t)
unfolding applies
applies_lives g live tid b fs (lets x) t fine told alive =
    living_by live (frame_lives g _ live (lets x) b fs t (variables_of g (object_numbered b.object t.objects)) (lets_keeps x) (held_lets (strays g live) x ∙ fine) told alive)
applies_lives g live tid b fs (sets x) t fine told alive =
    living_by live (frame_lives g _ live (sets x) b fs t (variables_of g (object_numbered b.object t.objects)) (sets_keeps x) (held_sets (strays g live) x ∙ fine) told alive)
applies_lives g live tid b fs (sets_field x) t fine told alive = living_by live (field_lives g _ live x b fs t fine told alive)
applies_lives g live tid b fs (drops name) t fine told alive =
    living_by live
    (frame_lives g _ live (drops name) b fs t (variables_of g (object_numbered b.object t.objects)) (drops_keeps name) (held_none (strays g live) (drops name) (drops_none name)) told alive)
applies_lives g live tid b fs skips t fine told alive =
    living_by live (frame_lives g _ live skips b fs t (variables_of g (object_numbered b.object t.objects)) skips_keeps (held_none (strays g live) skips skips_none) told alive)
applies_lives g live tid b fs (calls target function args to) t fine told alive =
    living_by live (call_lives g _ live tid target function args (body b ∷ fs) t (omega arith) (omega arith) told alive)
applies_lives g live tid b fs (queries target wanted to) t fine told alive = living_by live (query_lives g _ live tid target wanted (body b ∷ fs) t fine told alive)
applies_lives g live tid b fs (makes behaviour face to) t fine told alive =
    living_by (lives_with g live (suc t.objects_made)) (making_lives g _ live behaviour face to b fs t told alive)
applies_lives g live tid b fs disposes t fine told alive = living_by live (alive, told)
applies_lives g live tid b fs (creates name args) t fine told alive =
    creating_lives g live tid b name (created g.plan g.registry name args) fs t (created_refs (strays g live) g.registry g.plan name args fine) (created_placed g.registry g.plan name args) told alive
applies_lives g live tid b fs (returns x outs) t fine told alive = living_by live (ends_frame_lives g _ live tid b (returned x outs) fs t fine (below_told g b fs told) alive)
applies_lives g live tid b fs (raises k x) t fine told alive = living_by live (ends_frame_lives g _ live tid b (raised k x) fs t fine (below_told g b fs told) alive)
