-- What the effect of a statement does: to its frame, to its object, and to what is said.
use Rattle.std.specs.Prelude.{ℕ, suc, List, [], ◌∷◌, length, Option, None, Some, Result, Ok, Err}
use Rattle.message_model.specs.Messages.{returned, raised}
use Rattle.uno_model.specs.BuiltIn.{exception_name, x_interface_name}
use Rattle.uno_model.specs.Kinds as kd
use Rattle.uno_model.specs.Values.{Ref, own, peer, Plain}
use Rattle.uno_model.specs.Values as v
use Rattle.table_model.specs.declared.holder.Holder.{Holder}
use Rattle.table_model.specs.declared.holder.Holder.TheVariants as holder
use Rattle.plan_model.specs.Asking.{Effect, lets, sets, sets_field, drops, skips, calls, queries, makes, disposes, creates, returns, raises}
use Rattle.plan_model.specs.Effects.{effect}
use Rattle.plan_model.specs.Frames.{Variable, Body, Frame, body, Job}
use Rattle.plan_model.specs.Holdings.{variables_after, fields_after, held_by, let_go_by, with_variable, goes_on}
use Rattle.plan_model.specs.Leaving.{leaving_frame}
use Rattle.plan_model.specs.Services.{Created, fresh, singleton, created, refusal_exception}
use Rattle.plan_model.specs.Plans.{singleton_object}
use Rattle.plan_model.specs.declared.refusal.Refusal.{Refusal}
use Rattle.bridge_model.specs.Calls.{Unwound, unwound, calls_own, calls_peer, queries_peer}
use Rattle.bridge_model.specs.Handing.{hands, gains_below, ends_frame}
use Rattle.bridge_model.specs.Objects.{object_numbered, variables_of, object_answer, makes_object, makes_default, field_values, with_fields}
use Rattle.bridge_model.specs.References.{gains, gains_all, lets_go_all}
use Rattle.bridge_model.specs.Settings.{Setting, own_oid}
use Rattle.bridge_model.specs.Sides.{Object, Tables}

-- ---- what a statement may read

abbrev pub behaviour_number : Option Object → ℕ
behaviour_number None = 0
behaviour_number (Some o) = o.behaviour

-- the job of a method at the top of its thread
unfoldable pub job_of : Setting → List ℕ → Body → List Frame → Tables → Job
job_of g tid b fs t =
    record {
      tid = tid;
      frame = body b;
      fields = variables_of g (object_numbered b.object t.objects);
      depth = suc (length fs);
      behaviour = behaviour_number (object_numbered b.object t.objects);
      own = own_oid g b.object;
    }

-- ---- its own frame and object

-- a field is held by its object, all else by the frame
abbrev pub holder_for : Effect → Body → Holder
holder_for (sets_field x) b = holder.Object b.object
holder_for e b = holder.Frame b.number

abbrev pub with_fields_after : Effect → Body → List Variable → Tables → Tables
with_fields_after (sets_field x) b fields t = record t { objects = with_fields b.object (field_values (fields_after (sets_field x) fields)) t.objects }
with_fields_after e b fields t = t

-- the new value is held before the old one is let go
abbrev pub changes_own : Setting → Effect → Body → List Variable → Tables → Tables
changes_own g e b fields t =
    lets_go_all g (holder_for e b) (let_go_by b.variables fields e) (with_fields_after e b fields (gains_all (holder_for e b) (held_by e) t))

-- the frame goes on with its variables
abbrev pub goes_on_after : Setting → Effect → Body → List Frame → Tables → Unwound
goes_on_after g e b fs t =
    unwound
    (body (goes_on (variables_after e b.variables) b) ∷ fs)
    (changes_own g e b (variables_of g (object_numbered b.object t.objects)) t)

-- ---- calls and queries

abbrev pub applies_call : Setting → List ℕ → Ref → ℕ → List Plain → List Frame → Tables → Unwound
applies_call g tid v.null function args fs t = unwound fs t
applies_call g tid (own oid face) function args fs t = calls_own g oid face function args fs t
applies_call g tid (peer oid face) function args fs t = calls_peer g tid oid face function args fs t

-- an own object answers in the same event
abbrev pub answers_query : Setting → List ℕ → Plain → List Frame → Tables → Unwound
answers_query g tid x fs t = hands g tid (returned x []) fs (gains_below fs (returned x []) t)

abbrev pub applies_query : Setting → List ℕ → Ref → List ℕ → List Frame → Tables → Unwound
applies_query g tid v.null wanted fs t = unwound fs t
applies_query g tid (own oid face) wanted fs t = answers_query g tid (object_answer g oid (kd.interface wanted) t.objects) fs t
applies_query g tid (peer oid face) wanted fs t = queries_peer g tid oid face wanted fs t

-- ---- new objects

-- a variable gets the new object
abbrev pub applies_making : Setting → ℕ → (face to : List ℕ) → Body → List Frame → Tables → Unwound
applies_making g behaviour face to b fs t =
    unwound
    (body (goes_on (with_variable to (v.ref (own (own_oid g (suc t.objects_made)) face)) b.variables) b) ∷ fs)
    (gains (holder.Frame b.number) (own (own_oid g (suc t.objects_made)) face) (makes_default g behaviour t))

-- what the service manager creates is returned under XInterface
abbrev pub returns_object : Setting → List ℕ → Body → ℕ → List Frame → Tables → Unwound
returns_object g tid b n fs t = ends_frame g tid b (returned (v.ref (own (own_oid g n) x_interface_name)) []) fs t

unfoldable pub applies_creating : Setting → List ℕ → Body → List ℕ → Result Created Refusal → List Frame → Tables → Unwound
applies_creating g tid b name (Ok (fresh behaviour fields)) fs t = returns_object g tid b (suc t.objects_made) fs (makes_object behaviour fields t)
applies_creating g tid b name (Ok (singleton place)) fs t = returns_object g tid b (singleton_object g.plan place) fs t
applies_creating g tid b name (Err why) fs t =
    ends_frame g tid b (leaving_frame g.registry tid b (raised (kd.exception exception_name) (refusal_exception why name))) fs t

-- ---- effects

-- each but the end of the bridge, on the method at the top of a thread and the frames below it
unfoldable pub applies : Setting → List ℕ → Body → List Frame → Effect → Tables → Unwound
applies g tid b fs (lets x) t = goes_on_after g (lets x) b fs t
applies g tid b fs (sets x) t = goes_on_after g (sets x) b fs t
applies g tid b fs (sets_field x) t = goes_on_after g (sets_field x) b fs t
applies g tid b fs (drops name) t = goes_on_after g (drops name) b fs t
applies g tid b fs skips t = goes_on_after g skips b fs t
applies g tid b fs (calls target function args to) t = applies_call g tid target function args (body b ∷ fs) t
applies g tid b fs (queries target wanted to) t = applies_query g tid target wanted (body b ∷ fs) t
applies g tid b fs (makes behaviour face to) t = applies_making g behaviour face to b fs t
applies g tid b fs disposes t = unwound (body b ∷ fs) t
applies g tid b fs (creates name args) t = applies_creating g tid b name (created g.plan g.registry name args) fs t
applies g tid b fs (returns x outs) t = ends_frame g tid b (returned x outs) fs t
applies g tid b fs (raises k x) t = ends_frame g tid b (raised k x) fs t

-- the effect of the job
abbrev pub effect_at : Setting → List ℕ → Body → List Frame → Tables → Effect
effect_at g tid b fs t = effect g.plan g.registry (job_of g tid b fs t)
