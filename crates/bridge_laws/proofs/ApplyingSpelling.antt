-- What an effect does leaves what can be carried by bytes.
use Rattle.std.proofs.Common.{ℕ, suc, List, [], ◌∷◌, Result, Ok, Err, refl}
use Rattle.std.specs.Str.{IsUtf8}
use Rattle.message_model.specs.Messages.{returned, raised}
use Rattle.uno_model.specs.BuiltIn.{exception_name, x_interface_name}
use Rattle.uno_model.specs.Kinds as kd
use Rattle.uno_model.specs.Spellable.{IsSpellableRef, IsSpellable}
use Rattle.uno_model.specs.Values.{Ref, own, peer, Plain}
use Rattle.uno_model.specs.Values as v
use Rattle.urp_model.proofs.Utf8Laws.{utf8_of_ascii}
use Rattle.table_model.specs.declared.holder.Holder.TheVariants as holder
use Rattle.plan_model.specs.Asking.{Effect, lets, sets, sets_field, drops, skips, calls, queries, makes, disposes, creates, returns, raises}
use Rattle.plan_model.specs.Frames.{Variable, Body, Frame, body}
use Rattle.plan_model.specs.Holdings.{variables_after, fields_after, held_by, let_go_by, with_variable}
use Rattle.plan_model.specs.Leaving.{leaving_frame}
use Rattle.plan_model.specs.Plans.{singleton_object}
use Rattle.plan_model.specs.Services.{Created, fresh, singleton, created, refusal_exception}
use Rattle.plan_model.specs.declared.refusal.Refusal.{Refusal}
use Rattle.bridge_model.specs.Applying.{job_of, holder_for, with_fields_after, goes_on_after, applies_call, answers_query, applies_query, applies_making, returns_object, applies_creating, applies, effect_at}
use Rattle.bridge_model.specs.Handing.{gains_below}
use Rattle.bridge_model.specs.Objects.{object_numbered, variables_of, object_answer, makes_object, makes_default, field_values}
use Rattle.bridge_model.specs.References.{gains_all}
use Rattle.bridge_model.specs.Settings.{Setting, own_oid}
use Rattle.bridge_model.specs.Sides.{Tables}
use Rattle.bridge_laws.proofs.CallSpelling.{calls_own_spellable, calls_peer_spellable, queries_peer_spellable}
use Rattle.bridge_laws.proofs.EffectSpelling.{EffectSpellable, leaving_frame_goes}
use Rattle.bridge_laws.proofs.EvaluationSpelling.{VariablesSpellable}
use Rattle.bridge_laws.proofs.SpellableGiven.{IsGiven}
use Rattle.bridge_laws.proofs.HandingSpelling.{FramesSpellable, UnwoundSpellable, with_spellable, put_spellable, without_spellable, frame_goes_on, gains_below_spellable, hands_spellable, ends_frame_spellable}
use Rattle.bridge_laws.proofs.JobSpelling.{job_spellable, CreatedSpellable, created_spellable, refusal_spellable}
use Rattle.bridge_laws.proofs.ObjectSpelling.{object_variables, values_spellable, with_fields_spellable, makes_spellable, makes_default_spellable, object_answers}
use Rattle.bridge_laws.proofs.TableSpelling.{TablesSpellable, gains_spellable, gains_all_spellable, lets_go_all_spellable}
use Rattle.bridge_laws.proofs.ValueSpelling.{AllSpellable, RefsSpellable, refs_spellable, ref_spellable, own_utf8}

-- ---- its own frame and object

variables_spellable : (e : Effect) (xs : List Variable) → EffectSpellable e → VariablesSpellable xs → VariablesSpellable (variables_after e xs)
unfolding variables_after
variables_spellable (lets x) xs is fine = with_spellable x.name x.value xs is fine
variables_spellable (sets x) xs is fine = put_spellable x.name x.value xs is fine
variables_spellable (drops name) xs is fine = without_spellable name xs fine
variables_spellable e xs is fine = fine

held_spellable : (e : Effect) → EffectSpellable e → RefsSpellable (held_by e)
unfolding held_by
held_spellable (lets x) is = refs_spellable x.value is
held_spellable (sets x) is = refs_spellable x.value is
held_spellable (sets_field x) is = refs_spellable x.value is
held_spellable e is = tt

fields_spellable : (x : Variable) (xs : List Variable) → IsSpellable x.value → VariablesSpellable xs → VariablesSpellable (fields_after (sets_field x) xs)
unfolding fields_after
fields_spellable x xs is fine = put_spellable x.name x.value xs is fine

fields_set : (e : Effect) (b : Body) (fields : List Variable) (t : Tables) → EffectSpellable e → VariablesSpellable fields → TablesSpellable t → TablesSpellable (with_fields_after e b fields t)
fields_set (sets_field x) b fields t is variables fine =
    record {
      fields =
          with_fields_spellable b.object (field_values (fields_after (sets_field x) fields)) t.objects
          (values_spellable (fields_after (sets_field x) fields) (fields_spellable x fields is variables)) fine.fields;
      held = fine.held;
      states = fine.states;
      said = fine.said;
    }
fields_set e b fields t is variables fine = fine

module _ (g : Setting) (given : IsGiven g) where
  goes_on_after_spellable : (e : Effect) (b : Body) (fs : List Frame) (t : Tables) → EffectSpellable e → VariablesSpellable b.variables → FramesSpellable fs → TablesSpellable t
      → UnwoundSpellable (goes_on_after g e b fs t)
  goes_on_after_spellable e b fs t is variables frames fine =
      let fields = variables_of g (object_numbered b.object t.objects) in
      let held = gains_all_spellable (holder_for e b) (held_by e) t (held_spellable e is) fine in
      record {
        frames = (frame_goes_on (variables_after e b.variables) b (variables_spellable e b.variables is variables), frames);
        tables =
            lets_go_all_spellable g (holder_for e b) (let_go_by b.variables fields e) (with_fields_after e b fields (gains_all (holder_for e b) (held_by e) t))
            (fields_set e b fields (gains_all (holder_for e b) (held_by e) t) is (object_variables g b.object t.objects fine.fields) held);
      }

  -- ---- calls and queries

  call_applied : (tid : List ℕ) (target : Ref) (function : ℕ) (args : List Plain) (fs : List Frame) (t : Tables) → IsSpellableRef target → AllSpellable args → FramesSpellable fs
      → TablesSpellable t → UnwoundSpellable (applies_call g tid target function args fs t)
  call_applied tid v.null function args fs t is all frames fine = record { frames = frames; tables = fine }
  call_applied tid (own oid face) function args fs t is all frames fine = calls_own_spellable g given oid face function args fs t all frames fine
  call_applied tid (peer oid face) function args fs t is all frames fine = calls_peer_spellable g given tid oid face function args fs t is all frames fine

  query_answered : (tid : List ℕ) (x : Plain) (fs : List Frame) (t : Tables) → IsSpellable x → FramesSpellable fs → TablesSpellable t → UnwoundSpellable (answers_query g tid x fs t)
  query_answered tid x fs t is frames fine =
      hands_spellable g tid (returned x []) fs (gains_below fs (returned x []) t) (is, tt) frames (gains_below_spellable fs (returned x []) t (is, tt) fine)

  query_applied : (tid : List ℕ) (target : Ref) (wanted : List ℕ) (fs : List Frame) (t : Tables) → IsSpellableRef target → FramesSpellable fs → TablesSpellable t
      → UnwoundSpellable (applies_query g tid target wanted fs t)
  query_applied tid v.null wanted fs t is frames fine = record { frames = frames; tables = fine }
  query_applied tid (own oid face) wanted fs t is frames fine =
      query_answered tid (object_answer g oid (kd.interface wanted) t.objects) fs t (object_answers g given oid (kd.interface wanted) t.objects is) frames fine
  query_applied tid (peer oid face) wanted fs t is frames fine = queries_peer_spellable g given tid oid face wanted fs t is frames fine

  -- ---- new objects

  making_applied : (behaviour : ℕ) (face to : List ℕ) (b : Body) (fs : List Frame) (t : Tables) → VariablesSpellable b.variables → FramesSpellable fs → TablesSpellable t
      → UnwoundSpellable (applies_making g behaviour face to b fs t)
  making_applied behaviour face to b fs t variables frames fine =
      let name = own_utf8 g given.tag (suc t.objects_made) in
      let new = v.ref (own (own_oid g (suc t.objects_made)) face) in
      record {
        frames = (
          frame_goes_on (with_variable to new b.variables) b (with_spellable to new b.variables (ref_spellable (own (own_oid g (suc t.objects_made)) face) name) variables),
          frames,
        );
        tables =
            gains_spellable (holder.Frame b.number) (own (own_oid g (suc t.objects_made)) face) (makes_default g behaviour t) name
            (makes_default_spellable g given behaviour t fine);
      }

  returned_object : (tid : List ℕ) (b : Body) (n : ℕ) (fs : List Frame) (t : Tables) → FramesSpellable fs → TablesSpellable t → UnwoundSpellable (returns_object g tid b n fs t)
  returned_object tid b n fs t frames fine =
      ends_frame_spellable g tid b (returned (v.ref (own (own_oid g n) x_interface_name)) []) fs t (ref_spellable (own (own_oid g n) x_interface_name) (own_utf8 g given.tag n), tt) frames fine

  creating_applied : (tid : List ℕ) (b : Body) (name : List ℕ) (c : Result Created Refusal) (fs : List Frame) (t : Tables) → IsUtf8 name → CreatedSpellable c → FramesSpellable fs
      → TablesSpellable t → UnwoundSpellable (applies_creating g tid b name c fs t)
  unfolding applies_creating
  creating_applied tid b name (Ok (fresh behaviour fields)) fs t text is frames fine =
      returned_object tid b (suc t.objects_made) fs (makes_object behaviour fields t) frames (makes_spellable behaviour fields t is fine)
  creating_applied tid b name (Ok (singleton place)) fs t text is frames fine = returned_object tid b (singleton_object g.plan place) fs t frames fine
  creating_applied tid b name (Err why) fs t text is frames fine =
      ends_frame_spellable g tid b (leaving_frame g.registry tid b (raised (kd.exception exception_name) (refusal_exception why name))) fs t
      (leaving_frame_goes g.registry tid b (raised (kd.exception exception_name) (refusal_exception why name)) (utf8_of_ascii exception_name refl, refusal_spellable why name text))
      frames fine

  -- ---- effects

  effect_applied : (tid : List ℕ) (b : Body) (fs : List Frame) (e : Effect) (t : Tables) → EffectSpellable e → VariablesSpellable b.variables → FramesSpellable fs → TablesSpellable t
      → UnwoundSpellable (applies g tid b fs e t)
  unfolding applies
  effect_applied tid b fs (lets x) t is variables frames fine = goes_on_after_spellable (lets x) b fs t is variables frames fine
  effect_applied tid b fs (sets x) t is variables frames fine = goes_on_after_spellable (sets x) b fs t is variables frames fine
  effect_applied tid b fs (sets_field x) t is variables frames fine = goes_on_after_spellable (sets_field x) b fs t is variables frames fine
  effect_applied tid b fs (drops name) t is variables frames fine = goes_on_after_spellable (drops name) b fs t is variables frames fine
  effect_applied tid b fs skips t is variables frames fine = goes_on_after_spellable skips b fs t is variables frames fine
  effect_applied tid b fs (calls target function args to) t is variables frames fine = call_applied tid target function args (body b ∷ fs) t is.0 is.1 (variables, frames) fine
  effect_applied tid b fs (queries target wanted to) t is variables frames fine = query_applied tid target wanted (body b ∷ fs) t is (variables, frames) fine
  effect_applied tid b fs (makes behaviour face to) t is variables frames fine = making_applied behaviour face to b fs t variables frames fine
  effect_applied tid b fs disposes t is variables frames fine = record { frames = (variables, frames); tables = fine }
  effect_applied tid b fs (creates name args) t is variables frames fine =
      creating_applied tid b name (created g.plan g.registry name args) fs t is.0 (created_spellable g.registry given.items g.plan name args is.1) frames fine
  effect_applied tid b fs (returns x outs) t is variables frames fine = ends_frame_spellable g tid b (returned x outs) fs t is frames fine
  effect_applied tid b fs (raises k x) t is variables frames fine = ends_frame_spellable g tid b (raised k x) fs t is frames fine

  -- what a method at the top of a thread asks
  asked_spellable : (tid : List ℕ) (b : Body) (fs : List Frame) (t : Tables) → VariablesSpellable b.variables → TablesSpellable t → EffectSpellable (effect_at g tid b fs t)
  unfolding job_of
  asked_spellable tid b fs t variables fine =
      job_spellable g.registry given.sound.named given.items g.plan (job_of g tid b fs t) b refl variables (object_variables g b.object t.objects fine.fields) (own_utf8 g given.tag b.object) given.plan

  pub method_applied : (tid : List ℕ) (b : Body) (fs : List Frame) (t : Tables) → VariablesSpellable b.variables → FramesSpellable fs → TablesSpellable t
      → UnwoundSpellable (applies g tid b fs (effect_at g tid b fs t) t)
  method_applied tid b fs t variables frames fine = effect_applied tid b fs (effect_at g tid b fs t) t (asked_spellable tid b fs t variables fine) variables frames fine
