-- What a method does to its own variables and fields leaves what fits.
use Rattle.std.proofs.Common.{◌≡◌, ℕ, ◌==◌, true, List, [], ◌∷◌, None, Some, refl, sym, ap, subst, arith}
use Rattle.message_model.specs.Sayable.{IsThread}
use Rattle.uno_model.specs.Values.{Ref, Plain, refs}
use Rattle.table_model.specs.declared.holder.Holder.{Holder}
use Rattle.table_model.specs.declared.holder.Holder.TheVariants as holder
use Rattle.plan_model.specs.Asking.{lets, sets, sets_field, drops, skips}
use Rattle.plan_model.specs.Evaluation.{value_under}
use Rattle.plan_model.specs.Frames.{Variable, Body, Frame, body}
use Rattle.plan_model.specs.Holdings.{put, refs_under, variables_after, fields_after, held_by, let_go_by, goes_on}
use Rattle.plan_model.specs.Plans.{manager}
use Rattle.plan_typing.specs.Going.{statement_at, types_at}
use Rattle.plan_typing.specs.Scenes.{VariablesFit, FieldsFit}
use Rattle.plan_typing.specs.Statements.{types_behind}
use Rattle.plan_typing.proofs.EffectFrames.{rest_goes_on}
use Rattle.bridge_laws.specs.Counting.{total}
use Rattle.bridge_laws.proofs.EvaluationLaws.{under_at_most}
use Rattle.bridge_laws.proofs.VariableLaws.{with_variable_owes, put_owes, without_owes, field_values_owe}
use Rattle.bridge_model.specs.Applying.{goes_on_after}
use Rattle.bridge_model.specs.Objects.{object_numbered, variables_of, fields_of, as_variables, field_values, with_fields}
use Rattle.bridge_model.specs.References.{gains_all, lets_go_all, refs_of_values}
use Rattle.bridge_model.specs.Settings.{Setting}
use Rattle.bridge_model.specs.Sides.{Object, Tables}
use Rattle.bridge_laws.proofs.Fine.{wrong}
use Rattle.bridge_laws.proofs.FramesFit.{Runs, Pauses, FramesFit}
use Rattle.bridge_laws.proofs.TypedGiven.{IsGiven}
use Rattle.bridge_laws.proofs.Moves.{Moves}
use Rattle.bridge_laws.proofs.ObjectsFit.{ObjectsFit, Lasts}
use Rattle.bridge_laws.proofs.TablesFit.{TablesFit}
use Rattle.bridge_laws.proofs.AskingFits.{GoesOn}
use Rattle.bridge_laws.proofs.HandingFits.{next_fits}
use Rattle.bridge_laws.proofs.WaitingFits.{no_statement, found_object}
use Rattle.bridge_laws.proofs.JobFits.{fields_fine}
use Rattle.bridge_laws.proofs.LastingFits.{refs_last, frames_last, tables_last}
use Rattle.bridge_laws.proofs.OwnFits.{fields_last, as_they_fit, with_fields_fit}
use Rattle.bridge_laws.proofs.TableLaws.{gains_all_fits, lets_go_all_fits}

-- all is as it was
pub lasts_itself : (g : Setting) (os : List Object) → Lasts g os os
lasts_itself g os = record { behaves = λ n k is. is; supported = λ oid face is. is }

module _ (g : Setting) (given : IsGiven g) (os : List Object) (made : ℕ) (objects : ObjectsFit g os made) (tid : List ℕ) (thread : IsThread tid) (b : Body) (fs : List Frame)
    (r : Runs g os b) (rests : b.from_peer ≡ true → Pauses fs) (below : FramesFit g os (Some r.function) fs) where
  -- the method at its next statement
  pub goes_on_with : (xs : List Variable) → GoesOn (statement_at g.plan r.behaviour b.place r.function)
      → VariablesFit g.registry xs (types_at (statement_at g.plan r.behaviour b.place r.function) r.types).variables → total (wrong g os) (refs_under xs) ≡ 0
      → FramesFit g os None (body (goes_on xs b) ∷ fs)
  unfolding FramesFit goes_on
  goes_on_with xs on variables fine =
      let next = rest_goes_on g.registry g.plan r.behaviour b.place b.face r.function r.types on.statement r.rest on.is on.on in (
        record {
          behaviour = r.behaviour;
          function = r.function;
          types = types_behind on.statement r.types;
          fits =
              next_fits g given os made tid thread b r.behaviour r.function r.types on.statement xs r.fits next.0
              (subst (λ o. VariablesFit g.registry xs (types_at o r.types).variables) on.is variables)
              fine;
          rest = next.1;
          begun = λ manages. absurd (no_statement g r.behaviour b.place r.function on.statement (r.behaviour == manager) manages on.is);
        },
        rests,
        below,
      )

  changed : (who : Holder) (held gone : List Ref) (t : Tables) → total (wrong g os) held ≡ 0 → total (wrong g os) gone ≡ 0 → TablesFit g os made t
      → TablesFit g os made (lets_go_all g who gone (gains_all who held t))
  changed who held gone t fine also fit = lets_go_all_fits g given os made who gone (gains_all who held t) also (gains_all_fits g given os made who held t fine fit)

  moved : (xs : List Variable) (t : Tables) → FramesFit g os None (body (goes_on xs b) ∷ fs) → TablesFit g os made t
      → Moves g os made (record { frames = body (goes_on xs b) ∷ fs; tables = t })
  moved xs t frames tables =
      record { now = os; count = made; lasts = lasts_itself g os; least = omega arith; most = omega arith; objects = objects; frames = frames; tables = tables }

  -- ---- variables

  pub lets_moves : (x : Variable) (t : Tables) → GoesOn (statement_at g.plan r.behaviour b.place r.function)
      → VariablesFit g.registry (variables_after (lets x) b.variables) (types_at (statement_at g.plan r.behaviour b.place r.function) r.types).variables
      → total (wrong g os) (refs x.value) ≡ 0 → TablesFit g os made t → Moves g os made (goes_on_after g (lets x) b fs t)
  unfolding variables_after held_by let_go_by total
  lets_moves x t on variables fine fit =
      let more = with_variable_owes (wrong g os) x.name x.value b.variables in let none = r.fits.fine in
      moved (variables_after (lets x) b.variables) _ (goes_on_with (variables_after (lets x) b.variables) on variables (omega arith))
      (changed (holder.Frame b.number) (refs x.value) [] t fine refl fit)

  pub sets_moves : (x : Variable) (t : Tables) → GoesOn (statement_at g.plan r.behaviour b.place r.function)
      → VariablesFit g.registry (variables_after (sets x) b.variables) (types_at (statement_at g.plan r.behaviour b.place r.function) r.types).variables
      → total (wrong g os) (refs x.value) ≡ 0 → TablesFit g os made t → Moves g os made (goes_on_after g (sets x) b fs t)
  unfolding variables_after held_by let_go_by
  sets_moves x t on variables fine fit =
      let more = put_owes (wrong g os) x.name x.value b.variables in let none = r.fits.fine in
      let gone = under_at_most (wrong g os) x.name b.variables in
      moved (variables_after (sets x) b.variables) _ (goes_on_with (variables_after (sets x) b.variables) on variables (omega arith))
      (changed (holder.Frame b.number) (refs x.value) (refs (value_under x.name b.variables)) t fine (omega arith) fit)

  pub drops_moves : (name : List ℕ) (t : Tables) → GoesOn (statement_at g.plan r.behaviour b.place r.function)
      → VariablesFit g.registry (variables_after (drops name) b.variables) (types_at (statement_at g.plan r.behaviour b.place r.function) r.types).variables
      → TablesFit g os made t → Moves g os made (goes_on_after g (drops name) b fs t)
  unfolding variables_after held_by let_go_by total
  drops_moves name t on variables fit =
      let more = without_owes (wrong g os) name b.variables in let none = r.fits.fine in
      let gone = under_at_most (wrong g os) name b.variables in
      moved (variables_after (drops name) b.variables) _ (goes_on_with (variables_after (drops name) b.variables) on variables (omega arith))
      (changed (holder.Frame b.number) [] (refs (value_under name b.variables)) t refl (omega arith) fit)

  pub skips_moves : (t : Tables) → GoesOn (statement_at g.plan r.behaviour b.place r.function)
      → VariablesFit g.registry b.variables (types_at (statement_at g.plan r.behaviour b.place r.function) r.types).variables
      → TablesFit g os made t → Moves g os made (goes_on_after g skips b fs t)
  unfolding variables_after held_by let_go_by total
  skips_moves t on variables fit =
      moved b.variables _ (goes_on_with b.variables on variables r.fits.fine) (changed (holder.Frame b.number) [] [] t refl refl fit)

  -- ---- fields

  new_fields : Variable → List Plain
  new_fields x = field_values (fields_after (sets_field x) (variables_of g (object_numbered b.object os)))

  fields_new : (x : Variable) → FieldsFit g.registry (fields_after (sets_field x) (variables_of g (object_numbered b.object os))) r.types.fields
      → FieldsFit g.registry (as_variables (fields_of g r.behaviour) (new_fields x)) (fields_of g r.behaviour)
  unfolding new_fields
  fields_new x fields =
      as_they_fit g.registry (fields_after (sets_field x) (variables_of g (object_numbered b.object os))) (fields_of g r.behaviour)
      (subst (FieldsFit g.registry (fields_after (sets_field x) (variables_of g (object_numbered b.object os)))) r.fits.fields fields)

  fields_new_fine : (x : Variable) → total (wrong g os) (refs x.value) ≡ 0 → total (wrong g os) (refs_of_values (new_fields x)) ≡ 0
  unfolding new_fields fields_after
  fields_new_fine x fine =
      let before = fields_fine g given os made objects tid thread b fs r in
      let more = put_owes (wrong g os) x.name x.value (variables_of g (object_numbered b.object os)) in
      let same = field_values_owe (wrong g os) (put x.name x.value (variables_of g (object_numbered b.object os))) in omega arith

  fields_with_fit : (x : Variable) → FieldsFit g.registry (fields_after (sets_field x) (variables_of g (object_numbered b.object os))) r.types.fields
      → total (wrong g os) (refs x.value) ≡ 0 → ObjectsFit g (with_fields b.object (new_fields x) os) made
  fields_with_fit x fields fine =
      let object = found_object b.object r.behaviour os r.fits.found in
      with_fields_fit g os made b.object object.object (new_fields x) objects object.there
      (subst (λ k. FieldsFit g.registry (as_variables (fields_of g k) (new_fields x)) (fields_of g k)) (sym object.behaves) (fields_new x fields))
      (fields_new_fine x fine)

  tables_with : (x : Variable) (t : Tables) → TablesFit g os made t
      → TablesFit g (with_fields b.object (new_fields x) os) made (record t { objects = with_fields b.object (new_fields x) t.objects })
  tables_with x t fit =
      let more = tables_last g os (with_fields b.object (new_fields x) os) (fields_last g b.object (new_fields x) os) made made t refl fit in
      record { same = ap (with_fields b.object (new_fields x)) fit.same; counted = fit.counted; held = more.held; sent = more.sent; sayable = fit.sayable }

  pub sets_field_moves : (x : Variable) (t : Tables) → GoesOn (statement_at g.plan r.behaviour b.place r.function)
      → VariablesFit g.registry b.variables (types_at (statement_at g.plan r.behaviour b.place r.function) r.types).variables
      → FieldsFit g.registry (fields_after (sets_field x) (variables_of g (object_numbered b.object os))) r.types.fields
      → total (wrong g os) (refs x.value) ≡ 0 → TablesFit g os made t → Moves g os made (goes_on_after g (sets_field x) b fs t)
  unfolding variables_after held_by let_go_by fields_after new_fields
  sets_field_moves x t on variables fields fine fit =
      let now = with_fields b.object (new_fields x) os in
      let lasts = fields_last g b.object (new_fields x) os in
      let before = fields_fine g given os made objects tid thread b fs r in
      let gone = under_at_most (wrong g os) x.name (variables_of g (object_numbered b.object os)) in
      let nothing : total (wrong g os) (refs (value_under x.name (variables_of g (object_numbered b.object os)))) ≡ 0 = omega arith in
      record {
        now = now;
        count = made;
        lasts = lasts;
        least = omega arith;
        most = omega arith;
        objects = fields_with_fit x fields fine;
        frames = frames_last g os now lasts None (body (goes_on b.variables b) ∷ fs) (goes_on_with b.variables on variables r.fits.fine);
        tables = subst (λ before. TablesFit g now made (field_tables before)) (sym fit.same) tables_now;
      }
    where
      field_tables : List Object → Tables
      field_tables before =
          lets_go_all g (holder.Object b.object) (refs (value_under x.name (variables_of g (object_numbered b.object before))))
          (record (gains_all (holder.Object b.object) (refs x.value) t) {
            objects = with_fields b.object (field_values (fields_after (sets_field x) (variables_of g (object_numbered b.object before)))) (gains_all (holder.Object b.object) (refs x.value) t).objects;
          })

      tables_now : TablesFit g (with_fields b.object (new_fields x) os) made (field_tables os)
      tables_now =
          lets_go_all_fits g given (with_fields b.object (new_fields x) os) made (holder.Object b.object) (refs (value_under x.name (variables_of g (object_numbered b.object os))))
          (record (gains_all (holder.Object b.object) (refs x.value) t) { objects = with_fields b.object (new_fields x) (gains_all (holder.Object b.object) (refs x.value) t).objects })
          (refs_last g os (with_fields b.object (new_fields x) os) (fields_last g b.object (new_fields x) os) _ gone_fine)
          (tables_with x (gains_all (holder.Object b.object) (refs x.value) t) (gains_all_fits g given os made (holder.Object b.object) (refs x.value) t fine fit))
        where
          gone_fine : total (wrong g os) (refs (value_under x.name (variables_of g (object_numbered b.object os)))) ≡ 0
          gone_fine =
              let before = fields_fine g given os made objects tid thread b fs r in
              let gone = under_at_most (wrong g os) x.name (variables_of g (object_numbered b.object os)) in omega arith
