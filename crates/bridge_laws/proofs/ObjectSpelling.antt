-- Objects whose fields can be carried by bytes: finding them, making them, other values of their fields, and what they answer.
use Rattle.std.proofs.Common.{◌≡◌, ℕ, suc, Bool, true, false, ◌==◌, if◌then◌else◌, List, [], ◌∷◌, ◌++◌, Option, None, Some, refl}
use Rattle.std.specs.List.{AllByRecursion}
use Rattle.std.specs.Str.{IsUtf8}
use Rattle.uno_model.specs.Defaults.{default_of_kind}
use Rattle.uno_model.specs.Entities.{Field}
use Rattle.uno_model.specs.Kinds.{Kind}
use Rattle.uno_model.specs.Kinds as kd
use Rattle.uno_model.specs.Spellable.{IsSpellable}
use Rattle.uno_model.specs.Values.{Plain, own}
use Rattle.uno_model.specs.Values as v
use Rattle.table_model.specs.declared.holder.Holder.TheVariants as holder
use Rattle.plan_model.specs.Frames.{Variable}
use Rattle.plan_model.specs.Holdings.{query_answer, no_object}
use Rattle.plan_model.specs.Plans.{supports, exported}
use Rattle.bridge_model.specs.Objects.{object_numbered, object_named, fields_of, as_variables, variables_of, faces_at, object_answer, answer_of_number, name_answer, makes_object, defaults_of, makes_default, makes_all, field_values, with_fields}
use Rattle.bridge_model.specs.References.{refs_of_values}
use Rattle.bridge_model.specs.Settings.{Setting, own_oid}
use Rattle.bridge_model.specs.Sides.{Object, Tables}
use Rattle.bridge_laws.proofs.EffectSpelling.{found_one}
use Rattle.bridge_laws.proofs.EvaluationSpelling.{VariablesSpellable, value_by}
use Rattle.bridge_laws.proofs.SpellableGiven.{IsGiven}
use Rattle.bridge_laws.proofs.TableSpelling.{ObjectSpellable, TablesSpellable, gains_all_spellable}
use Rattle.bridge_laws.proofs.ValueSpelling.{AllSpellable, all_append, all_map, values_refs, own_utf8, default_spellable}

-- ---- fields

as_variables_spellable : (fs : List Field) (xs : List Plain) → AllSpellable xs → VariablesSpellable (as_variables fs xs)
unfolding as_variables
as_variables_spellable [] xs all = tt
as_variables_spellable (f ∷ fs) [] all = tt
as_variables_spellable (f ∷ fs) (x ∷ xs) all = (all.0, as_variables_spellable fs xs all.1)

object_by : (g : Setting) (n : ℕ) (o : Option Object) (os : List Object) → object_numbered n os ≡ o → AllByRecursion ObjectSpellable os → VariablesSpellable (variables_of g o)
unfolding object_numbered
object_by g n None os is all = tt
object_by g n (Some o) os is all = as_variables_spellable (fields_of g o.behaviour) o.fields (found_one ObjectSpellable (λ o. n == o.number) os all o is)

-- the fields of an object, under their names
pub object_variables : (g : Setting) (n : ℕ) (os : List Object) → AllByRecursion ObjectSpellable os → VariablesSpellable (variables_of g (object_numbered n os))
object_variables g n os all = object_by g n (object_numbered n os) os refl all

pub values_spellable : (xs : List Variable) → VariablesSpellable xs → AllSpellable (field_values xs)
values_spellable [] all = tt
values_spellable (x ∷ xs) all = (all.0, values_spellable xs all.1)

fields_by : (b : Bool) (o p : Object) (os qs : List Object) → ObjectSpellable o → ObjectSpellable p → AllByRecursion ObjectSpellable os → AllByRecursion ObjectSpellable qs
    → AllByRecursion ObjectSpellable (if b then o ∷ os else p ∷ qs)
fields_by true o p os qs here there all also = (here, all)
fields_by false o p os qs here there all also = (there, also)

pub with_fields_spellable : (n : ℕ) (fields : List Plain) (os : List Object) → AllSpellable fields → AllByRecursion ObjectSpellable os → AllByRecursion ObjectSpellable (with_fields n fields os)
unfolding with_fields
with_fields_spellable n fields [] fine all = tt
with_fields_spellable n fields (o ∷ os) fine all =
    fields_by (n == o.number) (record o { fields = fields }) o os (with_fields n fields os) fine all.0 all.1 (with_fields_spellable n fields os fine all.1)

-- ---- making

pub makes_spellable : (behaviour : ℕ) (fields : List Plain) (t : Tables) → AllSpellable fields → TablesSpellable t → TablesSpellable (makes_object behaviour fields t)
unfolding makes_object
makes_spellable behaviour fields t all fine =
    gains_all_spellable (holder.Object (suc t.objects_made)) (refs_of_values fields)
    (record t { objects = t.objects ++ record { number = suc t.objects_made; behaviour = behaviour; fields = fields } ∷ []; objects_made = suc t.objects_made })
    (values_refs fields all)
    (record {
      fields = all_append ObjectSpellable t.objects (record { number = suc t.objects_made; behaviour = behaviour; fields = fields } ∷ []) fine.fields (all, tt);
      held = fine.held;
      states = fine.states;
      said = fine.said;
    })

module _ (g : Setting) (given : IsGiven g) where
  pub makes_default_spellable : (behaviour : ℕ) (t : Tables) → TablesSpellable t → TablesSpellable (makes_default g behaviour t)
  makes_default_spellable behaviour t fine =
      makes_spellable behaviour (defaults_of g behaviour) t
      (all_map IsSpellable (λ (f : Field). default_of_kind g.registry f.kind) (λ f. default_spellable g.registry given.items f.kind) (fields_of g behaviour)) fine

  pub makes_all_spellable : (behaviours : List ℕ) (t : Tables) → TablesSpellable t → TablesSpellable (makes_all g behaviours t)
  unfolding makes_all
  makes_all_spellable [] t fine = fine
  makes_all_spellable (behaviour ∷ rest) t fine = makes_all_spellable rest (makes_default g behaviour t) (makes_default_spellable behaviour t fine)

  -- ---- the answer to function 0

  pub no_object_spellable : IsSpellable no_object
  unfolding IsSpellable
  no_object_spellable = tt

  object_any : (oid wanted : List ℕ) → IsUtf8 oid → IsSpellable (v.any (kd.interface wanted) (v.ref (own oid wanted)))
  unfolding IsSpellable
  object_any oid wanted fine = fine

  query_spellable : (faces : List (List ℕ)) (oid : List ℕ) (k : Kind) → IsUtf8 oid → IsSpellable (query_answer g.registry faces oid k)
  unfolding query_answer
  query_spellable faces oid (kd.interface wanted) fine =
      value_by (supports g.registry faces wanted) (v.any (kd.interface wanted) (v.ref (own oid wanted))) no_object (object_any oid wanted fine) no_object_spellable
  query_spellable faces oid k fine = no_object_spellable

  pub object_answers : (oid : List ℕ) (k : Kind) (os : List Object) → IsUtf8 oid → IsSpellable (object_answer g oid k os)
  unfolding object_answer
  object_answers oid k os fine = query_spellable (faces_at g (object_named g oid os)) oid k fine

  numbered_answers : (k : Kind) (os : List Object) (n : Option ℕ) → IsSpellable (answer_of_number g k os n)
  numbered_answers k os None = no_object_spellable
  numbered_answers k os (Some n) = object_answers (own_oid g n) k os (own_utf8 g given.tag n)

  pub name_answers : (name : List ℕ) (k : Kind) (os : List Object) → IsSpellable (name_answer g name k os)
  unfolding name_answer
  name_answers name k os = numbered_answers k os (exported g.plan name)
