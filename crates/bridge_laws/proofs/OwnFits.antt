-- What a method does to its own variables and to its object's fields leaves frames, objects and tables that fit.
use Rattle.std.proofs.Common.{◌≡◌, ℕ, suc, ◌+◌, ◌≤◌, ◌==◌, Bool, true, false, cond, if◌then◌else◌, List, [], ◌∷◌, find, Option, None, Some, refl, sym, ap, subst, ◌∙◌, arith}
use Rattle.std.specs.List.{AllByRecursion}
use Rattle.std.specs.Option.{option_map}
use Rattle.std.specs.Str.{bytes_eq}
use Rattle.uno_model.specs.Entities.{Entity, Field}
use Rattle.uno_model.specs.Values.{Plain}
use Rattle.uno_model.proofs.Options.{same_some}
use Rattle.plan_model.specs.Frames.{Variable}
use Rattle.plan_model.specs.Plans.{supports, faces_of}
use Rattle.plan_typing.specs.Scenes.{FieldsFit}
use Rattle.bridge_laws.specs.Counting.{total}
use Rattle.bridge_model.specs.Objects.{object_numbered, object_named, faces_at, object_supports, fields_of, as_variables, field_values, with_fields}
use Rattle.bridge_model.specs.References.{refs_of_values}
use Rattle.bridge_model.specs.Settings.{Setting, own_oid}
use Rattle.bridge_model.specs.Sides.{Object}
use Rattle.bridge_laws.proofs.Fine.{wrong}
use Rattle.bridge_laws.proofs.FramesFit.{behaviour_at}
use Rattle.bridge_laws.proofs.ObjectsFit.{ObjectFits, object_wrong, ObjectsFit, Lasts}
use Rattle.bridge_laws.proofs.LastingFits.{objects_last, refs_last}

-- ---- fields that change

-- what is found has the behaviour that it had
behaves_step : (test : ℕ → Bool) (b : Bool) (fields : List Plain) (o : Object) (new os : List Object)
    → option_map (λ o. o.behaviour) (find (λ o. test o.number) new) ≡ option_map (λ o. o.behaviour) (find (λ o. test o.number) os)
    → option_map (λ o. o.behaviour) (find (λ o. test o.number) (if b then record o { fields = fields } ∷ os else o ∷ new))
    ≡ option_map (λ o. o.behaviour) (find (λ o. test o.number) (o ∷ os))
behaves_step test true fields o new os rest =
    elim (test o.number) as (λ c. option_map (λ o. o.behaviour) (cond c (Some (record o { fields = fields })) (find (λ o. test o.number) os)) ≡ option_map (λ o. o.behaviour) (cond c (Some o) (find (λ o. test o.number) os))) [ true ↦ refl | false ↦ refl ]
behaves_step test false fields o new os rest =
    elim (test o.number) as (λ c. option_map (λ o. o.behaviour) (cond c (Some o) (find (λ o. test o.number) new)) ≡ option_map (λ o. o.behaviour) (cond c (Some o) (find (λ o. test o.number) os))) [ true ↦ refl | false ↦ rest ]

behaviours_stay : (test : ℕ → Bool) (n : ℕ) (fields : List Plain) (os : List Object)
    → option_map (λ o. o.behaviour) (find (λ o. test o.number) (with_fields n fields os)) ≡ option_map (λ o. o.behaviour) (find (λ o. test o.number) os)
unfolding with_fields
behaviours_stay test n fields [] = refl
behaviours_stay test n fields (o ∷ os) = behaves_step test (n == o.number) fields o (with_fields n fields os) os (behaviours_stay test n fields os)

faces_by : (g : Setting) → Option ℕ → List (List ℕ)
faces_by g None = []
faces_by g (Some n) = faces_of g.plan n

faces_are : (g : Setting) (o : Option Object) → faces_at g o ≡ faces_by g (option_map (λ o. o.behaviour) o)
unfolding faces_at faces_by
faces_are g None = refl
faces_are g (Some o) = refl

pub fields_last : (g : Setting) (n : ℕ) (fields : List Plain) (os : List Object) → Lasts g os (with_fields n fields os)
unfolding behaviour_at object_numbered object_supports object_named
fields_last g n fields os =
    record {
      behaves = λ m k is. behaviours_stay (λ j. m == j) n fields os ∙ is;
      supported = λ oid face is.
          ap (λ faces. supports g.registry faces face)
          (faces_are g (object_named g oid (with_fields n fields os))
          ∙ (ap (faces_by g) (behaviours_stay (λ j. bytes_eq oid (own_oid g j)) n fields os) ∙ sym (faces_are g (object_named g oid os))))
          ∙ is;
    }

each_step : (g : Setting) (made n : ℕ) (fields : List Plain) (o x : Object) (new os : List Object) (b : Bool) → cond b (Some x) (object_numbered n os) ≡ Some o
    → (object_numbered n os ≡ Some o → AllByRecursion (ObjectFits g made) new) → AllByRecursion (ObjectFits g made) (x ∷ os)
    → FieldsFit g.registry (as_variables (fields_of g o.behaviour) fields) (fields_of g o.behaviour)
    → AllByRecursion (ObjectFits g made) (if b then record x { fields = fields } ∷ os else x ∷ new)
each_step g made n fields o x new os true found behind all fit =
    let one = ap (λ (y : Object). y.behaviour) (same_some found) in (
      record {
        least = all.0.least;
        most = all.0.most;
        fields = subst (λ k. FieldsFit g.registry (as_variables (fields_of g k) fields) (fields_of g k)) (sym one) fit;
      },
      all.1,
    )
each_step g made n fields o x new os false found behind all fit = (all.0, behind found)

each_with : (g : Setting) (made n : ℕ) (fields : List Plain) (o : Object) (os : List Object) → object_numbered n os ≡ Some o → AllByRecursion (ObjectFits g made) os
    → FieldsFit g.registry (as_variables (fields_of g o.behaviour) fields) (fields_of g o.behaviour) → AllByRecursion (ObjectFits g made) (with_fields n fields os)
unfolding with_fields object_numbered
each_with g made n fields o [] found all fit = tt
each_with g made n fields o (x ∷ os) found all fit =
    each_step g made n fields o x (with_fields n fields os) os (n == x.number) found (λ there. each_with g made n fields o os there all.1 fit) all fit

wrong_step : (g : Setting) (now : List Object) (b : Bool) (fields : List Plain) (x : Object) (new os : List Object)
    → total (object_wrong g now) new ≤ total (object_wrong g now) os + total (wrong g now) (refs_of_values fields)
    → total (object_wrong g now) (if b then record x { fields = fields } ∷ os else x ∷ new) ≤ total (object_wrong g now) (x ∷ os) + total (wrong g now) (refs_of_values fields)
unfolding total object_wrong
wrong_step g now true fields x new os rest = omega arith
wrong_step g now false fields x new os rest = omega arith

wrong_with : (g : Setting) (now : List Object) (n : ℕ) (fields : List Plain) (os : List Object)
    → total (object_wrong g now) (with_fields n fields os) ≤ total (object_wrong g now) os + total (wrong g now) (refs_of_values fields)
unfolding with_fields total
wrong_with g now n fields [] = omega arith
wrong_with g now n fields (x ∷ os) = wrong_step g now (n == x.number) fields x (with_fields n fields os) os (wrong_with g now n fields os)

-- the values of fields that fit, under their names
pub as_they_fit : (reg : List Entity) (xs : List Variable) (fs : List Field) → FieldsFit reg xs fs → FieldsFit reg (as_variables fs (field_values xs)) fs
unfolding FieldsFit as_variables
as_they_fit reg [] [] fit = tt
as_they_fit reg [] (f ∷ fs) fit = absurd fit
as_they_fit reg (x ∷ xs) [] fit = absurd fit
as_they_fit reg (x ∷ xs) (f ∷ fs) fit = (refl, fit.1, as_they_fit reg xs fs fit.2)

pub with_fields_fit : (g : Setting) (os : List Object) (made n : ℕ) (o : Object) (fields : List Plain) → ObjectsFit g os made → object_numbered n os ≡ Some o
    → FieldsFit g.registry (as_variables (fields_of g o.behaviour) fields) (fields_of g o.behaviour) → total (wrong g os) (refs_of_values fields) ≡ 0
    → ObjectsFit g (with_fields n fields os) made
with_fields_fit g os made n o fields objects found fit fine =
    let lasts = fields_last g n fields os in
    let now = with_fields n fields os in
    let before = objects_last g os now lasts os objects.fine in
    let here = refs_last g os now lasts (refs_of_values fields) fine in
    let most = wrong_with g now n fields os in
    record {
      each = each_with g made n fields o os found objects.each fit;
      fine = omega arith;
      first = λ m k few is. lasts.behaves (suc m) k (objects.first m k few is);
      few = objects.few;
    }
