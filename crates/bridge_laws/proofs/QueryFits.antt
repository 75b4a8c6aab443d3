-- What function 0 is answered at once may go: an any with an object that supports the wanted interface, or the void any.
use Rattle.std.proofs.Common.{◌≡◌, ℕ, ◌≤◌, Bool, true, false, if◌then◌else◌, List, [], Option, None, Some, refl, sym, ap, subst, ◌∙◌, inl, arith}
use Rattle.std.specs.Str.{bytes_eq}
use Rattle.message_model.specs.Calls.{kinds_on}
use Rattle.message_model.specs.Messages.{returned}
use Rattle.message_model.specs.Sayable.{AnswerFits, IsThread, IsCalled}
use Rattle.uno_model.specs.BuiltIn.{x_interface_name, query_interface}
use Rattle.uno_model.specs.Fits.{Fits, FitEach, IsIdentity, IsInterface}
use Rattle.uno_model.specs.Functions.{Function}
use Rattle.uno_model.specs.Functions as fn
use Rattle.uno_model.specs.Kinds.{Kind}
use Rattle.uno_model.specs.Kinds as kd
use Rattle.uno_model.specs.Values.{Ref, own, Plain, plains, refs, depth, depth_in}
use Rattle.uno_model.specs.Values as v
use Rattle.uno_model.specs.Weights.{weight, weights}
use Rattle.uno_model.proofs.Options.{same_some}
use Rattle.plan_model.specs.Holdings.{query_answer, no_object}
use Rattle.plan_model.specs.Plans.{supports, exported}
use Rattle.plan_typing.proofs.CalleeNumbers.{query_at}
use Rattle.plan_typing.proofs.EffectCalls.{interface_there}
use Rattle.bridge_laws.specs.Counting.{total}
use Rattle.bridge_laws.proofs.HandingLaws.{returned_owes}
use Rattle.bridge_laws.proofs.IdentityLaws.{given_own}
use Rattle.bridge_laws.proofs.VariableLaws.{values_none}
use Rattle.bridge_model.specs.Objects.{object_named, faces_at, object_supports, object_answer, answer_of_number, name_answer}
use Rattle.bridge_model.specs.Settings.{Setting, is_own, own_oid}
use Rattle.bridge_model.specs.Sides.{Object}
use Rattle.bridge_laws.proofs.Fine.{wrong}
use Rattle.bridge_laws.proofs.FramesFit.{AnswerGoes}
use Rattle.bridge_laws.proofs.TypedGiven.{IsGiven}
use Rattle.bridge_laws.proofs.ObjectsFit.{ObjectFits, ObjectsFit}
use Rattle.bridge_laws.proofs.BeginFits.{named_object, named_itself}
use Rattle.bridge_laws.proofs.FineLaws.{fine_own}
use Rattle.bridge_laws.proofs.JobFits.{found_all}
use Rattle.bridge_laws.proofs.TableLaws.{text_most, face_short, identity_named}

-- an any that may go
pub record AnyGoes (g : Setting) (os : List Object) (x : Plain) : Type 0 where
  pub fits : Fits g.registry x kd.any
  pub flat : depth x ≤ 64
  pub light : weight x ≤ 16384
  pub fine : total (wrong g os) (refs x) ≡ 0

pub nothing_goes : (g : Setting) (os : List Object) → AnyGoes g os no_object
unfolding Fits depth weight refs total
nothing_goes g os = record { fits = (refl, (λ is. absurd (cc)), refl, refl); flat = omega arith; light = omega arith; fine = refl }

-- the name of an object that is found is an identity
pub named_identity : (g : Setting) → IsGiven g → (os : List Object) (made : ℕ) → ObjectsFit g os made → (oid : List ℕ) (o : Object) → object_named g oid os ≡ Some o → IsIdentity oid
unfolding object_named
named_identity g given os made objects oid o there =
    let fits = found_all (ObjectFits g made) (λ o. bytes_eq oid (own_oid g o.number)) os o objects.each there in
    let most = fits.most in let few = objects.few in
    subst IsIdentity (sym (named_itself g oid os o there)) (identity_named g o.number given.short (omega arith))

module _ (g : Setting) (given : IsGiven g) (os : List Object) (made : ℕ) (objects : ObjectsFit g os made) where
  held_light : (oid wanted : List ℕ) → IsIdentity oid → IsInterface g.registry wanted → weight (v.any (kd.interface wanted) (v.ref (own oid wanted))) ≤ 16384
  unfolding weight
  held_light oid wanted identity there =
      let short = face_short g.registry wanted there in let first = text_most wanted in let second = text_most oid in let long = identity.bounded in omega arith

  found_goes : (oid wanted : List ℕ) → is_own g oid ≡ true → IsInterface g.registry wanted → object_supports g oid wanted os ≡ true
      → AnyGoes g os (v.any (kd.interface wanted) (v.ref (own oid wanted)))
  unfolding Fits depth refs total
  found_goes oid wanted told there supported =
      let object = named_object g oid wanted os supported in
      let identity = named_identity g given os made objects oid object.object object.there in
      let fine = fine_own g os oid wanted (record { told = told; identity = identity; interface = there; supported = supported }) in
      record {
        fits = (refl, (λ is. absurd (cc)), there, record { identity = identity; held = there; reached = inl refl });
        flat = omega arith;
        light = held_light oid wanted identity there;
        fine = omega arith;
      }

  answer_by : (oid wanted : List ℕ) (b : Bool) → object_supports g oid wanted os ≡ b → is_own g oid ≡ true → IsInterface g.registry wanted
      → AnyGoes g os (if b then v.any (kd.interface wanted) (v.ref (own oid wanted)) else no_object)
  answer_by oid wanted true is told there = found_goes oid wanted told there is
  answer_by oid wanted false is told there = nothing_goes g os

  -- an interface is asked for, or nothing
  abbrev pub AsksInterface : Kind → Type 0
  AsksInterface k = (wanted : List ℕ) → k ≡ kd.interface wanted → IsInterface g.registry wanted

  pub object_goes : (oid : List ℕ) (k : Kind) → is_own g oid ≡ true → AsksInterface k → AnyGoes g os (object_answer g oid k os)
  unfolding object_answer query_answer object_supports
  object_goes oid (kd.interface wanted) told there =
      answer_by oid wanted (supports g.registry (faces_at g (object_named g oid os)) wanted) refl told (there wanted refl)
  object_goes oid k told there = nothing_goes g os

  by_number : (k : Kind) (o : Option ℕ) → AsksInterface k → AnyGoes g os (answer_of_number g k os o)
  by_number k None there = nothing_goes g os
  by_number k (Some n) there = object_goes (own_oid g n) k (given_own g n) there

  pub name_goes : (name : List ℕ) (k : Kind) → AsksInterface k → AnyGoes g os (name_answer g name k os)
  unfolding name_answer
  name_goes name k there = by_number k (exported g.plan name) there

  -- ---- function 0

  pub query_is : (face : List ℕ) (f : Function) → IsCalled g.registry face 0 f → f ≡ fn.call x_interface_name query_interface
  query_is face f called =
      same_some (sym called.found ∙ query_at g.registry given.sound given.built face (interface_there g.registry face called.interface))

  query_answer_fits : (x : Plain) → AnyGoes g os x → AnswerFits g.registry (fn.call x_interface_name query_interface) (returned x [])
  unfolding kinds_on FitEach depth_in
  query_answer_fits x goes = (goes.fits, goes.flat, record { fit = tt; deep = omega arith })

  pub query_goes : (tid face : List ℕ) (f : Function) (x : Plain) → IsThread tid → IsCalled g.registry face 0 f → AnyGoes g os x → AnswerGoes g os tid f (returned x [])
  unfolding weights
  query_goes tid face f x thread called goes =
      let name = text_most tid in let long = thread.bounded in let light = goes.light in
      let parts = returned_owes (wrong g os) x [] in let none = values_none (wrong g os) in let fine = goes.fine in
      record {
        fits = subst (λ h. AnswerFits g.registry h (returned x [])) (sym (query_is face f called)) (query_answer_fits x goes);
        light = omega arith;
        fine = omega arith;
      }

  pub query_result : (face : List ℕ) (f : Function) → IsCalled g.registry face 0 f → f.result_kind ≡ kd.any
  query_result face f called = ap (λ (h : Function). h.result_kind) (query_is face f called)
