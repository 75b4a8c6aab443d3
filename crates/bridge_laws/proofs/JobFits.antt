-- What the method at the top of a thread asks fits, refers to what is fine, and is what the statement at its place says.
use Rattle.std.proofs.Common.{◌≡◌, ℕ, suc, ◌==◌, Bool, true, false, cond, List, [], ◌∷◌, length, Option, None, Some, refl, sym, ap, subst, ◌∙◌, inl, arith}
use Rattle.std.specs.Option.{option_map}
use Rattle.std.specs.List.{AllByRecursion, find}
use Rattle.message_model.specs.Calls.{numbered}
use Rattle.message_model.specs.Sayable.{IsThread}
use Rattle.uno_model.specs.Fits.{Fits, IsInterface, HeldFits}
use Rattle.uno_model.specs.Functions.{Function, functions_of, interfaces_of}
use Rattle.uno_model.specs.Kinds as kd
use Rattle.uno_model.specs.Registry.{IsBaseOf}
use Rattle.uno_model.specs.Values.{Ref, own, Plain}
use Rattle.uno_model.specs.Values as v
use Rattle.plan_model.specs.Asking.{Effect, Running}
use Rattle.plan_model.specs.Effects.{body_effect, function_effect, effect}
use Rattle.plan_model.specs.Frames.{Body, Frame}
use Rattle.plan_model.specs.Holdings.{refs_under}
use Rattle.plan_typing.specs.Effects.{RunFits, EffectFits}
use Rattle.plan_typing.specs.Going.{statement_at, types_at}
use Rattle.plan_typing.specs.Scenes.{VariablesFit, FieldsFit}
use Rattle.uno_model.proofs.Options.{same_some}
use Rattle.uno_model.proofs.VisitLaws.{interfaces_are_bases}
use Rattle.plan_typing.proofs.CalleePlaces.{among_contains}
use Rattle.plan_typing.proofs.CalleeOwners.{owned}
use Rattle.plan_typing.proofs.EffectFrames.{owner_type, body_fits}
use Rattle.plan_typing.proofs.EffectPlaces.{numbered_declared}
use Rattle.bridge_laws.specs.Counting.{total}
use Rattle.bridge_laws.proofs.EffectLaws.{effect_counts}
use Rattle.bridge_laws.proofs.EvaluationLaws.{scene_counts}
use Rattle.bridge_laws.proofs.JobLaws.{body_counts}
use Rattle.bridge_laws.proofs.ObjectLaws.{variables_owe}
use Rattle.bridge_laws.proofs.Sums.{found_at_most}
use Rattle.bridge_model.specs.Applying.{behaviour_number, job_of, effect_at}
use Rattle.bridge_model.specs.Objects.{object_numbered, variables_of, fields_of, as_variables}
use Rattle.bridge_model.specs.Settings.{Setting, own_oid}
use Rattle.bridge_model.specs.Sides.{Object, Tables}
use Rattle.bridge_laws.proofs.Fine.{wrong}
use Rattle.bridge_laws.proofs.FramesFit.{behaviour_at, Runs}
use Rattle.bridge_laws.proofs.TypedGiven.{IsGiven}
use Rattle.bridge_laws.proofs.ObjectsFit.{ObjectFits, object_wrong, ObjectsFit}
use Rattle.bridge_laws.proofs.AskingFits.{Asks, body_asks}
use Rattle.bridge_laws.proofs.FineLaws.{OwnFine, own_fine, fine_own, object_supports_base}
use Rattle.bridge_laws.proofs.WaitingFits.{found_object}

-- ---- objects

pub found_all : {X : Type 0} (P : X → Type 0) (test : X → Bool) (xs : List X) (x : X) → AllByRecursion P xs → find test xs ≡ Some x → P x
found_all P test [] x all is = absurd (cc)
found_all P test (y ∷ ys) x all is = step (test y) (found_all P test ys x all.1) is
  where
    step : (b : Bool) → (find test ys ≡ Some x → P x) → cond b (Some y) (find test ys) ≡ Some x → P x
    step true behind is = subst P (same_some is) all.0
    step false behind is = behind is

pub numbered_fits : (g : Setting) (os : List Object) (made n : ℕ) (o : Object) → ObjectsFit g os made → object_numbered n os ≡ Some o → ObjectFits g made o
unfolding object_numbered
numbered_fits g os made n o fit is = found_all (ObjectFits g made) (λ o. n == o.number) os o fit.each is

-- ---- owners

pub owner_base : (g : Setting) → IsGiven g → (face : List ℕ) (number : ℕ) (f : Function) → numbered g.registry face number ≡ Some f → IsBaseOf g.registry f.owner face
unfolding numbered
owner_base g given face number f found =
    let has = among_contains (functions_of g.registry face) number f found in
    let its = owned g.registry (interfaces_of g.registry face) f has in
    interfaces_are_bases g.registry face f.owner its.owner

module _ (g : Setting) (given : IsGiven g) (os : List Object) (made : ℕ) (objects : ObjectsFit g os made) (tid : List ℕ) (thread : IsThread tid) (b : Body) (fs : List Frame) (r : Runs g os b) where
  -- the frame as it runs, where these are the objects
  abbrev pub runs_with : List Object → Running
  runs_with now =
      record {
        tid = tid;
        face = b.face;
        number = b.function;
        function = r.function;
        depth = suc (length fs);
        scene = record { variables = b.variables; fields = variables_of g (object_numbered b.object now); own = own (own_oid g b.object) r.function.owner };
      }

  effect_with : List Object → Effect
  effect_with now = body_effect g.registry g.plan (behaviour_number (object_numbered b.object now)) b.place (runs_with now)

  behaves : (o : Option Object) → object_numbered b.object os ≡ o → option_map (λ o. o.behaviour) o ≡ Some r.behaviour → behaviour_number o ≡ r.behaviour
  behaves None is at = absurd (cc)
  behaves (Some o) is at = same_some at

  its_behaviour : behaviour_number (object_numbered b.object os) ≡ r.behaviour
  unfolding behaviour_at
  its_behaviour = behaves (object_numbered b.object os) refl r.fits.found

  pub effect_is : (t : Tables) → t.objects ≡ os → effect_at g tid b fs t ≡ body_effect g.registry g.plan r.behaviour b.place (runs_with os)
  unfolding effect job_of effect_with
  effect_is t same =
      ap (function_effect g.registry g.plan (job_of g tid b fs t) b) r.fits.called.found
      ∙ (ap (λ now. body_effect g.registry g.plan (behaviour_number (object_numbered b.object now)) b.place (runs_with now)) same
      ∙ ap (λ n. body_effect g.registry g.plan n b.place (runs_with os)) its_behaviour)

  -- ---- what its words stand for

  fields_fit : FieldsFit g.registry (variables_of g (object_numbered b.object os)) r.types.fields
  fields_fit =
      let object = found_object b.object r.behaviour os r.fits.found in
      let fits = numbered_fits g os made b.object object.object objects object.there in
      let there = subst (λ n. FieldsFit g.registry (as_variables (fields_of g object.object.behaviour) object.object.fields) (fields_of g n)) object.behaves fits.fields in
      subst (λ o. FieldsFit g.registry (variables_of g o) r.types.fields) (sym object.there)
      (subst (FieldsFit g.registry (as_variables (fields_of g object.object.behaviour) object.object.fields)) (sym r.fits.fields) there)

  itself : OwnFine g os (own_oid g b.object) b.face
  itself = own_fine g os (own_oid g b.object) b.face r.fits.held

  owner_face : IsInterface g.registry r.function.owner
  owner_face = owner_type g.registry given.sound r.function (numbered_declared g.registry given.differ b.face b.function r.function r.fits.called.found)

  itself_fits : Fits g.registry (v.ref (own (own_oid g b.object) r.function.owner)) (kd.interface r.types.own)
  unfolding Fits
  itself_fits =
      subst (λ face. HeldFits g.registry (own_oid g b.object) r.function.owner face) (sym r.fits.itself)
      (record { identity = itself.identity; held = owner_face; reached = inl refl })

  run_fits : RunFits g.registry (runs_with os) r.types
  run_fits =
      record {
        found = r.fits.called.found;
        stand = r.fits.stand;
        scene = record { variables = r.fits.variables; fields = fields_fit; own = itself_fits };
      }

  -- ---- what they refer to

  pub fields_fine : total (wrong g os) (refs_under (variables_of g (object_numbered b.object os))) ≡ 0
  unfolding object_numbered object_wrong
  fields_fine =
      let object = found_object b.object r.behaviour os r.fits.found in
      let none = objects.fine in
      let one = found_at_most (object_wrong g os) (λ o. b.object == o.number) object.object os object.there in
      let most = variables_owe (wrong g os) g (Some object.object) in
      let nothing : total (wrong g os) (refs_under (variables_of g (Some object.object))) ≡ 0 = omega arith in
      subst (λ o. total (wrong g os) (refs_under (variables_of g o)) ≡ 0) (sym object.there) nothing

  owner_fine : wrong g os (own (own_oid g b.object) r.function.owner) ≡ 0
  owner_fine =
      let is = itself in
      fine_own g os (own_oid g b.object) r.function.owner
      (record {
        told = is.told;
        identity = is.identity;
        interface = owner_face;
        supported =
            object_supports_base g given.sound os (own_oid g b.object) r.function.owner b.face (owner_base g given b.face b.function r.function r.fits.called.found) is.supported;
      })

  scene_fine : scene_counts (wrong g os) (runs_with os).scene ≡ 0
  unfolding total
  scene_fine = let first = r.fits.fine in let second = fields_fine in let third = owner_fine in omega arith

  -- ---- what it asks

  pub asked_fits : EffectFits g.registry g.plan r.function tid r.types (types_at (statement_at g.plan r.behaviour b.place r.function) r.types) (runs_with os).scene
      (body_effect g.registry g.plan r.behaviour b.place (runs_with os))
  asked_fits = body_fits g.registry given.sound given.built given.differ g.plan (runs_with os) r.types run_fits r.behaviour b.place r.rest

  pub asked_is : Asks g.registry r.types r.function tid (statement_at g.plan r.behaviour b.place r.function) (body_effect g.registry g.plan r.behaviour b.place (runs_with os))
  asked_is =
      body_asks g.registry given.sound given.built given.differ g.plan (runs_with os) r.types run_fits thread r.behaviour b.place
      (λ manages. subst (VariablesFit g.registry b.variables) (r.begun manages) r.fits.variables)
      r.rest

  pub asked_fine : effect_counts (wrong g os) (body_effect g.registry g.plan r.behaviour b.place (runs_with os)) ≡ 0
  unfolding total
  asked_fine = body_counts (wrong g os) g.registry g.plan r.behaviour b.place (runs_with os) scene_fine (ap (total (wrong g os)) given.constants)
