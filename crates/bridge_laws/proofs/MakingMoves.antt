-- A method that makes an object, and the service manager that creates one, leave what fits.
use Rattle.std.proofs.Common.{◌≡◌, ℕ, zero, suc, ◌+◌, ◌≤◌, ◌<◌, ◌^◌, ◌==◌, true, if◌then◌else◌, List, [], ◌∷◌, ◌++◌, length, map, Option, None, Some, Result, Ok, Err, slice_get, refl, sym, ap, subst, ◌∙◌, inl, arith}
use Rattle.message_model.specs.Messages.{returned, raised}
use Rattle.message_model.specs.Sayable.{AnswerFits, IsThread, name_weight, answer_weight}
use Rattle.uno_model.specs.BuiltIn.{exception_name, x_interface_name}
use Rattle.uno_model.specs.Fits.{Fits, FitEach, FitAll}
use Rattle.uno_model.specs.Kinds.{Kind}
use Rattle.uno_model.specs.Kinds as kd
use Rattle.uno_model.specs.Values.{Ref, own, Plain, plains, refs, depth, depth_in}
use Rattle.uno_model.specs.Values as v
use Rattle.uno_model.specs.Weights.{weight, weights}
use Rattle.table_model.specs.declared.holder.Holder.TheVariants as holder
use Rattle.plan_model.specs.Frames.{Body, Frame, body}
use Rattle.plan_model.specs.Holdings.{with_variable, refs_under, goes_on}
use Rattle.plan_model.specs.Leaving.{leaving_frame}
use Rattle.plan_model.specs.Plans.{Offer, manager, faces_of, supports, first_objects, singleton_object}
use Rattle.plan_model.specs.Services.{Created, fresh, singleton, created, refusal_exception, refusal_message}
use Rattle.plan_model.specs.Statements.{make}
use Rattle.plan_model.specs.declared.refusal.Refusal.{Refusal}
use Rattle.plan_typing.specs.Effects.{MakingFits}
use Rattle.plan_typing.specs.Going.{statement_at}
use Rattle.plan_typing.specs.Scenes.{VariablesFit}
use Rattle.plan_typing.specs.Statements.{types_behind}
use Rattle.plan_typing.proofs.EffectFrames.{rest_goes_on}
use Rattle.plan_typing.proofs.EffectRuntime.{base_fits}
use Rattle.plan_typing.proofs.FramePuts.{added_fits}
use Rattle.bridge_laws.specs.Counting.{total}
use Rattle.bridge_laws.proofs.CreatedLaws.{IsPlaced, created_placed, created_refs, created_counts}
use Rattle.bridge_laws.proofs.HandingLaws.{returned_owes}
use Rattle.bridge_laws.proofs.IdentityLaws.{given_own}
use Rattle.bridge_laws.proofs.LivingEffectLaws.{defaults_of_fields}
use Rattle.bridge_laws.proofs.VariableLaws.{values_none, with_variable_owes}
use Rattle.bridge_model.specs.Applying.{applies_making, returns_object, applies_creating}
use Rattle.bridge_model.specs.Calls.{Unwound, unwound}
use Rattle.bridge_model.specs.Handing.{ends_frame}
use Rattle.bridge_model.specs.Objects.{faces_at, object_supports, fields_of, makes_object, defaults_of, makes_default}
use Rattle.bridge_model.specs.References.{gains, refs_of_values, refs_of_answer}
use Rattle.bridge_model.specs.Settings.{Setting, own_oid}
use Rattle.bridge_model.specs.Sides.{Object, Tables}
use Rattle.bridge_laws.proofs.Fine.{wrong}
use Rattle.bridge_laws.proofs.FramesFit.{Runs, Pauses, FramesFit, AnswerGoes, UnwoundFits}
use Rattle.bridge_laws.proofs.TypedGiven.{IsGiven, OfferFits}
use Rattle.bridge_laws.proofs.Moves.{Moves}
use Rattle.bridge_laws.proofs.ObjectsFit.{ObjectsFit, Lasts}
use Rattle.bridge_laws.proofs.TablesFit.{TablesFit}
use Rattle.bridge_laws.proofs.AskingFits.{MakesAt, ReturnsObject}
use Rattle.bridge_laws.proofs.CallingMoves.{unmoved}
use Rattle.std.proofs.lemmas.List.{length-map}
use Rattle.uno_model.specs.Sound.{is_some_list}
use Rattle.plan_typing.proofs.EffectPlaces.{all_at_place}
use Rattle.bridge_laws.proofs.OwnEffects.{lasts_itself}
use Rattle.bridge_laws.proofs.CreatedFits.{slice_behind, slice_mapped, has_some, FreshFits, CreatedFits, created_fits, place_within, faces_are, root_interface}
use Rattle.bridge_laws.proofs.FineLaws.{own_fine, fine_own}
use Rattle.bridge_laws.proofs.HandingFits.{next_fits, ends_frame_fits}
use Rattle.bridge_laws.proofs.WaitingFits.{found_object, no_statement}
use Rattle.bridge_laws.proofs.LastingFits.{refs_last, body_lasts, frames_last}
use Rattle.bridge_laws.proofs.LeavingFits.{frame_goes}
use Rattle.bridge_laws.proofs.MakingFits.{named_by_number, push_lasts, defaults_fit, made_now, made_fit, made_fine, makes_fits}
use Rattle.bridge_laws.proofs.TableLaws.{text_most, identity_named, gains_fits}

module _ (g : Setting) (given : IsGiven g) (os : List Object) (made : ℕ) (objects : ObjectsFit g os made) (room : made < 2000000) (tid : List ℕ) (thread : IsThread tid) (b : Body)
    (fs : List Frame) (r : Runs g os b) (rests : b.from_peer ≡ true → Pauses fs) (below : FramesFit g os (Some r.function) fs)
    (opened : length (first_objects g.plan) ≤ made) where
  -- the objects of the beginning are made
  none_next : (behaviour k : ℕ) → slice_get (first_objects g.plan) made ≡ Some k → behaviour ≡ k
  none_next behaviour k is = let within = place_within (first_objects g.plan) made k is in absurd (omega arith)

  -- ---- an object that a method makes

  module _ (behaviour : ℕ) (face to : List ℕ) (fits : MakingFits g.registry g.plan behaviour face) (at : MakesAt (statement_at g.plan r.behaviour b.place r.function) behaviour face to) where
    abbrev now : List Object
    now = made_now made behaviour (defaults_of g behaviour) os

    default_fine : total (wrong g os) (refs_of_values (defaults_of g behaviour)) ≡ 0
    default_fine = defaults_of_fields (wrong g os) g.registry (fields_of g behaviour)

    now_lasts : Lasts g os now
    now_lasts = push_lasts g os (record { number = suc made; behaviour = behaviour; fields = defaults_of g behaviour })

    now_fits : ObjectsFit g now (suc made)
    now_fits = made_fit g given os made objects room behaviour (defaults_of g behaviour) (defaults_fit g given behaviour) default_fine (none_next behaviour)

    supported : supports g.registry (faces_of g.plan behaviour) face ≡ true
    supported = subst (λ faces. supports g.registry faces face ≡ true) (sym (faces_are g given behaviour fits.made fits.found)) fits.supported

    new_fine : wrong g now (own (own_oid g (suc made)) face) ≡ 0
    new_fine = made_fine g given os made objects room behaviour (defaults_of g behaviour) (defaults_fit g given behaviour) default_fine (none_next behaviour) face fits.interface supported

    new_fits : Fits g.registry (v.ref (own (own_oid g (suc made)) face)) (kd.interface face)
    unfolding Fits
    new_fits = record { identity = (own_fine g now (own_oid g (suc made)) face new_fine).identity; held = fits.interface; reached = inl refl }

    variables_fit : VariablesFit g.registry (with_variable to (v.ref (own (own_oid g (suc made)) face)) b.variables) (types_behind (make at.making) r.types).variables
    unfolding types_behind
    variables_fit =
        subst (λ name. VariablesFit g.registry (with_variable name (v.ref (own (own_oid g (suc made)) face)) b.variables) (types_behind (make at.making) r.types).variables) (sym at.named)
        (added_fits g.registry at.making.to (v.ref (own (own_oid g (suc made)) face)) b.variables r.types.variables (kd.interface at.making.face) r.fits.variables
        (subst (λ f. Fits g.registry (v.ref (own (own_oid g (suc made)) face)) (kd.interface f)) at.faced new_fits))

    variables_fine : total (wrong g now) (refs_under (with_variable to (v.ref (own (own_oid g (suc made)) face)) b.variables)) ≡ 0
    unfolding refs total
    variables_fine =
        let before = refs_last g os now now_lasts (refs_under b.variables) r.fits.fine in
        let more = with_variable_owes (wrong g now) to (v.ref (own (own_oid g (suc made)) face)) b.variables in
        let one = new_fine in omega arith

    now_frames : FramesFit g now None (body (goes_on (with_variable to (v.ref (own (own_oid g (suc made)) face)) b.variables) b) ∷ fs)
    unfolding FramesFit goes_on
    now_frames =
        let next = rest_goes_on g.registry g.plan r.behaviour b.place b.face r.function r.types (make at.making) r.rest at.is (λ ends. ends) in (
          record {
            behaviour = r.behaviour;
            function = r.function;
            types = types_behind (make at.making) r.types;
            fits =
                next_fits g given now (suc made) tid thread b r.behaviour r.function r.types (make at.making) (with_variable to (v.ref (own (own_oid g (suc made)) face)) b.variables)
                (body_lasts g os now now_lasts b r.behaviour r.function r.types r.fits) next.0 variables_fit variables_fine;
            rest = next.1;
            begun = λ manages. absurd (no_statement g r.behaviour b.place r.function (make at.making) (r.behaviour == manager) manages at.is);
          },
          rests,
          frames_last g os now now_lasts (Some r.function) fs below,
        )

    makes_at : (n : ℕ) → Tables → Unwound
    makes_at n t =
        unwound
        (body (goes_on (with_variable to (v.ref (own (own_oid g (suc n)) face)) b.variables) b) ∷ fs)
        (gains (holder.Frame b.number) (own (own_oid g (suc n)) face) (makes_default g behaviour t))

    pub making_moves : (t : Tables) → TablesFit g os made t → Moves g os made (applies_making g behaviour face to b fs t)
    unfolding makes_at
    making_moves t fit =
        subst (λ n. Moves g os made (makes_at n t)) (sym fit.counted)
        (record {
          now = now;
          count = suc made;
          lasts = now_lasts;
          least = omega arith;
          most = omega arith;
          objects = now_fits;
          frames = now_frames;
          tables =
              gains_fits g given now (suc made) (holder.Frame b.number) (own (own_oid g (suc made)) face) (makes_default g behaviour t) new_fine
              (makes_fits g given os made objects room behaviour (defaults_of g behaviour) (defaults_fit g given behaviour) default_fine (none_next behaviour) t fit);
        })

  -- ---- an object that is given out

  module _ (returns : ReturnsObject r.function) where
    object_light : (n : ℕ) → n < 2 ^ 64 → 1 + (name_weight tid + answer_weight (returned (v.ref (own (own_oid g n) x_interface_name)) [])) ≤ 16777216
    unfolding weight weights
    object_light n few =
        let identity = identity_named g n given.short few in let long = identity.bounded in let text = text_most (own_oid g n) in
        let name = text_most tid in let most = thread.bounded in omega arith

    object_fits : (now : List Object) (n : ℕ) → wrong g now (own (own_oid g n) x_interface_name) ≡ 0
        → AnswerFits g.registry r.function (returned (v.ref (own (own_oid g n) x_interface_name)) [])
    unfolding Fits FitEach depth depth_in
    object_fits now n fine =
        let is = own_fine g now (own_oid g n) x_interface_name fine in (
          subst (Fits g.registry (v.ref (own (own_oid g n) x_interface_name))) (sym returns.result)
              (record { identity = is.identity; held = is.interface; reached = inl refl }),
          omega arith,
          record { fit = subst (FitEach g.registry v.none) (sym returns.outs) tt; deep = omega arith },
        )

    object_goes : (now : List Object) (n : ℕ) → n < 2 ^ 64 → wrong g now (own (own_oid g n) x_interface_name) ≡ 0
        → AnswerGoes g now tid r.function (returned (v.ref (own (own_oid g n) x_interface_name)) [])
    unfolding refs total
    object_goes now n few fine =
        let parts = returned_owes (wrong g now) (v.ref (own (own_oid g n) x_interface_name)) [] in let none = values_none (wrong g now) in
        record { fits = object_fits now n fine; light = object_light n few; fine = omega arith }

    returns_fits : (now : List Object) (count : ℕ) (n : ℕ) (t : Tables) → Lasts g os now → n < 2 ^ 64 → wrong g now (own (own_oid g n) x_interface_name) ≡ 0 → TablesFit g now count t
        → UnwoundFits g now count (returns_object g tid b n fs t)
    returns_fits now count n t lasts few fine fit =
        let body = body_lasts g os now lasts b r.behaviour r.function r.types r.fits in
        ends_frame_fits g given now count tid thread b r.function (returned (v.ref (own (own_oid g n) x_interface_name)) []) fs t r.fits.called (body.fine, body.held)
        (object_goes now n few fine) rests (frames_last g os now lasts (Some r.function) fs below) fit

    fresh_moves : (behaviour : ℕ) (values : List Plain) (t : Tables) → FreshFits g behaviour values → total (wrong g os) (refs_of_values values) ≡ 0 → TablesFit g os made t
        → Moves g os made (returns_object g tid b (suc t.objects_made) fs (makes_object behaviour values t))
    fresh_moves behaviour values t fits fine fit =
        let now = made_now made behaviour values os in
        let lasts = push_lasts g os (record { number = suc made; behaviour = behaviour; fields = values }) in
        let new = made_fine g given os made objects room behaviour values fits.fields fine (none_next behaviour) x_interface_name (root_interface g given) fits.root in
        let ended = returns_fits now (suc made) (suc made) (makes_object behaviour values t) lasts (omega arith) new
        (makes_fits g given os made objects room behaviour values fits.fields fine (none_next behaviour) t fit) in
        subst (λ n. Moves g os made (returns_object g tid b (suc n) fs (makes_object behaviour values t))) (sym fit.counted)
        (record {
          now = now;
          count = suc made;
          lasts = lasts;
          least = omega arith;
          most = omega arith;
          objects = made_fit g given os made objects room behaviour values fits.fields fine (none_next behaviour);
          frames = ended.frames;
          tables = ended.tables;
        })

    -- ---- singletons

    singleton_first : (place : ℕ) (o : Offer) → slice_get g.plan.singletons place ≡ Some o → slice_get (first_objects g.plan) (length g.plan.exports + suc place) ≡ Some o.behaviour
    unfolding first_objects
    singleton_first place o is =
        let before = map (λ e. e.behaviour) g.plan.exports in
        let behind = manager ∷ map (λ o. o.behaviour) g.plan.singletons in
        ap (λ b. slice_get (before ++ (if b then behind else [])) (length g.plan.exports + suc place)) (has_some (is_some_list g.plan.services) g.plan.singletons place o is)
        ∙ (ap (λ n. slice_get (before ++ behind) (n + suc place)) (sym (length-map g.plan.exports (λ e. e.behaviour)))
        ∙ (slice_behind before behind (suc place) ∙ slice_mapped (λ o. o.behaviour) g.plan.singletons place o is))

    number_is : (place : ℕ) → singleton_object g.plan place ≡ suc (length g.plan.exports + suc place)
    unfolding singleton_object
    number_is place = omega arith

    singleton_supports : (place : ℕ) (o : Offer) → slice_get g.plan.singletons place ≡ Some o
        → object_supports g (own_oid g (suc (length g.plan.exports + suc place))) x_interface_name os ≡ true
    unfolding object_supports faces_at
    singleton_supports place o is =
        let n = suc (length g.plan.exports + suc place) in
        let first = singleton_first place o is in
        let within = place_within (first_objects g.plan) (length g.plan.exports + suc place) o.behaviour first in
        let count = given.objects in let few = objects.few in
        let found = found_object n o.behaviour os (objects.first (length g.plan.exports + suc place) o.behaviour (omega arith) first) in
        let named = named_by_number g made n os (omega arith) (omega arith) objects.each in
        let offer = all_at_place (OfferFits g.registry g.plan) g.plan.singletons place o given.singletons is in
        ap (λ o. supports g.registry (faces_at g o) x_interface_name) (named ∙ found.there)
        ∙ (ap (λ k. supports g.registry (faces_of g.plan k) x_interface_name) found.behaves
        ∙ (ap (λ faces. supports g.registry faces x_interface_name) (faces_are g given o.behaviour offer.behaviour offer.found) ∙ offer.root))

    singleton_fine : (place : ℕ) (o : Offer) → slice_get g.plan.singletons place ≡ Some o → wrong g os (own (own_oid g (singleton_object g.plan place)) x_interface_name) ≡ 0
    singleton_fine place o is =
        let n = suc (length g.plan.exports + suc place) in
        let first = singleton_first place o is in
        let within = place_within (first_objects g.plan) (length g.plan.exports + suc place) o.behaviour first in
        let count = given.objects in
        let fine = fine_own g os (own_oid g n) x_interface_name
        (record {
          told = given_own g n;
          identity = identity_named g n given.short (omega arith);
          interface = root_interface g given;
          supported = singleton_supports place o is;
        }) in
        subst (λ m. wrong g os (own (own_oid g m) x_interface_name) ≡ 0) (sym (number_is place)) fine

    singleton_few : (place : ℕ) (o : Offer) → slice_get g.plan.singletons place ≡ Some o → singleton_object g.plan place < 2 ^ 64
    singleton_few place o is =
        let first = singleton_first place o is in
        let within = place_within (first_objects g.plan) (length g.plan.exports + suc place) o.behaviour first in
        let count = given.objects in let number = number_is place in omega arith

    singleton_moves : (place : ℕ) (t : Tables) (o : Option Offer) → slice_get g.plan.singletons place ≡ o → place < length g.plan.singletons → TablesFit g os made t
        → Moves g os made (returns_object g tid b (singleton_object g.plan place) fs t)
    singleton_moves place t None is within fit = absurd (not_there g.plan.singletons place within is)
      where
        not_there : (xs : List Offer) (n : ℕ) → n < length xs → slice_get xs n ≡ None → ⊥
        not_there [] n few none = omega arith
        not_there (x ∷ xs) zero few none = absurd (cc)
        not_there (x ∷ xs) (suc n) few none = not_there xs n (omega arith) none
    singleton_moves place t (Some o) is within fit =
        unmoved g os made (returns_object g tid b (singleton_object g.plan place) fs t) objects
        (returns_fits os made (singleton_object g.plan place) t (lasts_itself g os) (singleton_few place o is) (singleton_fine place o is) fit)

    -- ---- what a name creates

    refusal_none : (why : Refusal) (name : List ℕ) → total (wrong g os) (refs_of_answer (raised (kd.exception exception_name) (refusal_exception why name))) ≡ 0
    unfolding refs_of_answer refs total
    refusal_none why name = refl

    refused_moves : (why : Refusal) (name : List ℕ) (t : Tables) → TablesFit g os made t
        → Moves g os made (ends_frame g tid b (leaving_frame g.registry tid b (raised (kd.exception exception_name) (refusal_exception why name))) fs t)
    refused_moves why name t fit =
        let goes = frame_goes g given os tid thread b r.function (raised (kd.exception exception_name) (refusal_exception why name)) r.fits.called
        (base_fits g.registry given.built (refusal_message why name)) (refusal_none why name) in
        unmoved g os made (ends_frame g tid b (leaving_frame g.registry tid b (raised (kd.exception exception_name) (refusal_exception why name))) fs t) objects
        (ends_frame_fits g given os made tid thread b r.function (leaving_frame g.registry tid b (raised (kd.exception exception_name) (refusal_exception why name))) fs t r.fits.called
        (r.fits.fine, r.fits.held) goes rests below fit)

    created_moves : (name : List ℕ) (c : Result Created Refusal) (t : Tables) → CreatedFits g c → created_counts (wrong g os) c ≡ 0 → IsPlaced g.plan c → TablesFit g os made t
        → Moves g os made (applies_creating g tid b name c fs t)
    unfolding applies_creating
    created_moves name (Ok (fresh behaviour values)) t fits fine placed fit = fresh_moves behaviour values t fits fine fit
    created_moves name (Ok (singleton place)) t fits fine placed fit = singleton_moves place t (slice_get g.plan.singletons place) refl placed fit
    created_moves name (Err why) t fits fine placed fit = refused_moves why name t fit

    pub creating_moves : (name : List ℕ) (args : List Plain) (t : Tables) → FitAll g.registry (plains args) kd.any → total (wrong g os) (refs_of_values args) ≡ 0 → TablesFit g os made t
        → Moves g os made (applies_creating g tid b name (created g.plan g.registry name args) fs t)
    creating_moves name args t fits fine fit =
        created_moves name (created g.plan g.registry name args) t (created_fits g given args fits name) (created_refs (wrong g os) g.registry g.plan name args fine)
        (created_placed g.registry g.plan name args) fit
