-- An answer that reaches a root fits the function of the frame that stands on it.
use Rattle.std.proofs.Common.{◌≡◌, refl, sym, ap, subst, ◌∙◌, ℕ, zero, suc, ◌+◌, ◌<◌, ◌^◌, Bool, true, false, if◌then◌else◌, List, [], ◌∷◌, ◌++◌, length, map, Option, None, Some, Result, Ok, Err, slice_get, inl, arith}
use Rattle.std.proofs.lemmas.List.{length-map}
use Rattle.message_model.specs.Calls.{numbered}
use Rattle.message_model.specs.Messages.{Answer, returned, raised}
use Rattle.message_model.specs.Sayable.{AnswerFits, IsCalled, IsThread}
use Rattle.uno_model.specs.BuiltIn.{x_interface_name, exception_name}
use Rattle.uno_model.specs.Entities.{Entity}
use Rattle.uno_model.specs.Fits.{Fits, FitEach}
use Rattle.uno_model.specs.Functions.{Function}
use Rattle.uno_model.specs.Kinds.{Kind}
use Rattle.uno_model.specs.Kinds as kd
use Rattle.uno_model.specs.Sound.{is_some_list}
use Rattle.uno_model.specs.Values.{Ref, null, own, peer, Plain, depth, depth_in}
use Rattle.uno_model.specs.Values as v
use Rattle.plan_model.specs.Asking.{Effect, lets, sets, sets_field, drops, skips, calls, queries, makes, disposes, creates, returns, raises}
use Rattle.plan_model.specs.Frames.{Body, Frame, base, body, outgoing}
use Rattle.plan_model.specs.Leaving.{leaving, leaving_frame}
use Rattle.plan_model.specs.Plans.{Offer, manager, first_objects, singleton_object}
use Rattle.plan_model.specs.Services.{Created, fresh, singleton, created, refusal_exception, refusal_message}
use Rattle.plan_model.specs.declared.refusal.Refusal.{Refusal}
use Rattle.plan_typing.specs.Answers.{WorkedOut}
use Rattle.plan_typing.specs.Effects.{EffectFits}
use Rattle.plan_typing.specs.Going.{statement_at, types_at}
use Rattle.plan_typing.proofs.EffectLeaving.{leaving_answers}
use Rattle.plan_typing.proofs.EffectRuntime.{base_fits}
use Rattle.bridge_laws.proofs.CreatedLaws.{IsPlaced, created_placed}
use Rattle.bridge_model.specs.Applying.{effect_at}
use Rattle.bridge_model.specs.Settings.{Setting, own_oid}
use Rattle.bridge_model.specs.Sides.{Object, Tables}
use Rattle.bridge_laws.proofs.FramesFit.{Runs, FramesFit}
use Rattle.bridge_laws.proofs.TypedGiven.{IsGiven}
use Rattle.bridge_laws.proofs.ObjectsFit.{ObjectsFit}
use Rattle.bridge_laws.proofs.TablesFit.{TablesFit}
use Rattle.bridge_laws.proofs.AskingFits.{Asks, ReturnsObject}
use Rattle.bridge_laws.proofs.CreatedFits.{slice_behind, slice_mapped, has_some, place_within, root_interface}
use Rattle.bridge_laws.proofs.JobFits.{runs_with, effect_is, asked_fits, asked_is}
use Rattle.bridge_laws.proofs.TableLaws.{identity_named}
use Rattle.bridge_laws.specs.Outcomes.{Fate, for_root, for_peer, handed_down, frame_ended, creation, query_fate, fate_of}
use Rattle.bridge_laws.specs.RootAnswers.{Asking}
use Rattle.bridge_laws.proofs.OwedFrames.{Begins, OnRoot, Reaches}

-- an answer of the function with which the root asked
pub record Reached (reg : List Entity) (q : Option Asking) (c : Answer) : Type 0 where
  pub face : List ℕ
  pub function : ℕ
  pub called : Function
  pub is : IsCalled reg face function called
  pub begun : Begins q face function
  pub fits : AnswerFits reg called c

same_answer : (root n : ℕ) (a c : Answer) → for_root root a ≡ for_root n c → a ≡ c
same_answer root n a c is = cc

of_peer : {X : Type 0} (b : Body) (fs : List Frame) (a : Answer) (h : Fate) (c : Bool) (n : ℕ) (d : Answer) → (if c then for_peer b fs a else h) ≡ for_root n d → (h ≡ for_root n d → X) → X
of_peer b fs a h true n d is on = absurd (cc)
of_peer b fs a h false n d is on = on is

module _ (g : Setting) (given : IsGiven g) (q : Option Asking) (os : List Object) (tid : List ℕ) where
  frame_is : (b : Body) (f : Function) (a : Answer) → numbered g.registry b.face b.function ≡ Some f → leaving_frame g.registry tid b a ≡ leaving g.registry tid b.face b.function f a
  unfolding leaving_frame
  frame_is b f a found = rw found refl

  leaves : (b : Body) (f : Function) (a : Answer) → IsCalled g.registry b.face b.function f → WorkedOut g.registry f a → AnswerFits g.registry f (leaving_frame g.registry tid b a)
  leaves b f a called works = subst (AnswerFits g.registry f) (sym (frame_is b f a called.found)) (leaving_answers g.registry given.built f tid b.face b.function a works)

  -- ---- handing

  pub handed : (called : Function) (a : Answer) (face : List ℕ) (function : ℕ) (fs : List Frame) → IsCalled g.registry face function called → OnRoot q face function fs → Reaches q fs
      → AnswerFits g.registry called a → FramesFit g os (Some called) fs → (n : ℕ) (c : Answer) → handed_down g.registry tid a fs ≡ for_root n c → Reached g.registry q c
  unfolding handed_down FramesFit
  handed called a face function [] is on r fits frames n c to = absurd (cc)
  handed called a face function (base root ∷ fs) is on r fits frames n c to =
      record { face = face; function = function; called = called; is = is; begun = on; fits = subst (AnswerFits g.registry called) (same_answer root n a c to) fits }
  handed called a face function (outgoing o ∷ fs) is on r fits frames n c to = absurd (cc)
  handed called (returned x outs) face function (body b ∷ fs) is on r fits frames n c to = absurd (cc)
  handed called (raised k x) face function (body b ∷ fs) is on r fits frames n c to =
      let left = leaving_frame g.registry tid b (raised k x) in
      of_peer b fs left (handed_down g.registry tid left fs) b.from_peer n c to
      (λ on_down. handed frames.0.function left b.face b.function fs frames.0.fits.called r.0 r.1 (leaves b frames.0.function (raised k x) frames.0.fits.called fits.1) frames.2 n c on_down)

  ended : (b : Body) (f : Function) (a : Answer) (fs : List Frame) → IsCalled g.registry b.face b.function f → Reaches q (body b ∷ fs) → AnswerFits g.registry f a → FramesFit g os (Some f) fs
      → (n : ℕ) (c : Answer) → frame_ended g.registry tid b a fs ≡ for_root n c → Reached g.registry q c
  ended b f a fs is r fits frames n c to =
      of_peer b fs a (handed_down g.registry tid a fs) b.from_peer n c to (λ on_down. handed f a b.face b.function fs is r.0 r.1 fits frames n c on_down)

  -- ---- objects that are created

  object_fits : (f : Function) (k : ℕ) → ReturnsObject f → k < 2 ^ 64 → AnswerFits g.registry f (returned (v.ref (own (own_oid g k) x_interface_name)) [])
  unfolding Fits FitEach depth depth_in
  object_fits f k back few = (
    subst (Fits g.registry (v.ref (own (own_oid g k) x_interface_name))) (sym back.result)
        (record { identity = identity_named g k given.short few; held = root_interface g given; reached = inl refl }),
    omega arith,
    record { fit = subst (FitEach g.registry v.none) (sym back.outs) tt; deep = omega arith },
  )

  singleton_first : (place : ℕ) (o : Offer) → slice_get g.plan.singletons place ≡ Some o → slice_get (first_objects g.plan) (length g.plan.exports + suc place) ≡ Some o.behaviour
  unfolding first_objects
  singleton_first place o is =
      let before = map (λ e. e.behaviour) g.plan.exports in
      let behind = manager ∷ map (λ o. o.behaviour) g.plan.singletons in
      ap (λ b. slice_get (before ++ (if b then behind else [])) (length g.plan.exports + suc place)) (has_some (is_some_list g.plan.services) g.plan.singletons place o is)
      ∙ (ap (λ n. slice_get (before ++ behind) (n + suc place)) (sym (length-map g.plan.exports (λ e. e.behaviour)))
      ∙ (slice_behind before behind (suc place) ∙ slice_mapped (λ o. o.behaviour) g.plan.singletons place o is))

  not_there : (xs : List Offer) (n : ℕ) → n < length xs → slice_get xs n ≡ None → ⊥
  not_there [] n few none = omega arith
  not_there (x ∷ xs) zero few none = absurd (cc)
  not_there (x ∷ xs) (suc n) few none = not_there xs n (omega arith) none

  singleton_few : (place : ℕ) (o : Option Offer) → slice_get g.plan.singletons place ≡ o → place < length g.plan.singletons → singleton_object g.plan place < 2 ^ 64
  unfolding singleton_object
  singleton_few place None is within = absurd (not_there g.plan.singletons place within is)
  singleton_few place (Some o) is within =
      let inside = place_within (first_objects g.plan) (length g.plan.exports + suc place) o.behaviour (singleton_first place o is) in let count = given.objects in omega arith

  created_answers : (b : Body) (f : Function) (name : List ℕ) (c : Result Created Refusal) (t : Tables) → IsCalled g.registry b.face b.function f → ReturnsObject f → IsPlaced g.plan c → t.objects_made < 2000000
      → AnswerFits g.registry f (creation g tid b name c t)
  unfolding creation
  created_answers b f name (Ok (fresh behaviour fields)) t is back placed room = object_fits f (suc t.objects_made) back (omega arith)
  created_answers b f name (Ok (singleton place)) t is back placed room = object_fits f (singleton_object g.plan place) back (singleton_few place (slice_get g.plan.singletons place) refl placed)
  created_answers b f name (Err why) t is back placed room = leaves b f (raised (kd.exception exception_name) (refusal_exception why name)) is (base_fits g.registry given.built (refusal_message why name))

  -- ---- statements

  module _ (made : ℕ) (objects : ObjectsFit g os made) (room : made < 2000000) (thread : IsThread tid) (b : Body) (fs : List Frame) (r : Runs g os b) (below : FramesFit g os (Some r.function) fs)
      (reaches : Reaches q (body b ∷ fs)) (t : Tables) (fit : TablesFit g os made t) where
    by_query : (target : Ref) (wanted : List ℕ) (n : ℕ) (c : Answer) → query_fate g tid target wanted b fs t ≡ for_root n c → Reached g.registry q c
    unfolding handed_down
    by_query null wanted n c to = absurd (cc)
    by_query (own oid face) wanted n c to = absurd (cc)
    by_query (peer oid face) wanted n c to = absurd (cc)

    by_effect : (e : Effect)
        → EffectFits g.registry g.plan r.function tid r.types (types_at (statement_at g.plan r.behaviour b.place r.function) r.types) (runs_with g given os made objects tid thread b fs r os).scene e
        → Asks g.registry r.types r.function tid (statement_at g.plan r.behaviour b.place r.function) e → (n : ℕ) (c : Answer) → fate_of g tid b fs e t ≡ for_root n c → Reached g.registry q c
    unfolding fate_of EffectFits
    by_effect (lets x) fits asks n c to = absurd (cc)
    by_effect (sets x) fits asks n c to = absurd (cc)
    by_effect (sets_field x) fits asks n c to = absurd (cc)
    by_effect (drops name) fits asks n c to = absurd (cc)
    by_effect skips fits asks n c to = absurd (cc)
    by_effect (calls target function args name) fits asks n c to = absurd (cc)
    by_effect (queries target wanted name) fits asks n c to = by_query target wanted n c to
    by_effect (makes behaviour face name) fits asks n c to = absurd (cc)
    by_effect disposes fits asks n c to = absurd (cc)
    by_effect (creates name args) fits asks n c to =
        let counted = fit.counted in
        ended b r.function (creation g tid b name (created g.plan g.registry name args) t) fs r.fits.called reaches
        (created_answers b r.function name (created g.plan g.registry name args) t r.fits.called asks.0 (created_placed g.registry g.plan name args) (omega arith)) below n c to
    by_effect (returns x outs) fits asks n c to = ended b r.function (returned x outs) fs r.fits.called reaches fits below n c to
    by_effect (raises k x) fits asks n c to = ended b r.function (raised k x) fs r.fits.called reaches fits below n c to

    pub statement_answers : (n : ℕ) (c : Answer) → fate_of g tid b fs (effect_at g tid b fs t) t ≡ for_root n c → Reached g.registry q c
    statement_answers n c to =
        by_effect _ (asked_fits g given os made objects tid thread b fs r) (asked_is g given os made objects tid thread b fs r) n c
        (ap (λ e. fate_of g tid b fs e t) (sym (effect_is g given os made objects tid thread b fs r t fit.same)) ∙ to)
