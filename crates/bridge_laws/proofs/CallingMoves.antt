-- Calls, queries and ends of a method leave what fits.
use Rattle.std.proofs.Common.{◌≡◌, ℕ, ◌+◌, true, List, [], ◌∷◌, Some, refl, sym, subst, ◌∙◌, arith}
use Rattle.message_model.specs.Messages.{Answer, returned}
use Rattle.message_model.specs.Sayable.{AnswerFits, IsThread, IsCalled}
use Rattle.uno_model.specs.Entities.{Entity}
use Rattle.uno_model.specs.Fits.{IsInterface}
use Rattle.uno_model.specs.Functions.{Function}
use Rattle.uno_model.specs.Kinds as kd
use Rattle.uno_model.specs.Values.{Ref, null, own, peer, Plain, refs, object_in}
use Rattle.uno_model.specs.Values as v
use Rattle.uno_model.proofs.Options.{same_some}
use Rattle.plan_model.specs.Frames.{Body, Frame, body}
use Rattle.plan_model.specs.Statements.{call, query}
use Rattle.plan_typing.specs.Effects.{CallFits, TargetFits}
use Rattle.plan_typing.specs.Going.{statement_at}
use Rattle.plan_typing.proofs.EffectFrames.{rest_goes_on}
use Rattle.bridge_laws.specs.Counting.{total}
use Rattle.bridge_model.specs.Applying.{applies_call, answers_query, applies_query}
use Rattle.bridge_model.specs.Calls.{Unwound, query_args}
use Rattle.bridge_model.specs.Handing.{gains_below, ends_frame}
use Rattle.bridge_model.specs.Objects.{object_answer}
use Rattle.bridge_model.specs.References.{refs_of_values, refs_of_answer}
use Rattle.bridge_model.specs.Settings.{Setting}
use Rattle.bridge_model.specs.Sides.{Object, Tables}
use Rattle.bridge_laws.proofs.Fine.{wrong}
use Rattle.bridge_laws.proofs.FramesFit.{Runs, Pauses, FramesFit, UnwoundFits}
use Rattle.bridge_laws.proofs.TypedGiven.{IsGiven}
use Rattle.bridge_laws.proofs.Moves.{Moves}
use Rattle.bridge_laws.proofs.ObjectsFit.{ObjectsFit}
use Rattle.bridge_laws.proofs.TablesFit.{TablesFit}
use Rattle.bridge_laws.proofs.AskingFits.{CallsAt, QueriesAt}
use Rattle.bridge_laws.proofs.BeginFits.{calls_own_fits, calls_peer_fits}
use Rattle.bridge_laws.proofs.FineLaws.{OwnFine, own_fine}
use Rattle.bridge_laws.proofs.HandingFits.{hands_fits, gains_below_fits, ends_frame_fits}
use Rattle.bridge_laws.proofs.LeavingFits.{IsLight}
use Rattle.bridge_laws.proofs.OwnEffects.{lasts_itself}
use Rattle.bridge_laws.proofs.QueryFits.{object_goes, query_goes, query_result}

-- a function that is called as a call says
pub called_is : (reg : List Entity) (tid oid face : List ℕ) (function : ℕ) (args : List Plain) (fits : CallFits reg tid oid face function args) → IsCalled reg face function fits.called
called_is reg tid oid face function args fits =
    record { interface = fits.interface; found = fits.found; small = fits.small; no_acquire = fits.no_acquire; no_release = fits.no_release }

pub one_count : (f : Ref → ℕ) (r : Ref) → total f (r ∷ []) ≡ f r
unfolding total
one_count f r = omega arith

-- with the objects that were there
pub unmoved : (g : Setting) (os : List Object) (made : ℕ) (u : Unwound) → ObjectsFit g os made → UnwoundFits g os made u → Moves g os made u
unmoved g os made u objects fits =
    record { now = os; count = made; lasts = lasts_itself g os; least = omega arith; most = omega arith; objects = objects; frames = fits.frames; tables = fits.tables }

module _ (g : Setting) (given : IsGiven g) (os : List Object) (made : ℕ) (objects : ObjectsFit g os made) (tid : List ℕ) (thread : IsThread tid) (b : Body) (fs : List Frame)
    (r : Runs g os b) (rests : b.from_peer ≡ true → Pauses fs) (below : FramesFit g os (Some r.function) fs) where
  -- ---- calls

  -- the method waits for the function that it calls
  call_waits : (target : Ref) (function : ℕ) (called : Function) (at : CallsAt g.registry r.types (statement_at g.plan r.behaviour b.place r.function) target function)
      → at.typed.function ≡ called → FramesFit g os (Some called) (body b ∷ fs)
  unfolding FramesFit
  call_waits target function called at same =
      let next = rest_goes_on g.registry g.plan r.behaviour b.place b.face r.function r.types (call at.call) r.rest at.is (λ ends. ends) in (
        record {
          behaviour = r.behaviour;
          function = r.function;
          types = r.types;
          statement = call at.call;
          fits = r.fits;
          found = at.is;
          typed = next.0;
          rest = next.1;
          takes = (at.typed, same);
        },
        rests,
        below,
      )

  pub call_moves : (target : Ref) (function : ℕ) (args : List Plain) (t : Tables) → TargetFits g.registry tid target function args
      → CallsAt g.registry r.types (statement_at g.plan r.behaviour b.place r.function) target function
      → total (wrong g os) (object_in target) + total (wrong g os) (refs_of_values args) ≡ 0 → TablesFit g os made t
      → UnwoundFits g os made (applies_call g tid target function args (body b ∷ fs) t)
  call_moves null function args t fits at fine fit = absurd fits
  call_moves (own oid face) function args t fits at fine fit =
      let one = one_count (wrong g os) (own oid face) in
      calls_own_fits g given os made oid face function fits.called args (body b ∷ fs) t
      (record { called = called_is g.registry tid oid face function args fits; fill = fits.arguments; fine = omega arith }) (omega arith)
      (call_waits (own oid face) function fits.called at (same_some (sym at.found ∙ fits.found))) fit
  call_moves (peer oid face) function args t fits at fine fit =
      let one = one_count (wrong g os) (peer oid face) in
      calls_peer_fits g given os made tid oid face function fits.called args (body b ∷ fs) t thread (omega arith)
      (record { called = called_is g.registry tid oid face function args fits; fill = fits.arguments; fine = omega arith }) fits.light
      (call_waits (peer oid face) function fits.called at (same_some (sym at.found ∙ fits.found))) fit

  -- ---- queries

  query_waits : (wanted : List ℕ) (called : Function) (at : QueriesAt g.registry (statement_at g.plan r.behaviour b.place r.function) wanted) → called.result_kind ≡ kd.any
      → FramesFit g os (Some called) (body b ∷ fs)
  unfolding FramesFit
  query_waits wanted called at result =
      let next = rest_goes_on g.registry g.plan r.behaviour b.place b.face r.function r.types (query at.query) r.rest at.is (λ ends. ends) in (
        record {
          behaviour = r.behaviour;
          function = r.function;
          types = r.types;
          statement = query at.query;
          fits = r.fits;
          found = at.is;
          typed = next.0;
          rest = next.1;
          takes = (at.wanted, result);
        },
        rests,
        below,
      )

  asked_fine : (wanted : List ℕ) → total (wrong g os) (refs_of_values (query_args wanted)) ≡ 0
  unfolding total refs refs_of_values
  asked_fine wanted = refl

  answered_fits : (oid face wanted : List ℕ) (f : Function) (t : Tables) → IsCalled g.registry face 0 f → OwnFine g os oid face
      → QueriesAt g.registry (statement_at g.plan r.behaviour b.place r.function) wanted → TablesFit g os made t
      → UnwoundFits g os made (answers_query g tid (object_answer g oid (kd.interface wanted) t.objects) (body b ∷ fs) t)
  answered_fits oid face wanted f t called fine at fit =
      let x = object_answer g oid (kd.interface wanted) os in
      let any = object_goes g given os made objects oid (kd.interface wanted) fine.told
      (λ other is. subst (IsInterface g.registry) (sym at.same ∙ wanted_is wanted other is) at.wanted) in
      let goes = query_goes g given os made objects tid face f x thread called any in
      subst (λ now. UnwoundFits g os made (answers_query g tid (object_answer g oid (kd.interface wanted) now) (body b ∷ fs) t)) (sym fit.same)
      (hands_fits g given os made tid thread f (returned x []) (body b ∷ fs) (gains_below (body b ∷ fs) (returned x []) t) (record { fits = goes.fits; fine = goes.fine })
      (query_waits wanted f at (query_result g given os made objects face f called))
      (gains_below_fits g given os made tid thread (body b ∷ fs) (returned x []) t goes.fine fit))
    where
      wanted_is : (wanted other : List ℕ) → kd.interface wanted ≡ kd.interface other → wanted ≡ other
      wanted_is wanted other is = cc

  pub query_moves : (target : Ref) (wanted : List ℕ) (t : Tables) → TargetFits g.registry tid target 0 (v.kind (kd.interface wanted) ∷ [])
      → QueriesAt g.registry (statement_at g.plan r.behaviour b.place r.function) wanted → total (wrong g os) (object_in target) ≡ 0 → TablesFit g os made t
      → UnwoundFits g os made (applies_query g tid target wanted (body b ∷ fs) t)
  query_moves null wanted t fits at fine fit = absurd fits
  query_moves (own oid face) wanted t fits at fine fit =
      let one = one_count (wrong g os) (own oid face) in
      answered_fits oid face wanted fits.called t (called_is g.registry tid oid face 0 (query_args wanted) fits) (own_fine g os oid face (omega arith)) at fit
  query_moves (peer oid face) wanted t fits at fine fit =
      let one = one_count (wrong g os) (peer oid face) in
      let called = called_is g.registry tid oid face 0 (query_args wanted) fits in
      calls_peer_fits g given os made tid oid face 0 fits.called (query_args wanted) (body b ∷ fs) t thread (omega arith)
      (record { called = called; fill = fits.arguments; fine = asked_fine wanted }) fits.light
      (query_waits wanted fits.called at (query_result g given os made objects face fits.called called)) fit

  -- ---- the end of the method

  pub end_moves : (a : Answer) (t : Tables) → AnswerFits g.registry r.function a → IsLight tid a → total (wrong g os) (refs_of_answer a) ≡ 0 → TablesFit g os made t
      → UnwoundFits g os made (ends_frame g tid b a fs t)
  end_moves a t fits light fine fit =
      ends_frame_fits g given os made tid thread b r.function a fs t r.fits.called (r.fits.fine, r.fits.held)
      (record { fits = fits; light = light; fine = fine }) rests below fit
