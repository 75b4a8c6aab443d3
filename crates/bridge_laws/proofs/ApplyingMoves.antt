-- Whatever a method asks leaves what fits.
use Rattle.std.proofs.Common.{◌≡◌, ℕ, ◌≤◌, ◌<◌, true, List, ◌∷◌, length, Some, sym, subst}
use Rattle.message_model.specs.Messages.{returned, raised}
use Rattle.message_model.specs.Sayable.{IsThread}
use Rattle.plan_model.specs.Asking.{Effect, lets, sets, sets_field, drops, skips, calls, queries, makes, disposes, creates, returns, raises}
use Rattle.plan_model.specs.Frames.{Body, Frame, body}
use Rattle.plan_model.specs.Plans.{first_objects}
use Rattle.plan_typing.specs.Effects.{EffectFits}
use Rattle.plan_typing.specs.Going.{statement_at, types_at}
use Rattle.bridge_laws.proofs.EffectLaws.{effect_counts}
use Rattle.bridge_model.specs.Applying.{applies_call, applies_query, applies, effect_at}
use Rattle.bridge_model.specs.Calls.{unwound}
use Rattle.bridge_model.specs.Handing.{ends_frame}
use Rattle.bridge_model.specs.Settings.{Setting}
use Rattle.bridge_model.specs.Sides.{Object, Tables}
use Rattle.bridge_laws.proofs.Fine.{wrong}
use Rattle.bridge_laws.proofs.FramesFit.{Runs, Pauses, FramesFit}
use Rattle.bridge_laws.proofs.TypedGiven.{IsGiven}
use Rattle.bridge_laws.proofs.Moves.{Moves}
use Rattle.bridge_laws.proofs.ObjectsFit.{ObjectsFit}
use Rattle.bridge_laws.proofs.TablesFit.{TablesFit}
use Rattle.bridge_laws.proofs.AskingFits.{Asks}
use Rattle.bridge_laws.proofs.CallingMoves.{unmoved, call_moves, query_moves, end_moves}
use Rattle.bridge_laws.proofs.JobFits.{runs_with, effect_is, asked_fits, asked_is, asked_fine}
use Rattle.bridge_laws.proofs.MakingMoves.{making_moves, creating_moves}
use Rattle.bridge_laws.proofs.OwnEffects.{lets_moves, sets_moves, drops_moves, skips_moves, sets_field_moves}

module _ (g : Setting) (given : IsGiven g) (os : List Object) (made : ℕ) (objects : ObjectsFit g os made) (room : made < 2000000) (tid : List ℕ) (thread : IsThread tid) (b : Body)
    (fs : List Frame) (r : Runs g os b) (rests : b.from_peer ≡ true → Pauses fs) (below : FramesFit g os (Some r.function) fs)
    (opened : length (first_objects g.plan) ≤ made) where
  applies_moves : (e : Effect) (t : Tables)
      → EffectFits g.registry g.plan r.function tid r.types (types_at (statement_at g.plan r.behaviour b.place r.function) r.types) (runs_with g given os made objects tid thread b fs r os).scene e
      → Asks g.registry r.types r.function tid (statement_at g.plan r.behaviour b.place r.function) e → effect_counts (wrong g os) e ≡ 0 → TablesFit g os made t
      → Moves g os made (applies g tid b fs e t)
  unfolding applies EffectFits FramesFit
  applies_moves (lets x) t fits asks fine fit = lets_moves g given os made objects tid thread b fs r rests below x t asks fits fine fit
  applies_moves (sets x) t fits asks fine fit = sets_moves g given os made objects tid thread b fs r rests below x t asks fits fine fit
  applies_moves (sets_field x) t fits asks fine fit = sets_field_moves g given os made objects tid thread b fs r rests below x t asks fits.0 fits.1 fine fit
  applies_moves (drops name) t fits asks fine fit = drops_moves g given os made objects tid thread b fs r rests below name t asks fits fit
  applies_moves skips t fits asks fine fit = skips_moves g given os made objects tid thread b fs r rests below t asks fits fit
  applies_moves (calls target function args to) t fits asks fine fit =
      unmoved g os made (applies_call g tid target function args (body b ∷ fs) t) objects
      (call_moves g given os made objects tid thread b fs r rests below target function args t fits asks fine fit)
  applies_moves (queries target wanted to) t fits asks fine fit =
      unmoved g os made (applies_query g tid target wanted (body b ∷ fs) t) objects
      (query_moves g given os made objects tid thread b fs r rests below target wanted t fits asks fine fit)
  applies_moves (makes behaviour face to) t fits asks fine fit =
      making_moves g given os made objects room tid thread b fs r rests below opened behaviour face to fits asks t fit
  applies_moves disposes t fits asks fine fit =
      unmoved g os made (unwound (body b ∷ fs) t) objects (record { frames = (r, rests, below); tables = fit })
  applies_moves (creates name args) t fits asks fine fit =
      creating_moves g given os made objects room tid thread b fs r rests below opened asks.0 name args t asks.1 fine fit
  applies_moves (returns x outs) t fits asks fine fit =
      unmoved g os made (ends_frame g tid b (returned x outs) fs t) objects
      (end_moves g given os made objects tid thread b fs r rests below (returned x outs) t fits asks fine fit)
  applies_moves (raises k x) t fits asks fine fit =
      unmoved g os made (ends_frame g tid b (raised k x) fs t) objects
      (end_moves g given os made objects tid thread b fs r rests below (raised k x) t fits asks fine fit)

  -- what the method at the top of the thread asks
  pub effect_moves : (t : Tables) → TablesFit g os made t → Moves g os made (applies g tid b fs (effect_at g tid b fs t) t)
  effect_moves t fit =
      subst (λ e. Moves g os made (applies g tid b fs e t)) (sym (effect_is g given os made objects tid thread b fs r t fit.same))
      (applies_moves _ t (asked_fits g given os made objects tid thread b fs r) (asked_is g given os made objects tid thread b fs r)
      (asked_fine g given os made objects tid thread b fs r) fit)
