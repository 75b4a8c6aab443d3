-- An answer that is handed down leaves frames and tables that fit: a method goes on with what it takes, or ends with an exception that may go.
use Rattle.std.proofs.Common.{◌≡◌, ℕ, ◌==◌, Bool, true, false, if◌then◌else◌, List, [], ◌∷◌, ◌++◌, Option, None, Some, refl, sym, ap, subst, ◌∙◌, arith}
use Rattle.message_model.specs.Calls.{out_kinds}
use Rattle.message_model.specs.Messages.{Answer, returned, raised, reply}
use Rattle.message_model.specs.Sayable.{AnswerFits, IsThread, IsCalled}
use Rattle.uno_model.specs.Fits.{Fits, FitEach}
use Rattle.uno_model.specs.Functions.{Function}
use Rattle.uno_model.specs.Values.{Ref, own, Plain, plains, refs}
use Rattle.uno_model.specs.Values as v
use Rattle.table_model.specs.declared.holder.Holder.{Holder}
use Rattle.table_model.specs.declared.holder.Holder.TheVariants as holder
use Rattle.plan_model.specs.Frames.{Variable, Body, Frame, base, body, outgoing}
use Rattle.plan_model.specs.Holdings.{goes_on, let_go_at_end, refs_under, reference_of, is_taken}
use Rattle.plan_model.specs.Leaving.{leaving_frame}
use Rattle.plan_model.specs.Plans.{manager}
use Rattle.plan_model.specs.Statements.{Statement, call, query}
use Rattle.plan_typing.specs.Scenes.{VariablesFit}
use Rattle.plan_typing.specs.Statements.{IsTyped, types_behind}
use Rattle.plan_typing.specs.Types.{Types}
use Rattle.plan_typing.proofs.EffectTypes.{types_stand_behind}
use Rattle.plan_typing.proofs.FrameAnswers.{answer_taken}
use Rattle.plan_typing.proofs.FrameTakes.{reference_taken}
use Rattle.bridge_laws.specs.Counting.{total}
use Rattle.bridge_laws.proofs.HandingLaws.{returned_owes, raised_owes, taken_by_owes}
use Rattle.bridge_laws.proofs.Sums.{total_append}
use Rattle.bridge_laws.proofs.VariableLaws.{untaken_owes}
use Rattle.bridge_model.specs.Calls.{Unwound, unwound}
use Rattle.bridge_model.specs.Handing.{behaviour_of, statement_in, statement_of_function, taken_by, goes_on_taking, goes_on_with, root_gets, lets_go_frame, answers_peer, holder_of, gains_with, gains_below, takes_with, takes_below, hands_over, hands, after_letting_go, hands_down, ends_frame, hands_from_peer}
use Rattle.bridge_model.specs.Handing as handing
use Rattle.bridge_model.specs.References.{says, refs_of_answer}
use Rattle.bridge_model.specs.Settings.{Setting, own_oid}
use Rattle.bridge_model.specs.Sides.{Object, RootState, waits_query, answered, answer, Tables, state_of, with_root}
use Rattle.bridge_laws.proofs.Fine.{wrong}
use Rattle.bridge_laws.proofs.FramesFit.{BodyFits, TakesFrom, Awaits, Pauses, FramesFit, AnswerComes, AnswerGoes, UnwoundFits}
use Rattle.bridge_laws.proofs.TypedGiven.{IsGiven}
use Rattle.bridge_laws.proofs.TablesFit.{TablesFit}
use Rattle.bridge_laws.proofs.LeavingFits.{frame_goes}
use Rattle.bridge_laws.proofs.TableLaws.{says_fits, gains_all_fits, takes_all_fits, lets_go_all_fits}
use Rattle.bridge_laws.proofs.WaitingFits.{no_statement, statement_is, behind_fields, behind_own, paused}

module _ (g : Setting) (given : IsGiven g) (os : List Object) (made : ℕ) (tid : List ℕ) (thread : IsThread tid) where
  -- ---- going on

  taken_fits : (s : Statement) (called : Function) (ts : Types) (b : Body) (n : ℕ) (f : Function) (x : Plain) (outs : List Plain) → BodyFits g os b n f ts
      → TakesFrom g.registry ts called s → AnswerFits g.registry called (returned x outs)
      → VariablesFit g.registry (taken_by g (Some s) x outs b.variables).variables (types_behind s ts).variables
  unfolding types_behind
  taken_fits (call c) called ts b n f x outs fits takes given_back =
      answer_taken g.registry given.sound ts c takes.0.function.params takes.0.function.result_kind x outs b.variables fits.stand.variables takes.0.arguments takes.0.result
      (subst (λ (h : Function). Fits g.registry x h.result_kind) (sym takes.1) given_back.0)
      (subst (λ (h : Function). FitEach g.registry (plains outs) (out_kinds h)) (sym takes.1) given_back.2.fit)
      fits.variables
  taken_fits (query q) called ts b n f x outs fits takes given_back =
      reference_taken g.registry given.sound ts q.wanted q.to x b.variables takes.0 (subst (Fits g.registry x) takes.1 given_back.0) fits.variables
  taken_fits s called ts b n f x outs fits takes given_back = absurd takes

  -- a body with other variables behind its statement
  pub next_fits : (b : Body) (n : ℕ) (f : Function) (ts : Types) (s : Statement) (xs : List Variable) → BodyFits g os b n f ts → IsTyped g.registry g.plan f ts s
      → VariablesFit g.registry xs (types_behind s ts).variables → total (wrong g os) (refs_under xs) ≡ 0 → BodyFits g os (goes_on xs b) n f (types_behind s ts)
  unfolding goes_on
  next_fits b n f ts s xs fits typed variables fine =
      record {
        called = fits.called;
        found = fits.found;
        fields = behind_fields s ts ∙ fits.fields;
        itself = behind_own s ts ∙ fits.itself;
        stand = types_stand_behind g.registry f g.plan ts s typed fits.stand;
        variables = variables;
        fine = fine;
        held = fits.held;
      }

  goes_on_fits : (called : Function) (b : Body) (x : Plain) (outs : List Plain) (r : Awaits g os called b) → AnswerComes g os called (returned x outs)
      → BodyFits g os (goes_on (taken_by g (Some r.statement) x outs b.variables).variables b) r.behaviour r.function (types_behind r.statement r.types)
  goes_on_fits called b x outs r goes =
      let parts = returned_owes (wrong g os) x outs in let none = goes.fine in let before = r.fits.fine in
      let most = taken_by_owes (wrong g os) g (Some r.statement) x outs b.variables in
      next_fits b r.behaviour r.function r.types r.statement (taken_by g (Some r.statement) x outs b.variables).variables r.fits r.typed
      (taken_fits r.statement called r.types b r.behaviour r.function x outs r.fits r.takes goes.fits)
      (omega arith)

  going_on : (called : Function) (b : Body) (x : Plain) (outs : List Plain) (o : Option Statement) (fs : List Frame) (t : Tables) (r : Awaits g os called b) → o ≡ Some r.statement
      → AnswerComes g os called (returned x outs) → (b.from_peer ≡ true → Pauses fs) → FramesFit g os (Some r.function) fs → TablesFit g os made t
      → UnwoundFits g os made (goes_on_taking g b (taken_by g o x outs b.variables) fs t)
  unfolding FramesFit goes_on
  going_on called b x outs o fs t r is goes rests below fit =
      let parts = returned_owes (wrong g os) x outs in let none = goes.fine in let before = r.fits.fine in
      let most = taken_by_owes (wrong g os) g o x outs b.variables in
      record {
        frames = (
          record {
            behaviour = r.behaviour;
            function = r.function;
            types = types_behind r.statement r.types;
            fits =
                subst (λ s. BodyFits g os (goes_on (taken_by g s x outs b.variables).variables b) r.behaviour r.function (types_behind r.statement r.types)) (sym is)
                (goes_on_fits called b x outs r goes);
            rest = r.rest;
            begun = λ manages. absurd (no_statement g r.behaviour b.place r.function r.statement (r.behaviour == manager) manages r.found);
          },
          rests,
          below,
        );
        tables = lets_go_all_fits g given os made (holder.Frame b.number) (taken_by g o x outs b.variables).let_go t (omega arith) fit;
      }

  goes_on_with_fits : (called : Function) (b : Body) (x : Plain) (outs : List Plain) (fs : List Frame) (t : Tables) (r : Awaits g os called b)
      → AnswerComes g os called (returned x outs) → (b.from_peer ≡ true → Pauses fs) → FramesFit g os (Some r.function) fs → TablesFit g os made t
      → UnwoundFits g os made (goes_on_with g b x outs fs t)
  unfolding goes_on_with
  goes_on_with_fits called b x outs fs t r goes rests below fit =
      going_on called b x outs (handing.statement_at g t.objects b) fs t r
      (ap (λ objects. handing.statement_at g objects b) fit.same ∙ statement_is g os b r.behaviour r.function r.statement r.fits.called.found r.fits.found r.found)
      goes rests below fit

  -- ---- roots

  pub root_gets_fits : (root : ℕ) (s : RootState) (a : Answer) (t : Tables) → total (wrong g os) (refs_of_answer a) ≡ 0 → TablesFit g os made t
      → TablesFit g os made (root_gets g root s a t)
  unfolding root_gets
  root_gets_fits root (waits_query wanted) (returned x outs) t fine fit =
      let parts = returned_owes (wrong g os) x outs in let most = untaken_owes (wrong g os) g.registry wanted x in
      lets_go_all_fits g given os made (holder.Root root) (if is_taken g.registry wanted x then [] else refs x)
      (with_root root (answered (answer (returned (v.ref (reference_of g.registry wanted x)) []))) t) (omega arith) fit
  root_gets_fits root s a t fine fit = fit

  -- ---- frames that end

  -- what a method holds is fine
  abbrev HoldsFine : Body → Type 0
  HoldsFine b = (total (wrong g os) (refs_under b.variables) ≡ 0) × (wrong g os (own (own_oid g b.object) b.face) ≡ 0)

  let_go_fine : (b : Body) (extra : List Ref) → total (wrong g os) extra ≡ 0 → HoldsFine b → total (wrong g os) (extra ++ let_go_at_end (own_oid g b.object) b) ≡ 0
  unfolding let_go_at_end total
  let_go_fine b extra fine holds =
      let first = total_append (wrong g os) extra (refs_under b.variables ++ own (own_oid g b.object) b.face ∷ []) in
      let second = total_append (wrong g os) (refs_under b.variables) (own (own_oid g b.object) b.face ∷ []) in
      let one = holds.0 in let two = holds.1 in omega arith

  lets_go_frame_fits : (b : Body) (extra : List Ref) (t : Tables) → total (wrong g os) extra ≡ 0 → HoldsFine b → TablesFit g os made t → TablesFit g os made (lets_go_frame g b extra t)
  lets_go_frame_fits b extra t fine holds fit =
      lets_go_all_fits g given os made (holder.Frame b.number) (extra ++ let_go_at_end (own_oid g b.object) b) t (let_go_fine b extra fine holds) fit

  answers_peer_fits : (b : Body) (extra : List Ref) (f : Function) (a : Answer) (t : Tables) → IsCalled g.registry b.face b.function f → total (wrong g os) extra ≡ 0 → HoldsFine b
      → AnswerGoes g os tid f a → TablesFit g os made t → TablesFit g os made (answers_peer g tid b extra a t)
  answers_peer_fits b extra f a t called fine holds goes fit =
      lets_go_frame_fits b extra (says g (reply tid b.face b.function a) t) fine holds
      (says_fits g given os made (reply tid b.face b.function a) t (record { may = (f, called, thread, goes.fits); light = goes.light }) goes.fine fit)

  gains_with_fits : (who : Option Holder) (rs : List Ref) (t : Tables) → total (wrong g os) rs ≡ 0 → TablesFit g os made t → TablesFit g os made (gains_with who rs t)
  gains_with_fits None rs t fine fit = fit
  gains_with_fits (Some who) rs t fine fit = gains_all_fits g given os made who rs t fine fit

  pub gains_below_fits : (fs : List Frame) (a : Answer) (t : Tables) → total (wrong g os) (refs_of_answer a) ≡ 0 → TablesFit g os made t → TablesFit g os made (gains_below fs a t)
  gains_below_fits [] a t fine fit = fit
  gains_below_fits (f ∷ fs) a t fine fit = gains_with_fits (holder_of f) (refs_of_answer a) t fine fit

  takes_with_fits : (who : Option Holder) (rs : List Ref) (t : Tables) → total (wrong g os) rs ≡ 0 → TablesFit g os made t → TablesFit g os made (takes_with g who rs t)
  takes_with_fits None rs t fine fit = fit
  takes_with_fits (Some who) rs t fine fit = takes_all_fits g given os made who rs t fine fit

  takes_below_fits : (fs : List Frame) (a : Answer) (t : Tables) → total (wrong g os) (refs_of_answer a) ≡ 0 → TablesFit g os made t → TablesFit g os made (takes_below g fs a t)
  takes_below_fits [] a t fine fit = fit
  takes_below_fits (f ∷ fs) a t fine fit = takes_with_fits (holder_of f) (refs_of_answer a) t fine fit

  hands_over_fits : (b : Body) (extra : List Ref) (a : Answer) (fs : List Frame) (t : Tables) → total (wrong g os) extra ≡ 0 → HoldsFine b → total (wrong g os) (refs_of_answer a) ≡ 0
      → TablesFit g os made t → TablesFit g os made (hands_over g b extra a fs t)
  hands_over_fits b extra a fs t fine holds answer_fine fit = lets_go_frame_fits b extra (gains_below fs a t) fine holds (gains_below_fits fs a t answer_fine fit)

  -- ---- handing

  pub handed_on : {f : Function} {a : Answer} → AnswerGoes g os tid f a → AnswerComes g os f a
  handed_on goes = record { fits = goes.fits; fine = goes.fine }

  ends_either : (b : Bool) (there here : Unwound) → (b ≡ true → UnwoundFits g os made there) → UnwoundFits g os made here → UnwoundFits g os made (if b then there else here)
  ends_either true there here p q = p refl
  ends_either false there here p q = q

  pub hands_fits : (called : Function) (a : Answer) (fs : List Frame) (t : Tables) → AnswerComes g os called a → FramesFit g os (Some called) fs → TablesFit g os made t
      → UnwoundFits g os made (hands g tid a fs t)
  unfolding hands FramesFit
  hands_fits called a [] t goes frames fit = record { frames = tt; tables = fit }
  hands_fits called a (base root ∷ fs) t goes frames fit = record { frames = tt; tables = root_gets_fits root (state_of root t.roots) a t goes.fine fit }
  hands_fits called a (outgoing o ∷ fs) t goes frames fit = record { frames = frames; tables = fit }
  hands_fits called (returned x outs) (body b ∷ fs) t goes frames fit = goes_on_with_fits called b x outs fs t frames.0 goes frames.1 frames.2 fit
  hands_fits called (raised k x) (body b ∷ fs) t goes frames fit =
      let r = frames.0 in
      let leaves = frame_goes g given os tid thread b r.function (raised k x) r.fits.called goes.fits.1 goes.fine in
      let extra = raised_owes (wrong g os) k x in let none = goes.fine in
      let nothing : total (wrong g os) (refs x) ≡ 0 = omega arith in
      let holds : HoldsFine b = (r.fits.fine, r.fits.held) in
      ends_either b.from_peer
      (unwound fs (answers_peer g tid b (refs x) (leaving_frame g.registry tid b (raised k x)) t))
      (hands g tid (leaving_frame g.registry tid b (raised k x)) fs (hands_over g b (refs x) (leaving_frame g.registry tid b (raised k x)) fs t))
      (λ from_peer. record {
        frames = paused g os r.function fs (frames.1 from_peer) frames.2;
        tables = answers_peer_fits b (refs x) r.function (leaving_frame g.registry tid b (raised k x)) t r.fits.called nothing holds leaves fit;
      })
      (hands_fits r.function (leaving_frame g.registry tid b (raised k x)) fs (hands_over g b (refs x) (leaving_frame g.registry tid b (raised k x)) fs t) (handed_on leaves) frames.2
      (hands_over_fits b (refs x) (leaving_frame g.registry tid b (raised k x)) fs t nothing holds leaves.fine fit))

  after_fits : (b : Body) (u : Unwound) → HoldsFine b → UnwoundFits g os made u → UnwoundFits g os made (after_letting_go g b u)
  unfolding total
  after_fits b u holds fits = record { frames = fits.frames; tables = lets_go_frame_fits b [] u.tables refl holds fits.tables }

  hands_down_fits : (b : Body) (f : Function) (a : Answer) (fs : List Frame) (t : Tables) → HoldsFine b → AnswerGoes g os tid f a → FramesFit g os (Some f) fs → TablesFit g os made t
      → UnwoundFits g os made (hands_down g tid b a fs t)
  unfolding total
  hands_down_fits b f (returned x outs) fs t holds goes frames fit =
      after_fits b (hands g tid (returned x outs) fs (gains_below fs (returned x outs) t)) holds
      (hands_fits f (returned x outs) fs (gains_below fs (returned x outs) t) (handed_on goes) frames (gains_below_fits fs (returned x outs) t goes.fine fit))
  hands_down_fits b f (raised k x) fs t holds goes frames fit =
      hands_fits f (raised k x) fs (hands_over g b [] (raised k x) fs t) (handed_on goes) frames (hands_over_fits b [] (raised k x) fs t refl holds goes.fine fit)

  -- the frame of a method ends with what leaves it
  pub ends_frame_fits : (b : Body) (f : Function) (a : Answer) (fs : List Frame) (t : Tables) → IsCalled g.registry b.face b.function f → HoldsFine b → AnswerGoes g os tid f a
      → (b.from_peer ≡ true → Pauses fs) → FramesFit g os (Some f) fs → TablesFit g os made t → UnwoundFits g os made (ends_frame g tid b a fs t)
  unfolding ends_frame total
  ends_frame_fits b f a fs t called holds goes rests frames fit =
      ends_either b.from_peer (unwound fs (answers_peer g tid b [] a t)) (hands_down g tid b a fs t)
      (λ from_peer. record { frames = paused g os f fs (rests from_peer) frames; tables = answers_peer_fits b [] f a t called refl holds goes fit })
      (hands_down_fits b f a fs t holds goes frames fit)

  pub hands_from_peer_fits : (called : Function) (a : Answer) (fs : List Frame) (t : Tables) → AnswerComes g os called a → FramesFit g os (Some called) fs → TablesFit g os made t
      → UnwoundFits g os made (hands_from_peer g tid a fs t)
  unfolding hands_from_peer
  hands_from_peer_fits called a fs t goes frames fit = hands_fits called a fs (takes_below g fs a t) goes frames (takes_below_fits fs a t goes.fine fit)
