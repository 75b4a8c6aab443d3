-- A message of the peer's that passes its tests leaves a side of which all may be said.
use Rattle.std.proofs.Common.{◌≡◌, ℕ, ◌+◌, ◌<◌, ◌^◌, ◌==◌, eqb-true, Bool, true, false, not, ◌&&◌, ◌||◌, if◌then◌else◌, List, [], ◌∷◌, None, Some, refl, sym, ap, subst, ◌∙◌, arith}
use Rattle.std.specs.List.{list_any}
use Rattle.std.specs.Str.{bytes_eq}
use Rattle.std.proofs.lemmas.Option.{slice_get_within}
use Rattle.std.proofs.lemmas.Slice.Eq.{bytes_eq-Decides}
use Rattle.message_model.specs.Arriving.{RequestFits, ReplyFits, MessageFits}
use Rattle.message_model.specs.Calls.{numbered, argument_kinds, kinds_on}
use Rattle.message_model.specs.Messages.{Answer, Message, request, release, reply, returned}
use Rattle.message_model.specs.Sayable.{AnswerFits, Fill, IsThread, IsCalled, IsAwaited}
use Rattle.uno_model.specs.BuiltIn.{x_interface_name, query_interface}
use Rattle.uno_model.specs.Fits.{Fits, FitEach, IsInterface}
use Rattle.uno_model.specs.Functions.{Function, functions_of}
use Rattle.uno_model.specs.Functions as fn
use Rattle.uno_model.specs.Kinds.{Kind}
use Rattle.uno_model.specs.Kinds as kd
use Rattle.uno_model.specs.Reaches.{is_base_of}
use Rattle.uno_model.specs.Types.{is_type}
use Rattle.uno_model.specs.Values.{Ref, own, Plain, plains}
use Rattle.uno_model.specs.Values as v
use Rattle.uno_model.proofs.AssignableLaws.{base_told}
use Rattle.uno_model.proofs.Options.{same_some}
use Rattle.table_model.specs.Bags.{how_many}
use Rattle.table_model.specs.Pair.{pair}
use Rattle.table_model.specs.Stubs.{Stubs, released_one}
use Rattle.plan_model.specs.Frames.{Frame, base, body, outgoing, Outgoing, frames_of}
use Rattle.plan_typing.proofs.CalleeNumbers.{few}
use Rattle.bridge_laws.specs.Counting.{one_if}
use Rattle.bridge_laws.proofs.HomeLaws.{unless_passed}
use Rattle.bridge_model.specs.Calls.{serves}
use Rattle.bridge_model.specs.Handing.{hands_from_peer}
use Rattle.bridge_model.specs.Objects.{object_supports, object_answer, name_answer}
use Rattle.bridge_model.specs.Receiving.{is_called_out, is_asked_name, is_target, refs_refusal, refusal, asked_kind, answer_to, answers_at_once, requested, below_top, receives}
use Rattle.bridge_model.specs.References.{says, each_home, home_answer, refs_of_values, refs_of_answer}
use Rattle.bridge_model.specs.Settings.{Setting, is_own}
use Rattle.bridge_model.specs.Sides.{Object, Tables, Side, with_tables}
use Rattle.bridge_model.specs.Stacks.{has_stack, is_busy_top, is_busy, waits_of, with_unwound}
use Rattle.bridge_laws.proofs.FramesFit.{Pauses, FramesFit, AnswerComes, UnwoundFits}
use Rattle.bridge_laws.proofs.TypedGiven.{IsGiven}
use Rattle.bridge_laws.proofs.ObjectsFit.{ObjectsFit}
use Rattle.bridge_laws.proofs.SideFits.{SideFits}
use Rattle.bridge_laws.proofs.TablesFit.{is_unsupported, sent_wrong, TablesFit}
use Rattle.bridge_laws.proofs.BeginFits.{named_object, serves_fits}
use Rattle.bridge_laws.proofs.FineLaws.{fine_own, object_supports_base}
use Rattle.bridge_laws.proofs.HandingFits.{hands_from_peer_fits}
use Rattle.bridge_laws.proofs.HomeFits.{fill_home, answer_home, arguments_fine, answer_fine}
use Rattle.bridge_laws.proofs.QueryFits.{AnyGoes, named_identity, object_goes, name_goes, query_is, query_goes}
use Rattle.bridge_laws.proofs.ReadingFits.{waits_for}
use Rattle.bridge_laws.proofs.FittingSideLaws.{thread_frames, unwound_fits, tabled_fits}
use Rattle.bridge_laws.proofs.TableLaws.{sent_less, says_fits}

-- ---- tests

-- what was sent out is supported, and so are its bases
called_by : (g : Setting) → IsGiven g → (os : List Object) (oid face there held : List ℕ) (a b : Bool) (rest : ℕ) (others : Bool) → bytes_eq oid there ≡ a → is_base_of g.registry face held ≡ b
    → (others ≡ true → rest ≡ 0 → object_supports g oid face os ≡ true) → ((a && b) || others) ≡ true
    → one_if (not (object_supports g there held os)) + rest ≡ 0 → object_supports g oid face os ≡ true
called_by g given os oid face there held true true rest others is based behind found none =
    let base = (base_told g.registry face held given.sound.no_circle).0 based in
    let same = (bytes_eq-Decides oid there).0 is in
    object_supports_base g given.sound os oid face held base (ap (λ n. object_supports g n held os) same ∙ none_not (object_supports g there held os) (omega arith))
  where
    none_not : (b : Bool) → one_if (not b) ≡ 0 → b ≡ true
    none_not true is = refl
    none_not false is = absurd (omega arith)
called_by g given os oid face there held true false rest others is based behind found none = behind found (omega arith)
called_by g given os oid face there held false b rest others is based behind found none = behind found (omega arith)

called_supported : (g : Setting) → IsGiven g → (os : List Object) (oid face : List ℕ) (stubs : Stubs) → is_called_out g.registry oid face stubs ≡ true → sent_wrong g os stubs ≡ 0
    → object_supports g oid face os ≡ true
unfolding is_called_out sent_wrong
called_supported g given os oid face [] found none = absurd (cc)
called_supported g given os oid face (row ∷ stubs) found none =
    called_by g given os oid face row.0.oid row.0.face (bytes_eq oid row.0.oid) (is_base_of g.registry face row.0.face)
    (how_many (λ row. is_unsupported g os row.0) stubs)
    (list_any (λ row. bytes_eq oid row.0.oid && is_base_of g.registry face row.0.face) stubs) refl refl
    (λ there rest. called_supported g given os oid face stubs there rest) found none

asked_only : (g : Setting) (oid : List ℕ) (function : ℕ) → (function == 0) ≡ false → is_asked_name g oid function ≡ false
asked_only g [] function other = refl
asked_only g (c ∷ cs) function other = ap (λ b. b && not (is_own g (c ∷ cs))) other

target_step : (a b c : Bool) → c ≡ false → ((a && b) || c) ≡ true → (a ≡ true) × (b ≡ true)
target_step true true c out found = (refl, refl)
target_step true false c out found = absurd (cc)
target_step false b c out found = absurd (cc)

-- a thread that is not busy has no method at its top
rests_by : (fs : List Frame) → not (is_busy_top fs) ≡ true → Pauses fs
rests_by [] is = tt
rests_by (base root ∷ fs) is = tt
rests_by (outgoing o ∷ fs) is = tt
rests_by (body b ∷ fs) is = absurd (cc)

module _ (g : Setting) (given : IsGiven g) where
  small : (face : List ℕ) (function : ℕ) (f : Function) → numbered g.registry face function ≡ Some f → function < 2 ^ 16
  unfolding numbered
  small face function f found =
      let within = slice_get_within (functions_of g.registry face) function f found in let most = few g.registry given.sound given.built face in omega arith

  called : (oid face : List ℕ) (function : ℕ) (args : List Plain) (fits : RequestFits g.registry oid face function args) → IsCalled g.registry face function fits.f
  called oid face function args fits =
      record { interface = fits.interface; found = fits.found; small = small face function fits.f fits.found; no_acquire = fits.no_acquire; no_release = fits.no_release }

  -- ---- function 0

  kind_asked : (args : List Plain) (wanted : List ℕ) → FitEach g.registry (plains args) (argument_kinds (fn.call x_interface_name query_interface)) → asked_kind args ≡ kd.interface wanted
      → IsInterface g.registry wanted
  unfolding Fits FitEach kinds_on
  kind_asked [] wanted fit is = absurd fit
  kind_asked (v.kind k ∷ args) wanted fit is = subst (λ j. is_type g.registry j ≡ true) is fit.0.1
  kind_asked (x ∷ args) wanted fit is = absurd (cc)

  answer_by : (os : List Object) (made : ℕ) (objects : ObjectsFit g os made) (oid : List ℕ) (k : Kind) (b : Bool) → is_own g oid ≡ b
      → ((wanted : List ℕ) → k ≡ kd.interface wanted → IsInterface g.registry wanted) → AnyGoes g os (if b then object_answer g oid k os else name_answer g oid k os)
  answer_by os made objects oid k true told asks = object_goes g given os made objects oid k told asks
  answer_by os made objects oid k false told asks = name_goes g given os made objects oid k asks

  at_once_fits : (os : List Object) (made : ℕ) (objects : ObjectsFit g os made) (tid oid face : List ℕ) (f : Function) (args : List Plain) (t : Tables) → IsThread tid
      → IsCalled g.registry face 0 f → Fill g.registry args (argument_kinds f) → TablesFit g os made t → TablesFit g os made (answers_at_once g tid oid face args t)
  at_once_fits os made objects tid oid face f args t thread called fill fit =
      let is = query_is g given os made objects face f called in
      let kinds = subst (λ (h : Function). FitEach g.registry (plains args) (argument_kinds h)) is fill.fit in
      let any = answer_by os made objects oid (asked_kind args) (is_own g oid) refl (λ wanted asks. kind_asked args wanted kinds asks) in
      let goes = query_goes g given os made objects tid face f (answer_to g oid (asked_kind args) os) thread called any in
      subst (λ now. TablesFit g os made (says g (reply tid face 0 (returned (answer_to g oid (asked_kind args) now) [])) t)) (sym fit.same)
      (says_fits g given os made (reply tid face 0 (returned (answer_to g oid (asked_kind args) os) [])) t
      (record { may = (f, called, thread, goes.fits); light = goes.light }) goes.fine fit)

  -- ---- requests

  requested_by : (most : ℕ) (b : Bool) (at_once later : Side) → (b ≡ true → SideFits g most at_once) → (b ≡ false → SideFits g most later) → SideFits g most (if b then at_once else later)
  requested_by most true at_once later now behind = now refl
  requested_by most false at_once later now behind = behind refl

  serves_side : (most : ℕ) (tid oid face : List ℕ) (function : ℕ) (args : List Plain) (s : Side) (fit : SideFits g most s) → IsThread tid → RequestFits g.registry oid face function args
      → is_target g oid face function s.tables.stubs ≡ true → not (is_busy tid s.stacks) ≡ true → refs_refusal g s.tables (refs_of_values args) ≡ None → (function == 0) ≡ false
      → SideFits g most (with_unwound tid (serves g oid face function (each_home g args) (frames_of tid s.stacks) s.tables) s)
  serves_side most tid oid face function args s fit thread fits target free passed other =
      let both = target_step (is_own g oid) (is_called_out g.registry oid face s.tables.stubs) (is_asked_name g oid function) (asked_only g oid function other) target in
      let supported = called_supported g given fit.os oid face s.tables.stubs both.1 fit.tables.sent in
      let object = named_object g oid face fit.os supported in
      let identity = named_identity g given fit.os fit.made fit.objects oid object.object object.there in
      unwound_fits g most tid (serves g oid face function (each_home g args) (frames_of tid s.stacks) s.tables) s fit thread
      (serves_fits g given fit.os fit.made oid face function fits.f (each_home g args) (frames_of tid s.stacks) s.tables
      (record {
        called = called oid face function args fits;
        fill = fill_home g.registry g args (argument_kinds fits.f) fits.fill;
        fine = arguments_fine g fit.os s.tables fit.tables.same args (argument_kinds fits.f) fits.fill passed;
      })
      (fine_own g fit.os oid face (record { told = both.0; identity = identity; interface = fits.interface; supported = supported }))
      (rests_by (frames_of tid s.stacks) free)
      (thread_frames g fit.os tid s.stacks fit.stacks)
      fit.tables)

  requested_fits : (most : ℕ) (tid oid face : List ℕ) (function : ℕ) (args : List Plain) (s : Side) → SideFits g most s → IsThread tid → RequestFits g.registry oid face function args
      → is_target g oid face function s.tables.stubs ≡ true → not (is_busy tid s.stacks) ≡ true → refs_refusal g s.tables (refs_of_values args) ≡ None
      → SideFits g most (requested g tid oid face function args s)
  requested_fits most tid oid face function args s fit thread fits target free passed =
      requested_by most (function == 0)
      (with_tables (answers_at_once g tid oid face args s.tables) s)
      (with_unwound tid (serves g oid face function (each_home g args) (frames_of tid s.stacks) s.tables) s)
      (λ zero. tabled_fits g most (answers_at_once g tid oid face args s.tables) s fit
      (at_once_fits fit.os fit.made fit.objects tid oid face fits.f args s.tables thread
      (subst (λ n. IsCalled g.registry face n fits.f) (eqb-true function 0 zero) (called oid face function args fits)) fits.fill fit.tables))
      (λ other. serves_side most tid oid face function args s fit thread fits target free passed other)

  -- ---- replies

  frames_under : (os : List Object) (o : Outgoing) (fs : List Frame) → FramesFit g os None (outgoing o ∷ fs) → (f : Function) × IsCalled g.registry o.face o.function f × FramesFit g os (Some f) fs
  unfolding FramesFit
  frames_under os o fs fit = fit

  replied_fits : (most : ℕ) (tid face : List ℕ) (function : ℕ) (a : Answer) (s : Side) → SideFits g most s → IsThread tid → ReplyFits g.registry face function a
      → IsAwaited (waits_of s.stacks) (reply tid face function a) → refs_refusal g s.tables (refs_of_answer a) ≡ None
      → SideFits g most (with_unwound tid (hands_from_peer g tid (home_answer g a) (below_top (frames_of tid s.stacks)) s.tables) s)
  replied_fits most tid face function a s fit thread fits awaited passed =
      let waits = waits_for tid (record { face = face; function = function }) s.stacks fit.apart awaited in
      let under = frames_under fit.os waits.call waits.below (subst (FramesFit g fit.os None) waits.all (thread_frames g fit.os tid s.stacks fit.stacks)) in
      let found : numbered g.registry face function ≡ Some under.0 =
      ap (λ n. numbered g.registry n function) (sym waits.face) ∙ (ap (numbered g.registry waits.call.face) (sym waits.function) ∙ under.1.found) in
      let same : fits.f ≡ under.0 = same_some (sym fits.found ∙ found) in
      let comes : AnswerComes g fit.os under.0 (home_answer g a) =
      record {
        fits = subst (λ h. AnswerFits g.registry h (home_answer g a)) same (answer_home g.registry g fits.f a fits.fits);
        fine = answer_fine g fit.os s.tables fit.tables.same fits.f a fits.fits passed;
      } in
      unwound_fits g most tid (hands_from_peer g tid (home_answer g a) (below_top (frames_of tid s.stacks)) s.tables) s fit thread
      (subst (λ fs. UnwoundFits g fit.os fit.made (hands_from_peer g tid (home_answer g a) (below_top fs) s.tables)) (sym waits.all)
      (hands_from_peer_fits g given fit.os fit.made tid thread under.0 (home_answer g a) waits.below s.tables comes under.2 fit.tables))

  -- ---- messages

  released_fits : (most : ℕ) (oid face : List ℕ) (s : Side) (fit : SideFits g most s) → SideFits g most (with_tables (record s.tables { stubs = released_one (pair oid face) s.tables.stubs }) s)
  released_fits most oid face s fit =
      tabled_fits g most (record s.tables { stubs = released_one (pair oid face) s.tables.stubs }) s fit
      (record {
        same = fit.tables.same;
        counted = fit.tables.counted;
        held = fit.tables.held;
        sent = sent_less g fit.os (pair oid face) s.tables.stubs fit.tables.sent;
        sayable = fit.tables.sayable;
      })

  pub receives_fits : (most : ℕ) (m : Message) (s : Side) → MessageFits g.registry m → IsAwaited (waits_of s.stacks) m → refusal g s m ≡ None → SideFits g most s
      → SideFits g most (receives g m s)
  unfolding receives refusal
  receives_fits most (release tid oid face) s fits awaited passed fit = released_fits most oid face s fit
  receives_fits most (request tid oid face function args) s fits awaited passed fit =
      let target = unless_passed (is_target g oid face function s.tables.stubs) _ _ passed in
      let free = unless_passed (not (is_busy tid s.stacks)) _ _ target.1 in
      let known = unless_passed (not (is_own g tid) || has_stack tid s.stacks) _ _ free.1 in
      requested_fits most tid oid face function args s fit fits.0 fits.1 target.0 free.0 known.1
  receives_fits most (reply tid face function a) s fits awaited passed fit = replied_fits most tid face function a s fit fits.0 fits.1 awaited passed
