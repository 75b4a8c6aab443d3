-- Each entry keeps what a root is owed: what it asked for.
use Rattle.std.proofs.Common.{◌≡◌, refl, sym, ap, subst, ◌∙◌, ℕ, suc, ◌+◌, ◌<◌, ◌≤◌, ◌^◌, Bool, true, false, not, nat_lt, ◌==◌, eqb-true, if◌then◌else◌, List, [], ◌∷◌, ◌++◌, length, Option, None, Some, arith}
use Rattle.std.proofs.lemmas.Bool.{and_parts, ltb-true, ltb-false, true≢false, not-true}
use Rattle.message_model.specs.Calls.{argument_kinds, kinds_on}
use Rattle.message_model.specs.Messages.{Answer, returned, request}
use Rattle.message_model.specs.Sayable.{MayBeSaid}
use Rattle.uno_model.specs.BuiltIn.{x_interface_name}
use Rattle.uno_model.specs.Fits.{Fits, FitEach, IsInterface}
use Rattle.uno_model.specs.Functions.{Function}
use Rattle.uno_model.specs.Kinds as kd
use Rattle.uno_model.specs.Values.{Ref, null, own, peer, Plain, plains, refs}
use Rattle.table_model.specs.declared.holder.Holder.TheVariants as holder
use Rattle.plan_model.specs.Asking.{Effect, disposes}
use Rattle.plan_model.specs.Frames.{Body, Frame, body, frames_of}
use Rattle.plan_model.specs.Leaving.{caused}
use Rattle.plan_model.specs.Plans.{first_objects}
use Rattle.plan_model.specs.declared.runtime_cause.RuntimeCause.{RuntimeCause}
use Rattle.plan_typing.proofs.FrameTakes.{reference_fits}
use Rattle.bridge_laws.specs.OfPlan.{IsRoot}
use Rattle.bridge_laws.specs.Rooted.{waits}
use Rattle.bridge_laws.specs.Grounded.{is_stack, began, AreApart, Thread, nothing, of_root, of_peer, HasRoots}
use Rattle.bridge_laws.proofs.Replays.{of_step}
use Rattle.bridge_laws.proofs.RootedLaws.{has_roots}
use Rattle.bridge_laws.proofs.RootStateLaws.{stay_makes_object}
use Rattle.bridge_laws.proofs.TellingLaws.{all_allowed}
use Rattle.bridge_laws.proofs.ThreadLaws.{root_own, root_named, thread_stack}
use Rattle.bridge_model.specs.Applying.{applies, effect_at}
use Rattle.bridge_model.specs.Calls.{query_args, calls_own, calls_peer}
use Rattle.bridge_model.specs.Entries.{Entry, fed, ended, failed, asked, called, queried, made, dropped, applied, took, reaped, drained, disposed, full, no_memory, counts}
use Rattle.bridge_model.specs.Going.{drains, reaps}
use Rattle.bridge_model.specs.Histories.{Told, nothing_told, told_more, Leads}
use Rattle.bridge_model.specs.Objects.{object_answer, lowest, defaults_of}
use Rattle.bridge_model.specs.References.{gains_all}
use Rattle.bridge_model.specs.Roots.{answered_before, is_answered, bottom, begins_call, calls_unless, gets_at_once, asks_peer, begins_query, queries_unless, asks_unless, root_calls, root_queries, root_asks, root_makes, root_drops, root_takes, is_idle, outcome_in}
use Rattle.bridge_model.specs.Settings.{Setting, ref_of, root_tid, is_own}
use Rattle.bridge_model.specs.Sides.{Object, answer, RootState, idle, waits_call, waits_query, answered, Side, stands, state_of, states_with, with_root}
use Rattle.bridge_model.specs.Stacks.{puts_frames}
use Rattle.bridge_model.specs.Steps.{picked_in, picked, applies_effect, applies_picked, reaps_some, has_entries, most_entries, is_root, may_begin, is_picked, is_outcome, Turn, turn, step, may, does, opening}
use Rattle.bridge_model.specs.declared.cause.Cause.TheVariants as cause
use Rattle.bridge_laws.specs.Giving.{MayGive, RootsGive}
use Rattle.bridge_laws.proofs.FramesFit.{Runs, Pauses, FramesFit}
use Rattle.bridge_laws.proofs.TypedGiven.{IsGiven}
use Rattle.bridge_laws.proofs.QueryFits.{object_goes}
use Rattle.bridge_laws.proofs.SideFits.{SideFits}
use Rattle.bridge_laws.proofs.FittingSideLaws.{thread_frames, thread_is}
use Rattle.bridge_laws.proofs.StepFits.{all_stays}
use Rattle.bridge_laws.specs.Outcomes.{fate_of, root_outcome}
use Rattle.bridge_laws.proofs.ApplyingFates.{applies_given, still_calls_own, still_calls_peer}
use Rattle.bridge_laws.proofs.CauseLaws.{first_idle}
use Rattle.bridge_laws.proofs.HandingFates.{root_still}
use Rattle.bridge_laws.proofs.HistoryLaws.{along_history}
use Rattle.bridge_laws.proofs.OutcomeLaws.{drops_stay, reaps_stay}
use Rattle.bridge_laws.proofs.ServingLaws.{fate_root}
use Rattle.bridge_laws.proofs.NoReplyLaws.{still_gains_all}
use Rattle.bridge_laws.specs.RootAnswers.{Asking, for_reference, for_answer, asked_by, asked_behind, still_asked, IsAnswerTo}
use Rattle.bridge_laws.proofs.OwedFrames.{Reaches, applies_reaches}
use Rattle.bridge_laws.proofs.OwedAnswers.{statement_answers}
use Rattle.bridge_laws.proofs.OwedMessages.{Kept, feeds_kept}
use Rattle.bridge_laws.proofs.OwedSides.{StateFits, query_is, put_state, fated, Owed, ends_owed, out_owed, frames_owed, thread_root, under_began}

-- ---- what is asked for

pub asked_push : (n : ℕ) (q : Option Asking) (es : List Entry) (e : Entry) → asked_behind n q (es ++ e ∷ []) ≡ asked_by n (asked_behind n q es) e
unfolding asked_behind
asked_push n q [] e = refl
asked_push n q (f ∷ es) e = asked_push n (asked_by n q f) es e

module _ (g : Setting) (given : IsGiven g) (few : length g.plan.threads < 2 ^ 64) (n : ℕ) (least : 1 ≤ n) (bound : n ≤ length g.plan.threads) where
  -- ---- statements

  module _ (most : ℕ) (q : Option Asking) (room : most < 2000000) (tid : List ℕ) (s : Side) (k : Kept g given few most n least bound q s) (b : Body) (fs : List Frame) (top : frames_of tid s.stacks ≡ body b ∷ fs) where
    reaches : tid ≡ root_tid g n → Reaches q (body b ∷ fs)
    reaches its = subst (Reaches q) top (subst (λ t. Reaches q (frames_of t s.stacks)) (sym its) k.owed.frames)

    top_runs : (os : List Object) → FramesFit g os None (body b ∷ fs) → (r : Runs g os b) × (b.from_peer ≡ true → Pauses fs) × FramesFit g os (Some r.function) fs
    unfolding FramesFit
    top_runs os fit = fit

    runs : (r : Runs g k.fits.os b) × (b.from_peer ≡ true → Pauses fs) × FramesFit g k.fits.os (Some r.function) fs
    runs = top_runs k.fits.os (subst (FramesFit g k.fits.os None) top (thread_frames g k.fits.os tid s.stacks k.fits.stacks))

    effect_owed : (e : Effect) → effect_at g tid b fs s.tables ≡ e → Owed g given n q (applies_effect g tid (record { method = b; below = fs }) e s)
    effect_owed disposes is = ends_owed g given n q cause.Disposed s k.owed
    effect_owed e is =
        let counted = k.fits.counted in
        let thread = k.rooted.each tid in
        let stack : is_stack (body b ∷ fs) ≡ true = ap is_stack (sym top) ∙ thread_stack g s.tables.roots tid (frames_of tid s.stacks) thread in
        record {
          frames = frames_owed g given n q tid (applies g tid b fs e s.tables).frames s.stacks k.rooted.apart (λ its. applies_reaches q g tid b e fs s.tables (reaches its)) k.owed.frames;
          state =
              subst (λ states. StateFits g.registry q (state_of n states)) (sym (applies_given g tid b fs e s.tables).roots)
              (fated g given q (fate_of g tid b fs e s.tables) n s.tables.roots least (subst (λ m. n ≤ m) (sym k.rooted.counted) bound)
              (λ c to.
              let from = ap began top ∙ under_began g given (body b ∷ fs) n stack (fate_root g tid b n fs e s.tables c to) in
              let its = thread_root g given s.tables.roots tid (frames_of tid s.stacks) n thread from in (
                its.1,
                statement_answers g given q k.fits.os tid k.fits.made k.fits.objects (omega arith) (thread_is g k.fits.os tid s.stacks (body b) fs k.fits.stacks top) b fs runs.0 runs.2
                    (reaches its.0) s.tables k.fits.tables n c (ap (λ w. fate_of g tid b fs w s.tables) is ∙ to),
              ))
              k.owed.state);
        }

  picked_owed : (most : ℕ) (q : Option Asking) (tid : List ℕ) (fs : List Frame) (s : Side) → most < 2000000 → Kept g given few most n least bound q s → frames_of tid s.stacks ≡ fs
      → Owed g given n q (applies_picked g tid (picked_in fs) s)
  picked_owed most q tid (body b ∷ fs) s room k top = effect_owed most q room tid s k b fs top (effect_at g tid b fs s.tables) refl
  picked_owed most q tid fs s room k top = k.owed

  applied_owed : (most : ℕ) (q : Option Asking) (tid : List ℕ) (s : Side) → most < 2000000 → Kept g given few most n least bound q s → Owed g given n q (applies_picked g tid (picked tid s) s)
  unfolding picked
  applied_owed most q tid s room k = picked_owed most q tid (frames_of tid s.stacks) s room k refl

  -- ---- roots

  -- what is owed to one root before one begins a call, if that is not this one
  record Before (root : ℕ) (q : Option Asking) (s : Side) : Type 0 where
    frames : Reaches q (frames_of (root_tid g n) s.stacks)
    state : (root ≡ n → ⊥) → StateFits g.registry q (state_of n s.tables.roots)
    apart : AreApart s.stacks
    within : n ≤ length s.tables.roots

  -- if it is, that is what it asks for
  module _ (root : ℕ) (q : Option Asking) (asking : Asking) (s : Side) (before : Before root q s) (mine : root ≡ n → q ≡ Some asking) (named : root_tid g root ≡ root_tid g n → root ≡ n) where
    before_owed : (why : RuntimeCause) → Owed g given n q (is_answered root (caused why) s)
    before_owed why =
        record {
          frames = before.frames;
          state =
              put_state g given q root n (answered (answer (caused why))) s.tables.roots least before.within (λ same. subst (λ o. IsAnswerTo g.registry o (caused why)) (sym (mine same)) tt)
              before.state;
        }

    -- a root that waits, with the frame of its call on it
    begun_owed : (x : RootState) (fs : List Frame) (z : Side) → z.stacks ≡ puts_frames (root_tid g root) fs s.stacks → z.tables.roots ≡ states_with root x s.tables.roots
        → Reaches (Some asking) fs → StateFits g.registry (Some asking) x → Owed g given n q z
    begun_owed x fs z stacks roots on fits =
        record {
          frames =
              subst (λ ss. Reaches q (frames_of (root_tid g n) ss)) (sym stacks)
              (frames_owed g given n q (root_tid g root) fs s.stacks before.apart (λ same. subst (λ o. Reaches o fs) (sym (mine (named same))) on) before.frames);
          state =
              subst (λ states. StateFits g.registry q (state_of n states)) (sym roots)
              (put_state g given q root n x s.tables.roots least before.within (λ same. subst (λ o. StateFits g.registry o x) (sym (mine same)) fits) before.state);
        }

    got_owed : (a : Answer) (z : Side) → z.stacks ≡ s.stacks → z.tables.roots ≡ states_with root (answered (answer a)) s.tables.roots → IsAnswerTo g.registry (Some asking) a → Owed g given n q z
    got_owed a z stacks roots fits =
        record {
          frames = subst (λ ss. Reaches q (frames_of (root_tid g n) ss)) (sym stacks) before.frames;
          state =
              subst (λ states. StateFits g.registry q (state_of n states)) (sym roots)
              (put_state g given q root n (answered (answer a)) s.tables.roots least before.within (λ same. subst (λ o. IsAnswerTo g.registry o a) (sym (mine same)) fits) before.state);
        }

  no_null : (oid face : List ℕ) (b : Bool) → null ≡ (if b then own oid face else peer oid face) → ⊥
  no_null oid face true is = cc
  no_null oid face false is = cc

  same_own : (oid face name at : List ℕ) (b : Bool) → own name at ≡ (if b then own oid face else peer oid face) → (oid ≡ name) × (face ≡ at) × (b ≡ true)
  same_own oid face name at true is = (cc, cc, refl)
  same_own oid face name at false is = absurd (cc)

  same_peer : (oid face name at : List ℕ) (b : Bool) → peer name at ≡ (if b then own oid face else peer oid face) → (oid ≡ name) × (face ≡ at)
  same_peer oid face name at true is = absurd (cc)
  same_peer oid face name at false is = (cc, cc)

  call_owed : (root : ℕ) (q : Option Asking) (r : Ref) (oid face : List ℕ) (function : ℕ) (args : List Plain) (s : Side) → r ≡ ref_of g oid face → Before root q s
      → (root ≡ n → q ≡ Some (for_answer face function)) → (root_tid g root ≡ root_tid g n → root ≡ n) → Owed g given n q (begins_call g root r function args s)
  unfolding ref_of calls_own calls_peer
  call_owed root q null oid face function args s is before mine named = absurd (no_null oid face (is_own g oid) is)
  call_owed root q (own name at) oid face function args s is before mine named =
      let same = same_own oid face name at (is_own g oid) is in
      begun_owed root q (for_answer face function) s before mine named waits_call _ _ refl (still_calls_own g name at function args (bottom root) (with_root root waits_call s.tables)).stay
      ((sym same.1, refl), tt) tt
  call_owed root q (peer name at) oid face function args s is before mine named =
      let same = same_peer oid face name at (is_own g oid) is in
      begun_owed root q (for_answer face function) s before mine named waits_call _ _ refl
      (still_calls_peer g (root_tid g root) name at function args (bottom root) (with_root root waits_call s.tables)).stay ((sym same.1, refl), tt) tt

  calls_owed : (root : ℕ) (q : Option Asking) (oid face : List ℕ) (function : ℕ) (args : List Plain) (why : Option RuntimeCause) (s : Side) → Before root q s
      → (root ≡ n → q ≡ Some (for_answer face function)) → (root_tid g root ≡ root_tid g n → root ≡ n) → Owed g given n q (calls_unless g root oid face function args why s)
  calls_owed root q oid face function args (Some why) s before mine named = before_owed root q (for_answer face function) s before mine named why
  calls_owed root q oid face function args None s before mine named = call_owed root q (ref_of g oid face) oid face function args s refl before mine named

  asks_owed : (root : ℕ) (q : Option Asking) (oid face wanted : List ℕ) (s : Side) → IsInterface g.registry wanted → Before root q s
      → (root ≡ n → q ≡ Some (for_reference wanted)) → (root_tid g root ≡ root_tid g n → root ≡ n) → Owed g given n q (asks_peer g root oid face wanted s)
  unfolding calls_peer
  asks_owed root q oid face wanted s there before mine named =
      begun_owed root q (for_reference wanted) s before mine named (waits_query wanted) _ _ refl
      (still_calls_peer g (root_tid g root) oid face 0 (query_args wanted) (bottom root) (with_root root (waits_query wanted) s.tables)).stay (refl, tt) (refl, there)

  names_owed : (root : ℕ) (q : Option Asking) (name wanted : List ℕ) (why : Option RuntimeCause) (s : Side) → IsInterface g.registry wanted → Before root q s
      → (root ≡ n → q ≡ Some (for_reference wanted)) → (root_tid g root ≡ root_tid g n → root ≡ n) → Owed g given n q (asks_unless g root name wanted why s)
  names_owed root q name wanted (Some why) s there before mine named = before_owed root q (for_reference wanted) s before mine named why
  names_owed root q name wanted None s there before mine named = asks_owed root q name x_interface_name wanted s there before mine named

  at_once_roots : (root : ℕ) (wanted : List ℕ) (x : Plain) (s : Side)
      → (gets_at_once g root wanted x s.tables).roots ≡ states_with root (answered (answer (root_outcome g (waits_query wanted) (returned x [])))) s.tables.roots
  at_once_roots root wanted x s =
      (root_still g root (waits_query wanted) (returned x []) (gains_all (holder.Root root) (refs x) s.tables)).stay
      ∙ ap (states_with root (answered (answer (root_outcome g (waits_query wanted) (returned x []))))) (still_gains_all (holder.Root root) (refs x) s.tables).stay

  query_owed : (most root : ℕ) (q : Option Asking) (r : Ref) (oid face wanted : List ℕ) (s : Side) → SideFits g most s → r ≡ ref_of g oid face → IsInterface g.registry wanted → Before root q s
      → (root ≡ n → q ≡ Some (for_reference wanted)) → (root_tid g root ≡ root_tid g n → root ≡ n) → Owed g given n q (begins_query g root r wanted s)
  unfolding ref_of
  query_owed most root q null oid face wanted s fit is there before mine named = absurd (no_null oid face (is_own g oid) is)
  query_owed most root q (peer name at) oid face wanted s fit is there before mine named = asks_owed root q name at wanted s there before mine named
  query_owed most root q (own name at) oid face wanted s fit is there before mine named =
      let same = same_own oid face name at (is_own g oid) is in
      let x = object_answer g name (kd.interface wanted) s.tables.objects in
      let told : is_own g name ≡ true = subst (λ o. is_own g o ≡ true) same.0 same.2 in
      let goes = object_goes g given fit.os fit.made fit.objects name (kd.interface wanted) told (λ other at_face. subst (IsInterface g.registry) (same_face wanted other at_face) there) in
      let any : Fits g.registry x kd.any = subst (λ os. Fits g.registry (object_answer g name (kd.interface wanted) os) kd.any) (sym fit.tables.same) goes.fits in
      got_owed root q (for_reference wanted) s before mine named _ _ refl (at_once_roots root wanted x s) (reference_fits g.registry given.sound wanted x there any)
    where
      same_face : (wanted other : List ℕ) → kd.interface wanted ≡ kd.interface other → wanted ≡ other
      same_face wanted other is = cc

  queries_owed : (most root : ℕ) (q : Option Asking) (oid face wanted : List ℕ) (why : Option RuntimeCause) (s : Side) → SideFits g most s → IsInterface g.registry wanted → Before root q s
      → (root ≡ n → q ≡ Some (for_reference wanted)) → (root_tid g root ≡ root_tid g n → root ≡ n) → Owed g given n q (queries_unless g root oid face wanted why s)
  queries_owed most root q oid face wanted (Some why) s fit there before mine named = before_owed root q (for_reference wanted) s before mine named why
  queries_owed most root q oid face wanted None s fit there before mine named = query_owed most root q (ref_of g oid face) oid face wanted s fit refl there before mine named

  -- the interface that a query asks for
  asked_interface : (root : ℕ) (oid face wanted : List ℕ) → MayBeSaid g.registry (request (root_tid g root) oid face 0 (query_args wanted)) → IsInterface g.registry wanted
  unfolding Fits FitEach kinds_on
  asked_interface root oid face wanted may =
      (subst (λ (h : Function). FitEach g.registry (plains (query_args wanted)) (argument_kinds h)) (query_is g given face may.0 may.1) may.4.fit).0.1

  -- ---- a root that is idle

  quiet_frames : (roots : List RootState) (fs : List Frame) → Thread g roots (root_tid g n) fs → waits (state_of n roots) ≡ false → fs ≡ []
  quiet_frames roots fs (nothing none free) quiet = none
  quiet_frames roots fs (of_root r first last is waiting live from) quiet =
      let same = root_named g n r few bound last is in absurd (true≢false (sym waiting ∙ (ap (λ k. waits (state_of k roots)) (sym same) ∙ quiet)))
  quiet_frames roots fs (of_peer theirs live from) quiet = absurd (true≢false (sym (root_own g n) ∙ theirs))

  idle_quiet : (x : RootState) → is_idle x ≡ true → waits x ≡ false
  idle_quiet idle is = refl
  idle_quiet waits_call is = absurd (cc)
  idle_quiet (waits_query wanted) is = absurd (cc)
  idle_quiet (answered o) is = absurd (cc)

  outcome_quiet : (x : RootState) → is_outcome (outcome_in x) ≡ true → waits x ≡ false
  outcome_quiet idle is = absurd (cc)
  outcome_quiet waits_call is = absurd (cc)
  outcome_quiet (waits_query wanted) is = absurd (cc)
  outcome_quiet (answered o) is = refl

  reaches_quiet : (p : Option Asking) (s : Side) → HasRoots g s → waits (state_of n s.tables.roots) ≡ false → Reaches p (frames_of (root_tid g n) s.stacks)
  reaches_quiet p s rooted quiet = subst (Reaches p) (sym (quiet_frames s.tables.roots (frames_of (root_tid g n) s.stacks) (rooted.each (root_tid g n)) quiet)) tt

  root_of : (root : ℕ) → is_root g root ≡ true → IsRoot g root
  root_of root is =
      let parts = and_parts (nat_lt 0 root) (not (nat_lt (length g.plan.threads) root)) is in
      (ltb-true 0 root parts.0, ltb-false (length g.plan.threads) root (not-true (nat_lt (length g.plan.threads) root) parts.1))

  by_same : (root : ℕ) → n ≡ root → (n == root) ≡ true
  by_same root e = grind (arith, eqb-true)

  -- one root begins a call, which this one does where it is the same
  by_root : (root : ℕ) (q : Option Asking) (asking : Asking) (s z : Side) → may_begin g root s ≡ true → HasRoots g s → Owed g given n q s
      → ((p : Option Asking) → Before root p s → (root ≡ n → p ≡ Some asking) → (root_tid g root ≡ root_tid g n → root ≡ n) → Owed g given n p z)
      → Owed g given n (if n == root then Some asking else q) z
  by_root root q asking s z may_it rooted owed on = by_test (n == root) refl
    where
      begins : (is_root g root ≡ true) × (is_idle (state_of root s.tables.roots) ≡ true)
      begins = and_parts (is_root g root) (is_idle (state_of root s.tables.roots)) may_it

      named : root_tid g root ≡ root_tid g n → root ≡ n
      named = root_named g root n few (root_of root begins.0).1 bound

      by_test : (b : Bool) → (n == root) ≡ b → Owed g given n (if n == root then Some asking else q) z
      by_test true is =
          let same = eqb-true n root is in
          let free = subst (λ k. is_idle (state_of k s.tables.roots) ≡ true) (sym same) begins.1 in
          subst (λ c. Owed g given n (if c then Some asking else q) z) (sym is)
          (on (Some asking)
          (record {
            frames = reaches_quiet (Some asking) s rooted (idle_quiet (state_of n s.tables.roots) free);
            state = λ apart. absurd (apart (sym same));
            apart = rooted.apart;
            within = subst (λ m. n ≤ m) (sym rooted.counted) bound;
          }) (λ e. refl) named)
      by_test false is =
          subst (λ c. Owed g given n (if c then Some asking else q) z) (sym is)
          (on q (record { frames = owed.frames; state = λ apart. owed.state; apart = rooted.apart; within = subst (λ m. n ≤ m) (sym rooted.counted) bound })
          (λ e. absurd (true≢false (sym (by_same root (sym e)) ∙ is))) named)

  -- it takes its answer
  took_owed : (root : ℕ) (q : Option Asking) (s : Side) → is_outcome (outcome_in (state_of root s.tables.roots)) ≡ true → HasRoots g s → Owed g given n q s
      → Owed g given n (if n == root then None else q) (root_takes root s)
  unfolding root_takes
  took_owed root q s there rooted owed = by_test (n == root) refl
    where
      within : n ≤ length s.tables.roots
      within = subst (λ m. n ≤ m) (sym rooted.counted) bound

      by_test : (b : Bool) → (n == root) ≡ b → Owed g given n (if n == root then None else q) (root_takes root s)
      by_test true is =
          let same = eqb-true n root is in
          subst (λ c. Owed g given n (if c then None else q) (root_takes root s)) (sym is)
          (record {
            frames = reaches_quiet None s rooted (outcome_quiet (state_of n s.tables.roots) (subst (λ k. is_outcome (outcome_in (state_of k s.tables.roots)) ≡ true) (sym same) there));
            state = put_state g given None root n idle s.tables.roots least within (λ e. tt) (λ apart. absurd (apart (sym same)));
          })
      by_test false is =
          subst (λ c. Owed g given n (if c then None else q) (root_takes root s)) (sym is)
          (record {
            frames = owed.frames;
            state = put_state g given q root n idle s.tables.roots least within (λ e. absurd (true≢false (sym (by_same root (sym e)) ∙ is))) (λ apart. owed.state);
          })

  -- ---- entries

  few_entries : (s : Side) → not (has_entries s) ≡ true → s.entries < 1000000
  unfolding most_entries
  few_entries s is = ltb-true s.entries 1000000 (not_not (nat_lt s.entries 1000000) is)
    where
      not_not : (b : Bool) → not (not b) ≡ true → b ≡ true
      not_not true is = refl
      not_not false is = absurd (cc)

  reaps_stacks : (o : Option Object) (s : Side) → (reaps_some g o s).stacks ≡ s.stacks
  unfolding reaps
  reaps_stacks None s = refl
  reaps_stacks (Some o) s = refl

  -- states that are as they were
  same_owed : (q : Option Asking) (s z : Side) → z.stacks ≡ s.stacks → z.tables.roots ≡ s.tables.roots → Owed g given n q s → Owed g given n q z
  same_owed q s z stacks roots owed =
      record {
        frames = subst (λ ss. Reaches q (frames_of (root_tid g n) ss)) (sym stacks) owed.frames;
        state = subst (λ states. StateFits g.registry q (state_of n states)) (sym roots) owed.state;
      }

  does_owed : (e : Entry) (q : Option Asking) (s : Side) → MayGive g e → may g s e ≡ true → SideFits g (length (first_objects g.plan) + s.entries) s → HasRoots g s
      → Owed g given n q s → Owed g given n (asked_by n q e) (does g e s).side
  unfolding does may root_asks root_calls root_queries root_makes root_drops root_takes drains
  does_owed (fed b) q s gives is fit rooted owed = (feeds_kept g given few (length (first_objects g.plan) + s.entries) n least bound q b s (record { fits = fit; rooted = rooted; owed = owed })).owed
  does_owed ended q s gives is fit rooted owed = ends_owed g given n q cause.Ended s owed
  does_owed failed q s gives is fit rooted owed = ends_owed g given n q cause.Failed s owed
  does_owed (asked root name wanted) q s gives is fit rooted owed =
      let begins = (and_parts (not (has_entries s)) _ (and_parts (stands s) _ is).1).1 in
      by_root root q (for_reference wanted) s _ begins rooted owed
      (λ p its mine named. names_owed root p name wanted (answered_before (root_tid g root) name x_interface_name 0 (query_args wanted)) s (asked_interface root name x_interface_name wanted gives.1)
      its mine named)
  does_owed (called root oid face function args) q s gives is fit rooted owed =
      let begins = (and_parts (may_begin g root s) _ (and_parts (not (has_entries s)) _ (and_parts (stands s) _ is).1).1).0 in
      by_root root q (for_answer face function) s _ begins rooted owed
      (λ p its mine named. calls_owed root p oid face function args (answered_before (root_tid g root) oid face function args) s its mine named)
  does_owed (queried root oid face wanted) q s gives is fit rooted owed =
      let begins = (and_parts (may_begin g root s) _ (and_parts (not (has_entries s)) _ (and_parts (stands s) _ is).1).1).0 in
      by_root root q (for_reference wanted) s _ begins rooted owed
      (λ p its mine named. queries_owed (length (first_objects g.plan) + s.entries) root p oid face wanted (answered_before (root_tid g root) oid face 0 (query_args wanted)) s fit
      (asked_interface root oid face wanted gives) its mine named)
  does_owed (made root behaviour wanted) q s gives is fit rooted owed = same_owed q s _ refl (stay_makes_object behaviour (defaults_of g behaviour) s.tables) owed
  does_owed (dropped root oid face) q s gives is fit rooted owed = same_owed q s _ refl (drops_stay g root (ref_of g oid face) s.tables (stands s)) owed
  does_owed (applied tid) q s gives is fit rooted owed =
      let fewer = few_entries s (and_parts (not (has_entries s)) (is_picked (picked tid s)) is).0 in let first = given.objects in
      applied_owed (length (first_objects g.plan) + s.entries) q tid s (omega arith) (record { fits = fit; rooted = rooted; owed = owed })
  does_owed (took root) q s gives is fit rooted owed = took_owed root q s is rooted owed
  does_owed (reaped object) q s gives is fit rooted owed = same_owed q s _ (reaps_stacks (lowest g s.tables) s) (reaps_stay g (lowest g s.tables) s) owed
  does_owed (drained b) q s gives is fit rooted owed = record { frames = owed.frames; state = owed.state }
  does_owed disposed q s gives is fit rooted owed = ends_owed g given n q cause.Disposed s owed
  does_owed full q s gives is fit rooted owed = ends_owed g given n q cause.Full s owed
  does_owed no_memory q s gives is fit rooted owed = out_owed g given n q s.cause s owed

  counted_owed : (q : Option Asking) (b : Bool) (s : Side) → Owed g given n q s → Owed g given n q (if b then record s { entries = suc s.entries } else s)
  counted_owed q true s owed = record { frames = owed.frames; state = owed.state }
  counted_owed q false s owed = owed

  -- ---- a history

  front_gives : (es : List Entry) (e : Entry) → RootsGive g (es ++ e ∷ []) → RootsGive g es × MayGive g e
  front_gives [] e all = (tt, all.0)
  front_gives (f ∷ es) e all = let rest = front_gives es e all.1 in ((all.0, rest.0), rest.1)

  abbrev IsOwed : List Entry → Told → Type 0
  IsOwed es x = RootsGive g es → Owed g given n (still_asked n es) x.side

  owed_kept : (es : List Entry) (x : Told) (e : Entry) (u : Turn) → Leads g es x → IsOwed es x → step g x.side e ≡ Some u → IsOwed (es ++ e ∷ []) (told_more x e u)
  owed_kept es x e u leads has is gives =
      let parts = front_gives es e gives in
      let stays = all_stays g given es x parts.0 leads in
      let rooted = has_roots g es x (record { roots = (all_allowed g es x leads).roots; few = few }) leads in
      of_step g x.side e u (λ v. Owed g given n (still_asked n (es ++ e ∷ [])) (told_more x e v).side)
      (λ can. subst (λ q. Owed g given n q (told_more x e (turn e x.side (does g e x.side))).side) (sym (asked_push n None es e))
      (counted_owed (asked_by n (still_asked n es) e) (counts e) (does g e x.side).side (does_owed e (still_asked n es) x.side parts.1 can stays.fit rooted (has parts.0)))) is

  first_owed : IsOwed [] (nothing_told g)
  unfolding opening frames_of asked_behind
  first_owed gives = record { frames = tt; state = subst (StateFits g.registry None) (sym (first_idle g n)) tt }

  pub all_owed : (es : List Entry) (x : Told) → Leads g es x → RootsGive g es → Owed g given n (still_asked n es) x.side
  all_owed es x leads = along_history g IsOwed first_owed owed_kept es x leads
