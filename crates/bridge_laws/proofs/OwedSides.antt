-- A side whose root has what it asked for: the call on it is that one, and an outcome fits.
use Rattle.std.proofs.Common.{◌≡◌, refl, sym, ap, subst, ◌∙◌, ℕ, zero, suc, ◌≤◌, Bool, true, false, ◌==◌, eqb-true, if◌then◌else◌, List, [], ◌∷◌, length, map, Option, None, Some, slice_get, unwrap_or, arith}
use Rattle.std.proofs.lemmas.Bool.{true≢false}
use Rattle.std.specs.Str.{bytes_eq}
use Rattle.std.proofs.lemmas.Slice.Eq.{bytes_eq-Decides}
use Rattle.message_model.specs.Messages.{Answer, returned, raised}
use Rattle.uno_model.specs.BuiltIn.{x_interface_name, query_interface}
use Rattle.uno_model.specs.Entities.{Entity}
use Rattle.uno_model.specs.Fits.{Fits, IsInterface}
use Rattle.uno_model.specs.Functions.{Function}
use Rattle.uno_model.specs.Functions as fn
use Rattle.uno_model.specs.Kinds as kd
use Rattle.uno_model.specs.Values as v
use Rattle.uno_model.proofs.Options.{same_some}
use Rattle.plan_model.specs.Frames.{Frame, base, body, outgoing, Stack, frames_of, first_frame}
use Rattle.plan_model.specs.Holdings.{reference_of}
use Rattle.plan_typing.proofs.CalleeNumbers.{query_at}
use Rattle.plan_typing.proofs.EffectCalls.{interface_there}
use Rattle.plan_typing.proofs.FrameTakes.{reference_fits}
use Rattle.message_model.specs.Calls.{numbered}
use Rattle.message_model.specs.Sayable.{AnswerFits, IsCalled}
use Rattle.bridge_laws.specs.Rooted.{waits}
use Rattle.bridge_laws.proofs.FrameLaws.{began_body, stack_below}
use Rattle.bridge_laws.specs.Grounded.{begins, is_stack, began, AreApart, Thread, nothing, of_root, of_peer}
use Rattle.bridge_laws.proofs.RootStateLaws.{state_same, state_other}
use Rattle.bridge_laws.proofs.ThreadStackLaws.{frames_put, frames_stay}
use Rattle.bridge_model.specs.Ends.{state_at_end, ends_by, runs_out, outcome_at_end}
use Rattle.bridge_model.specs.Settings.{Setting, root_tid}
use Rattle.bridge_model.specs.Sides.{answer, disposed, no_memory, RootState, idle, waits_call, waits_query, answered, Side, state_of, states_with}
use Rattle.bridge_model.specs.Stacks.{puts_frames}
use Rattle.bridge_model.specs.declared.cause.Cause.{Cause}
use Rattle.bridge_model.specs.declared.cause.Cause.TheVariants as cause
use Rattle.bridge_laws.proofs.TypedGiven.{IsGiven}
use Rattle.bridge_laws.specs.Outcomes.{Fate, for_root, for_method, for_peer, root_outcome, roots_by, root_under}
use Rattle.bridge_laws.specs.Outcomes as of
use Rattle.bridge_laws.specs.RootAnswers.{Asking, for_reference, for_answer, IsAnswerTo}
use Rattle.bridge_laws.proofs.OwedFrames.{Reaches}
use Rattle.bridge_laws.proofs.OwedAnswers.{Reached}

-- ---- states

-- the root asked for an answer, or for a reference under this interface
abbrev pub AsksCall : Option Asking → Type 0
AsksCall None = ⊥
AsksCall (Some (for_reference wanted)) = ⊥
AsksCall (Some (for_answer face function)) = Unit

abbrev pub AsksReference : List Entity → (wanted : List ℕ) → Option Asking → Type 0
AsksReference reg wanted None = ⊥
AsksReference reg wanted (Some (for_reference name)) = (name ≡ wanted) × IsInterface reg wanted
AsksReference reg wanted (Some (for_answer face function)) = ⊥

-- it asked for something, or it did not
abbrev pub AsksSome : Option Asking → Type 0
AsksSome None = ⊥
AsksSome (Some asking) = Unit

abbrev pub AsksNone : Option Asking → Type 0
AsksNone None = Unit
AsksNone (Some asking) = ⊥

abbrev pub StateFits : List Entity → Option Asking → RootState → Type 0
StateFits reg q idle = AsksNone q
StateFits reg q waits_call = AsksCall q
StateFits reg q (waits_query wanted) = AsksReference reg wanted q
StateFits reg q (answered (answer a)) = IsAnswerTo reg q a
StateFits reg q (answered (disposed why)) = AsksSome q
StateFits reg q (answered no_memory) = AsksSome q

module _ (g : Setting) (given : IsGiven g) where
  call_answered : (q : Option Asking) (c : Answer) → AsksCall q → Reached g.registry q c → IsAnswerTo g.registry q c
  call_answered None c asks got = absurd asks
  call_answered (Some (for_reference wanted)) c asks got = absurd asks
  call_answered (Some (for_answer face function)) (raised k x) asks got = tt
  call_answered (Some (for_answer face function)) (returned x outs) asks got =
      (got.called, subst (λ n. numbered g.registry face n ≡ Some got.called) got.begun.1 (subst (λ f. numbered g.registry f got.function ≡ Some got.called) got.begun.0 got.is.found), got.fits)

  pub query_is : (face : List ℕ) (f : Function) → IsCalled g.registry face 0 f → f ≡ fn.call x_interface_name query_interface
  query_is face f called = same_some (sym called.found ∙ query_at g.registry given.sound given.built face (interface_there g.registry face called.interface))

  any_got : (f : Function) (x : v.Plain) (outs : List v.Plain) → f ≡ fn.call x_interface_name query_interface → AnswerFits g.registry f (returned x outs) → Fits g.registry x kd.any
  any_got f x outs is fits = subst (λ (h : Function). Fits g.registry x h.result_kind) is fits.0

  pub query_answered : (q : Option Asking) (wanted : List ℕ) (c : Answer) → AsksReference g.registry wanted q → Reached g.registry q c → IsAnswerTo g.registry q (root_outcome g (waits_query wanted) c)
  query_answered None wanted c asks got = absurd asks
  query_answered (Some (for_answer face function)) wanted c asks got = absurd asks
  query_answered (Some (for_reference name)) wanted (raised k x) asks got = tt
  query_answered (Some (for_reference name)) wanted (returned x outs) asks got =
      let called = subst (λ n. IsCalled g.registry got.face n got.called) got.begun got.is in
      subst (λ face. Fits g.registry (v.ref (reference_of g.registry wanted x)) (kd.interface face)) (sym asks.0)
      (reference_fits g.registry given.sound wanted x asks.1 (any_got got.called x outs (query_is got.face got.called called) got.fits))

  pub state_answered : (q : Option Asking) (s : RootState) (c : Answer) → waits s ≡ true → StateFits g.registry q s → Reached g.registry q c → IsAnswerTo g.registry q (root_outcome g s c)
  state_answered q idle c is fits got = absurd (cc)
  state_answered q waits_call c is fits got = call_answered q c fits got
  state_answered q (waits_query wanted) c is fits got = query_answered q wanted c fits got
  state_answered q (answered o) c is fits got = absurd (cc)

  -- ---- a fate

  pub put_state : (q : Option Asking) (root n : ℕ) (x : RootState) (states : List RootState) → 1 ≤ n → n ≤ length states → (root ≡ n → StateFits g.registry q x)
      → ((root ≡ n → ⊥) → StateFits g.registry q (state_of n states)) → StateFits g.registry q (state_of n (states_with root x states))
  put_state q root n x states least within new old = by_test (n == root) refl
    where
      by_same : n ≡ root → (n == root) ≡ true
      by_same e = grind (arith, eqb-true)

      by_test : (b : Bool) → (n == root) ≡ b → StateFits g.registry q (state_of n (states_with root x states))
      by_test true is =
          let same : root ≡ n = sym (eqb-true n root is) in
          subst (λ k. StateFits g.registry q (state_of n (states_with k x states))) (sym same)
          (subst (StateFits g.registry q) (sym (state_same n x states least within)) (new same))
      by_test false is =
          let apart : n ≡ root → ⊥ = λ e. true≢false (sym (by_same e) ∙ is) in
          subst (StateFits g.registry q) (sym (state_other root n x states apart)) (old (λ e. apart (sym e)))

  pub fated : (q : Option Asking) (h : Fate) (n : ℕ) (states : List RootState) → 1 ≤ n → n ≤ length states → ((c : Answer) → h ≡ for_root n c → (waits (state_of n states) ≡ true) × Reached g.registry q c)
      → StateFits g.registry q (state_of n states) → StateFits g.registry q (state_of n (roots_by g h states))
  fated q of.nothing n states least within got old = old
  fated q (for_method b below x outs) n states least within got old = old
  fated q (for_peer b below a) n states least within got old = old
  fated q (for_root root c) n states least within got old =
      put_state q root n (answered (answer (root_outcome g (state_of root states) c))) states least within
      (λ same. subst (λ k. IsAnswerTo g.registry q (root_outcome g (state_of k states) c)) (sym same)
      (let now = got c (ap (λ k. for_root k c) same) in state_answered q (state_of n states) c now.0 old now.1)) (λ apart. old)

  -- ---- the end

  at_end : (q : Option Asking) (why : Cause) → AsksSome q → StateFits g.registry q (answered (outcome_at_end why))
  at_end q cause.Disposed some = some
  at_end q cause.Ended some = some
  at_end q cause.Failed some = some
  at_end q (cause.Broken why place) some = some
  at_end q cause.Full some = some
  at_end q cause.NoMemory some = some

  call_some : (q : Option Asking) → AsksCall q → AsksSome q
  call_some None is = is
  call_some (Some asking) is = tt

  reference_some : (q : Option Asking) (wanted : List ℕ) → AsksReference g.registry wanted q → AsksSome q
  reference_some None wanted is = is
  reference_some (Some asking) wanted is = tt

  state_ends : (q : Option Asking) (why : Cause) (s : RootState) → StateFits g.registry q s → StateFits g.registry q (state_at_end why s)
  state_ends q why idle fits = fits
  state_ends q why waits_call fits = at_end q why (call_some q fits)
  state_ends q why (waits_query wanted) fits = at_end q why (reference_some q wanted fits)
  state_ends q why (answered o) fits = fits

  place_ends : (q : Option Asking) (why : Cause) (n : ℕ) (states : List RootState) → StateFits g.registry q (unwrap_or (slice_get states n) idle)
      → StateFits g.registry q (unwrap_or (slice_get (map (state_at_end why) states) n) idle)
  place_ends q why n [] fits = fits
  place_ends q why zero (x ∷ states) fits = state_ends q why x fits
  place_ends q why (suc n) (x ∷ states) fits = place_ends q why n states fits

  states_end : (q : Option Asking) (why : Cause) (n : ℕ) (states : List RootState) → StateFits g.registry q (state_of n states) → StateFits g.registry q (state_of n (map (state_at_end why) states))
  unfolding state_of
  states_end q why zero states fits = fits
  states_end q why (suc n) states fits = place_ends q why n states fits

  -- ---- a side

  pub record Owed (n : ℕ) (q : Option Asking) (s : Side) : Type 0 where
    pub frames : Reaches q (frames_of (root_tid g n) s.stacks)
    pub state : StateFits g.registry q (state_of n s.tables.roots)

  pub ends_owed : (n : ℕ) (q : Option Asking) (why : Cause) (s : Side) → Owed n q s → Owed n q (ends_by why s)
  unfolding ends_by frames_of
  ends_owed n q why s owed = record { frames = tt; state = states_end q why n s.tables.roots owed.state }

  pub out_owed : (n : ℕ) (q : Option Asking) (why : Option Cause) (s : Side) → Owed n q s → Owed n q (runs_out why s)
  unfolding runs_out ends_by frames_of
  out_owed n q None s owed = record { frames = tt; state = states_end q cause.NoMemory n s.tables.roots owed.state }
  out_owed n q (Some why) s owed = record { frames = owed.frames; state = owed.state }

  -- frames of one thread are put
  pub frames_owed : (n : ℕ) (q : Option Asking) (tid : List ℕ) (fs : List Frame) (ss : List Stack) → AreApart ss → (tid ≡ root_tid g n → Reaches q fs) → Reaches q (frames_of (root_tid g n) ss)
      → Reaches q (frames_of (root_tid g n) (puts_frames tid fs ss))
  frames_owed n q tid fs ss apart new old = by_name (bytes_eq (root_tid g n) tid) refl
    where
      by_name : (b : Bool) → bytes_eq (root_tid g n) tid ≡ b → Reaches q (frames_of (root_tid g n) (puts_frames tid fs ss))
      by_name true is =
          let same = (bytes_eq-Decides (root_tid g n) tid).0 is in
          subst (λ t. Reaches q (frames_of t (puts_frames tid fs ss))) (sym same) (subst (Reaches q) (sym (frames_put tid fs ss apart)) (new (sym same)))
      by_name false is =
          subst (Reaches q) (sym (frames_stay tid (root_tid g n) fs ss (λ e. true≢false (sym ((bytes_eq-Decides (root_tid g n) tid).1 e) ∙ is)))) old

  -- ---- threads

  pub thread_root : (roots : List RootState) (tid : List ℕ) (fs : List Frame) (n : ℕ) → Thread g roots tid fs → began fs ≡ Some n → (tid ≡ root_tid g n) × (waits (state_of n roots) ≡ true)
  thread_root roots tid fs n (nothing none free) from = absurd (no_root n fs none from)
    where
      no_root : (n : ℕ) (fs : List Frame) → fs ≡ [] → began fs ≡ Some n → ⊥
      no_root n fs none from = let bad : None ≡ Some n = sym (ap began none) ∙ from in absurd (cc)
  thread_root roots tid fs n (of_root root least most is waiting live began_by) from =
      let same : root ≡ n = same_some (sym began_by ∙ from) in (is ∙ ap (root_tid g) same, subst (λ k. waits (state_of k roots) ≡ true) same waiting)
  thread_root roots tid fs n (of_peer theirs live began_by) from = let bad : None ≡ Some n = sym began_by ∙ from in absurd (cc)

  under_if : (c : Bool) (o : Option ℕ) (n : ℕ) → (if c then None else o) ≡ Some n → o ≡ Some n
  under_if true o n is = absurd (cc)
  under_if false o n is = is

  pub under_began : (fs : List Frame) (n : ℕ) → is_stack fs ≡ true → root_under fs ≡ Some n → began fs ≡ Some n
  unfolding root_under
  under_began [] n is under = absurd (cc)
  under_began (base root ∷ fs) n is under = alone fs (stack_below (base root) fs is).0
    where
      alone : (gs : List Frame) → begins (first_frame gs) ≡ true → began (base root ∷ gs) ≡ Some n
      alone [] ok = under
      alone (f ∷ gs) ok = absurd (cc)
  under_began (outgoing o ∷ fs) n is under = absurd (cc)
  under_began (body b ∷ fs) n is under = began_body b fs ∙ under_began fs n (stack_below (body b) fs is).1 (under_if b.from_peer (root_under fs) n under)
