-- A message that is read fits, and a reply is that of the call at the top of its thread.
use Rattle.std.proofs.Common.{◌≡◌, refl, sym, ap, ◌∙◌, subst, ℕ, Bool, true, false, cond, if◌then◌else◌, List, [], ◌∷◌, ◌++◌, Option, None, Some, Ok, inl, inr}
use Rattle.std.specs.Str.{bytes_eq}
use Rattle.std.proofs.lemmas.Slice.Eq.{bytes_eq-Decides}
use Rattle.message_model.specs.Arriving.{IsHeard, MessageFits}
use Rattle.message_model.specs.Calls.{Waiting, Waits, waiting}
use Rattle.message_model.specs.Headers.{Heard, Opening, Target}
use Rattle.message_model.specs.Messages.{Message}
use Rattle.message_model.specs.ReadingMessages.{message_at}
use Rattle.message_model.specs.Sayable.{IsAwaited}
use Rattle.message_model.specs.SpellingMessages.{SpellsAsked, a_release, a_call, SpellsMessage}
use Rattle.message_model.proofs.MessageArrivalLaws.{message_fits}
use Rattle.message_model.proofs.MessageReadingLaws.{message_agrees}
use Rattle.uno_model.specs.Entities.{Entity}
use Rattle.uno_model.specs.Sound.{IsSound}
use Rattle.uno_model.proofs.Options.{same_some}
use Rattle.plan_model.specs.Frames.{Frame, base, body, outgoing, Outgoing, Stack, frames_of, first_frame, outgoing_in}
use Rattle.bridge_laws.specs.Grounded.{AreApart}
use Rattle.bridge_model.specs.Stacks.{wait_of, waits_of}

-- ---- reading

-- what was read
pub record IsRead (reg : List Entity) (waits : Waits) (read : Message × Heard × List ℕ) : Type 0 where
  pub fits : MessageFits reg read.0
  pub heard : IsHeard reg read.1
  pub awaited : IsAwaited waits read.0

asked_awaited : (reg : List Entity) (waits : Waits) (o : Opening) (target : Target) (heard : Heard) (m : Message) (b : List ℕ) (after : Heard) → SpellsAsked reg o target heard m b after
    → IsAwaited waits m
asked_awaited reg waits o target heard m b after (a_release face kind number answered is none same) = subst (IsAwaited waits) (sym is) tt
asked_awaited reg waits o target heard m b after (a_call face f args s kind no_release no_acquire found oneway is spelled same) = subst (IsAwaited waits) (sym is) tt

spelled_awaited : (reg : List Entity) (waits : Waits) (heard : Heard) (m : Message) (used : List ℕ) (after : Heard) → SpellsMessage reg waits heard m used after → IsAwaited waits m
spelled_awaited reg waits heard m used after (inl asked) = asked_awaited reg waits asked.opening asked.target asked.between m asked.r after asked.asks
spelled_awaited reg waits heard m used after (inr answered) = subst (IsAwaited waits) (sym answered.said) answered.waited

pub read_is : (reg : List Entity) → IsSound reg → (waits : Waits) (heard : Heard) (bytes : List ℕ) (read : Message × Heard × List ℕ) → IsHeard reg heard
    → message_at reg waits heard bytes ≡ Ok read → IsRead reg waits read
read_is reg sound waits heard bytes read is at =
    let spelled = (message_agrees reg waits heard sound.named).sound bytes read at in
    let fits = message_fits reg sound waits heard spelled.0.0 spelled.1 spelled.0.1 is spelled.5 in
    subst (IsRead reg waits) (sym spelled.3)
    (record { fits = fits.0; heard = fits.1; awaited = spelled_awaited reg waits heard spelled.0.0 spelled.1 spelled.0.1 spelled.5 })

-- ---- the call that waits

-- frames with this call at their top
pub record WaitsFor (w : Waiting) (fs : List Frame) : Type 0 where
  pub call : Outgoing
  pub below : List Frame
  pub all : fs ≡ outgoing call ∷ below
  pub face : call.face ≡ w.face
  pub function : call.function ≡ w.function

waits_top : (fs : List Frame) (o : Outgoing) → outgoing_in (first_frame fs) ≡ Some o → WaitsFor (record { face = o.face; function = o.function }) fs
waits_top [] o is = absurd (cc)
waits_top (base root ∷ fs) o is = absurd (cc)
waits_top (body b ∷ fs) o is = absurd (cc)
waits_top (outgoing c ∷ fs) o is =
    let one : c ≡ o = same_some is in
    record { call = c; below = fs; all = refl; face = ap (λ (x : Outgoing). x.face) one; function = ap (λ (x : Outgoing). x.function) one }

no_call : (w : Waiting) (fs : List Frame) → fs ≡ [] → WaitsFor w fs → ⊥
no_call w fs none calls = let bad : outgoing calls.call ∷ calls.below ≡ [] = sym calls.all ∙ none in absurd (cc)

found_by : (tid : List ℕ) (w v : Waiting) (s : Stack) (ss : List Stack) (b : Bool) → bytes_eq tid s.tid ≡ b → WaitsFor v s.frames
    → (waiting tid (waits_of ss) ≡ Some w → WaitsFor w (frames_of tid ss)) → cond b (Some v) (waiting tid (waits_of ss)) ≡ Some w → WaitsFor w (if b then s.frames else frames_of tid ss)
found_by tid w v s ss true is here behind there = subst (λ u. WaitsFor u s.frames) (same_some there) here
found_by tid w v s ss false is here behind there = behind there

passed_by : (tid : List ℕ) (w : Waiting) (s : Stack) (ss : List Stack) (b : Bool) → bytes_eq tid s.tid ≡ b → frames_of s.tid ss ≡ [] → WaitsFor w (frames_of tid ss)
    → WaitsFor w (if b then s.frames else frames_of tid ss)
passed_by tid w s ss true is none calls = absurd (no_call w (frames_of tid ss) (ap (λ name. frames_of name ss) ((bytes_eq-Decides tid s.tid).0 is) ∙ none) calls)
passed_by tid w s ss false is none calls = calls

wait_step : (tid : List ℕ) (w : Waiting) (s : Stack) (ss : List Stack) (o : Option Outgoing) → outgoing_in (first_frame s.frames) ≡ o → frames_of s.tid ss ≡ []
    → (waiting tid (waits_of ss) ≡ Some w → WaitsFor w (frames_of tid ss)) → waiting tid (wait_of s.tid o ++ waits_of ss) ≡ Some w
    → WaitsFor w (if bytes_eq tid s.tid then s.frames else frames_of tid ss)
wait_step tid w s ss None is none behind there = passed_by tid w s ss (bytes_eq tid s.tid) refl none (behind there)
wait_step tid w s ss (Some o) is none behind there =
    found_by tid w (record { face = o.face; function = o.function }) s ss (bytes_eq tid s.tid) refl (waits_top s.frames o is) behind there

pub waits_for : (tid : List ℕ) (w : Waiting) (ss : List Stack) → AreApart ss → waiting tid (waits_of ss) ≡ Some w → WaitsFor w (frames_of tid ss)
unfolding waits_of frames_of AreApart
waits_for tid w [] apart there = absurd (cc)
waits_for tid w (s ∷ ss) apart there = wait_step tid w s ss (outgoing_in (first_frame s.frames)) refl apart.0 (waits_for tid w ss apart.1) there
