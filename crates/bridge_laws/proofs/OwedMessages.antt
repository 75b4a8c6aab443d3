-- A piece keeps what a root is owed: a reply that reaches it answers what it asked for.
use Rattle.std.proofs.Common.{◌≡◌, refl, sym, ap, subst, ◌∙◌, ℕ, zero, suc, ◌+◌, ◌-◌, ◌<◌, ◌≤◌, ◌^◌, ◌==◌, Bool, true, false, not, if◌then◌else◌, List, [], ◌∷◌, ◌++◌, length, drop, Option, None, Some, Result, Ok, Err}
use Rattle.message_model.specs.Arriving.{IsHeard, ReplyFits, MessageFits}
use Rattle.message_model.specs.Headers.{Heard}
use Rattle.message_model.specs.Calls.{numbered}
use Rattle.message_model.specs.Messages.{Answer, Message, request, release, reply}
use Rattle.message_model.specs.ReadingMessages.{message_at}
use Rattle.message_model.specs.ReadingStreams.{reason_of}
use Rattle.message_model.specs.Sayable.{AnswerFits, IsAwaited, IsCalled}
use Rattle.uno_model.specs.Functions.{Function}
use Rattle.uno_model.specs.Values.{Plain}
use Rattle.uno_model.proofs.Options.{same_some}
use Rattle.urp_model.specs.declared.fault.Fault.{Fault}
use Rattle.urp_model.specs.declared.reason.Reason.{Reason}
use Rattle.urp_model.specs.declared.reason.Reason.TheVariants.{LeftOver}
use Rattle.plan_model.specs.Frames.{Frame, base, body, outgoing, Outgoing, frames_of}
use Rattle.bridge_laws.proofs.FrameLaws.{began_outgoing, stack_below}
use Rattle.bridge_laws.specs.Grounded.{is_stack, began, HasRoots}
use Rattle.bridge_laws.proofs.HomeLaws.{unless_passed}
use Rattle.bridge_laws.proofs.RootSideLaws.{ends_rooted, receives_rooted, same_refusal}
use Rattle.bridge_laws.proofs.ThreadLaws.{thread_stack}
use Rattle.bridge_model.specs.Calls.{serves}
use Rattle.bridge_model.specs.Ends.{ends_by}
use Rattle.bridge_model.specs.Feeding.{block_stands, header_fault, Hearing, remembers, gets, block_ends, Next, hears_tested, hears_read, hears, heard_nothing, holds_bytes, takes_block, feeds_whole, feeds_part, feeds, count_said}
use Rattle.bridge_model.specs.Handing.{hands_from_peer}
use Rattle.bridge_model.specs.Receiving.{is_target, refusal, answers_at_once, below_top, receives}
use Rattle.bridge_model.specs.References.{says, each_home, home_answer}
use Rattle.bridge_model.specs.Settings.{Setting, root_tid}
use Rattle.bridge_model.specs.Sides.{Object, Side, on_tables, state_of}
use Rattle.bridge_model.specs.Stacks.{is_busy_top, is_busy, waits_of, with_unwound}
use Rattle.bridge_model.specs.declared.cause.Cause.{Cause}
use Rattle.bridge_model.specs.declared.cause.Cause.TheVariants as cause
use Rattle.bridge_laws.proofs.FramesFit.{FramesFit}
use Rattle.bridge_laws.proofs.TypedGiven.{IsGiven}
use Rattle.bridge_laws.proofs.SideFits.{SideFits}
use Rattle.bridge_laws.proofs.HomeFits.{answer_home}
use Rattle.bridge_laws.proofs.ReadingFits.{IsRead, read_is, waits_for}
use Rattle.bridge_laws.proofs.ReceivingFits.{receives_fits}
use Rattle.bridge_laws.proofs.FittingSideLaws.{thread_frames, ends_fits, heard_fits}
use Rattle.bridge_laws.specs.Outcomes.{for_root, handed_down}
use Rattle.bridge_laws.proofs.ApplyingFates.{still_serves}
use Rattle.bridge_laws.proofs.HandingFates.{from_peer_given}
use Rattle.bridge_laws.proofs.ServingLaws.{roots_under}
use Rattle.bridge_laws.specs.RootAnswers.{Asking}
use Rattle.bridge_laws.proofs.OwedFrames.{Reaches, IsFree, from_peer_reaches, serves_reaches}
use Rattle.bridge_laws.proofs.OwedAnswers.{handed}
use Rattle.bridge_laws.proofs.OwedSides.{StateFits, fated, Owed, ends_owed, frames_owed, thread_root, under_began}

module _ (g : Setting) (given : IsGiven g) (few : length g.plan.threads < 2 ^ 64) (most n : ℕ) (least : 1 ≤ n) (bound : n ≤ length g.plan.threads) (q : Option Asking) where
  -- a side that fits, with its roots, of which one is owed what it asked for
  pub record Kept (s : Side) : Type 0 where
    pub fits : SideFits g most s
    pub rooted : HasRoots g s
    pub owed : Owed g given n q s

  -- ---- messages

  free_by : (fs : List Frame) → not (is_busy_top fs) ≡ true → IsFree q g [] fs
  free_by [] is = tt
  free_by (base root ∷ fs) is = absurd (cc)
  free_by (body b ∷ fs) is = absurd (cc)
  free_by (outgoing o ∷ fs) is = tt

  owed_if : (c : Bool) (x y : Side) → Owed g given n q x → Owed g given n q y → Owed g given n q (if c then x else y)
  owed_if true x y p r = p
  owed_if false x y p r = r

  at_once_owed : (tid oid face : List ℕ) (args : List Plain) (s : Side) → Owed g given n q s → Owed g given n q (on_tables (answers_at_once g tid oid face args) s)
  unfolding says
  at_once_owed tid oid face args s owed = record { frames = owed.frames; state = owed.state }

  serves_owed : (tid oid face : List ℕ) (function : ℕ) (args : List Plain) (s : Side) → not (is_busy tid s.stacks) ≡ true → Kept s
      → Owed g given n q (with_unwound tid (serves g oid face function args (frames_of tid s.stacks) s.tables) s)
  serves_owed tid oid face function args s free k =
      let fs = frames_of tid s.stacks in
      record {
        frames =
            frames_owed g given n q tid (serves g oid face function args fs s.tables).frames s.stacks k.rooted.apart
            (λ same. serves_reaches q g [] oid face function args fs s.tables (free_by fs free) (subst (λ t. Reaches q (frames_of t s.stacks)) (sym same) k.owed.frames)) k.owed.frames;
        state = subst (λ states. StateFits g.registry q (state_of n states)) (sym (still_serves g oid face function args fs s.tables).stay) k.owed.state;
      }

  -- ---- replies

  frames_under : (os : List Object) (o : Outgoing) (fs : List Frame) → FramesFit g os None (outgoing o ∷ fs) → (f : Function) × IsCalled g.registry o.face o.function f × FramesFit g os (Some f) fs
  unfolding FramesFit
  frames_under os o fs fit = fit

  replied_owed : (tid face : List ℕ) (function : ℕ) (a : Answer) (s : Side) → ReplyFits g.registry face function a → IsAwaited (waits_of s.stacks) (reply tid face function a) → Kept s
      → Owed g given n q (with_unwound tid (hands_from_peer g tid (home_answer g a) (below_top (frames_of tid s.stacks)) s.tables) s)
  replied_owed tid face function a s fits awaited k =
      let waits = waits_for tid (record { face = face; function = function }) s.stacks k.fits.apart awaited in
      let under = frames_under k.fits.os waits.call waits.below (subst (FramesFit g k.fits.os None) waits.all (thread_frames g k.fits.os tid s.stacks k.fits.stacks)) in
      let found : numbered g.registry face function ≡ Some under.0 =
      ap (λ m. numbered g.registry m function) (sym waits.face) ∙ (ap (numbered g.registry waits.call.face) (sym waits.function) ∙ under.1.found) in
      let same : fits.f ≡ under.0 = same_some (sym fits.found ∙ found) in
      let comes : AnswerFits g.registry under.0 (home_answer g a) = subst (λ h. AnswerFits g.registry h (home_answer g a)) same (answer_home g.registry g fits.f a fits.fits) in
      let fs : below_top (frames_of tid s.stacks) ≡ waits.below = ap below_top waits.all in
      let reaches : tid ≡ root_tid g n → Reaches q (outgoing waits.call ∷ waits.below) =
      λ its. subst (Reaches q) waits.all (subst (λ t. Reaches q (frames_of t s.stacks)) (sym its) k.owed.frames) in
      let thread = k.rooted.each tid in
      let stack : is_stack waits.below ≡ true = (stack_below (outgoing waits.call) waits.below (ap is_stack (sym waits.all) ∙ thread_stack g s.tables.roots tid (frames_of tid s.stacks) thread)).1 in
      let given_by = from_peer_given g tid (home_answer g a) (below_top (frames_of tid s.stacks)) s.tables in
      record {
        frames =
            frames_owed g given n q tid _ s.stacks k.rooted.apart
            (λ its. from_peer_reaches q g tid (home_answer g a) (below_top (frames_of tid s.stacks)) s.tables (subst (Reaches q) (sym fs) (reaches its).1)) k.owed.frames;
        state =
            subst (λ states. StateFits g.registry q (state_of n states)) (sym given_by.roots)
            (fated g given q (handed_down g.registry tid (home_answer g a) (below_top (frames_of tid s.stacks))) n s.tables.roots least (subst (λ m. n ≤ m) (sym k.rooted.counted) bound)
            (λ c to.
            let at = subst (λ gs. handed_down g.registry tid (home_answer g a) gs ≡ for_root n c) fs to in
            let from : began (frames_of tid s.stacks) ≡ Some n =
            ap began waits.all ∙ (began_outgoing waits.call waits.below ∙ under_began g given waits.below n stack (roots_under g.registry tid (home_answer g a) c waits.below n at)) in
            let its = thread_root g given s.tables.roots tid (frames_of tid s.stacks) n thread from in
            let on = reaches its.0 in (
              its.1,
              handed g given q k.fits.os tid under.0 (home_answer g a) waits.call.face waits.call.function waits.below under.1 on.0 on.1 comes under.2 n c at,
            ))
            k.owed.state);
      }

  receives_owed : (m : Message) (s : Side) → MessageFits g.registry m → IsAwaited (waits_of s.stacks) m → refusal g s m ≡ None → Kept s → Owed g given n q (receives g m s)
  unfolding receives refusal
  receives_owed (release tid oid face) s fits awaited passed k = record { frames = k.owed.frames; state = k.owed.state }
  receives_owed (request tid oid face function args) s fits awaited passed k =
      let target = unless_passed (is_target g oid face function s.tables.stubs) _ _ passed in
      let free = unless_passed (not (is_busy tid s.stacks)) _ _ target.1 in
      owed_if (function == 0) (on_tables (answers_at_once g tid oid face args) s) (with_unwound tid (serves g oid face function (each_home g args) (frames_of tid s.stacks) s.tables) s)
      (at_once_owed tid oid face args s k.owed) (serves_owed tid oid face function (each_home g args) s free.0 k)
  receives_owed (reply tid face function a) s fits awaited passed k = replied_owed tid face function a s fits.1 awaited k

  receives_kept : (m : Message) (s : Side) → MessageFits g.registry m → IsAwaited (waits_of s.stacks) m → refusal g s m ≡ None → Kept s → Kept (receives g m s)
  receives_kept m s fits awaited passed k =
      record { fits = receives_fits g given most m s fits awaited passed k.fits; rooted = receives_rooted g m s few passed k.rooted; owed = receives_owed m s fits awaited passed k }

  -- ---- a piece

  remembers_kept : (heard : Heard) (s : Side) → IsHeard g.registry heard → Kept s → Kept (remembers heard s)
  remembers_kept heard s is k =
      record {
        fits = heard_fits g most s.tables s.stacks s.incoming (record s.incoming { heard = heard }) is k.fits;
        rooted = k.rooted;
        owed = record { frames = k.owed.frames; state = k.owed.state };
      }

  ends_kept : (why : Cause) (s : Side) → Kept s → Kept (ends_by why s)
  ends_kept why s k = record { fits = ends_fits g given most why s k.fits; rooted = ends_rooted g why s k.rooted; owed = ends_owed g given n q why s k.owed }

  block_ends_kept : (front : ℕ) (bytes : List ℕ) (x : Hearing) → Kept x.side → Kept (block_ends front bytes x).side
  block_ends_kept front [] x k = k
  block_ends_kept front (b ∷ bytes) x k = ends_kept (cause.Broken LeftOver front) x.side k

  abbrev NextKept : Next → Type 0
  NextKept more = (place : ℕ) (bytes : List ℕ) (x : Hearing) → Kept x.side → Kept (more place bytes x).side

  tested_kept : (more : Next) (place next : ℕ) (read : Message × Heard × List ℕ) (why : Option Reason) (x : Hearing) → refusal g x.side read.0 ≡ why
      → IsRead g.registry (waits_of x.side.stacks) read → NextKept more → Kept x.side → Kept (hears_tested g more place next read why x).side
  tested_kept more place next read None x tested is behind k =
      behind next read.2 (gets g read.0 read.1 x)
      (receives_kept read.0 (remembers read.1 x.side) is.fits is.awaited (same_refusal g read.1 read.0 x.side ∙ tested) (remembers_kept read.1 x.side is.heard k))
  tested_kept more place next read (Some why) x tested is behind k = ends_kept (cause.Broken why place) x.side k

  read_kept : (more : Next) (place : ℕ) (bytes : List ℕ) (read : Result (Message × Heard × List ℕ) Fault) (x : Hearing)
      → message_at g.registry (waits_of x.side.stacks) x.side.incoming.heard bytes ≡ read → NextKept more → Kept x.side → Kept (hears_read g more place bytes read x).side
  read_kept more place bytes (Err fault) x at behind k = ends_kept (cause.Broken (reason_of fault) place) x.side k
  read_kept more place bytes (Ok read) x at behind k =
      tested_kept more place (place + (length bytes - length read.2)) read (refusal g x.side read.0) x refl
      (read_is g.registry given.sound (waits_of x.side.stacks) x.side.incoming.heard bytes read k.fits.heard at) behind k

  hears_kept : (count front : ℕ) → NextKept (hears g count front)
  unfolding hears
  hears_kept zero front place bytes x k = block_ends_kept front bytes x k
  hears_kept (suc count) front place bytes x k =
      read_kept (hears g count front) place bytes (message_at g.registry (waits_of x.side.stacks) x.side.incoming.heard bytes) x refl (hears_kept count front) k

  held_kept : (bytes : List ℕ) (s : Side) → Kept s → Kept (holds_bytes bytes s)
  held_kept bytes s k =
      record {
        fits = heard_fits g most s.tables s.stacks s.incoming (record s.incoming { held = bytes }) k.fits.heard k.fits;
        rooted = k.rooted;
        owed = record { frames = k.owed.frames; state = k.owed.state };
      }

  taken_kept : (bytes : List ℕ) (s : Side) → Kept s → Kept (takes_block bytes s)
  taken_kept bytes s k =
      record {
        fits = heard_fits g most s.tables s.stacks s.incoming (record s.incoming { place = s.incoming.place + length bytes; held = [] }) k.fits.heard k.fits;
        rooted = k.rooted;
        owed = record { frames = k.owed.frames; state = k.owed.state };
      }

  kept_if : (c : Bool) (whole part : Hearing) → Kept whole.side → Kept part.side → Kept (if c then whole else part).side
  kept_if true whole part now later = now
  kept_if false whole part now later = later

  part_kept : (bytes : List ℕ) (why : Option Reason) (s : Side) → Kept s → Kept (feeds_part g bytes why s).side
  part_kept bytes (Some why) s k = ends_kept (cause.Broken why s.incoming.place) s k
  part_kept bytes None s k =
      kept_if (block_stands bytes) (feeds_whole g bytes s) (heard_nothing (holds_bytes bytes s))
      (hears_kept (count_said bytes) s.incoming.place (s.incoming.place + 8) (drop 8 bytes) (heard_nothing (takes_block bytes s)) (taken_kept bytes s k))
      (held_kept bytes s k)

  pub feeds_kept : (piece : List ℕ) (s : Side) → Kept s → Kept (feeds g piece s).side
  unfolding feeds
  feeds_kept piece s k = part_kept (s.incoming.held ++ piece) (header_fault (s.incoming.held ++ piece)) s k
