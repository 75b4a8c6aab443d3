-- What each message of a piece does to replies, roots and stacks is what its fate says.
use Rattle.std.proofs.Common.{◌≡◌, refl, sym, ap, subst, ◌∙◌, ℕ, zero, suc, ◌+◌, inl, inr, Bool, true, false, ◌==◌, eqb-true, List, [], ◌∷◌, ◌++◌, drop, Option, None, Some, Result, Ok, Err, if◌then◌else◌}
use Rattle.std.proofs.lemmas.Bool.{true≢false}
use Rattle.std.proofs.lemmas.List.{append-nil, append_assoc}
use Rattle.message_model.specs.Headers.{Heard}
use Rattle.message_model.specs.Messages.{Message, Answer, returned, request, release, reply}
use Rattle.message_model.specs.ReadingMessages.{message_at}
use Rattle.uno_model.specs.Values.{Plain}
use Rattle.urp_model.specs.declared.fault.Fault.{Fault}
use Rattle.urp_model.specs.declared.reason.Reason.{Reason}
use Rattle.plan_model.specs.Frames.{Frame, body, Stack, frames_of}
use Rattle.bridge_model.specs.Calls.{first_body, serves}
use Rattle.bridge_model.specs.Feeding.{Hearing, Next, gets, hears_tested, hears_read, hears, feeds_part, feeds_whole, feeds, block_ends, block_stands, header_fault, heard_nothing, takes_block, holds_bytes, count_said, remembers}
use Rattle.bridge_model.specs.Ends.{ends_by}
use Rattle.bridge_model.specs.declared.cause.Cause.{Cause}
use Rattle.bridge_model.specs.declared.cause.Cause.TheVariants as cause
use Rattle.bridge_model.specs.Handing.{hands_from_peer}
use Rattle.bridge_model.specs.Receiving.{refusal, answers_at_once, answer_to, asked_kind, below_top, receives}
use Rattle.bridge_model.specs.References.{says, each_home, home_answer}
use Rattle.bridge_model.specs.Settings.{Setting}
use Rattle.bridge_model.specs.Sides.{Tables, Side, on_tables}
use Rattle.bridge_model.specs.Stacks.{puts_frames, with_unwound, waits_of}
use Rattle.bridge_laws.proofs.ThreadStackLaws.{apart_put}
use Rattle.bridge_laws.specs.Grounded.{AreApart}
use Rattle.bridge_laws.specs.Hearings.{IsOnTop, Leaves, IsReceived, Hears}
use Rattle.bridge_laws.specs.Hearings as h
use Rattle.bridge_laws.specs.Outcomes.{handed_down, fate_of_message, replies, replies_of_message, FramesBy}
use Rattle.bridge_laws.proofs.ApplyingFates.{still_serves}
use Rattle.bridge_laws.proofs.HandingFates.{from_peer_given}
use Rattle.bridge_laws.proofs.ReplyLaws.{IsMet, read_met, waits_on_top}
use Rattle.bridge_laws.proofs.NoReplyLaws.{says_replies}

-- ---- one message

release_received : (g : Setting) (tid oid face : List ℕ) (s : Side) → IsReceived g s.tables s.stacks (release tid oid face) (receives g (release tid oid face) s)
unfolding receives fate_of_message replies_of_message
release_received g tid oid face s = record { said = sym (append-nil (replies s.tables.unsaid)); roots = refl; stacks = refl }

at_once_said : (g : Setting) (tid oid face : List ℕ) (args : List Plain) (t : Tables)
    → replies (answers_at_once g tid oid face args t).unsaid ≡ replies t.unsaid ++ reply tid face 0 (returned (answer_to g oid (asked_kind args) t.objects) []) ∷ []
at_once_said g tid oid face args t = says_replies g (reply tid face 0 (returned (answer_to g oid (asked_kind args) t.objects) [])) t

at_once_stays : (g : Setting) (tid oid face : List ℕ) (args : List Plain) (t : Tables) → (answers_at_once g tid oid face args t).roots ≡ t.roots
unfolding says
at_once_stays g tid oid face args t = refl

serves_top : (g : Setting) (oid face : List ℕ) (function : ℕ) (args : List Plain) (fs : List Frame) (t : Tables)
    → (serves g oid face function args fs t).frames ≡ body (first_body g true oid face function args t) ∷ fs
unfolding serves
serves_top g oid face function args fs t = refl

request_by : (g : Setting) (tid oid face : List ℕ) (function : ℕ) (args : List Plain) (s : Side) (b : Bool) → (function == 0) ≡ b
    → IsReceived g s.tables s.stacks (request tid oid face function args)
    (if b then on_tables (answers_at_once g tid oid face args) s else with_unwound tid (serves g oid face function (each_home g args) (frames_of tid s.stacks) s.tables) s)
unfolding fate_of_message replies_of_message
request_by g tid oid face function args s true is =
    record {
      said = at_once_said g tid oid face args s.tables ∙ ap (λ c. replies s.tables.unsaid ++ (if c then reply tid face 0 (returned (answer_to g oid (asked_kind args) s.tables.objects) []) ∷ [] else [])) (sym is);
      roots = at_once_stays g tid oid face args s.tables;
      stacks = inl (eqb-true function 0 is, refl);
    }
request_by g tid oid face function args s false is =
    let fs = frames_of tid s.stacks in
    let u = serves g oid face function (each_home g args) fs s.tables in
    let still = still_serves g oid face function (each_home g args) fs s.tables in
    let on = serves_top g oid face function (each_home g args) fs s.tables in
    record {
      said = still.mute ∙ (sym (append-nil (replies s.tables.unsaid)) ∙ ap (λ c. replies s.tables.unsaid ++ (if c then reply tid face 0 (returned (answer_to g oid (asked_kind args) s.tables.objects) []) ∷ [] else [])) (sym is));
      roots = still.stay;
      stacks = inr (λ at_0. true≢false (sym (ap (λ n. n == 0) at_0) ∙ is), ap (λ gs. puts_frames tid gs s.stacks) on);
    }

reply_received : (g : Setting) (tid face : List ℕ) (function : ℕ) (a : Answer) (s : Side) → IsOnTop tid face function s.stacks
    → IsReceived g s.tables s.stacks (reply tid face function a) (receives g (reply tid face function a) s)
unfolding receives fate_of_message replies_of_message
reply_received g tid face function a s on =
    let fs = below_top (frames_of tid s.stacks) in
    let given = from_peer_given g tid (home_answer g a) fs s.tables in
    let below : fs ≡ on.below = ap below_top on.top in
    record {
      said = given.said;
      roots = given.roots;
      stacks = (
        on,
        (hands_from_peer g tid (home_answer g a) fs s.tables).frames,
        subst (λ gs. FramesBy g (hands_from_peer g tid (home_answer g a) fs s.tables).tables.objects (handed_down g.registry tid (home_answer g a) gs) (hands_from_peer g tid (home_answer g a) fs s.tables).frames) below given.left,
        refl,
      );
    }

pub received : (g : Setting) (m : Message) (s : Side) → AreApart s.stacks → IsMet (waits_of s.stacks) m → IsReceived g s.tables s.stacks m (receives g m s)
unfolding receives
received g (release tid oid face) s apart met = release_received g tid oid face s
received g (request tid oid face function args) s apart met = request_by g tid oid face function args s (function == 0) refl
received g (reply tid face function a) s apart met = reply_received g tid face function a s (waits_on_top tid face function s.stacks apart met)

apart_if : (b : Bool) (x y : Side) → AreApart x.stacks → AreApart y.stacks → AreApart (if b then x else y).stacks
apart_if true x y p q = p
apart_if false x y p q = q

pub receives_apart : (g : Setting) (m : Message) (s : Side) → AreApart s.stacks → AreApart (receives g m s).stacks
unfolding receives
receives_apart g (release tid oid face) s apart = apart
receives_apart g (request tid oid face function args) s apart = apart_if (function == 0) (on_tables (answers_at_once g tid oid face args) s) _ apart (apart_put tid _ s.stacks apart)
receives_apart g (reply tid face function a) s apart = apart_put tid _ s.stacks apart

-- ---- messages one after the other

-- what was heard more
pub record HeardMore (g : Setting) (x y : Hearing) : Type 0 where
  pub more : List Message
  pub got : y.got ≡ x.got ++ more
  pub answers : List Message
  pub chain : Hears g x.side.tables x.side.stacks more answers y.side
  pub apart : AreApart y.side.stacks

nothing_more : (g : Setting) (x : Hearing) → AreApart x.side.stacks → HeardMore g x x
nothing_more g x apart = record { more = []; got = sym (append-nil x.got); answers = []; chain = h.rests x.side; apart = apart }

pub nothing_apart : (why : Cause) (s : Side) → AreApart (ends_by why s).stacks
unfolding AreApart ends_by
nothing_apart why s = tt

broken : (g : Setting) (x : Hearing) (why : Reason) (place : ℕ) → HeardMore g x (record { side = ends_by (cause.Broken why place) x.side; got = x.got })
broken g x why place = record { more = []; got = sym (append-nil x.got); answers = []; chain = h.breaks x.side why place; apart = nothing_apart _ x.side }

abbrev HearsOn : Setting → Next → Type 0
HearsOn g more = (place : ℕ) (bytes : List ℕ) (x : Hearing) → AreApart x.side.stacks → HeardMore g x (more place bytes x)

one_more : (g : Setting) (m : Message) (heard : Heard) (x y : Hearing) → IsReceived g x.side.tables x.side.stacks m (receives g m (remembers heard x.side)) → HeardMore g (gets g m heard x) y → HeardMore g x y
one_more g m heard x y is later =
    record {
      more = m ∷ later.more;
      got = later.got ∙ append_assoc x.got (m ∷ []) later.more;
      answers = replies_of_message g x.side.tables x.side.stacks m ++ later.answers;
      chain = h.hears x.side.tables x.side.stacks m (receives g m (remembers heard x.side)) later.more later.answers y.side is later.chain;
      apart = later.apart;
    }

tested : (g : Setting) (more : Next) → HearsOn g more → (place next : ℕ) (read : Message × Heard × List ℕ) (why : Option Reason) (x : Hearing) → AreApart x.side.stacks → IsMet (waits_of x.side.stacks) read.0
    → HeardMore g x (hears_tested g more place next read why x)
tested g more on place next read None x apart met =
    one_more g read.0 read.1 x _ (received g read.0 (remembers read.1 x.side) apart met) (on next read.2 (gets g read.0 read.1 x) (receives_apart g read.0 (remembers read.1 x.side) apart))
tested g more on place next read (Some why) x apart met = broken g x why place

read_on : (g : Setting) (more : Next) → HearsOn g more → (place : ℕ) (bytes : List ℕ) (r : Result (Message × Heard × List ℕ) Fault) (x : Hearing) → AreApart x.side.stacks
    → message_at g.registry (waits_of x.side.stacks) x.side.incoming.heard bytes ≡ r → HeardMore g x (hears_read g more place bytes r x)
read_on g more on place bytes (Err fault) x apart is = broken g x _ place
read_on g more on place bytes (Ok read) x apart is =
    tested g more on place _ read (refusal g x.side read.0) x apart (read_met g.registry (waits_of x.side.stacks) x.side.incoming.heard bytes read is)

ends_block : (g : Setting) (front : ℕ) (bytes : List ℕ) (x : Hearing) → AreApart x.side.stacks → HeardMore g x (block_ends front bytes x)
ends_block g front [] x apart = nothing_more g x apart
ends_block g front (b ∷ bytes) x apart = broken g x _ front

hears_on : (g : Setting) (n front : ℕ) → HearsOn g (hears g n front)
unfolding hears
hears_on g zero front place bytes x apart = ends_block g front bytes x apart
hears_on g (suc n) front place bytes x apart =
    read_on g (hears g n front) (hears_on g n front) place bytes (message_at g.registry (waits_of x.side.stacks) x.side.incoming.heard bytes) x apart refl

-- ---- a piece

-- what a piece brings, from the side before it
pub record HeardOf (g : Setting) (s : Side) (y : Hearing) : Type 0 where
  pub answers : List Message
  pub chain : Hears g s.tables s.stacks y.got answers y.side
  pub apart : AreApart y.side.stacks

of_whole : (g : Setting) (s z : Side) (y : Hearing) → z.tables ≡ s.tables → z.stacks ≡ s.stacks → HeardMore g (heard_nothing z) y → HeardOf g s y
of_whole g s z y same at is =
    record {
      answers = is.answers;
      chain = subst (λ (t : Tables). Hears g t s.stacks y.got is.answers y.side) same
          (subst (λ (ss : List Stack). Hears g z.tables ss y.got is.answers y.side) at (subst (λ ms. Hears g z.tables z.stacks ms is.answers y.side) (sym is.got) is.chain));
      apart = is.apart;
    }

part_on : (g : Setting) (bytes : List ℕ) (why : Option Reason) (s : Side) → AreApart s.stacks → HeardOf g s (feeds_part g bytes why s)
part_on g bytes (Some why) s apart = of_whole g s s _ refl refl (broken g (heard_nothing s) why s.incoming.place)
part_on g bytes None s apart = either (block_stands bytes)
  where
    either : (b : Bool) → HeardOf g s (if b then feeds_whole g bytes s else heard_nothing (holds_bytes bytes s))
    either true =
        of_whole g s (takes_block bytes s) _ refl refl (hears_on g (count_said bytes) s.incoming.place (s.incoming.place + 8) (drop 8 bytes) (heard_nothing (takes_block bytes s)) apart)
    either false = of_whole g s (holds_bytes bytes s) _ refl refl (nothing_more g (heard_nothing (holds_bytes bytes s)) apart)

pub feeds_on : (g : Setting) (piece : List ℕ) (s : Side) → AreApart s.stacks → HeardOf g s (feeds g piece s)
unfolding feeds
feeds_on g piece s apart = part_on g (s.incoming.held ++ piece) (header_fault (s.incoming.held ++ piece)) s apart
