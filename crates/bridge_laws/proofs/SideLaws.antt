-- What frames and objects of a side have is covered: when frames of a thread are put in place, when messages come, roots act, things go, and the bridge ends.
use Rattle.std.proofs.Common.{◌≡◌, ℕ, zero, suc, ◌+◌, ◌≤◌, Bool, true, false, ◌==◌, if◌then◌else◌, List, [], ◌∷◌, ◌++◌, ◌-◌, length, drop, Option, None, Some, Result, Ok, Err, refl, arith}
use Rattle.message_model.specs.Headers.{Heard}
use Rattle.message_model.specs.Messages.{Message, request, release, reply, returned}
use Rattle.message_model.specs.ReadingMessages.{message_at}
use Rattle.message_model.specs.ReadingStreams.{reason_of}
use Rattle.uno_model.specs.Values.{Plain}
use Rattle.urp_model.specs.declared.fault.Fault.{Fault}
use Rattle.urp_model.specs.declared.reason.Reason.{Reason}
use Rattle.urp_model.specs.declared.reason.Reason.TheVariants.{LeftOver}
use Rattle.table_model.specs.Holdings.{Hold}
use Rattle.plan_model.specs.Frames.{Frame, Stack, is_of, frames_of}
use Rattle.bridge_model.specs.Calls.{Unwound, serves}
use Rattle.bridge_model.specs.Ends.{ends_by, runs_out}
use Rattle.bridge_model.specs.Feeding.{block_stands, header_fault, Hearing, breaks, remembers, gets, block_ends, Next, hears_tested, hears_read, hears, heard_nothing, holds_bytes, takes_block, feeds_whole, feeds_part, feeds, count_said}
use Rattle.bridge_model.specs.Handing.{hands_from_peer}
use Rattle.bridge_model.specs.Receiving.{refusal, answers_at_once, requested, below_top, receives, answer_to, asked_kind}
use Rattle.bridge_model.specs.References.{each_home, home_answer}
use Rattle.bridge_model.specs.Settings.{Setting}
use Rattle.bridge_model.specs.Sides.{Side}
use Rattle.bridge_model.specs.Stacks.{stack_with, puts_frames, with_unwound, waits_of}
use Rattle.bridge_model.specs.declared.cause.Cause.{Cause}
use Rattle.bridge_model.specs.declared.cause.Cause.TheVariants as cause
use Rattle.bridge_laws.specs.Counting.{total}
use Rattle.bridge_laws.proofs.ApplyingLaws.{serves_covers}
use Rattle.bridge_laws.proofs.HandingLaws.{frames_have, FramesCover, frames_more, frames_none, hands_from_peer_covers}
use Rattle.bridge_laws.proofs.ObjectLaws.{end_covers}
use Rattle.bridge_laws.proofs.OccurrenceLaws.{Covers, says_covers}

-- ---- words

-- how often stacks have an occurrence
abbrev pub stacks_have : Setting → Hold → List Stack → ℕ
stacks_have g h ss = total (λ s. frames_have g h s.frames) ss

-- what frames and objects have is held
abbrev pub SideCovers : Setting → Hold → Side → Type 0
SideCovers g h s = Covers h (stacks_have g h s.stacks) s.tables

-- ---- the frames of one thread

-- how often the stacks of other threads have an occurrence
unfoldable pub apart : Setting → Hold → List ℕ → List Stack → ℕ
apart g h tid [] = 0
apart g h tid (s ∷ ss) = if is_of tid s then stacks_have g h ss else frames_have g h s.frames + apart g h tid ss

pub stacks_more : (g : Setting) (h : Hold) (s : Stack) (ss : List Stack) → stacks_have g h (s ∷ ss) ≡ frames_have g h s.frames + stacks_have g h ss
unfolding total
stacks_more g h s ss = refl

pub stacks_none : (g : Setting) (h : Hold) → stacks_have g h [] ≡ 0
unfolding total
stacks_none g h = refl

found_step : (g : Setting) (h : Hold) (b : Bool) (s : Stack) (ss : List Stack) (fs : List Frame) (others : ℕ) → stacks_have g h ss ≡ others + frames_have g h fs
    → stacks_have g h (s ∷ ss) ≡ (if b then stacks_have g h ss else frames_have g h s.frames + others) + frames_have g h (if b then s.frames else fs)
found_step g h true s ss fs others rest = let more = stacks_more g h s ss in omega arith
found_step g h false s ss fs others rest = let more = stacks_more g h s ss in omega arith

-- all stacks are those of other threads, and that of a thread
stacks_found : (g : Setting) (h : Hold) (tid : List ℕ) (ss : List Stack) → stacks_have g h ss ≡ apart g h tid ss + frames_have g h (frames_of tid ss)
unfolding apart frames_of
stacks_found g h tid [] = let left = stacks_none g h in let right = frames_none g h in omega arith
stacks_found g h tid (s ∷ ss) = found_step g h (is_of tid s) s ss (frames_of tid ss) (apart g h tid ss) (stacks_found g h tid ss)

stack_with_has : (g : Setting) (h : Hold) (tid : List ℕ) (fs : List Frame) (ss : List Stack) → stacks_have g h (stack_with tid fs ss) ≡ stacks_have g h ss + frames_have g h fs
stack_with_has g h tid [] ss = let nothing = frames_none g h in omega arith
stack_with_has g h tid (f ∷ fs) ss = let more = stacks_more g h (record { tid = tid; frames = f ∷ fs }) ss in omega arith

put_step : (g : Setting) (h : Hold) (b : Bool) (tid : List ℕ) (fs : List Frame) (s : Stack) (new ss : List Stack) (others : ℕ) → stacks_have g h new ≡ others + frames_have g h fs
    → stacks_have g h (if b then stack_with tid fs ss else s ∷ new) ≡ (if b then stacks_have g h ss else frames_have g h s.frames + others) + frames_have g h fs
put_step g h true tid fs s new ss others rest = stack_with_has g h tid fs ss
put_step g h false tid fs s new ss others rest = let more = stacks_more g h s new in omega arith

-- where other frames are put in the place of those of a thread
stacks_put : (g : Setting) (h : Hold) (tid : List ℕ) (fs : List Frame) (ss : List Stack) → stacks_have g h (puts_frames tid fs ss) ≡ apart g h tid ss + frames_have g h fs
unfolding apart puts_frames
stacks_put g h tid fs [] = let more = stack_with_has g h tid fs [] in let nothing = stacks_none g h in omega arith
stacks_put g h tid fs (s ∷ ss) = put_step g h (is_of tid s) tid fs s (puts_frames tid fs ss) ss (apart g h tid ss) (stacks_put g h tid fs ss)

-- what a thread's frames have can be taken out, and put back
pub thread_covers : (g : Setting) (tid : List ℕ) (h : Hold) (s : Side) → SideCovers g h s
    → Covers h (apart g h tid s.stacks + frames_have g h (frames_of tid s.stacks)) s.tables
thread_covers g tid h s fine = let all = stacks_found g h tid s.stacks in omega arith

pub unwound_covers : (g : Setting) (tid : List ℕ) (u : Unwound) (h : Hold) (s : Side) → FramesCover g h (apart g h tid s.stacks) u → SideCovers g h (with_unwound tid u s)
unwound_covers g tid u h s fine = let all = stacks_put g h tid u.frames s.stacks in omega arith

-- ---- the end

pub ends_by_covers : (g : Setting) (why : Cause) (h : Hold) (s : Side) → SideCovers g h s → SideCovers g h (ends_by why s)
unfolding ends_by
ends_by_covers g why h s fine = let nothing = stacks_none g h in let left = end_covers why h (stacks_have g h s.stacks) s.tables fine in omega arith

pub runs_out_covers : (g : Setting) (why : Option Cause) (h : Hold) (s : Side) → SideCovers g h s → SideCovers g h (runs_out why s)
unfolding runs_out
runs_out_covers g None h s fine = ends_by_covers g cause.NoMemory h s fine
runs_out_covers g (Some why) h s fine = fine

-- ---- messages

requested_by : (g : Setting) (b : Bool) (h : Hold) (at_once later : Side) → SideCovers g h at_once → SideCovers g h later → SideCovers g h (if b then at_once else later)
requested_by g true h at_once later now behind = now
requested_by g false h at_once later now behind = behind

requested_covers : (g : Setting) (tid oid face : List ℕ) (function : ℕ) (args : List Plain) (h : Hold) (s : Side)
    → SideCovers g h s → SideCovers g h (requested g tid oid face function args s)
requested_covers g tid oid face function args h s fine =
    requested_by g (function == 0) h
    (record s { tables = answers_at_once g tid oid face args s.tables })
    (with_unwound tid (serves g oid face function (each_home g args) (frames_of tid s.stacks) s.tables) s)
    (says_covers g (reply tid face 0 (returned (answer_to g oid (asked_kind args) s.tables.objects) [])) h (stacks_have g h s.stacks) s.tables fine)
    (unwound_covers g tid (serves g oid face function (each_home g args) (frames_of tid s.stacks) s.tables) h s
    (serves_covers g oid face function (each_home g args) (frames_of tid s.stacks) h (apart g h tid s.stacks) s.tables (thread_covers g tid h s fine)))

pub below_has : (g : Setting) (h : Hold) (fs : List Frame) → frames_have g h (below_top fs) ≤ frames_have g h fs
below_has g h [] = omega arith
below_has g h (f ∷ fs) = let more = frames_more g h f fs in omega arith

pub receives_covers : (g : Setting) (m : Message) (h : Hold) (s : Side) → SideCovers g h s → SideCovers g h (receives g m s)
unfolding receives
receives_covers g (release tid oid face) h s fine = fine
receives_covers g (request tid oid face function args) h s fine = requested_covers g tid oid face function args h s fine
receives_covers g (reply tid face function a) h s fine =
    let thread = thread_covers g tid h s fine in
    let below = below_has g h (frames_of tid s.stacks) in
    unwound_covers g tid (hands_from_peer g tid (home_answer g a) (below_top (frames_of tid s.stacks)) s.tables) h s
    (hands_from_peer_covers g tid (home_answer g a) (below_top (frames_of tid s.stacks)) h (apart g h tid s.stacks) s.tables (omega arith))

-- ---- bytes that come in

breaks_covers : (g : Setting) (why : Reason) (place : ℕ) (h : Hold) (x : Hearing) → SideCovers g h x.side → SideCovers g h (breaks why place x).side
breaks_covers g why place h x fine = ends_by_covers g (cause.Broken why place) h x.side fine

block_ends_covers : (g : Setting) (front : ℕ) (bytes : List ℕ) (h : Hold) (x : Hearing) → SideCovers g h x.side → SideCovers g h (block_ends front bytes x).side
block_ends_covers g front [] h x fine = fine
block_ends_covers g front (b ∷ bytes) h x fine = breaks_covers g LeftOver front h x fine

-- what is done behind a message keeps all covered
abbrev pub NextCovers : Setting → Hold → Next → Type 0
NextCovers g h more = (place : ℕ) (bytes : List ℕ) (x : Hearing) → SideCovers g h x.side → SideCovers g h (more place bytes x).side

tested_covers : (g : Setting) (more : Next) (place next : ℕ) (read : Message × Heard × List ℕ) (why : Option Reason) (h : Hold) (x : Hearing)
    → NextCovers g h more → SideCovers g h x.side → SideCovers g h (hears_tested g more place next read why x).side
tested_covers g more place next read None h x more_fine fine =
    more_fine next read.2 (gets g read.0 read.1 x) (receives_covers g read.0 h (remembers read.1 x.side) fine)
tested_covers g more place next read (Some why) h x more_fine fine = breaks_covers g why place h x fine

read_covers : (g : Setting) (more : Next) (place : ℕ) (bytes : List ℕ) (read : Result (Message × Heard × List ℕ) Fault) (h : Hold) (x : Hearing)
    → NextCovers g h more → SideCovers g h x.side → SideCovers g h (hears_read g more place bytes read x).side
read_covers g more place bytes (Err fault) h x more_fine fine = breaks_covers g (reason_of fault) place h x fine
read_covers g more place bytes (Ok read) h x more_fine fine =
    tested_covers g more place (place + (length bytes - length read.2)) read (refusal g x.side read.0) h x more_fine fine

hears_covers : (g : Setting) (n front : ℕ) (h : Hold) → NextCovers g h (hears g n front)
unfolding hears
hears_covers g zero front h place bytes x fine = block_ends_covers g front bytes h x fine
hears_covers g (suc n) front h place bytes x fine =
    read_covers g (hears g n front) place bytes (message_at g.registry (waits_of x.side.stacks) x.side.incoming.heard bytes) h x (hears_covers g n front h) fine

fed_by : (g : Setting) (b : Bool) (h : Hold) (whole part : Hearing) → SideCovers g h whole.side → SideCovers g h part.side → SideCovers g h (if b then whole else part).side
fed_by g true h whole part now later = now
fed_by g false h whole part now later = later

part_covers : (g : Setting) (bytes : List ℕ) (why : Option Reason) (h : Hold) (s : Side) → SideCovers g h s → SideCovers g h (feeds_part g bytes why s).side
part_covers g bytes (Some why) h s fine = breaks_covers g why s.incoming.place h (heard_nothing s) fine
part_covers g bytes None h s fine =
    fed_by g (block_stands bytes) h (feeds_whole g bytes s) (heard_nothing (holds_bytes bytes s))
    (hears_covers g (count_said bytes) s.incoming.place h (s.incoming.place + 8) (drop 8 bytes) (heard_nothing (takes_block bytes s)) fine)
    fine

pub feeds_covers : (g : Setting) (piece : List ℕ) (h : Hold) (s : Side) → SideCovers g h s → SideCovers g h (feeds g piece s).side
unfolding feeds
feeds_covers g piece h s fine = part_covers g (s.incoming.held ++ piece) (header_fault (s.incoming.held ++ piece)) h s fine
