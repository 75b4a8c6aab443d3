-- A side in which all that is held lives: messages that come, and the end of the bridge, keep it.
use Rattle.std.proofs.Common.{◌≡◌, ℕ, zero, suc, ◌+◌, ◌-◌, ◌≤◌, Bool, true, false, not, ◌||◌, ◌==◌, if◌then◌else◌, List, [], ◌∷◌, ◌++◌, length, drop, Option, None, Some, Result, Ok, Err, refl, ◌∙◌, arith}
use Rattle.message_model.specs.Headers.{Heard}
use Rattle.message_model.specs.Messages.{Message, request, release, reply, returned}
use Rattle.message_model.specs.ReadingMessages.{message_at}
use Rattle.message_model.specs.ReadingStreams.{reason_of}
use Rattle.uno_model.specs.Kinds.{Kind}
use Rattle.uno_model.specs.Values.{Plain, refs}
use Rattle.urp_model.specs.declared.fault.Fault.{Fault}
use Rattle.urp_model.specs.declared.reason.Reason.{Reason}
use Rattle.urp_model.specs.declared.reason.Reason.TheVariants.{LeftOver}
use Rattle.table_model.specs.Pair.{pair}
use Rattle.table_model.specs.Stubs.{released_one}
use Rattle.plan_model.specs.Frames.{Frame, Stack, is_of, frames_of}
use Rattle.plan_model.specs.Plans.{exported, first_objects}
use Rattle.bridge_model.specs.Calls.{Unwound, serves}
use Rattle.bridge_model.specs.Ends.{ends_by, runs_out}
use Rattle.bridge_model.specs.Feeding.{block_stands, header_fault, Hearing, breaks, remembers, gets, block_ends, Next, hears_tested, hears_read, hears, heard_nothing, holds_bytes, takes_block, feeds_whole, feeds_part, feeds, count_said}
use Rattle.bridge_model.specs.Handing.{hands_from_peer}
use Rattle.bridge_model.specs.Objects.{name_answer, object_answer}
use Rattle.bridge_model.specs.Receiving.{is_target, refs_refusal, refusal, answers_at_once, requested, below_top, receives, answer_to, asked_kind}
use Rattle.bridge_model.specs.References.{each_home, home_answer, refs_of_values, refs_of_answer}
use Rattle.bridge_model.specs.Settings.{Setting, is_own}
use Rattle.bridge_model.specs.Sides.{Tables, Side}
use Rattle.bridge_model.specs.Stacks.{stack_with, puts_frames, with_unwound, has_stack, is_busy, waits_of}
use Rattle.bridge_model.specs.declared.cause.Cause.{Cause}
use Rattle.bridge_model.specs.declared.cause.Cause.TheVariants as cause
use Rattle.bridge_laws.specs.Counting.{total}
use Rattle.bridge_laws.proofs.HomeLaws.{each_home_counts, home_answer_counts, unless_passed, passed_refs, target_lives}
use Rattle.bridge_laws.proofs.IdentityLaws.{object_answer_lives, number_answer_lives}
use Rattle.bridge_laws.proofs.LivingEffectLaws.{SomeLiving, single_answer}
use Rattle.bridge_laws.proofs.LivingFrameLaws.{frames_untold, Living, none_told, serves_lives, hands_from_peer_lives}
use Rattle.bridge_laws.proofs.LivingTableLaws.{AliveIn, with_sent, says_alive, end_alive}
use Rattle.bridge_laws.proofs.StrayLaws.{strays, sent_less}

-- ---- words

abbrev pub first_count : Setting → ℕ
first_count g = length (first_objects g.plan)

abbrev pub stacks_untold : Setting → List Stack → ℕ
stacks_untold g ss = total (λ s. frames_untold g s.frames) ss

-- all that is held lives, whatever it is by then, and frames tell their references
pub record SideLives (g : Setting) (t : Tables) (ss : List Stack) : Type 0 where
  pub live : List ℕ → Bool
  pub alive : AliveIn g (first_count g) live t
  pub told : stacks_untold g ss ≡ 0

abbrev pub LivesIn : Setting → Side → Type 0
LivesIn g s = SideLives g s.tables s.stacks

-- ---- the frames of one thread

stacks_more : (g : Setting) (s : Stack) (ss : List Stack) → stacks_untold g (s ∷ ss) ≡ frames_untold g s.frames + stacks_untold g ss
unfolding total
stacks_more g s ss = refl

pub stacks_none : (g : Setting) → stacks_untold g [] ≡ 0
unfolding total
stacks_none g = refl

found_step : (g : Setting) (b : Bool) (s : Stack) (ss : List Stack) (fs : List Frame) → frames_untold g fs ≤ stacks_untold g ss
    → frames_untold g (if b then s.frames else fs) ≤ stacks_untold g (s ∷ ss)
found_step g true s ss fs rest = let all = stacks_more g s ss in omega arith
found_step g false s ss fs rest = let all = stacks_more g s ss in omega arith

pub thread_untold : (g : Setting) (tid : List ℕ) (ss : List Stack) → frames_untold g (frames_of tid ss) ≤ stacks_untold g ss
unfolding frames_of
thread_untold g tid [] = let none = none_told g in omega arith
thread_untold g tid (s ∷ ss) = found_step g (is_of tid s) s ss (frames_of tid ss) (thread_untold g tid ss)

with_untold : (g : Setting) (tid : List ℕ) (fs : List Frame) (ss : List Stack) → stacks_untold g (stack_with tid fs ss) ≤ stacks_untold g ss + frames_untold g fs
with_untold g tid [] ss = omega arith
with_untold g tid (f ∷ fs) ss = let all = stacks_more g (record { tid = tid; frames = f ∷ fs }) ss in omega arith

put_step : (g : Setting) (b : Bool) (tid : List ℕ) (fs : List Frame) (s : Stack) (new ss : List Stack) → stacks_untold g new ≤ stacks_untold g ss + frames_untold g fs
    → stacks_untold g (if b then stack_with tid fs ss else s ∷ new) ≤ stacks_untold g (s ∷ ss) + frames_untold g fs
put_step g true tid fs s new ss rest = let all = stacks_more g s ss in let here = with_untold g tid fs ss in omega arith
put_step g false tid fs s new ss rest = let all = stacks_more g s ss in let after = stacks_more g s new in omega arith

put_untold : (g : Setting) (tid : List ℕ) (fs : List Frame) (ss : List Stack) → stacks_untold g (puts_frames tid fs ss) ≤ stacks_untold g ss + frames_untold g fs
unfolding puts_frames
put_untold g tid fs [] = with_untold g tid fs []
put_untold g tid fs (s ∷ ss) = put_step g (is_of tid s) tid fs s (puts_frames tid fs ss) ss (put_untold g tid fs ss)

-- frames whose tables live are put in place
pub unwound_lives : (g : Setting) (tid : List ℕ) (u : Unwound) (s : Side) → stacks_untold g s.stacks ≡ 0 → SomeLiving g (first_count g) u → LivesIn g (with_unwound tid u s)
unwound_lives g tid u s told some =
    let put = put_untold g tid u.frames s.stacks in let frames = some.living.1 in
    record { live = some.live; alive = some.living.0; told = omega arith }

pub living_lives : (g : Setting) (live : List ℕ → Bool) (tid : List ℕ) (u : Unwound) (s : Side) → stacks_untold g s.stacks ≡ 0 → Living g (first_count g) live u
    → LivesIn g (with_unwound tid u s)
living_lives g live tid u s told living = unwound_lives g tid u s told (record { live = live; living = living })

-- ---- the end

pub ends_by_lives : (g : Setting) (why : Cause) (s : Side) → LivesIn g s → LivesIn g (ends_by why s)
unfolding ends_by
ends_by_lives g why s fine = record { live = fine.live; alive = end_alive g (first_count g) fine.live why s.tables fine.alive; told = stacks_none g }

pub runs_out_lives : (g : Setting) (why : Option Cause) (s : Side) → LivesIn g s → LivesIn g (runs_out why s)
unfolding runs_out ends_by
runs_out_lives g None s fine = let live = ends_by_lives g cause.NoMemory s fine in record { live = live.live; alive = live.alive; told = live.told }
runs_out_lives g (Some why) s fine = record { live = fine.live; alive = fine.alive; told = fine.told }

-- ---- requests

name_lives : (g : Setting) (m : ℕ) (live : List ℕ → Bool) (name : List ℕ) (k : Kind) (t : Tables) → AliveIn g m live t
    → total (strays g live) (refs (name_answer g name k t.objects)) ≡ 0
unfolding name_answer
name_lives g m live name k t alive = number_answer_lives g m live k (exported g.plan name) t alive

answer_by : (g : Setting) (m : ℕ) (live : List ℕ → Bool) (b : Bool) (oid : List ℕ) (k : Kind) (t : Tables) → is_own g oid ≡ b → AliveIn g m live t
    → total (strays g live) (refs (if b then object_answer g oid k t.objects else name_answer g oid k t.objects)) ≡ 0
answer_by g m live true oid k t given alive = object_answer_lives g m live oid k t given alive
answer_by g m live false oid k t given alive = name_lives g m live oid k t alive

at_once_alive : (g : Setting) (m : ℕ) (live : List ℕ → Bool) (tid oid face : List ℕ) (args : List Plain) (t : Tables) → AliveIn g m live t
    → AliveIn g m live (answers_at_once g tid oid face args t)
at_once_alive g m live tid oid face args t alive =
    says_alive g m live (reply tid face 0 (returned (answer_to g oid (asked_kind args) t.objects) [])) t
    (single_answer (strays g live) (answer_to g oid (asked_kind args) t.objects) (answer_by g m live (is_own g oid) oid (asked_kind args) t refl alive))
    alive

requested_by : (g : Setting) (b : Bool) (at_once later : Side) → LivesIn g at_once → (b ≡ false → LivesIn g later) → LivesIn g (if b then at_once else later)
requested_by g true at_once later now behind = now
requested_by g false at_once later now behind = behind refl

requested_lives : (g : Setting) (tid oid face : List ℕ) (function : ℕ) (args : List Plain) (s : Side) → is_target g oid face function s.tables.stubs ≡ true
    → refs_refusal g s.tables (refs_of_values args) ≡ None → LivesIn g s → LivesIn g (requested g tid oid face function args s)
requested_lives g tid oid face function args s target passed fine =
    let told = thread_untold g tid s.stacks in let none = fine.told in
    let home = each_home_counts (strays g fine.live) g args in
    let live = passed_refs g (first_count g) fine.live (refs_of_values args) s.tables fine.alive passed in
    requested_by g (function == 0)
    (record s { tables = answers_at_once g tid oid face args s.tables })
    (with_unwound tid (serves g oid face function (each_home g args) (frames_of tid s.stacks) s.tables) s)
    (record { live = fine.live; alive = at_once_alive g (first_count g) fine.live tid oid face args s.tables fine.alive; told = fine.told })
    (λ other. living_lives g fine.live tid (serves g oid face function (each_home g args) (frames_of tid s.stacks) s.tables) s fine.told
    (serves_lives g (first_count g) fine.live oid face function (each_home g args) (frames_of tid s.stacks) s.tables
    (target_lives g (first_count g) fine.live oid face function s.tables fine.alive other target) (omega arith) (omega arith) fine.alive))

-- ---- messages

below_untold : (g : Setting) (fs : List Frame) → frames_untold g (below_top fs) ≤ frames_untold g fs
unfolding total
below_untold g [] = omega arith
below_untold g (f ∷ fs) = omega arith

pub receives_lives : (g : Setting) (msg : Message) (s : Side) → refusal g s msg ≡ None → LivesIn g s → LivesIn g (receives g msg s)
unfolding receives refusal
receives_lives g (release tid oid face) s passed fine =
    record {
      live = fine.live;
      alive = with_sent (released_one (pair oid face) s.tables.stubs) fine.alive (sent_less g fine.live (pair oid face) s.tables.stubs fine.alive.sent);
      told = fine.told;
    }
receives_lives g (request tid oid face function args) s passed fine =
    let target = unless_passed (is_target g oid face function s.tables.stubs) _ _ passed in
    let free = unless_passed (not (is_busy tid s.stacks)) _ _ target.1 in
    let known = unless_passed (not (is_own g tid) || has_stack tid s.stacks) _ _ free.1 in
    requested_lives g tid oid face function args s target.0 known.1 fine
receives_lives g (reply tid face function a) s passed fine =
    let told = thread_untold g tid s.stacks in let none = fine.told in let below = below_untold g (frames_of tid s.stacks) in
    let home = home_answer_counts (strays g fine.live) g a in
    let live = passed_refs g (first_count g) fine.live (refs_of_answer a) s.tables fine.alive passed in
    living_lives g fine.live tid (hands_from_peer g tid (home_answer g a) (below_top (frames_of tid s.stacks)) s.tables) s fine.told
    (hands_from_peer_lives g (first_count g) fine.live tid (home_answer g a) (below_top (frames_of tid s.stacks)) s.tables (omega arith) (omega arith) fine.alive)

-- what is remembered of messages changes no test
remembered : (g : Setting) (heard : Heard) (msg : Message) (s : Side) → refusal g (remembers heard s) msg ≡ refusal g s msg
unfolding refusal
remembered g heard (release tid oid face) s = refl
remembered g heard (request tid oid face function args) s = refl
remembered g heard (reply tid face function a) s = refl

-- ---- bytes that come in

breaks_lives : (g : Setting) (why : Reason) (place : ℕ) (x : Hearing) → LivesIn g x.side → LivesIn g (breaks why place x).side
breaks_lives g why place x fine = ends_by_lives g (cause.Broken why place) x.side fine

block_ends_lives : (g : Setting) (front : ℕ) (bytes : List ℕ) (x : Hearing) → LivesIn g x.side → LivesIn g (block_ends front bytes x).side
block_ends_lives g front [] x fine = fine
block_ends_lives g front (b ∷ bytes) x fine = breaks_lives g LeftOver front x fine

-- what is done behind a message keeps it
abbrev pub NextLives : Setting → Next → Type 0
NextLives g more = (place : ℕ) (bytes : List ℕ) (x : Hearing) → LivesIn g x.side → LivesIn g (more place bytes x).side

tested_lives : (g : Setting) (more : Next) (place next : ℕ) (read : Message × Heard × List ℕ) (why : Option Reason) (x : Hearing) → refusal g x.side read.0 ≡ why
    → NextLives g more → LivesIn g x.side → LivesIn g (hears_tested g more place next read why x).side
tested_lives g more place next read None x tested behind fine =
    behind next read.2 (gets g read.0 read.1 x)
    (receives_lives g read.0 (remembers read.1 x.side) (remembered g read.1 read.0 x.side ∙ tested) fine)
tested_lives g more place next read (Some why) x tested behind fine = breaks_lives g why place x fine

read_lives : (g : Setting) (more : Next) (place : ℕ) (bytes : List ℕ) (read : Result (Message × Heard × List ℕ) Fault) (x : Hearing) → NextLives g more → LivesIn g x.side
    → LivesIn g (hears_read g more place bytes read x).side
read_lives g more place bytes (Err fault) x behind fine = breaks_lives g (reason_of fault) place x fine
read_lives g more place bytes (Ok read) x behind fine =
    tested_lives g more place (place + (length bytes - length read.2)) read (refusal g x.side read.0) x refl behind fine

hears_lives : (g : Setting) (n front : ℕ) → NextLives g (hears g n front)
unfolding hears
hears_lives g zero front place bytes x fine = block_ends_lives g front bytes x fine
hears_lives g (suc n) front place bytes x fine =
    read_lives g (hears g n front) place bytes (message_at g.registry (waits_of x.side.stacks) x.side.incoming.heard bytes) x (hears_lives g n front) fine

fed_by : (g : Setting) (b : Bool) (whole part : Hearing) → LivesIn g whole.side → LivesIn g part.side → LivesIn g (if b then whole else part).side
fed_by g true whole part now later = now
fed_by g false whole part now later = later

part_lives : (g : Setting) (bytes : List ℕ) (why : Option Reason) (s : Side) → LivesIn g s → LivesIn g (feeds_part g bytes why s).side
part_lives g bytes (Some why) s fine = breaks_lives g why s.incoming.place (heard_nothing s) fine
part_lives g bytes None s fine =
    fed_by g (block_stands bytes) (feeds_whole g bytes s) (heard_nothing (holds_bytes bytes s))
    (hears_lives g (count_said bytes) s.incoming.place (s.incoming.place + 8) (drop 8 bytes) (heard_nothing (takes_block bytes s)) fine)
    fine

pub feeds_lives : (g : Setting) (piece : List ℕ) (s : Side) → LivesIn g s → LivesIn g (feeds g piece s).side
unfolding feeds
feeds_lives g piece s fine = part_lives g (s.incoming.held ++ piece) (header_fault (s.incoming.held ++ piece)) s fine
