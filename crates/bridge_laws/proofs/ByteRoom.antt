-- Room behind bytes: a reply brings its references, and nothing else that comes brings any need.
use Rattle.std.proofs.Common.{◌≡◌, ℕ, zero, suc, ◌+◌, ◌≤◌, ◌<◌, ◌^◌, Bool, true, false, ◌==◌, if◌then◌else◌, List, [], ◌∷◌, ◌++◌, length, drop, Option, None, Some, Result, Ok, Err, refl, ap, ◌∙◌, arith}
use Rattle.message_model.specs.Headers.{Heard}
use Rattle.message_model.specs.Messages.{Message, Answer, request, release, reply, returned}
use Rattle.message_model.specs.ReadingMessages.{message_at}
use Rattle.uno_model.specs.Values.{Plain}
use Rattle.urp_model.specs.declared.fault.Fault.{Fault}
use Rattle.urp_model.specs.declared.reason.Reason.{Reason}
use Rattle.plan_model.specs.Frames.{Frame, frames_of}
use Rattle.bridge_model.specs.Calls.{first_body, serves}
use Rattle.bridge_model.specs.Feeding.{Hearing, Next, breaks, gets, remembers, block_ends, hears_tested, hears_read, hears, feeds_part, feeds_whole, takes_block, heard_nothing, block_stands, header_fault, count_said, holds_bytes, feeds}
use Rattle.bridge_model.specs.Handing.{hands_from_peer}
use Rattle.bridge_model.specs.Receiving.{answers_at_once, asked_kind, answer_to, refusal, receives, below_top}
use Rattle.bridge_model.specs.References.{says, each_home, home_answer, refs_of_answer}
use Rattle.bridge_model.specs.Settings.{Setting}
use Rattle.bridge_model.specs.Sides.{Tables, Side, stands, on_tables}
use Rattle.bridge_model.specs.Stacks.{with_unwound, waits_of}
use Rattle.bridge_model.specs.declared.cause.Cause.TheVariants as cause
use Rattle.bridge_laws.specs.Counting.{total}
use Rattle.bridge_laws.proofs.EffectStackLaws.{stay_takes_call}
use Rattle.bridge_laws.proofs.FrameLaws.{moved_from_peer}
use Rattle.bridge_laws.proofs.HomeLaws.{home_answer_counts}
use Rattle.bridge_laws.proofs.RootSideLaws.{receives_rooted, same_refusal}
use Rattle.bridge_laws.specs.Grounded.{Thread, HasRoots}
use Rattle.bridge_laws.proofs.RootStateLaws.{Stay}
use Rattle.bridge_laws.proofs.Sums.{total_push}
use Rattle.bridge_laws.proofs.ThreadLaws.{thread_stack}
use Rattle.bridge_laws.specs.Room.{open_roots, needed, message_brings}
use Rattle.bridge_laws.proofs.EffectRoom.{serves_kept}
use Rattle.bridge_laws.proofs.FrameRoom.{total_ones, hands_from_peer_kept}
use Rattle.bridge_laws.proofs.RootRoom.{below_waits, below_stack, open_moved}
use Rattle.bridge_laws.proofs.SideRoom.{needed_more, ended_less}

-- ---- a request

served_roots : (g : Setting) (oid face : List ℕ) (function : ℕ) (args : List Plain) (fs : List Frame) (t : Tables) → Stay t (serves g oid face function args fs t).tables
unfolding serves
served_roots g oid face function args fs t = stay_takes_call g (first_body g true oid face function args t) args t

served_needed : (g : Setting) (tid oid face : List ℕ) (function : ℕ) (args : List Plain) (fs : List Frame) (s : Side)
    → needed (with_unwound tid (serves g oid face function args fs s.tables) s) ≤ needed s
served_needed g tid oid face function args fs s =
    let roots : open_roots (serves g oid face function args fs s.tables).tables.roots ≡ open_roots s.tables.roots = ap open_roots (served_roots g oid face function args fs s.tables) in
    let tables = serves_kept g oid face function args fs s.tables in
    let more = needed_more s (with_unwound tid (serves g oid face function args fs s.tables) s) 0 0 refl (omega arith) (omega arith) in omega arith

said_needed : (g : Setting) (m : Message) (s : Side) → needed (on_tables (says g m) s) ≡ needed s
unfolding says needed
said_needed g m s = refl

requested_by : (g : Setting) (tid oid face : List ℕ) (args : List Plain) (u s : Side) (b : Bool) → needed u ≤ needed s
    → needed (if b then on_tables (answers_at_once g tid oid face args) s else u) ≤ needed s
requested_by g tid oid face args u s true later =
    let same = said_needed g (reply tid face 0 (returned (answer_to g oid (asked_kind args) s.tables.objects) [])) s in omega arith
requested_by g tid oid face args u s false later = later

-- ---- a reply

-- what came has as many references as it is here
home_refs : (g : Setting) (a : Answer) → length (refs_of_answer (home_answer g a)) ≡ length (refs_of_answer a)
home_refs g a =
    let same = home_answer_counts (λ r. 1) g a in
    let here = total_ones (refs_of_answer (home_answer g a)) in
    let came = total_ones (refs_of_answer a) in omega arith

reply_needed : (g : Setting) (tid : List ℕ) (a : Answer) (fs : List Frame) (s : Side) → Thread g s.tables.roots tid fs
    → needed (with_unwound tid (hands_from_peer g tid (home_answer g a) (below_top fs) s.tables) s) ≤ needed s + length (refs_of_answer a)
reply_needed g tid a fs s here =
    let stack = below_stack fs (thread_stack g s.tables.roots tid fs here) in
    let moved = moved_from_peer g tid (home_answer g a) (below_top fs) s.tables stack in
    let roots = open_moved (below_top fs) s.tables.roots _ _ (below_waits g s.tables.roots tid fs here) moved in
    let tables = hands_from_peer_kept g tid (home_answer g a) (below_top fs) s.tables in
    let same = home_refs g a in
    let more = needed_more s (with_unwound tid (hands_from_peer g tid (home_answer g a) (below_top fs) s.tables) s) 0 (length (refs_of_answer a)) refl (omega arith) (omega arith) in
    omega arith

-- ---- a message

released_needed : (g : Setting) (tid oid face : List ℕ) (s : Side) → needed (receives g (release tid oid face) s) ≡ needed s
unfolding receives needed
released_needed g tid oid face s = refl

pub receives_needed : (g : Setting) (m : Message) (s : Side) → HasRoots g s → needed (receives g m s) ≤ needed s + message_brings m
unfolding receives
receives_needed g (release tid oid face) s all = let same = released_needed g tid oid face s in omega arith
receives_needed g (request tid oid face function args) s all =
    let served =
    requested_by g tid oid face args (with_unwound tid (serves g oid face function (each_home g args) (frames_of tid s.stacks) s.tables) s) s (function == 0)
    (served_needed g tid oid face function (each_home g args) (frames_of tid s.stacks) s) in omega arith
receives_needed g (reply tid face function a) s all = reply_needed g tid a (frames_of tid s.stacks) s (all.each tid)

requested_stands : (g : Setting) (tid oid face : List ℕ) (args : List Plain) (u s : Side) (b : Bool) → u.cause ≡ s.cause
    → (if b then on_tables (answers_at_once g tid oid face args) s else u).cause ≡ s.cause
requested_stands g tid oid face args u s true same = refl
requested_stands g tid oid face args u s false same = same

receives_cause : (g : Setting) (m : Message) (s : Side) → (receives g m s).cause ≡ s.cause
unfolding receives
receives_cause g (release tid oid face) s = refl
receives_cause g (request tid oid face function args) s = requested_stands g tid oid face args _ s (function == 0) refl
receives_cause g (reply tid face function a) s = refl

-- ---- messages of a block

-- a side that stands, with what holds of its roots
pub record Up (g : Setting) (s : Side) : Type 0 where
  pub stands : stands s ≡ true
  pub rooted : HasRoots g s

-- what is done behind a message needs no more than the messages bring that it gets
abbrev pub BringsAll : Setting → Next → Type 0
BringsAll g more = (place : ℕ) (bytes : List ℕ) (x : Hearing) → Up g x.side
    → needed (more place bytes x).side + total message_brings x.got ≤ needed x.side + total message_brings (more place bytes x).got

remembered_needed : (heard : Heard) (s : Side) → needed (remembers heard s) ≡ needed s
unfolding needed
remembered_needed heard s = refl

broken_needed : (g : Setting) (why : Reason) (place : ℕ) (x : Hearing) → Up g x.side
    → needed (breaks why place x).side + total message_brings x.got ≤ needed x.side + total message_brings (breaks why place x).got
broken_needed g why place x up = let less = ended_less (cause.Broken why place) x.side refl up.stands in omega arith

block_ends_needed : (g : Setting) (front : ℕ) (bytes : List ℕ) (x : Hearing) → Up g x.side
    → needed (block_ends front bytes x).side + total message_brings x.got ≤ needed x.side + total message_brings (block_ends front bytes x).got
block_ends_needed g front [] x up = omega arith
block_ends_needed g front (b ∷ bytes) x up = broken_needed g _ front x up

-- a message more is got
got_up : (g : Setting) (m : Message) (heard : Heard) (x : Hearing) → length g.plan.threads < 2 ^ 64 → refusal g x.side m ≡ None → Up g x.side → Up g (gets g m heard x).side
got_up g m heard x few may up =
    record {
      stands = stood (remembers heard x.side) (receives g m (remembers heard x.side)) (receives_cause g m (remembers heard x.side)) up.stands;
      rooted = receives_rooted g m (remembers heard x.side) few (same_refusal g heard m x.side ∙ may) up.rooted;
    }
  where
    stood : (s u : Side) → u.cause ≡ s.cause → stands s ≡ true → stands u ≡ true
    stood s u same is = cc

got_needed : (g : Setting) (m : Message) (heard : Heard) (x : Hearing) → Up g x.side → needed (gets g m heard x).side ≤ needed x.side + message_brings m
got_needed g m heard x up =
    let more = receives_needed g m (remembers heard x.side) up.rooted in let same = remembered_needed heard x.side in omega arith

tested_needed : (g : Setting) (more : Next) → length g.plan.threads < 2 ^ 64 → BringsAll g more → (place next : ℕ) (read : Message × Heard × List ℕ) (why : Option Reason) (x : Hearing)
    → refusal g x.side read.0 ≡ why → Up g x.side
    → needed (hears_tested g more place next read why x).side + total message_brings x.got ≤ needed x.side + total message_brings (hears_tested g more place next read why x).got
tested_needed g more few brings place next read None x may up =
    let later = brings next read.2 (gets g read.0 read.1 x) (got_up g read.0 read.1 x few may up) in
    let here = got_needed g read.0 read.1 x up in
    let all = total_push message_brings x.got read.0 in omega arith
tested_needed g more few brings place next read (Some why) x may up = broken_needed g why place x up

read_needed : (g : Setting) (more : Next) → length g.plan.threads < 2 ^ 64 → BringsAll g more → (place : ℕ) (bytes : List ℕ) (read : Result (Message × Heard × List ℕ) Fault) (x : Hearing)
    → Up g x.side → needed (hears_read g more place bytes read x).side + total message_brings x.got ≤ needed x.side + total message_brings (hears_read g more place bytes read x).got
read_needed g more few brings place bytes (Err fault) x up = broken_needed g _ place x up
read_needed g more few brings place bytes (Ok read) x up = tested_needed g more few brings place _ read (refusal g x.side read.0) x refl up

hears_needed : (g : Setting) → length g.plan.threads < 2 ^ 64 → (n front : ℕ) → BringsAll g (hears g n front)
unfolding hears
hears_needed g few zero front place bytes x up = block_ends_needed g front bytes x up
hears_needed g few (suc n) front place bytes x up =
    read_needed g (hears g n front) few (hears_needed g few n front) place bytes (message_at g.registry (waits_of x.side.stacks) x.side.incoming.heard bytes) x up

-- ---- pieces

taken_needed : (bytes : List ℕ) (s : Side) → needed (takes_block bytes s) ≡ needed s
unfolding needed
taken_needed bytes s = refl

held_needed : (bytes : List ℕ) (s : Side) → needed (holds_bytes bytes s) ≡ needed s
unfolding needed
held_needed bytes s = refl

none_brought : total message_brings [] ≡ 0
unfolding total
none_brought = refl

whole_needed : (g : Setting) → length g.plan.threads < 2 ^ 64 → (bytes : List ℕ) (s : Side) → Up g s
    → needed (feeds_whole g bytes s).side ≤ needed s + total message_brings (feeds_whole g bytes s).got
whole_needed g few bytes s up =
    let heard =
    hears_needed g few (count_said bytes) s.incoming.place (s.incoming.place + 8) (drop 8 bytes) (heard_nothing (takes_block bytes s)) (record { stands = up.stands; rooted = up.rooted }) in
    let same = taken_needed bytes s in let none = none_brought in omega arith

part_if : (b : Bool) (x y : Hearing) (s : Side) → needed x.side ≤ needed s + total message_brings x.got → needed y.side ≤ needed s + total message_brings y.got
    → needed (if b then x else y).side ≤ needed s + total message_brings (if b then x else y).got
part_if true x y s p q = p
part_if false x y s p q = q

part_needed : (g : Setting) → length g.plan.threads < 2 ^ 64 → (bytes : List ℕ) (why : Option Reason) (s : Side) → Up g s
    → needed (feeds_part g bytes why s).side ≤ needed s + total message_brings (feeds_part g bytes why s).got
part_needed g few bytes (Some why) s up =
    let broken = broken_needed g why s.incoming.place (heard_nothing s) (record { stands = up.stands; rooted = up.rooted }) in let none = none_brought in omega arith
part_needed g few bytes None s up =
    part_if (block_stands bytes) (feeds_whole g bytes s) (heard_nothing (holds_bytes bytes s)) s
    (whole_needed g few bytes s up)
    (let same = held_needed bytes s in omega arith)

pub feeds_needed : (g : Setting) → length g.plan.threads < 2 ^ 64 → (piece : List ℕ) (s : Side) → stands s ≡ true → HasRoots g s
    → needed (feeds g piece s).side ≤ needed s + total message_brings (feeds g piece s).got
unfolding feeds
feeds_needed g few piece s up all = part_needed g few (s.incoming.held ++ piece) (header_fault (s.incoming.held ++ piece)) s (record { stands = up; rooted = all })
