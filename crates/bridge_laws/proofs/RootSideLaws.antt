-- Each entry keeps what holds of threads and roots: a side's stacks are those of roots that wait, and of the peer's threads.
use Rattle.std.proofs.Common.{◌≡◌, refl, sym, ap, subst, ◌∙◌, ℕ, zero, suc, ◌<◌, ◌^◌, Bool, true, false, not, ◌||◌, ◌==◌, List, [], ◌∷◌, length, Option, None, Some, Result, Ok, Err, if◌then◌else◌}
use Rattle.std.proofs.lemmas.Bool.{true≢false, false≢true, not-true}
use Rattle.message_model.specs.Headers.{Heard}
use Rattle.message_model.specs.Messages.{Message, Answer, request, release, reply}
use Rattle.message_model.specs.ReadingMessages.{message_at}
use Rattle.uno_model.specs.Values.{Plain}
use Rattle.urp_model.specs.declared.fault.Fault.{Fault}
use Rattle.urp_model.specs.declared.reason.Reason.{Reason}
use Rattle.urp_model.specs.declared.reason.Reason.TheVariants.{UnknownOid, BusyThread, UnknownThread}
use Rattle.plan_model.specs.Asking.{Effect, disposes}
use Rattle.plan_model.specs.Frames.{Frame, base, body, outgoing, Stack, frames_of, first_frame}
use Rattle.bridge_model.specs.Applying.{applies, effect_at}
use Rattle.bridge_model.specs.Calls.{serves}
use Rattle.bridge_model.specs.Ends.{ends_by, runs_out}
use Rattle.bridge_model.specs.Feeding.{Hearing, Next, gets, remembers, block_ends, hears_tested, hears_read, hears, feeds_part, feeds_whole, takes_block, heard_nothing, block_stands, header_fault, count_said, holds_bytes, feeds}
use Rattle.bridge_model.specs.Handing.{hands_from_peer}
use Rattle.bridge_model.specs.Receiving.{unless, is_target, refs_refusal, answers_at_once, refusal, receives, below_top}
use Rattle.bridge_model.specs.References.{says, each_home, home_answer, refs_of_values}
use Rattle.bridge_model.specs.Settings.{Setting, is_own}
use Rattle.bridge_model.specs.Sides.{RootState, Tables, Side, on_tables}
use Rattle.bridge_model.specs.Stacks.{puts_frames, has_stack, is_busy_top, is_busy, waits_of}
use Rattle.bridge_model.specs.Steps.{Picked, picked_in, picked, applies_effect, applies_picked}
use Rattle.bridge_model.specs.declared.cause.Cause.{Cause}
use Rattle.bridge_laws.proofs.EffectStackLaws.{Stands, served_stands, moved_applies}
use Rattle.bridge_laws.proofs.FrameLaws.{Moved, stack_below, below_body, below_outgoing, moved_from_peer}
use Rattle.bridge_laws.specs.Grounded.{is_awaited, is_stack, began, Thread, nothing, of_root, of_peer, Grounded, HasRoots}
use Rattle.bridge_laws.proofs.ThreadLaws.{thread_stack, grounded_moved, grounded_put, grounded_ended}

-- where roots and stacks are as they were, so is this
pub roots_stay : (g : Setting) (roots now : List RootState) (stacks : List Stack) → now ≡ roots → Grounded g roots stacks → Grounded g now stacks
roots_stay g roots now stacks same all = subst (λ states. Grounded g states stacks) (sym same) all

-- ---- ends

pub ends_rooted : (g : Setting) (why : Cause) (s : Side) → HasRoots g s → HasRoots g (ends_by why s)
unfolding ends_by
ends_rooted g why s all = grounded_ended g why s.tables.roots all.counted

pub runs_out_rooted : (g : Setting) (why : Option Cause) (s : Side) → HasRoots g s → HasRoots g (runs_out why s)
unfolding runs_out
runs_out_rooted g None s all = ends_rooted g _ s all
runs_out_rooted g (Some why) s all = all

-- ---- statements

picked_there : (fs : List Frame) (p : Picked) → picked_in fs ≡ Some p → fs ≡ body p.method ∷ p.below
picked_there [] p is = absurd (cc)
picked_there (base root ∷ fs) p is = absurd (cc)
picked_there (outgoing o ∷ fs) p is = absurd (cc)
picked_there (body b ∷ fs) p is = by_parts
  where
    some : {X : Type 0} (x y : X) → ◌≡◌ {A = Option X} (Some x) (Some y) → x ≡ y
    some x y e = cc

    same : record { method = b; below = fs } ≡ p
    same = some (record { method = b; below = fs }) p is

    by_parts : body b ∷ fs ≡ body p.method ∷ p.below
    by_parts = ap (λ (q : Picked). body q.method ∷ q.below) same

effect_rooted : (g : Setting) (tid : List ℕ) (p : Picked) (e : Effect) (s : Side) → length g.plan.threads < 2 ^ 64 → frames_of tid s.stacks ≡ body p.method ∷ p.below
    → HasRoots g s → HasRoots g (applies_effect g tid p e s)
effect_rooted g tid p disposes s few is all = ends_rooted g _ s all
effect_rooted g tid p e s few is all =
    let stack = sym (ap is_stack is) ∙ thread_stack g s.tables.roots tid (frames_of tid s.stacks) (all.each tid) in
    let u = applies g tid p.method p.below e s.tables in
    let moved = moved_applies g tid p.method p.below e s.tables stack in
    grounded_moved g s.tables.roots tid s.stacks u.frames u.tables.roots few all (subst (λ fs. Moved fs s.tables.roots u.frames u.tables.roots) (sym is) moved)

applied_rooted : (g : Setting) (tid : List ℕ) (p : Option Picked) (s : Side) → length g.plan.threads < 2 ^ 64 → picked_in (frames_of tid s.stacks) ≡ p
    → HasRoots g s → HasRoots g (applies_picked g tid p s)
applied_rooted g tid None s few is all = all
applied_rooted g tid (Some p) s few is all =
    effect_rooted g tid p (effect_at g tid p.method p.below s.tables) s few (picked_there (frames_of tid s.stacks) p is) all

pub picked_rooted : (g : Setting) (tid : List ℕ) (s : Side) → length g.plan.threads < 2 ^ 64 → HasRoots g s → HasRoots g (applies_picked g tid (picked tid s) s)
unfolding picked
picked_rooted g tid s few all = applied_rooted g tid (picked_in (frames_of tid s.stacks)) s few refl all

-- ---- a request

unless_none : (b : Bool) (why : Reason) (later : Option Reason) → unless b why later ≡ None → (b ≡ true) × (later ≡ None)
unless_none true why later is = (refl, is)
unless_none false why later is = absurd (cc)

-- what a request is tested for
not_refused : (g : Setting) (s : Side) (tid oid face : List ℕ) (function : ℕ) (args : List Plain) → refusal g s (request tid oid face function args) ≡ None
    → (not (is_busy tid s.stacks) ≡ true) × ((not (is_own g tid) || has_stack tid s.stacks) ≡ true)
unfolding refusal
not_refused g s tid oid face function args is =
    let target = unless_none (is_target g oid face function s.tables.stubs) UnknownOid (unless (not (is_busy tid s.stacks)) BusyThread (unless (not (is_own g tid) || has_stack tid s.stacks) UnknownThread (refs_refusal g s.tables (refs_of_values args)))) is in
    let busy = unless_none (not (is_busy tid s.stacks)) BusyThread (unless (not (is_own g tid) || has_stack tid s.stacks) UnknownThread (refs_refusal g s.tables (refs_of_values args))) target.1 in
    let thread = unless_none (not (is_own g tid) || has_stack tid s.stacks) UnknownThread (refs_refusal g s.tables (refs_of_values args)) busy.1 in
    (busy.0, thread.0)

top_waits : (fs : List Frame) → is_busy_top fs ≡ false → is_awaited (first_frame fs) ≡ true
top_waits [] is = refl
top_waits (base root ∷ fs) is = absurd (true≢false is)
top_waits (body b ∷ fs) is = absurd (true≢false is)
top_waits (outgoing o ∷ fs) is = refl

not_own : (own some : Bool) → (not own || some) ≡ true → some ≡ false → own ≡ false
not_own false some is none = refl
not_own true some is none = absurd (true≢false (sym is ∙ none))

served_thread : (g : Setting) (roots : List RootState) (tid : List ℕ) (stacks : List Stack) (gs : List Frame) → (not (is_own g tid) || has_stack tid stacks) ≡ true
    → Stands (frames_of tid stacks) roots gs roots → Thread g roots tid (frames_of tid stacks) → Thread g roots tid gs
served_thread g roots tid stacks gs known on (nothing none free) =
    let no_stack : has_stack tid stacks ≡ false = rw (none) refl in
    of_peer (not_own (is_own g tid) (has_stack tid stacks) known no_stack) on.live (on.same ∙ ap began none)
served_thread g roots tid stacks gs known on (of_root root least most is waiting live from) = of_root root least most is waiting on.live (on.same ∙ from)
served_thread g roots tid stacks gs known on (of_peer theirs live from) = of_peer theirs on.live (on.same ∙ from)

served_rooted : (g : Setting) (tid oid face : List ℕ) (function : ℕ) (args : List Plain) (s : Side) → not (is_busy tid s.stacks) ≡ true
    → (not (is_own g tid) || has_stack tid s.stacks) ≡ true → HasRoots g s
    → Grounded g (serves g oid face function args (frames_of tid s.stacks) s.tables).tables.roots (puts_frames tid (serves g oid face function args (frames_of tid s.stacks) s.tables).frames s.stacks)
served_rooted g tid oid face function args s idle_top known all =
    let fs = frames_of tid s.stacks in
    let u = serves g oid face function args fs s.tables in
    let on = served_stands g oid face function args fs s.tables (top_waits fs (not-true (is_busy tid s.stacks) idle_top)) (thread_stack g s.tables.roots tid fs (all.each tid)) in
    let same : Stands fs s.tables.roots u.frames s.tables.roots = record { live = on.live; same = on.same; stay = refl } in
    roots_stay
    g
    s.tables.roots
    u.tables.roots
    (puts_frames tid u.frames s.stacks)
    on.stay
    (grounded_put g s.tables.roots tid s.stacks u.frames all (served_thread g s.tables.roots tid s.stacks u.frames known same (all.each tid)))

-- ---- a reply

never_at_top : (g : Setting) (roots : List RootState) (tid : List ℕ) (root : ℕ) (fs : List Frame) → Thread g roots tid (base root ∷ fs) → ⊥
never_at_top g roots tid root fs (nothing none free) = cc
never_at_top g roots tid root fs (of_root r least most is waiting live from) = false≢true live
never_at_top g roots tid root fs (of_peer theirs live from) = false≢true live

reply_moved : (g : Setting) (tid : List ℕ) (a : Answer) (fs : List Frame) (t : Tables) → Thread g t.roots tid fs → is_stack fs ≡ true
    → Moved fs t.roots (hands_from_peer g tid a (below_top fs) t).frames (hands_from_peer g tid a (below_top fs) t).tables.roots
reply_moved g tid a [] t here is = moved_from_peer g tid a [] t is
reply_moved g tid a (base root ∷ fs) t here is = absurd (never_at_top g t.roots tid root fs here)
reply_moved g tid a (body b ∷ fs) t here is = below_body b fs t.roots _ _ is (moved_from_peer g tid a fs t (stack_below (body b) fs is).1)
reply_moved g tid a (outgoing o ∷ fs) t here is = below_outgoing o fs t.roots _ _ is (moved_from_peer g tid a fs t (stack_below (outgoing o) fs is).1)

-- ---- messages

requested_rooted : (g : Setting) (tid oid face : List ℕ) (args : List Plain) (s : Side) (u : Side) (b : Bool) → HasRoots g s → HasRoots g u
    → HasRoots g (if b then on_tables (answers_at_once g tid oid face args) s else u)
unfolding says
requested_rooted g tid oid face args s u true all later = all
requested_rooted g tid oid face args s u false all later = later

pub receives_rooted : (g : Setting) (m : Message) (s : Side) → length g.plan.threads < 2 ^ 64 → refusal g s m ≡ None → HasRoots g s → HasRoots g (receives g m s)
unfolding receives
receives_rooted g (release tid oid face) s few may all = all
receives_rooted g (request tid oid face function args) s few may all =
    let tests = not_refused g s tid oid face function args may in
    requested_rooted g tid oid face args s _ (function == 0) all (served_rooted g tid oid face function (each_home g args) s tests.0 tests.1 all)
receives_rooted g (reply tid face function a) s few may all =
    let fs = frames_of tid s.stacks in
    let here = all.each tid in
    let moved = reply_moved g tid (home_answer g a) fs s.tables here (thread_stack g s.tables.roots tid fs here) in
    grounded_moved g s.tables.roots tid s.stacks _ _ few all moved

block_ends_rooted : (g : Setting) (front : ℕ) (bytes : List ℕ) (x : Hearing) → HasRoots g x.side → HasRoots g (block_ends front bytes x).side
block_ends_rooted g front [] x all = all
block_ends_rooted g front (b ∷ bytes) x all = ends_rooted g _ x.side all

-- what is done behind a message keeps it
abbrev KeepsRoots : Setting → Next → Type 0
KeepsRoots g more = (place : ℕ) (bytes : List ℕ) (x : Hearing) → HasRoots g x.side → HasRoots g (more place bytes x).side

-- what is remembered of headers does not matter to the tests
pub same_refusal : (g : Setting) (heard : Heard) (m : Message) (s : Side) → refusal g (remembers heard s) m ≡ refusal g s m
unfolding refusal
same_refusal g heard (release tid oid face) s = refl
same_refusal g heard (request tid oid face function args) s = refl
same_refusal g heard (reply tid face function a) s = refl

tested_rooted : (g : Setting) (more : Next) → length g.plan.threads < 2 ^ 64 → KeepsRoots g more → (place next : ℕ) (read : Message × Heard × List ℕ) (why : Option Reason) (x : Hearing)
    → refusal g x.side read.0 ≡ why → HasRoots g x.side → HasRoots g (hears_tested g more place next read why x).side
tested_rooted g more few keeps place next read None x may all =
    keeps next read.2 (gets g read.0 read.1 x) (receives_rooted g read.0 (remembers read.1 x.side) few (same_refusal g read.1 read.0 x.side ∙ may) all)
tested_rooted g more few keeps place next read (Some why) x may all = ends_rooted g _ x.side all

read_rooted : (g : Setting) (more : Next) → length g.plan.threads < 2 ^ 64 → KeepsRoots g more → (place : ℕ) (bytes : List ℕ) (r : Result (Message × Heard × List ℕ) Fault) (x : Hearing)
    → HasRoots g x.side → HasRoots g (hears_read g more place bytes r x).side
read_rooted g more few keeps place bytes (Err fault) x all = ends_rooted g _ x.side all
read_rooted g more few keeps place bytes (Ok read) x all = tested_rooted g more few keeps place _ read (refusal g x.side read.0) x refl all

hears_rooted : (g : Setting) → length g.plan.threads < 2 ^ 64 → (n front : ℕ) → KeepsRoots g (hears g n front)
unfolding hears
hears_rooted g few zero front place bytes x all = block_ends_rooted g front bytes x all
hears_rooted g few (suc n) front place bytes x all =
    read_rooted g (hears g n front) few (hears_rooted g few n front) place bytes (message_at g.registry (waits_of x.side.stacks) x.side.incoming.heard bytes) x all

part_rooted : (g : Setting) → length g.plan.threads < 2 ^ 64 → (bytes : List ℕ) (why : Option Reason) (s : Side) → HasRoots g s → HasRoots g (feeds_part g bytes why s).side
part_rooted g few bytes (Some why) s all = ends_rooted g _ s all
part_rooted g few bytes None s all = either (block_stands bytes)
  where
    either : (b : Bool) → HasRoots g (if b then feeds_whole g bytes s else heard_nothing (holds_bytes bytes s)).side
    either true = hears_rooted g few (count_said bytes) s.incoming.place _ _ (heard_nothing (takes_block bytes s)) all
    either false = all

pub feeds_rooted : (g : Setting) → length g.plan.threads < 2 ^ 64 → (piece : List ℕ) (s : Side) → HasRoots g s → HasRoots g (feeds g piece s).side
unfolding feeds
feeds_rooted g few piece s all = part_rooted g few _ (header_fault _) s all
