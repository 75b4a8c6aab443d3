-- What each entry but a drain and want of memory says stands behind what was said before, and what goes out stays as it was.
use Rattle.std.proofs.Common.{◌≡◌, refl, ◌∙◌, ℕ, zero, suc, Bool, true, false, ◌==◌, List, [], ◌∷◌, ◌++◌, Option, None, Some, Result, Ok, Err, if◌then◌else◌}
use Rattle.std.proofs.lemmas.List.{append_assoc}
use Rattle.message_model.specs.Headers.{Heard}
use Rattle.message_model.specs.Messages.{Message, request, release, reply}
use Rattle.message_model.specs.ReadingMessages.{message_at}
use Rattle.uno_model.specs.Entities.{Entity}
use Rattle.uno_model.specs.BuiltIn.{x_interface_name}
use Rattle.uno_model.specs.Values.{Ref, null, own, peer, Plain}
use Rattle.urp_model.specs.declared.fault.Fault.{Fault}
use Rattle.urp_model.specs.declared.reason.Reason.{Reason}
use Rattle.plan_model.specs.Asking.{Effect, disposes}
use Rattle.plan_model.specs.Frames.{frames_of}
use Rattle.table_model.specs.Stubs.{Stubs}
use Rattle.bridge_model.specs.Applying.{effect_at}
use Rattle.bridge_model.specs.Ends.{ends_by, runs_out}
use Rattle.bridge_model.specs.Feeding.{Hearing, Next, gets, remembers, block_ends, hears_tested, hears_read, hears, feeds_part, feeds_whole, takes_block, heard_nothing, block_stands, header_fault, count_said, holds_bytes, feeds}
use Rattle.bridge_model.specs.Going.{reaps}
use Rattle.bridge_model.specs.Receiving.{refusal, receives, below_top}
use Rattle.bridge_model.specs.References.{each_home, home_answer}
use Rattle.bridge_model.specs.Calls.{query_args}
use Rattle.bridge_model.specs.Roots.{answered_before, begins_call, calls_unless, root_calls, begins_query, queries_unless, root_queries, asks_unless, root_asks, root_makes, root_drops, root_takes}
use Rattle.plan_model.specs.declared.runtime_cause.RuntimeCause.{RuntimeCause}
use Rattle.bridge_model.specs.Settings.{Setting, root_tid, ref_of}
use Rattle.bridge_model.specs.Sides.{Object, Outgoing, Side}
use Rattle.bridge_model.specs.Stacks.{waits_of}
use Rattle.bridge_model.specs.Steps.{Picked, applies_effect, applies_picked, reaps_some, is_no_memory}
use Rattle.bridge_model.specs.declared.cause.Cause.{Cause}
use Rattle.bridge_laws.proofs.FrameGrowsLaws.{grows_serves, grows_hands_from_peer, grows_answers_at_once, grows_applies, grows_root_calls, grows_root_queries, grows_root_asks, grows_root_makes, grows_root_drops, grows_reaps}
use Rattle.bridge_laws.proofs.GrowsLaws.{Grown}
use Rattle.bridge_laws.proofs.SpellingLaws.{Speaks, speaks_same}

-- ---- sides

-- a side says more than another, and what goes out is the same
abbrev pub SaysMore : Side → Side → Type 0
SaysMore s t = Speaks s.tables.unsaid t.tables.unsaid s.outgoing t.outgoing

says_same : (s : Side) → SaysMore s s
says_same s = speaks_same s.tables.unsaid s.outgoing

speaks_on : {a b c : List Message} {o p q : Outgoing} → Speaks a b o p → Speaks b c p q → Speaks a c o q
speaks_on {a} {b} {c} {o} {p} {q} first later =
    record { new = first.new ++ later.new; said = both a b c first.new later.new first.said later.said; same = later.same ∙ first.same }
  where
    both : (a b c new newer : List Message) → b ≡ a ++ new → c ≡ b ++ newer → c ≡ a ++ (new ++ newer)
    both a b c new newer p q = rw (q, p, append_assoc) refl

-- tables that grow say more
of_grown : {reg : List Entity} {a b : List Message} {x y : Stubs} (o : Outgoing) → Grown reg a b x y → Speaks a b o o
of_grown o grown = record { new = grown.new; said = grown.said; same = refl }

says_if : (b : Bool) (s t u : Side) → SaysMore s t → SaysMore s u → SaysMore s (if b then t else u)
says_if true s t u p q = p
says_if false s t u p q = q

-- ---- ends

pub says_ends_by : (why : Cause) (s : Side) → SaysMore s (ends_by why s)
unfolding ends_by
says_ends_by why s = says_same s

-- want of memory is the cause then
pub out_is_cause : (why : Option Cause) (s : Side) → is_no_memory (runs_out why s).cause ≡ true
unfolding runs_out ends_by
out_is_cause None s = refl
out_is_cause (Some why) s = refl

-- ---- receiving

says_receives : (g : Setting) (m : Message) (s : Side) → SaysMore s (receives g m s)
unfolding receives
says_receives g (release tid oid face) s = says_same s
says_receives g (request tid oid face function args) s =
    says_if
    (function == 0)
    s
    _
    _
    (of_grown s.outgoing (grows_answers_at_once g tid oid face args s.tables))
    (of_grown s.outgoing (grows_serves g oid face function (each_home g args) (frames_of tid s.stacks) s.tables))
says_receives g (reply tid face function a) s =
    of_grown s.outgoing (grows_hands_from_peer g tid (home_answer g a) (below_top (frames_of tid s.stacks)) s.tables)

says_block_ends : (front : ℕ) (bytes : List ℕ) (x : Hearing) → SaysMore x.side (block_ends front bytes x).side
says_block_ends front [] x = says_same x.side
says_block_ends front (b ∷ bytes) x = says_ends_by _ x.side

-- what is done behind a message says more
abbrev SaysNext : Next → Type 0
SaysNext more = (place : ℕ) (bytes : List ℕ) (x : Hearing) → SaysMore x.side (more place bytes x).side

says_tested : (g : Setting) (more : Next) → SaysNext more → (place next : ℕ) (read : Message × Heard × List ℕ) (why : Option Reason) (x : Hearing)
    → SaysMore x.side (hears_tested g more place next read why x).side
says_tested g more says place next read None x = speaks_on (says_receives g read.0 (remembers read.1 x.side)) (says next read.2 (gets g read.0 read.1 x))
says_tested g more says place next read (Some why) x = says_ends_by _ x.side

says_read : (g : Setting) (more : Next) → SaysNext more → (place : ℕ) (bytes : List ℕ) (r : Result (Message × Heard × List ℕ) Fault) (x : Hearing)
    → SaysMore x.side (hears_read g more place bytes r x).side
says_read g more says place bytes (Err fault) x = says_ends_by _ x.side
says_read g more says place bytes (Ok read) x = says_tested g more says place _ read (refusal g x.side read.0) x

says_hears : (g : Setting) (n front : ℕ) → SaysNext (hears g n front)
unfolding hears
says_hears g zero front place bytes x = says_block_ends front bytes x
says_hears g (suc n) front place bytes x =
    says_read g (hears g n front) (says_hears g n front) place bytes (message_at g.registry (waits_of x.side.stacks) x.side.incoming.heard bytes) x

says_part : (g : Setting) (bytes : List ℕ) (why : Option Reason) (s : Side) → SaysMore s (feeds_part g bytes why s).side
says_part g bytes (Some why) s = says_ends_by _ s
says_part g bytes None s = either (block_stands bytes)
  where
    either : (b : Bool) → SaysMore s (if b then feeds_whole g bytes s else heard_nothing (holds_bytes bytes s)).side
    either true = says_hears g (count_said bytes) s.incoming.place _ _ (heard_nothing (takes_block bytes s))
    either false = says_same s

pub says_feeds : (g : Setting) (piece : List ℕ) (s : Side) → SaysMore s (feeds g piece s).side
unfolding feeds
says_feeds g piece s = says_part g _ (header_fault _) s

-- ---- statements, and objects that go

says_effect : (g : Setting) (tid : List ℕ) (p : Picked) (e : Effect) (s : Side) → SaysMore s (applies_effect g tid p e s)
says_effect g tid p disposes s = says_ends_by _ s
says_effect g tid p e s = of_grown s.outgoing (grows_applies g tid p.method p.below e s.tables)

pub says_picked : (g : Setting) (tid : List ℕ) (p : Option Picked) (s : Side) → SaysMore s (applies_picked g tid p s)
says_picked g tid None s = says_same s
says_picked g tid (Some p) s = says_effect g tid p (effect_at g tid p.method p.below s.tables) s

pub says_reaps : (g : Setting) (o : Option Object) (s : Side) → SaysMore s (reaps_some g o s)
unfolding reaps
says_reaps g None s = says_same s
says_reaps g (Some o) s = of_grown s.outgoing (grows_reaps g o s)

-- ---- roots

call_goes : (g : Setting) (root : ℕ) (r : Ref) (function : ℕ) (args : List Plain) (s : Side) → (begins_call g root r function args s).outgoing ≡ s.outgoing
call_goes g root null function args s = refl
call_goes g root (own oid face) function args s = refl
call_goes g root (peer oid face) function args s = refl

calls_go : (g : Setting) (root : ℕ) (oid face : List ℕ) (function : ℕ) (args : List Plain) (why : Option RuntimeCause) (s : Side)
    → (calls_unless g root oid face function args why s).outgoing ≡ s.outgoing
calls_go g root oid face function args None s = call_goes g root (ref_of g oid face) function args s
calls_go g root oid face function args (Some why) s = refl

pub says_calls : (g : Setting) (root : ℕ) (oid face : List ℕ) (function : ℕ) (args : List Plain) (s : Side) → SaysMore s (root_calls g root oid face function args s)
unfolding root_calls
says_calls g root oid face function args s =
    let grown = grows_root_calls g root oid face function args s in
    record { new = grown.new; said = grown.said; same = calls_go g root oid face function args (answered_before (root_tid g root) oid face function args) s }

query_goes : (g : Setting) (root : ℕ) (r : Ref) (wanted : List ℕ) (s : Side) → (begins_query g root r wanted s).outgoing ≡ s.outgoing
query_goes g root null wanted s = refl
query_goes g root (own oid face) wanted s = refl
query_goes g root (peer oid face) wanted s = refl

queries_go : (g : Setting) (root : ℕ) (oid face wanted : List ℕ) (why : Option RuntimeCause) (s : Side)
    → (queries_unless g root oid face wanted why s).outgoing ≡ s.outgoing
queries_go g root oid face wanted None s = query_goes g root (ref_of g oid face) wanted s
queries_go g root oid face wanted (Some why) s = refl

pub says_queries : (g : Setting) (root : ℕ) (oid face wanted : List ℕ) (s : Side) → SaysMore s (root_queries g root oid face wanted s)
unfolding root_queries
says_queries g root oid face wanted s =
    let grown = grows_root_queries g root oid face wanted s in
    record { new = grown.new; said = grown.said; same = queries_go g root oid face wanted (answered_before (root_tid g root) oid face 0 (query_args wanted)) s }

asks_go : (g : Setting) (root : ℕ) (name wanted : List ℕ) (why : Option RuntimeCause) (s : Side) → (asks_unless g root name wanted why s).outgoing ≡ s.outgoing
asks_go g root name wanted None s = refl
asks_go g root name wanted (Some why) s = refl

pub says_asks : (g : Setting) (root : ℕ) (name wanted : List ℕ) (s : Side) → SaysMore s (root_asks g root name wanted s)
unfolding root_asks
says_asks g root name wanted s =
    let grown = grows_root_asks g root name wanted s in
    record { new = grown.new; said = grown.said; same = asks_go g root name wanted (answered_before (root_tid g root) name x_interface_name 0 (query_args wanted)) s }

pub says_makes : (g : Setting) (root behaviour : ℕ) (wanted : List ℕ) (s : Side) → SaysMore s (root_makes g root behaviour wanted s)
unfolding root_makes
says_makes g root behaviour wanted s = of_grown s.outgoing (grows_root_makes g root behaviour wanted s)

pub says_drops : (g : Setting) (root : ℕ) (oid face : List ℕ) (s : Side) → SaysMore s (root_drops g root oid face s)
unfolding root_drops
says_drops g root oid face s = of_grown s.outgoing (grows_root_drops g root oid face s)

pub says_takes : (root : ℕ) (s : Side) → SaysMore s (root_takes root s)
unfolding root_takes
says_takes root s = says_same s
