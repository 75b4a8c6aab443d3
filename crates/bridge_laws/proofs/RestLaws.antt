-- What an entry leaves as it was.
use Rattle.std.proofs.Common.{◌≡◌, ℕ, zero, suc, Bool, true, false, List, [], ◌∷◌, Option, None, Some, Result, Ok, Err, refl, ◌∙◌, ◌==◌, if◌then◌else◌}
use Rattle.message_model.specs.Headers.{Heard}
use Rattle.message_model.specs.Messages.{Message, request, release, reply}
use Rattle.message_model.specs.ReadingMessages.{message_at}
use Rattle.plan_model.specs.Asking.{Effect, lets, sets, sets_field, drops, skips, calls, queries, makes, disposes, creates, returns, raises}
use Rattle.plan_model.specs.declared.runtime_cause.RuntimeCause.{RuntimeCause}
use Rattle.table_model.specs.declared.holder.Holder.{Holder}
use Rattle.table_model.specs.declared.holder.Holder.TheVariants as holder
use Rattle.uno_model.specs.Values.{Ref, null, own, peer, Plain}
use Rattle.urp_model.specs.declared.fault.Fault.{Fault}
use Rattle.urp_model.specs.declared.reason.Reason.{Reason}
use Rattle.bridge_model.specs.Calls.{calls_own, calls_peer}
use Rattle.bridge_model.specs.Ends.{ends_by, runs_out}
use Rattle.bridge_model.specs.Entries.{Entry, fed, ended, failed, asked, called, queried, made, dropped, applied, took, reaped, drained, disposed, full, no_memory}
use Rattle.bridge_model.specs.Feeding.{Hearing, Next, hears, hears_read, hears_tested, feeds, feeds_part, feeds_whole, gets, block_stands, heard_nothing, takes_block}
use Rattle.bridge_model.specs.Going.{drains, reaps, reaps_object}
use Rattle.bridge_model.specs.Handing.{root_gets}
use Rattle.bridge_model.specs.Objects.{makes_object, defaults_of}
use Rattle.bridge_model.specs.Receiving.{refusal, receives}
use Rattle.bridge_model.specs.References.{says, releases, gains, gains_all, loses, loses_all, stays, gives_back, lets_go, lets_go_all, holds_ref, is_held}
use Rattle.bridge_model.specs.Roots.{root_calls, root_queries, root_asks, root_makes, root_drops, root_takes, calls_unless, queries_unless, asks_unless, begins_call, begins_query}
use Rattle.bridge_model.specs.Settings.{Setting, ref_of}
use Rattle.bridge_model.specs.Sides.{Object, Tables, Side, stands}
use Rattle.bridge_model.specs.Stacks.{waits_of}
use Rattle.bridge_model.specs.Steps.{Turn, step, does, counted, Picked, picked, applies_picked, applies_effect, reaps_some}
use Rattle.bridge_model.specs.declared.cause.Cause.{Cause}
use Rattle.bridge_model.specs.declared.cause.Cause.TheVariants as cause
use Rattle.bridge_laws.specs.Resting.{SameObjects, SameFrames, SameSaid, SameBridge, SamePairs, SameAtEnd, SameAtCall, SameAtMaking, SameAtDropping, SameAtTaking, SameAtReaping, SameAtDraining, SameWithoutMemory, KeepsTheRest}
use Rattle.bridge_laws.proofs.GrowsLaws.{keeps_makes_object}
use Rattle.bridge_laws.proofs.Replays.{of_step}

-- ---- what holding and letting go leave of tables

record Steady (t u : Tables) : Type 0 where
  living : u.objects ≡ t.objects
  made : u.objects_made ≡ t.objects_made
  frames : u.frames_made ≡ t.frames_made
  roots : u.roots ≡ t.roots

steady : (t : Tables) → Steady t t
steady t = record { living = refl; made = refl; frames = refl; roots = refl }

steady_on : {t u v : Tables} → Steady t u → Steady u v → Steady t v
steady_on a b = record { living = b.living ∙ a.living; made = b.made ∙ a.made; frames = b.frames ∙ a.frames; roots = b.roots ∙ a.roots }

steady_says : (g : Setting) (m : Message) (t : Tables) → Steady t (says g m t)
unfolding says
steady_says g m t = record { living = refl; made = refl; frames = refl; roots = refl }

steady_gains : (h : Holder) (r : Ref) (t : Tables) → Steady t (gains h r t)
steady_gains h null t = steady t
steady_gains h (own oid face) t = record { living = refl; made = refl; frames = refl; roots = refl }
steady_gains h (peer oid face) t = record { living = refl; made = refl; frames = refl; roots = refl }

steady_gains_all : (h : Holder) (rs : List Ref) (t : Tables) → Steady t (gains_all h rs t)
unfolding gains_all
steady_gains_all h [] t = steady t
steady_gains_all h (r ∷ rs) t = steady_on (steady_gains h r t) (steady_gains_all h rs (gains h r t))

steady_loses : (h : Holder) (r : Ref) (t : Tables) → Steady t (loses h r t)
steady_loses h null t = steady t
steady_loses h (own oid face) t = record { living = refl; made = refl; frames = refl; roots = refl }
steady_loses h (peer oid face) t = record { living = refl; made = refl; frames = refl; roots = refl }

steady_loses_all : (h : Holder) (rs : List Ref) (t : Tables) → Steady t (loses_all h rs t)
unfolding loses_all
steady_loses_all h [] t = steady t
steady_loses_all h (r ∷ rs) t = steady_on (steady_loses h r t) (steady_loses_all h rs (loses h r t))

steady_if : (b : Bool) (t u v : Tables) → Steady t u → Steady t v → Steady t (if b then u else v)
steady_if true t u v a b = a
steady_if false t u v a b = b

steady_gives_back : (g : Setting) (r : Ref) (t : Tables) → Steady t (gives_back g r t)
steady_gives_back g null t = steady t
steady_gives_back g (own oid face) t = steady t
steady_gives_back g (peer oid face) t = steady_if (stays g oid face t) t t (releases g oid face t) (steady t) (steady_says g _ t)

steady_lets_go : (g : Setting) (h : Holder) (r : Ref) (t : Tables) → Steady t (lets_go g h r t)
steady_lets_go g h r t =
    steady_if (holds_ref h r t) t (gives_back g r (loses h r t)) t (steady_on (steady_loses h r t) (steady_gives_back g r (loses h r t))) (steady t)

steady_lets_go_all : (g : Setting) (h : Holder) (rs : List Ref) (t : Tables) → Steady t (lets_go_all g h rs t)
unfolding lets_go_all
steady_lets_go_all g h [] t = steady t
steady_lets_go_all g h (r ∷ rs) t = steady_on (steady_lets_go g h r t) (steady_lets_go_all g h rs (lets_go g h r t))

-- ---- ends

at_end : (why : Cause) (s : Side) → SameAtEnd s (ends_by why s)
unfolding ends_by
at_end why s = record { objects = record { living = refl; made = refl }; frames = refl; said = record { unsaid = refl; outgoing = refl } }

without_memory : (why : Option Cause) (s : Side) → SameWithoutMemory s (runs_out why s)
unfolding runs_out ends_by
without_memory None s = record { objects = record { living = refl; made = refl }; frames = refl }
without_memory (Some why) s = record { objects = record { living = refl; made = refl }; frames = refl }

-- ---- bytes and statements leave the bytes that wait

out_if : (b : Bool) (s u v : Side) → u.outgoing ≡ s.outgoing → v.outgoing ≡ s.outgoing → (if b then u else v).outgoing ≡ s.outgoing
out_if true s u v a b = a
out_if false s u v a b = b

out_receives : (g : Setting) (m : Message) (s : Side) → (receives g m s).outgoing ≡ s.outgoing
unfolding receives
out_receives g (release tid oid face) s = refl
out_receives g (request tid oid face function args) s = out_if (function == 0) s _ _ refl refl
out_receives g (reply tid face function a) s = refl

abbrev SameOut : Hearing → Hearing → Type 0
SameOut x y = y.side.outgoing ≡ x.side.outgoing

out_tested : (g : Setting) (more : Next) → ((place : ℕ) (bytes : List ℕ) (x : Hearing) → SameOut x (more place bytes x)) → (place next : ℕ) (read : Message × Heard × List ℕ)
    (o : Option Reason) (x : Hearing) → SameOut x (hears_tested g more place next read o x)
unfolding ends_by
out_tested g more behind place next read None x = behind next read.2 (gets g read.0 read.1 x) ∙ out_receives g read.0 _
out_tested g more behind place next read (Some why) x = refl

out_read : (g : Setting) (more : Next) → ((place : ℕ) (bytes : List ℕ) (x : Hearing) → SameOut x (more place bytes x)) → (place : ℕ) (bytes : List ℕ)
    (read : Result (Message × Heard × List ℕ) Fault) (x : Hearing) → SameOut x (hears_read g more place bytes read x)
unfolding ends_by
out_read g more behind place bytes (Err fault) x = refl
out_read g more behind place bytes (Ok read) x = out_tested g more behind place _ read (refusal g x.side read.0) x

out_hears : (g : Setting) (n front place : ℕ) (bytes : List ℕ) (x : Hearing) → SameOut x (hears g n front place bytes x)
unfolding hears ends_by
out_hears g zero front place [] x = refl
out_hears g zero front place (b ∷ bytes) x = refl
out_hears g (suc n) front place bytes x =
    out_read g (hears g n front) (λ p bs y. out_hears g n front p bs y) place bytes (message_at g.registry (waits_of x.side.stacks) x.side.incoming.heard bytes) x

hearing_if : (b : Bool) (s : Side) (x y : Hearing) → x.side.outgoing ≡ s.outgoing → y.side.outgoing ≡ s.outgoing → (if b then x else y).side.outgoing ≡ s.outgoing
hearing_if true s x y a b = a
hearing_if false s x y a b = b

out_part : (g : Setting) (bytes : List ℕ) (why : Option Reason) (s : Side) → (feeds_part g bytes why s).side.outgoing ≡ s.outgoing
unfolding ends_by
out_part g bytes (Some why) s = refl
out_part g bytes None s = hearing_if (block_stands bytes) s (feeds_whole g bytes s) _ (out_hears g _ _ _ _ (heard_nothing (takes_block bytes s))) refl

out_effect : (g : Setting) (tid : List ℕ) (p : Picked) (e : Effect) (s : Side) → (applies_effect g tid p e s).outgoing ≡ s.outgoing
unfolding ends_by
out_effect g tid p (lets x) s = refl
out_effect g tid p (sets x) s = refl
out_effect g tid p (sets_field x) s = refl
out_effect g tid p (drops name) s = refl
out_effect g tid p skips s = refl
out_effect g tid p (calls target function args to) s = refl
out_effect g tid p (queries target wanted to) s = refl
out_effect g tid p (makes behaviour face to) s = refl
out_effect g tid p disposes s = refl
out_effect g tid p (creates name args) s = refl
out_effect g tid p (returns x outs) s = refl
out_effect g tid p (raises k x) s = refl

out_picked : (g : Setting) (tid : List ℕ) (p : Option Picked) (s : Side) → (applies_picked g tid p s).outgoing ≡ s.outgoing
out_picked g tid None s = refl
out_picked g tid (Some p) s = out_effect g tid p _ s

-- ---- roots

at_call : (s u : Side) → u.incoming ≡ s.incoming → u.outgoing ≡ s.outgoing → u.cause ≡ s.cause → u.tables.objects ≡ s.tables.objects → u.tables.objects_made ≡ s.tables.objects_made
    → SameAtCall s u
at_call s u a b c d e = record { objects = record { living = d; made = e }; bridge = record { incoming = a; outgoing = b; cause = c } }

rests_begins : (g : Setting) (root : ℕ) (r : Ref) (function : ℕ) (args : List Plain) (s : Side) → SameAtCall s (begins_call g root r function args s)
unfolding calls_own calls_peer says
rests_begins g root null function args s = at_call s s refl refl refl refl refl
rests_begins g root (own oid face) function args s =
    let held = steady_gains_all _ _ _ in
    at_call s _ refl refl refl held.living held.made
rests_begins g root (peer oid face) function args s = at_call s _ refl refl refl refl refl

rests_calls : (g : Setting) (root : ℕ) (oid face : List ℕ) (function : ℕ) (args : List Plain) (why : Option RuntimeCause) (s : Side)
    → SameAtCall s (calls_unless g root oid face function args why s)
rests_calls g root oid face function args (Some why) s = at_call s _ refl refl refl refl refl
rests_calls g root oid face function args None s = rests_begins g root (ref_of g oid face) function args s

rests_begins_query : (g : Setting) (root : ℕ) (r : Ref) (wanted : List ℕ) (s : Side) → SameAtCall s (begins_query g root r wanted s)
unfolding root_gets calls_peer says
rests_begins_query g root null wanted s = at_call s s refl refl refl refl refl
rests_begins_query g root (own oid face) wanted s =
    let held = steady_gains_all _ _ s.tables in
    let gone = steady_lets_go_all g _ _ _ in
    at_call s _ refl refl refl (gone.living ∙ held.living) (gone.made ∙ held.made)
rests_begins_query g root (peer oid face) wanted s = at_call s _ refl refl refl refl refl

rests_queries : (g : Setting) (root : ℕ) (oid face wanted : List ℕ) (why : Option RuntimeCause) (s : Side) → SameAtCall s (queries_unless g root oid face wanted why s)
rests_queries g root oid face wanted (Some why) s = at_call s _ refl refl refl refl refl
rests_queries g root oid face wanted None s = rests_begins_query g root (ref_of g oid face) wanted s

rests_asks : (g : Setting) (root : ℕ) (name wanted : List ℕ) (why : Option RuntimeCause) (s : Side) → SameAtCall s (asks_unless g root name wanted why s)
unfolding calls_peer says
rests_asks g root name wanted (Some why) s = at_call s _ refl refl refl refl refl
rests_asks g root name wanted None s = at_call s _ refl refl refl refl refl

rests_makes : (g : Setting) (root behaviour : ℕ) (wanted : List ℕ) (s : Side) → SameAtMaking s (root_makes g root behaviour wanted s)
unfolding root_makes makes_object
rests_makes g root behaviour wanted s =
    let held = steady_gains_all _ _ _ in
    let quiet = keeps_makes_object behaviour (defaults_of g behaviour) s.tables in
    record {
      frames = record { stacks = refl; made = held.frames };
      said = record { unsaid = quiet.said; outgoing = refl };
      stubs = quiet.counted;
      roots = held.roots;
      bridge = record { incoming = refl; outgoing = refl; cause = refl };
    }

rests_drops : (g : Setting) (root : ℕ) (oid face : List ℕ) (s : Side) → SameAtDropping s (root_drops g root oid face s)
unfolding root_drops
rests_drops g root oid face s =
    let same = dropped_if (stands s) in
    record {
      objects = record { living = same.living; made = same.made };
      frames = record { stacks = refl; made = same.frames };
      roots = same.roots;
      bridge = record { incoming = refl; outgoing = refl; cause = refl };
    }
  where
    dropped_if : (b : Bool) → Steady s.tables ((if b then lets_go g (holder.Root root) (ref_of g oid face) else loses (holder.Root root) (ref_of g oid face)) s.tables)
    dropped_if true = steady_lets_go g (holder.Root root) (ref_of g oid face) s.tables
    dropped_if false = steady_loses (holder.Root root) (ref_of g oid face) s.tables

rests_takes : (root : ℕ) (s : Side) → SameAtTaking s (root_takes root s)
unfolding root_takes
rests_takes root s =
    record {
      objects = record { living = refl; made = refl };
      frames = record { stacks = refl; made = refl };
      pairs = record { holdings = refl; stubs = refl };
      said = record { unsaid = refl; outgoing = refl };
      bridge = record { incoming = refl; outgoing = refl; cause = refl };
    }

-- ---- objects that go, and bytes

record Unmoved (t u : Tables) : Type 0 where
  made : u.objects_made ≡ t.objects_made
  frames : u.frames_made ≡ t.frames_made
  roots : u.roots ≡ t.roots

reaped_by : (g : Setting) (standing : Bool) (o : Object) (t : Tables) → Unmoved t (reaps_object g standing o t)
reaped_by g true o t = let gone = steady_lets_go_all g _ _ _ in record { made = gone.made; frames = gone.frames; roots = gone.roots }
reaped_by g false o t = let gone = steady_loses_all _ _ _ in record { made = gone.made; frames = gone.frames; roots = gone.roots }

rests_reaps : (g : Setting) (o : Option Object) (s : Side) → SameAtReaping s (reaps_some g o s)
unfolding reaps
rests_reaps g None s = record { made = refl; frames = record { stacks = refl; made = refl }; roots = refl; bridge = record { incoming = refl; outgoing = refl; cause = refl } }
rests_reaps g (Some o) s =
    let same = reaped_by g (stands s) o s.tables in
    record { made = same.made; frames = record { stacks = refl; made = same.frames }; roots = same.roots; bridge = record { incoming = refl; outgoing = refl; cause = refl } }

rests_drains : (g : Setting) (n : ℕ) (s : Side) → SameAtDraining s (drains g n s)
unfolding drains
rests_drains g n s =
    record {
      objects = record { living = refl; made = refl };
      frames = record { stacks = refl; made = refl };
      pairs = record { holdings = refl; stubs = refl };
      roots = refl;
      incoming = refl;
      cause = refl;
    }

-- ---- each entry

-- that it is counted makes no difference
objects_counted : {s u : Side} (n : ℕ) → SameObjects s u → SameObjects s (record u { entries = n })
objects_counted n same = record { living = same.living; made = same.made }

frames_counted : {s u : Side} (n : ℕ) → SameFrames s u → SameFrames s (record u { entries = n })
frames_counted n same = record { stacks = same.stacks; made = same.made }

said_counted : {s u : Side} (n : ℕ) → SameSaid s u → SameSaid s (record u { entries = n })
said_counted n same = record { unsaid = same.unsaid; outgoing = same.outgoing }

bridge_counted : {s u : Side} (n : ℕ) → SameBridge s u → SameBridge s (record u { entries = n })
bridge_counted n same = record { incoming = same.incoming; outgoing = same.outgoing; cause = same.cause }

pairs_counted : {s u : Side} (n : ℕ) → SamePairs s u → SamePairs s (record u { entries = n })
pairs_counted n same = record { holdings = same.holdings; stubs = same.stubs }

rests : (g : Setting) (e : Entry) (s : Side) → KeepsTheRest e s (counted e (does g e s).side)
unfolding does feeds root_calls root_queries root_asks
rests g (fed b) s = out_part g _ _ s
rests g ended s = let same = at_end cause.Ended s in record { objects = objects_counted _ same.objects; frames = same.frames; said = said_counted _ same.said }
rests g failed s = let same = at_end cause.Failed s in record { objects = objects_counted _ same.objects; frames = same.frames; said = said_counted _ same.said }
rests g (asked root name wanted) s = let same = rests_asks g root name wanted _ s in record { objects = objects_counted _ same.objects; bridge = bridge_counted _ same.bridge }
rests g (called root oid face function args) s = let same = rests_calls g root oid face function args _ s in record { objects = objects_counted _ same.objects; bridge = bridge_counted _ same.bridge }
rests g (queried root oid face wanted) s = let same = rests_queries g root oid face wanted _ s in record { objects = objects_counted _ same.objects; bridge = bridge_counted _ same.bridge }
rests g (made root behaviour wanted) s =
    let same = rests_makes g root behaviour wanted s in record { frames = frames_counted _ same.frames; said = said_counted _ same.said; stubs = same.stubs; roots = same.roots; bridge = bridge_counted _ same.bridge }
rests g (dropped root oid face) s =
    let same = rests_drops g root oid face s in record { objects = objects_counted _ same.objects; frames = frames_counted _ same.frames; roots = same.roots; bridge = bridge_counted _ same.bridge }
rests g (applied tid) s = out_picked g tid (picked tid s) s
rests g (took root) s =
    let same = rests_takes root s in record { objects = objects_counted _ same.objects; frames = frames_counted _ same.frames; pairs = pairs_counted _ same.pairs; said = said_counted _ same.said; bridge = bridge_counted _ same.bridge }
rests g (reaped object) s = let same = rests_reaps g _ s in record { made = same.made; frames = frames_counted _ same.frames; roots = same.roots; bridge = bridge_counted _ same.bridge }
rests g (drained b) s = rests_drains g _ s
rests g disposed s = let same = at_end cause.Disposed s in record { objects = objects_counted _ same.objects; frames = same.frames; said = said_counted _ same.said }
rests g full s = let same = at_end cause.Full s in record { objects = objects_counted _ same.objects; frames = same.frames; said = said_counted _ same.said }
rests g no_memory s = let same = without_memory s.cause s in record { objects = objects_counted _ same.objects; frames = same.frames }

pub rest_kept : (g : Setting) (s : Side) (e : Entry) (u : Turn) → step g s e ≡ Some u → KeepsTheRest e s u.side
rest_kept g s e u to = of_step g s e u (λ v. KeepsTheRest e s v.side) (λ may_it. rests g e s) to
