-- What is held of the open block ends no block, and no thread has two stacks, in every history.
use Rattle.std.proofs.Common.{◌≡◌, refl, ℕ, zero, suc, ◌+◌, ◌-◌, Bool, true, false, ◌==◌, if◌then◌else◌, List, [], ◌∷◌, ◌++◌, length, drop, Option, None, Some, Result, Ok, Err}
use Rattle.message_model.specs.Headers.{Heard}
use Rattle.message_model.specs.Messages.{Message, request, release, reply}
use Rattle.message_model.specs.ReadingMessages.{message_at}
use Rattle.message_model.specs.ReadingStreams.{reason_of}
use Rattle.uno_model.specs.BuiltIn.{x_interface_name}
use Rattle.uno_model.specs.Values.{Ref, null, own, peer, Plain}
use Rattle.urp_model.specs.declared.fault.Fault.{Fault}
use Rattle.urp_model.specs.declared.reason.Reason.{Reason}
use Rattle.urp_model.specs.declared.reason.Reason.TheVariants.{LeftOver}
use Rattle.plan_model.specs.Asking.{Effect, disposes}
use Rattle.plan_model.specs.declared.runtime_cause.RuntimeCause.{RuntimeCause}
use Rattle.bridge_model.specs.Applying.{effect_at}
use Rattle.bridge_model.specs.Calls.{query_args}
use Rattle.bridge_model.specs.Ends.{ends_by, runs_out}
use Rattle.bridge_model.specs.Entries.{Entry, fed, ended, failed, asked, called, queried, made, dropped, applied, took, reaped, drained, disposed, full, no_memory, counts}
use Rattle.bridge_model.specs.Feeding.{block_stands, header_fault, ends_part, is_some_reason, Hearing, remembers, gets, block_ends, Next, hears_tested, hears_read, hears, heard_nothing, holds_bytes, takes_block, feeds_whole, feeds_part, feeds, count_said}
use Rattle.bridge_model.specs.Going.{drains, reaps}
use Rattle.bridge_model.specs.Histories.{Told, Leads}
use Rattle.bridge_model.specs.Objects.{lowest}
use Rattle.bridge_model.specs.Receiving.{refusal, receives}
use Rattle.bridge_model.specs.Roots.{answered_before, begins_call, calls_unless, root_calls, begins_query, queries_unless, root_queries, asks_unless, root_asks, root_makes, root_drops, root_takes}
use Rattle.bridge_model.specs.Settings.{Setting, root_tid, ref_of}
use Rattle.bridge_model.specs.Sides.{Object, Side}
use Rattle.bridge_model.specs.Stacks.{waits_of}
use Rattle.bridge_model.specs.Steps.{opening, Picked, picked, applies_effect, applies_picked, reaps_some, does}
use Rattle.bridge_model.specs.declared.cause.Cause.{Cause}
use Rattle.bridge_model.specs.declared.cause.Cause.TheVariants as cause
use Rattle.bridge_laws.proofs.Replays.{IsKept, along_replay}

-- what is held of the open block ends nothing
abbrev pub IsOpen : Side → Type 0
IsOpen s = ends_part s.incoming.held ≡ false

nothing_open : ends_part [] ≡ false
unfolding ends_part header_fault block_stands
nothing_open = refl

module _ (g : Setting) where
  ends_open : (why : Cause) (s : Side) → IsOpen (ends_by why s)
  unfolding ends_by
  ends_open why s = nothing_open

  out_open : (why : Option Cause) (s : Side) → IsOpen s → IsOpen (runs_out why s)
  unfolding runs_out
  out_open None s fine = ends_open cause.NoMemory s
  out_open (Some why) s fine = fine

  -- ---- messages

  requested_by : (b : Bool) (at_once later : Side) → IsOpen at_once → IsOpen later → IsOpen (if b then at_once else later)
  requested_by true at_once later now behind = now
  requested_by false at_once later now behind = behind

  receives_open : (m : Message) (s : Side) → IsOpen s → IsOpen (receives g m s)
  unfolding receives
  receives_open (request tid oid face function args) s fine = requested_by (function == 0) _ _ fine fine
  receives_open (release tid oid face) s fine = fine
  receives_open (reply tid face function a) s fine = fine

  -- ---- bytes

  block_ends_open : (front : ℕ) (bytes : List ℕ) (x : Hearing) → IsOpen x.side → IsOpen (block_ends front bytes x).side
  block_ends_open front [] x fine = fine
  block_ends_open front (b ∷ bytes) x fine = ends_open (cause.Broken LeftOver front) x.side

  abbrev NextOpen : Next → Type 0
  NextOpen more = (place : ℕ) (bytes : List ℕ) (x : Hearing) → IsOpen x.side → IsOpen (more place bytes x).side

  tested_open : (more : Next) (place next : ℕ) (read : Message × Heard × List ℕ) (why : Option Reason) (x : Hearing) → NextOpen more → IsOpen x.side → IsOpen (hears_tested g more place next read why x).side
  tested_open more place next read None x behind fine = behind next read.2 (gets g read.0 read.1 x) (receives_open read.0 (remembers read.1 x.side) fine)
  tested_open more place next read (Some why) x behind fine = ends_open (cause.Broken why place) x.side

  read_open : (more : Next) (place : ℕ) (bytes : List ℕ) (read : Result (Message × Heard × List ℕ) Fault) (x : Hearing) → NextOpen more → IsOpen x.side → IsOpen (hears_read g more place bytes read x).side
  read_open more place bytes (Err fault) x behind fine = ends_open (cause.Broken (reason_of fault) place) x.side
  read_open more place bytes (Ok read) x behind fine = tested_open more place (place + (length bytes - length read.2)) read (refusal g x.side read.0) x behind fine

  hears_open : (m front : ℕ) → NextOpen (hears g m front)
  unfolding hears
  hears_open zero front place bytes x fine = block_ends_open front bytes x fine
  hears_open (suc m) front place bytes x fine =
      read_open (hears g m front) place bytes (message_at g.registry (waits_of x.side.stacks) x.side.incoming.heard bytes) x (hears_open m front) fine

  held_open : (bytes : List ℕ) (why : Option Reason) (b : Bool) → header_fault bytes ≡ why → is_some_reason why ≡ false → block_stands bytes ≡ b → b ≡ false → ends_part bytes ≡ false
  unfolding ends_part
  held_open bytes why b fault none whole part = rw (fault, none, whole, part) refl

  fed_by : (bytes : List ℕ) (s : Side) (b : Bool) → header_fault bytes ≡ None → block_stands bytes ≡ b → IsOpen (if b then feeds_whole g bytes s else heard_nothing (holds_bytes bytes s)).side
  fed_by bytes s true fault whole = hears_open (count_said bytes) s.incoming.place (s.incoming.place + 8) (drop 8 bytes) (heard_nothing (takes_block bytes s)) nothing_open
  fed_by bytes s false fault whole = held_open bytes None false fault refl whole refl

  part_open : (bytes : List ℕ) (why : Option Reason) (s : Side) → header_fault bytes ≡ why → IsOpen (feeds_part g bytes why s).side
  part_open bytes (Some why) s fault = ends_open (cause.Broken why s.incoming.place) s
  part_open bytes None s fault = fed_by bytes s (block_stands bytes) fault refl

  feeds_open : (piece : List ℕ) (s : Side) → IsOpen (feeds g piece s).side
  unfolding feeds
  feeds_open piece s = part_open (s.incoming.held ++ piece) (header_fault (s.incoming.held ++ piece)) s refl

  -- ---- roots and statements

  call_open : (root : ℕ) (r : Ref) (function : ℕ) (args : List Plain) (s : Side) → IsOpen s → IsOpen (begins_call g root r function args s)
  call_open root null function args s fine = fine
  call_open root (own oid face) function args s fine = fine
  call_open root (peer oid face) function args s fine = fine

  calls_open : (root : ℕ) (oid face : List ℕ) (function : ℕ) (args : List Plain) (why : Option RuntimeCause) (s : Side) → IsOpen s → IsOpen (calls_unless g root oid face function args why s)
  calls_open root oid face function args None s fine = call_open root (ref_of g oid face) function args s fine
  calls_open root oid face function args (Some why) s fine = fine

  query_open : (root : ℕ) (r : Ref) (wanted : List ℕ) (s : Side) → IsOpen s → IsOpen (begins_query g root r wanted s)
  query_open root null wanted s fine = fine
  query_open root (own oid face) wanted s fine = fine
  query_open root (peer oid face) wanted s fine = fine

  queries_open : (root : ℕ) (oid face wanted : List ℕ) (why : Option RuntimeCause) (s : Side) → IsOpen s → IsOpen (queries_unless g root oid face wanted why s)
  queries_open root oid face wanted None s fine = query_open root (ref_of g oid face) wanted s fine
  queries_open root oid face wanted (Some why) s fine = fine

  asks_open : (root : ℕ) (name wanted : List ℕ) (why : Option RuntimeCause) (s : Side) → IsOpen s → IsOpen (asks_unless g root name wanted why s)
  asks_open root name wanted None s fine = fine
  asks_open root name wanted (Some why) s fine = fine

  effect_open : (tid : List ℕ) (p : Picked) (e : Effect) (s : Side) → IsOpen s → IsOpen (applies_effect g tid p e s)
  effect_open tid p disposes s fine = ends_open cause.Disposed s
  effect_open tid p e s fine = fine

  applied_open : (tid : List ℕ) (p : Option Picked) (s : Side) → IsOpen s → IsOpen (applies_picked g tid p s)
  applied_open tid None s fine = fine
  applied_open tid (Some p) s fine = effect_open tid p (effect_at g tid p.method p.below s.tables) s fine

  reaps_open : (o : Option Object) (s : Side) → IsOpen s → IsOpen (reaps_some g o s)
  unfolding reaps
  reaps_open None s fine = fine
  reaps_open (Some o) s fine = fine

  -- ---- entries

  does_open : (e : Entry) (s : Side) → IsOpen s → IsOpen (does g e s).side
  unfolding does root_calls root_queries root_asks root_makes root_drops root_takes drains
  does_open (fed b) s fine = feeds_open b s
  does_open ended s fine = ends_open cause.Ended s
  does_open failed s fine = ends_open cause.Failed s
  does_open (asked root name wanted) s fine = asks_open root name wanted (answered_before (root_tid g root) name x_interface_name 0 (query_args wanted)) s fine
  does_open (called root oid face function args) s fine = calls_open root oid face function args (answered_before (root_tid g root) oid face function args) s fine
  does_open (queried root oid face wanted) s fine = queries_open root oid face wanted (answered_before (root_tid g root) oid face 0 (query_args wanted)) s fine
  does_open (made root behaviour wanted) s fine = fine
  does_open (dropped root oid face) s fine = fine
  does_open (applied tid) s fine = applied_open tid (picked tid s) s fine
  does_open (took root) s fine = fine
  does_open (reaped object) s fine = reaps_open (lowest g s.tables) s fine
  does_open (drained b) s fine = fine
  does_open disposed s fine = ends_open cause.Disposed s
  does_open full s fine = ends_open cause.Full s
  does_open no_memory s fine = out_open s.cause s fine

  counted_open : (b : Bool) (s : Side) → IsOpen s → IsOpen (if b then record s { entries = suc s.entries } else s)
  counted_open true s fine = fine
  counted_open false s fine = fine

  opening_open : IsOpen (opening g)
  unfolding opening
  opening_open = nothing_open

  kept : IsKept g (λ x. IsOpen x.side)
  kept x e fine may_it = counted_open (counts e) (does g e x.side).side (does_open e x.side fine)

  pub all_open : (es : List Entry) (x : Told) → Leads g es x → IsOpen x.side
  all_open es x leads = along_replay g (λ y. IsOpen y.side) opening_open kept es x leads
