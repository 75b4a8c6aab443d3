-- What frames, objects and the outcome of a root refer to is told by its identity, behind each entry.
use Rattle.std.proofs.Common.{◌≡◌, refl, sym, ap, ◌∙◌, ℕ, zero, suc, ◌+◌, ◌-◌, ◌≤◌, Bool, true, false, not, ◌==◌, if◌then◌else◌, List, [], ◌∷◌, ◌++◌, length, drop, Option, None, Some, Result, Ok, Err, arith}
use Rattle.std.specs.List.{list_all}
use Rattle.message_model.specs.Headers.{Heard}
use Rattle.message_model.specs.Messages.{Answer, Message, request, release, reply, returned}
use Rattle.message_model.specs.ReadingMessages.{message_at}
use Rattle.message_model.specs.ReadingStreams.{reason_of}
use Rattle.uno_model.specs.BuiltIn.{x_interface_name}
use Rattle.uno_model.specs.Kinds as kd
use Rattle.uno_model.specs.Values.{Ref, null, own, peer, Plain, refs}
use Rattle.uno_model.specs.Values as v
use Rattle.urp_model.specs.declared.fault.Fault.{Fault}
use Rattle.urp_model.specs.declared.reason.Reason.{Reason}
use Rattle.urp_model.specs.declared.reason.Reason.TheVariants.{LeftOver}
use Rattle.table_model.specs.declared.holder.Holder.{Holder}
use Rattle.table_model.specs.declared.holder.Holder.TheVariants as holder
use Rattle.plan_model.specs.Asking.{Effect, lets, sets, sets_field, drops, skips, calls, queries, makes, disposes, creates, returns, raises}
use Rattle.plan_model.specs.Frames.{Frame, body, frames_of}
use Rattle.plan_model.specs.Leaving.{caused}
use Rattle.plan_model.specs.Plans.{first_objects}
use Rattle.plan_model.specs.declared.runtime_cause.RuntimeCause.{RuntimeCause}
use Rattle.bridge_model.specs.Applying.{applies, effect_at}
use Rattle.bridge_model.specs.Calls.{Unwound, calls_own, calls_peer, serves, query_args}
use Rattle.bridge_model.specs.Ends.{ends_by, runs_out}
use Rattle.bridge_model.specs.Entries.{Entry, fed, ended, failed, asked, called, queried, made, dropped, applied, took, reaped, drained, disposed, full, no_memory}
use Rattle.bridge_model.specs.Feeding.{block_stands, header_fault, Hearing, breaks, remembers, gets, block_ends, Next, hears_tested, hears_read, hears, heard_nothing, holds_bytes, takes_block, feeds_whole, feeds_part, feeds, count_said}
use Rattle.bridge_model.specs.Going.{drains, reaps_object, reaps}
use Rattle.bridge_model.specs.Handing.{hands_from_peer}
use Rattle.bridge_model.specs.Objects.{object_answer, makes_default, lowest, without_object}
use Rattle.bridge_model.specs.Receiving.{refusal, answers_at_once, requested, below_top, receives}
use Rattle.bridge_model.specs.References.{gains, gains_all, says, lets_go, loses, loses_all, each_home, home_value, home_answer, refs_of_values}
use Rattle.bridge_model.specs.Roots.{answered_before, bottom, is_answered, begins_call, calls_unless, root_calls, gets_at_once, begins_query, queries_unless, root_queries, asks_unless, root_asks, root_makes, root_drops, root_takes}
use Rattle.bridge_model.specs.Settings.{Setting, is_told, own_oid, root_tid, ref_of}
use Rattle.bridge_model.specs.Sides.{Object, RootState, idle, waits_call, waits_query, answered, answer, Tables, Side, stands, with_root}
use Rattle.bridge_model.specs.Stacks.{with_unwound, waits_of}
use Rattle.bridge_model.specs.Steps.{opening, no_objects, Picked, picked_in, picked, applies_effect, applies_picked, reaps_some, does}
use Rattle.bridge_model.specs.declared.cause.Cause.{Cause}
use Rattle.bridge_model.specs.declared.cause.Cause.TheVariants as cause
use Rattle.bridge_laws.specs.Counting.{total}
use Rattle.bridge_laws.specs.Living.{plan_constants, entry_refs}
use Rattle.bridge_laws.proofs.ApplyingCountLaws.{IsTargetUncounted, IsUncounted, calls_own_free, serves_free, calls_peer_free, makes_default_counts, makes_all_counts, variables_of_counts, object_answer_counts, alone_counts, applies_free}
use Rattle.bridge_laws.proofs.BackingLaws.{own_told}
use Rattle.bridge_laws.proofs.EffectLaws.{effect_counts}
use Rattle.bridge_laws.proofs.FrameCountLaws.{frames_count, stacks_count, fields_count, objects_count, IsFree, no_frames, body_counts, base_counts, frames_counted, lets_go_objects, lets_go_all_objects, root_gets_objects, hands_from_peer_free}
use Rattle.bridge_laws.proofs.HandingLaws.{returned_owes}
use Rattle.bridge_laws.proofs.OccurrenceLaws.{gains_all_objects}
use Rattle.bridge_laws.proofs.PaidApplyingLaws.{any_face}
use Rattle.bridge_laws.proofs.PaidEntryLaws.{all_told}
use Rattle.bridge_laws.proofs.PaidSideLaws.{ref_told, answer_told}
use Rattle.bridge_laws.proofs.PaidStatementLaws.{works_out}
use Rattle.bridge_laws.proofs.PayingLaws.{stray, strays}
use Rattle.bridge_laws.proofs.RootStateLaws.{stay_gains, stay_gains_all, stay_makes_default, stay_makes_all, stay_loses, stay_loses_all, stay_lets_go, stay_lets_go_all}
use Rattle.bridge_laws.proofs.StackCountLaws.{no_stacks, thread_counts, puts_count}
use Rattle.bridge_laws.proofs.Sums.{total_filter}
use Rattle.bridge_laws.proofs.HeldApplyingLaws.{own_stays, served_stays, peer_stays}
use Rattle.bridge_laws.proofs.CountLaws.{stays_at, gets_at, from_peer_at, applies_at}
use Rattle.bridge_laws.proofs.EntryLaws.{caused_owes}
use Rattle.bridge_laws.proofs.HeldRunLaws.{all_idle}
use Rattle.bridge_laws.proofs.StateLaws.{state_counts, counts_in, idle_counts, waits_call_counts, waits_query_counts, answered_counts, set_at_most, ended_counts}

-- ---- words

-- no reference of frames, of objects and of a root's outcome is told wrong
abbrev pub TellsRight : Setting → ℕ → Side → Type 0
TellsRight g k s = stacks_count (stray g) s.stacks + objects_count (stray g) s.tables.objects + counts_in (stray g) k s.tables.roots ≡ 0

-- ---- what an effect asks

query_known : (g : Setting) (target : Ref) → effect_counts (stray g) (queries target [] []) ≡ 0 → (oid face : List ℕ) → target ≡ own oid face → IsUncounted (stray g) oid
unfolding total
query_known g null told oid face is = absurd (cc)
query_known g (peer other of) told oid face is = absurd (cc)
query_known g (own other of) told oid face is =
    let same : stray g (own oid face) ≡ stray g (own other of) = ap (λ r. stray g r) (sym is) in any_face g oid face (omega arith)

target_known : (g : Setting) (e : Effect) → effect_counts (stray g) e ≡ 0 → IsTargetUncounted (stray g) e
target_known g (queries target wanted to) told = query_known g target told
target_known g (lets x) told = tt
target_known g (sets x) told = tt
target_known g (sets_field x) told = tt
target_known g (drops name) told = tt
target_known g skips told = tt
target_known g (calls target function args to) told = tt
target_known g (makes behaviour face to) told = tt
target_known g disposes told = tt
target_known g (creates name args) told = tt
target_known g (returns x outs) told = tt
target_known g (raises j x) told = tt

-- arguments that came are told by their identities
arguments_told : (g : Setting) (args : List Plain) → strays g (refs_of_values (each_home g args)) ≡ 0
unfolding home_answer
arguments_told g args = let all = answer_told g (returned v.void args) in let parts = returned_owes (stray g) (home_value g v.void) (each_home g args) in omega arith

bottom_none : (f : Ref → ℕ) (root : ℕ) → frames_count f (bottom root) ≡ 0
bottom_none f root = base_counts f root [] ∙ no_frames f

loses_objects : (who : Holder) (r : Ref) (t : Tables) → (loses who r t).objects ≡ t.objects
loses_objects who null t = refl
loses_objects who (own oid face) t = refl
loses_objects who (peer oid face) t = refl

loses_all_objects : (who : Holder) (rs : List Ref) (t : Tables) → (loses_all who rs t).objects ≡ t.objects
unfolding loses_all
loses_all_objects who [] t = refl
loses_all_objects who (r ∷ rs) t = loses_all_objects who rs (loses who r t) ∙ loses_objects who r t

module _ (g : Setting) (k : ℕ) where
  -- ---- sides

  unwound_tells : (tid : List ℕ) (u : Unwound) (s : Side) → IsFree (stray g) u → counts_in (stray g) k u.tables.roots ≤ counts_in (stray g) k s.tables.roots + 0 → TellsRight g k s
      → TellsRight g k (with_unwound tid u s)
  unwound_tells tid u s free most fine = let put = puts_count (stray g) tid u.frames s.stacks in omega arith

  tables_tell : (t : Tables) (s : Side) → objects_count (stray g) t.objects ≤ objects_count (stray g) s.tables.objects
      → counts_in (stray g) k t.roots ≤ counts_in (stray g) k s.tables.roots + 0 → TellsRight g k s → TellsRight g k (record s { tables = t })
  tables_tell t s objects most fine = omega arith

  same_objects : (os now : List Object) → now ≡ os → objects_count (stray g) now ≤ objects_count (stray g) os
  same_objects os now same = let alike : objects_count (stray g) now ≡ objects_count (stray g) os = ap (objects_count (stray g)) same in omega arith

  ends_tell : (why : Cause) (s : Side) → TellsRight g k s → TellsRight g k (ends_by why s)
  unfolding ends_by
  ends_tell why s fine = let none = no_stacks (stray g) in let states = ended_counts (stray g) k why s.tables.roots in omega arith

  runs_out_tell : (why : Option Cause) (s : Side) → TellsRight g k s → TellsRight g k (runs_out why s)
  unfolding runs_out
  runs_out_tell None s fine = ends_tell cause.NoMemory s fine
  runs_out_tell (Some why) s fine = fine

  -- ---- messages

  requested_by : (b : Bool) (at_once later : Side) → TellsRight g k at_once → TellsRight g k later → TellsRight g k (if b then at_once else later)
  requested_by true at_once later now behind = now
  requested_by false at_once later now behind = behind

  at_once_tells : (tid oid face : List ℕ) (args : List Plain) (s : Side) → TellsRight g k s → TellsRight g k (record s { tables = answers_at_once g tid oid face args s.tables })
  unfolding says
  at_once_tells tid oid face args s fine = fine

  requested_tells : (tid oid face : List ℕ) (function : ℕ) (args : List Plain) (s : Side) → TellsRight g k s → TellsRight g k (requested g tid oid face function args s)
  requested_tells tid oid face function args s fine =
      let u = serves g oid face function (each_home g args) (frames_of tid s.stacks) s.tables in
      let told = arguments_told g args in
      let thread = thread_counts (stray g) tid s.stacks in
      requested_by (function == 0) _ _ (at_once_tells tid oid face args s fine)
      (unwound_tells tid u s (serves_free (stray g) g oid face function (each_home g args) (frames_of tid s.stacks) s.tables (omega arith))
      (stays_at (stray g) g k s.tables u.tables (served_stays g oid face function (each_home g args) (frames_of tid s.stacks) s.tables)) fine)

  below_count : (fs : List Frame) → frames_count (stray g) (below_top fs) ≤ frames_count (stray g) fs
  below_count [] = omega arith
  below_count (x ∷ fs) = let all = frames_counted (stray g) x fs in omega arith

  replied_tells : (tid : List ℕ) (a : Answer) (s : Side) → TellsRight g k s
      → TellsRight g k (with_unwound tid (hands_from_peer g tid (home_answer g a) (below_top (frames_of tid s.stacks)) s.tables) s)
  replied_tells tid a s fine =
      let told = answer_told g a in
      let thread = thread_counts (stray g) tid s.stacks in
      let below = below_count (frames_of tid s.stacks) in
      let most = from_peer_at (stray g) g k tid (home_answer g a) (below_top (frames_of tid s.stacks)) s.tables in
      unwound_tells tid (hands_from_peer g tid (home_answer g a) (below_top (frames_of tid s.stacks)) s.tables) s
      (hands_from_peer_free (stray g) g tid (home_answer g a) (below_top (frames_of tid s.stacks)) s.tables (omega arith)) (omega arith) fine

  receives_tells : (m : Message) (s : Side) → TellsRight g k s → TellsRight g k (receives g m s)
  unfolding receives
  receives_tells (release tid oid face) s fine = fine
  receives_tells (request tid oid face function args) s fine = requested_tells tid oid face function args s fine
  receives_tells (reply tid face function a) s fine = replied_tells tid a s fine

  -- ---- bytes that come in

  breaks_tells : (why : Reason) (place : ℕ) (x : Hearing) → TellsRight g k x.side → TellsRight g k (breaks why place x).side
  breaks_tells why place x fine = ends_tell (cause.Broken why place) x.side fine

  block_ends_tells : (front : ℕ) (bytes : List ℕ) (x : Hearing) → TellsRight g k x.side → TellsRight g k (block_ends front bytes x).side
  block_ends_tells front [] x fine = fine
  block_ends_tells front (b ∷ bytes) x fine = breaks_tells LeftOver front x fine

  abbrev NextTells : Next → Type 0
  NextTells more = (place : ℕ) (bytes : List ℕ) (x : Hearing) → TellsRight g k x.side → TellsRight g k (more place bytes x).side

  tested_tells : (more : Next) (place next : ℕ) (read : Message × Heard × List ℕ) (why : Option Reason) (x : Hearing) → NextTells more → TellsRight g k x.side
      → TellsRight g k (hears_tested g more place next read why x).side
  tested_tells more place next read None x behind fine = behind next read.2 (gets g read.0 read.1 x) (receives_tells read.0 (remembers read.1 x.side) fine)
  tested_tells more place next read (Some why) x behind fine = breaks_tells why place x fine

  read_tells : (more : Next) (place : ℕ) (bytes : List ℕ) (read : Result (Message × Heard × List ℕ) Fault) (x : Hearing) → NextTells more → TellsRight g k x.side
      → TellsRight g k (hears_read g more place bytes read x).side
  read_tells more place bytes (Err fault) x behind fine = breaks_tells (reason_of fault) place x fine
  read_tells more place bytes (Ok read) x behind fine = tested_tells more place (place + (length bytes - length read.2)) read (refusal g x.side read.0) x behind fine

  hears_tells : (m front : ℕ) → NextTells (hears g m front)
  unfolding hears
  hears_tells zero front place bytes x fine = block_ends_tells front bytes x fine
  hears_tells (suc m) front place bytes x fine =
      read_tells (hears g m front) place bytes (message_at g.registry (waits_of x.side.stacks) x.side.incoming.heard bytes) x (hears_tells m front) fine

  fed_by : (b : Bool) (whole part : Hearing) → TellsRight g k whole.side → TellsRight g k part.side → TellsRight g k (if b then whole else part).side
  fed_by true whole part now later = now
  fed_by false whole part now later = later

  part_tells : (bytes : List ℕ) (why : Option Reason) (s : Side) → TellsRight g k s → TellsRight g k (feeds_part g bytes why s).side
  part_tells bytes (Some why) s fine = breaks_tells why s.incoming.place (heard_nothing s) fine
  part_tells bytes None s fine =
      fed_by (block_stands bytes) (feeds_whole g bytes s) (heard_nothing (holds_bytes bytes s))
      (hears_tells (count_said bytes) s.incoming.place (s.incoming.place + 8) (drop 8 bytes) (heard_nothing (takes_block bytes s)) fine)
      fine

  feeds_tells : (piece : List ℕ) (s : Side) → TellsRight g k s → TellsRight g k (feeds g piece s).side
  unfolding feeds
  feeds_tells piece s fine = part_tells (s.incoming.held ++ piece) (header_fault (s.incoming.held ++ piece)) s fine

  -- ---- calls and queries of roots

  state_tells : (root : ℕ) (x : RootState) (s : Side) → state_counts (stray g) x ≡ 0 → TellsRight g k s → TellsRight g k (record s { tables = with_root root x s.tables })
  state_tells root x s none fine = let most = set_at_most (stray g) k root x s.tables.roots in omega arith

  answered_tells : (root : ℕ) (why : RuntimeCause) (s : Side) → TellsRight g k s → TellsRight g k (is_answered root (caused why) s)
  answered_tells root why s fine = state_tells root (answered (answer (caused why))) s (answered_counts (stray g) (caused why) ∙ caused_owes (stray g) why) fine

  peer_tells : (root : ℕ) (oid face : List ℕ) (function : ℕ) (args : List Plain) (x : RootState) (s : Side) → state_counts (stray g) x ≡ 0 → TellsRight g k s
      → TellsRight g k (with_unwound (root_tid g root) (calls_peer g (root_tid g root) oid face function args (bottom root) (with_root root x s.tables)) s)
  peer_tells root oid face function args x s none fine =
      let nothing = bottom_none (stray g) root in
      let set = set_at_most (stray g) k root x s.tables.roots in
      let stays = stays_at (stray g) g k (with_root root x s.tables) (calls_peer g (root_tid g root) oid face function args (bottom root) (with_root root x s.tables)).tables (peer_stays g (root_tid g root) oid face function args (bottom root) (with_root root x s.tables)) in
      unwound_tells (root_tid g root) (calls_peer g (root_tid g root) oid face function args (bottom root) (with_root root x s.tables)) s
      (calls_peer_free (stray g) g (root_tid g root) oid face function args (bottom root) (with_root root x s.tables) (omega arith)) (omega arith) fine

  call_tells : (root : ℕ) (r : Ref) (function : ℕ) (args : List Plain) (s : Side) → strays g (refs_of_values args) ≡ 0 → TellsRight g k s → TellsRight g k (begins_call g root r function args s)
  call_tells root null function args s told fine = fine
  call_tells root (own oid face) function args s told fine =
      let nothing = bottom_none (stray g) root in
      let quiet = waits_call_counts (stray g) in
      let set = set_at_most (stray g) k root waits_call s.tables.roots in
      let stays = stays_at (stray g) g k (with_root root waits_call s.tables) (calls_own g oid face function args (bottom root) (with_root root waits_call s.tables)).tables (own_stays g oid face function args (bottom root) (with_root root waits_call s.tables)) in
      unwound_tells (root_tid g root) (calls_own g oid face function args (bottom root) (with_root root waits_call s.tables)) s
      (calls_own_free (stray g) g oid face function args (bottom root) (with_root root waits_call s.tables) (omega arith)) (omega arith) fine
  call_tells root (peer oid face) function args s told fine = peer_tells root oid face function args waits_call s (waits_call_counts (stray g)) fine

  calls_tells : (root : ℕ) (oid face : List ℕ) (function : ℕ) (args : List Plain) (why : Option RuntimeCause) (s : Side) → strays g (refs_of_values args) ≡ 0 → TellsRight g k s
      → TellsRight g k (calls_unless g root oid face function args why s)
  calls_tells root oid face function args (Some why) s told fine = answered_tells root why s fine
  calls_tells root oid face function args None s told fine = call_tells root (ref_of g oid face) function args s told fine

  once_tells : (root : ℕ) (wanted oid face : List ℕ) (s : Side) → stray g (own oid face) ≡ 0 → TellsRight g k s
      → TellsRight g k (record s { tables = gets_at_once g root wanted (object_answer g oid (kd.interface wanted) s.tables.objects) s.tables })
  once_tells root wanted oid face s told fine =
      let x = object_answer g oid (kd.interface wanted) s.tables.objects in
      let t = gains_all (holder.Root root) (refs x) s.tables in
      let none = object_answer_counts (stray g) g oid wanted s.tables.objects (any_face g oid face told) in
      let alone = alone_counts (stray g) (object_answer g oid (kd.interface wanted) s.tables.objects) in
      let most = gets_at (stray g) g k root (waits_query wanted) (returned (object_answer g oid (kd.interface wanted) s.tables.objects) []) (gains_all (holder.Root root) (refs (object_answer g oid (kd.interface wanted) s.tables.objects)) s.tables) in
      let stays = stays_at (stray g) g k s.tables (gains_all (holder.Root root) (refs (object_answer g oid (kd.interface wanted) s.tables.objects)) s.tables) (stay_gains_all (holder.Root root) (refs (object_answer g oid (kd.interface wanted) s.tables.objects)) s.tables) in
      tables_tell (gets_at_once g root wanted (object_answer g oid (kd.interface wanted) s.tables.objects) s.tables) s
      (same_objects s.tables.objects _ (root_gets_objects g root (waits_query wanted) (returned x []) t ∙ gains_all_objects (holder.Root root) (refs x) s.tables)) (omega arith) fine

  query_tells : (root : ℕ) (r : Ref) (wanted : List ℕ) (s : Side) → stray g r ≡ 0 → TellsRight g k s → TellsRight g k (begins_query g root r wanted s)
  query_tells root null wanted s told fine = fine
  query_tells root (own oid face) wanted s told fine = once_tells root wanted oid face s told fine
  query_tells root (peer oid face) wanted s told fine = peer_tells root oid face 0 (query_args wanted) (waits_query wanted) s (waits_query_counts (stray g) wanted) fine

  queries_tells : (root : ℕ) (oid face wanted : List ℕ) (why : Option RuntimeCause) (s : Side) → TellsRight g k s → TellsRight g k (queries_unless g root oid face wanted why s)
  queries_tells root oid face wanted (Some why) s fine = answered_tells root why s fine
  queries_tells root oid face wanted None s fine = query_tells root (ref_of g oid face) wanted s (ref_told g oid face) fine

  asks_tells : (root : ℕ) (name wanted : List ℕ) (why : Option RuntimeCause) (s : Side) → TellsRight g k s → TellsRight g k (asks_unless g root name wanted why s)
  asks_tells root name wanted (Some why) s fine = answered_tells root why s fine
  asks_tells root name wanted None s fine = peer_tells root name x_interface_name 0 (query_args wanted) (waits_query wanted) s (waits_query_counts (stray g) wanted) fine

  -- ---- objects and references of roots

  makes_tells : (root behaviour : ℕ) (wanted : List ℕ) (s : Side) → TellsRight g k s → TellsRight g k (root_makes g root behaviour wanted s)
  unfolding root_makes
  makes_tells root behaviour wanted s fine =
      let made = makes_default_counts (stray g) g behaviour s.tables in
      let new : Ref = own (own_oid g (suc s.tables.objects_made)) wanted in
      tables_tell (gains (holder.Root root) new (makes_default g behaviour s.tables)) s (omega arith)
      (stays_at (stray g) g k s.tables (gains (holder.Root root) new (makes_default g behaviour s.tables))
      (stay_gains (holder.Root root) new (makes_default g behaviour s.tables) ∙ stay_makes_default g behaviour s.tables)) fine

  drops_by : (b : Bool) (root : ℕ) (r : Ref) (s : Side) → TellsRight g k s
      → TellsRight g k (record s { tables = (if b then lets_go g (holder.Root root) r else loses (holder.Root root) r) s.tables })
  drops_by true root r s fine =
      tables_tell (lets_go g (holder.Root root) r s.tables) s (same_objects s.tables.objects _ (lets_go_objects g (holder.Root root) r s.tables))
      (stays_at (stray g) g k s.tables (lets_go g (holder.Root root) r s.tables) (stay_lets_go g (holder.Root root) r s.tables)) fine
  drops_by false root r s fine =
      tables_tell (loses (holder.Root root) r s.tables) s (same_objects s.tables.objects _ (loses_objects (holder.Root root) r s.tables))
      (stays_at (stray g) g k s.tables (loses (holder.Root root) r s.tables) (stay_loses (holder.Root root) r s.tables)) fine

  -- ---- statements, and what goes

  effect_tells : (tid : List ℕ) (p : Picked) (e : Effect) (s : Side) → effect_counts (stray g) e ≡ 0 → frames_of tid s.stacks ≡ body p.method ∷ p.below → TellsRight g k s
      → TellsRight g k (applies_effect g tid p e s)
  effect_tells tid p disposes s told is fine = ends_tell cause.Disposed s fine
  effect_tells tid p e s told is fine =
      let thread = thread_counts (stray g) tid s.stacks in
      let same : frames_count (stray g) (frames_of tid s.stacks) ≡ frames_count (stray g) (body p.method ∷ p.below) = ap (frames_count (stray g)) is in
      unwound_tells tid (applies g tid p.method p.below e s.tables) s
      (applies_free (stray g) g tid p.method p.below e s.tables (λ n face. own_told g n face) (target_known g e told) told (omega arith))
      (applies_at (stray g) g k tid p.method p.below e s.tables (λ n face. own_told g n face) (target_known g e told) told) fine

  picked_tells : (tid : List ℕ) (fs : List Frame) (s : Side) → plan_constants g.plan ≡ [] → frames_of tid s.stacks ≡ fs → TellsRight g k s → TellsRight g k (applies_picked g tid (picked_in fs) s)
  picked_tells tid (body b ∷ fs) s closed is fine =
      let thread = thread_counts (stray g) tid s.stacks in
      let same : frames_count (stray g) (frames_of tid s.stacks) ≡ frames_count (stray g) (body b ∷ fs) = ap (frames_count (stray g)) is in
      let all = body_counts (stray g) b fs in
      let fields = variables_of_counts (stray g) g b.object s.tables.objects in
      effect_tells tid (record { method = b; below = fs }) (effect_at g tid b fs s.tables) s
      (works_out (stray g) g tid b fs s.tables closed (λ face. own_told g b.object face) (omega arith) (omega arith)) is fine
  picked_tells tid fs s closed is fine = fine

  applied_tells : (tid : List ℕ) (s : Side) → plan_constants g.plan ≡ [] → TellsRight g k s → TellsRight g k (applies_picked g tid (picked tid s) s)
  unfolding picked
  applied_tells tid s closed fine = picked_tells tid (frames_of tid s.stacks) s closed refl fine

  fewer_objects : (o : Object) (s : Side) → objects_count (stray g) (without_object o.number s.tables.objects) ≤ objects_count (stray g) s.tables.objects
  unfolding without_object
  fewer_objects o s = total_filter (fields_count (stray g)) (λ x. not (o.number == x.number)) s.tables.objects

  reaped_by : (b : Bool) (o : Object) (s : Side) → TellsRight g k s → TellsRight g k (record s { tables = reaps_object g b o s.tables })
  reaped_by true o s fine =
      let t : Tables = record s.tables { objects = without_object o.number s.tables.objects } in
      let fewer = fewer_objects o s in
      let same = same_objects (without_object o.number s.tables.objects) _
      (lets_go_all_objects g (holder.Object o.number) (refs_of_values o.fields) (record s.tables { objects = without_object o.number s.tables.objects })) in
      tables_tell (reaps_object g true o s.tables) s (omega arith)
      (stays_at (stray g) g k s.tables (reaps_object g true o s.tables) (stay_lets_go_all g (holder.Object o.number) (refs_of_values o.fields) t)) fine
  reaped_by false o s fine =
      let t : Tables = record s.tables { objects = without_object o.number s.tables.objects } in
      let fewer = fewer_objects o s in
      let same = same_objects (without_object o.number s.tables.objects) _
      (loses_all_objects (holder.Object o.number) (refs_of_values o.fields) (record s.tables { objects = without_object o.number s.tables.objects })) in
      tables_tell (reaps_object g false o s.tables) s (omega arith)
      (stays_at (stray g) g k s.tables (reaps_object g false o s.tables) (stay_loses_all (holder.Object o.number) (refs_of_values o.fields) t)) fine

  reaps_tells : (o : Option Object) (s : Side) → TellsRight g k s → TellsRight g k (reaps_some g o s)
  unfolding reaps
  reaps_tells None s fine = fine
  reaps_tells (Some o) s fine = reaped_by (stands s) o s fine

  -- ---- entries

  pub does_tell : (e : Entry) (s : Side) → plan_constants g.plan ≡ [] → list_all (is_told g) (entry_refs e) ≡ true → TellsRight g k s → TellsRight g k (does g e s).side
  unfolding does root_calls root_queries root_asks root_drops root_takes drains
  does_tell (fed b) s closed told fine = feeds_tells b s fine
  does_tell ended s closed told fine = ends_tell cause.Ended s fine
  does_tell failed s closed told fine = ends_tell cause.Failed s fine
  does_tell (asked root name wanted) s closed told fine =
      asks_tells root name wanted (answered_before (root_tid g root) name x_interface_name 0 (query_args wanted)) s fine
  does_tell (called root oid face function args) s closed told fine =
      calls_tells root oid face function args (answered_before (root_tid g root) oid face function args) s (all_told g (refs_of_values args) told) fine
  does_tell (queried root oid face wanted) s closed told fine =
      queries_tells root oid face wanted (answered_before (root_tid g root) oid face 0 (query_args wanted)) s fine
  does_tell (made root behaviour wanted) s closed told fine = makes_tells root behaviour wanted s fine
  does_tell (dropped root oid face) s closed told fine = drops_by (stands s) root (ref_of g oid face) s fine
  does_tell (applied tid) s closed told fine = applied_tells tid s closed fine
  does_tell (took root) s closed told fine = state_tells root idle s (idle_counts (stray g)) fine
  does_tell (reaped object) s closed told fine = reaps_tells (lowest g s.tables) s fine
  does_tell (drained b) s closed told fine = fine
  does_tell disposed s closed told fine = ends_tell cause.Disposed s fine
  does_tell full s closed told fine = ends_tell cause.Full s fine
  does_tell no_memory s closed told fine = runs_out_tell s.cause s fine

  pub opening_tells : TellsRight g k (opening g)
  unfolding opening total
  opening_tells =
      let made = makes_all_counts (stray g) g (first_objects g.plan) (no_objects g.plan) in
      let stays = stays_at (stray g) g k (no_objects g.plan) (opening g).tables (stay_makes_all g (first_objects g.plan) (no_objects g.plan)) in
      let none = all_idle (stray g) k (length g.plan.threads) in omega arith
