-- What a root has is held behind each entry: the entries of others bring it an outcome at most, and its own say what it gains and lets go.
use Rattle.std.proofs.Common.{◌≡◌, refl, sym, ap, subst, ◌∙◌, ℕ, zero, suc, ◌+◌, ◌-◌, ◌≤◌, Bool, true, false, cond, ◌==◌, eqb-true, if◌then◌else◌, List, [], ◌∷◌, ◌++◌, length, drop, filter, Option, None, Some, Result, Ok, Err, arith}
use Rattle.std.specs.Ordering.{eq_by_cmp}
use Rattle.std.specs.Cmp.{Equal-is}
use Rattle.message_model.specs.Headers.{Heard}
use Rattle.message_model.specs.Messages.{Message, request, release, reply, returned}
use Rattle.message_model.specs.ReadingMessages.{message_at}
use Rattle.message_model.specs.ReadingStreams.{reason_of}
use Rattle.uno_model.specs.BuiltIn.{x_interface_name}
use Rattle.uno_model.specs.Kinds as kd
use Rattle.uno_model.specs.Values.{Ref, null, own, peer, Plain, refs}
use Rattle.urp_model.specs.declared.fault.Fault.{Fault}
use Rattle.urp_model.specs.declared.reason.Reason.{Reason}
use Rattle.urp_model.specs.declared.reason.Reason.TheVariants.{LeftOver}
use Rattle.table_model.specs.Holdings.{Hold, holder_cmp, holder_number, Holdings, outlasts}
use Rattle.table_model.specs.declared.holder.Holder.TheVariants as holder
use Rattle.table_model.proofs.HoldLaws.{same_holder, same_hold}
use Rattle.plan_model.specs.Asking.{Effect, disposes}
use Rattle.plan_model.specs.Frames.{frames_of}
use Rattle.plan_model.specs.Leaving.{caused}
use Rattle.plan_model.specs.declared.runtime_cause.RuntimeCause.{RuntimeCause}
use Rattle.bridge_model.specs.Applying.{effect_at}
use Rattle.bridge_model.specs.Calls.{query_args}
use Rattle.bridge_model.specs.Ends.{ends_by, runs_out}
use Rattle.bridge_model.specs.Entries.{Entry, fed, ended, failed, asked, called, queried, made, dropped, applied, took, reaped, drained, disposed, full, no_memory}
use Rattle.bridge_model.specs.Feeding.{block_stands, header_fault, Hearing, breaks, remembers, gets, block_ends, Next, hears_tested, hears_read, hears, heard_nothing, holds_bytes, takes_block, feeds_whole, feeds_part, feeds, count_said}
use Rattle.bridge_model.specs.Going.{drains, reaps_object, reaps}
use Rattle.bridge_model.specs.Objects.{object_answer, makes_default, defaults_of, lowest}
use Rattle.bridge_model.specs.Receiving.{refusal, answers_at_once, requested, below_top, receives}
use Rattle.bridge_model.specs.References.{gains_all, says, lets_go, loses, each_home, home_answer, refs_of_answer, refs_of_values}
use Rattle.bridge_model.specs.Roots.{answered_before, bottom, is_answered, begins_call, calls_unless, root_calls, gets_at_once, asks_peer, begins_query, queries_unless, root_queries, asks_unless, root_asks, root_makes, root_drops, root_takes}
use Rattle.bridge_model.specs.Settings.{Setting, own_oid, root_tid, ref_of}
use Rattle.bridge_model.specs.Sides.{Object, idle, waits_call, waits_query, answered, answer, Tables, Side, stands, with_root}
use Rattle.bridge_model.specs.Stacks.{waits_of}
use Rattle.bridge_model.specs.Steps.{Picked, picked, applies_effect, applies_picked, reaps_some, does}
use Rattle.bridge_model.specs.declared.cause.Cause.{Cause}
use Rattle.bridge_model.specs.declared.cause.Cause.TheVariants as cause
use Rattle.bridge_laws.specs.Counting.{total}
use Rattle.bridge_laws.proofs.HandingLaws.{returned_owes}
use Rattle.bridge_laws.proofs.ObjectLaws.{reaps_covers, apart_owes}
use Rattle.bridge_laws.proofs.OccurrenceLaws.{times, is_hold, ref_owes, gains_covers, loses_covers, lets_go_covers}
use Rattle.bridge_laws.proofs.RootStateLaws.{stay_gains, stay_loses, stay_loses_all, stay_lets_go, stay_lets_go_all}
use Rattle.bridge_laws.proofs.VariableLaws.{values_none}
use Rattle.bridge_laws.proofs.HeldAnswerLaws.{gets_rooted, from_peer_rooted}
use Rattle.bridge_laws.proofs.HeldApplyingLaws.{calls_own_rooted, serves_rooted, calls_peer_rooted, makes_rooted, applies_rooted}
use Rattle.bridge_laws.proofs.StateLaws.{owed_in, Rooted, gain, loss, idle_counts, waits_call_counts, waits_query_counts, answered_counts, quiet_state, taken_state, ended_counts, moved_to, kept_in, gains_rooted, not_same}

-- ---- what outlasts the end

lasts_step : (h k : Hold) (kept hs : Holdings) → outlasts h ≡ true → times h hs ≤ times h kept → (same lasts : Bool) → is_hold h k ≡ same → outlasts k ≡ lasts
    → times h (k ∷ hs) ≤ times h (if lasts then k ∷ kept else kept)
unfolding times is_hold
lasts_step h k kept hs last rest same true one is = omega arith
lasts_step h k kept hs last rest true false one is =
    let alike : h ≡ k = same_hold h k ((Equal-is _).0 one) in let bad : outlasts k ≡ true = sym (ap outlasts alike) ∙ last in absurd (cc)
lasts_step h k kept hs last rest false false one is = rw one (omega arith)

outlasting : (h : Hold) → outlasts h ≡ true → (hs : Holdings) → times h hs ≤ times h (filter outlasts hs)
unfolding times
outlasting h last [] = omega arith
outlasting h last (k ∷ hs) = lasts_step h k (filter outlasts hs) hs last (outlasting h last hs) (is_hold h k) (outlasts k) refl refl

-- ---- other roots

pub caused_owes : (f : Ref → ℕ) (why : RuntimeCause) → total f (refs_of_answer (caused why)) ≡ 0
unfolding refs_of_answer refs total
caused_owes f why = refl

-- what another root has is none of its own
another_holder : (h : Hold) (k root : ℕ) (r : Ref) → h.holder ≡ holder.Root k → (k == root) ≡ false → (b : Bool) → eq_by_cmp holder_cmp h.holder (holder.Root root) ≡ b
    → ref_owes h (holder.Root root) r ≡ 0
another_holder h k root r of_root other false is = apart_owes h (holder.Root root) r is
another_holder h k root r of_root other true is =
    let same : h.holder ≡ holder.Root root = same_holder h.holder (holder.Root root) ((Equal-is _).0 is) in
    let number : k ≡ root = ap holder_number (sym of_root ∙ same) in absurd (not_same k root other number)

module _ (g : Setting) (h : Hold) (k : ℕ) (of_root : h.holder ≡ holder.Root k) where
  abbrev SideRooted : ℕ → Side → Type 0
  SideRooted n s = Rooted h k n s.tables

  -- ---- the end

  ends_rooted : (why : Cause) (n : ℕ) (s : Side) → SideRooted n s → SideRooted n (ends_by why s)
  unfolding ends_by
  ends_rooted why n s fine =
      let held = outlasting h (ap (λ who. outlasts (record { holder = who; pair = h.pair })) of_root) s.tables.holdings in
      let states = ended_counts (ref_owes h (holder.Root k)) k why s.tables.roots in omega arith

  runs_out_rooted : (why : Option Cause) (n : ℕ) (s : Side) → SideRooted n s → SideRooted n (runs_out why s)
  unfolding runs_out
  runs_out_rooted None n s fine = ends_rooted cause.NoMemory n s fine
  runs_out_rooted (Some why) n s fine = fine

  -- ---- messages

  requested_by : (b : Bool) (n : ℕ) (at_once later : Side) → SideRooted n at_once → SideRooted n later → SideRooted n (if b then at_once else later)
  requested_by true n at_once later now behind = now
  requested_by false n at_once later now behind = behind

  at_once_rooted : (tid oid face : List ℕ) (args : List Plain) (n : ℕ) (t : Tables) → Rooted h k n t → Rooted h k n (answers_at_once g tid oid face args t)
  unfolding says
  at_once_rooted tid oid face args n t fine = fine

  requested_rooted : (tid oid face : List ℕ) (function : ℕ) (args : List Plain) (n : ℕ) (s : Side) → SideRooted n s → SideRooted n (requested g tid oid face function args s)
  requested_rooted tid oid face function args n s fine =
      requested_by (function == 0) n _ _ (at_once_rooted tid oid face args n s.tables fine)
      (serves_rooted g h k of_root oid face function (each_home g args) (frames_of tid s.stacks) n s.tables fine)

  receives_rooted : (m : Message) (n : ℕ) (s : Side) → SideRooted n s → SideRooted n (receives g m s)
  unfolding receives
  receives_rooted (release tid oid face) n s fine = fine
  receives_rooted (request tid oid face function args) n s fine = requested_rooted tid oid face function args n s fine
  receives_rooted (reply tid face function a) n s fine = from_peer_rooted g h k of_root tid (home_answer g a) (below_top (frames_of tid s.stacks)) n s.tables fine

  -- ---- bytes that come in

  breaks_rooted : (why : Reason) (place n : ℕ) (x : Hearing) → SideRooted n x.side → SideRooted n (breaks why place x).side
  breaks_rooted why place n x fine = ends_rooted (cause.Broken why place) n x.side fine

  block_ends_rooted : (front : ℕ) (bytes : List ℕ) (n : ℕ) (x : Hearing) → SideRooted n x.side → SideRooted n (block_ends front bytes x).side
  block_ends_rooted front [] n x fine = fine
  block_ends_rooted front (b ∷ bytes) n x fine = breaks_rooted LeftOver front n x fine

  abbrev NextRooted : ℕ → Next → Type 0
  NextRooted n more = (place : ℕ) (bytes : List ℕ) (x : Hearing) → SideRooted n x.side → SideRooted n (more place bytes x).side

  tested_rooted : (more : Next) (place next : ℕ) (read : Message × Heard × List ℕ) (why : Option Reason) (n : ℕ) (x : Hearing) → NextRooted n more → SideRooted n x.side
      → SideRooted n (hears_tested g more place next read why x).side
  tested_rooted more place next read None n x more_fine fine = more_fine next read.2 (gets g read.0 read.1 x) (receives_rooted read.0 n (remembers read.1 x.side) fine)
  tested_rooted more place next read (Some why) n x more_fine fine = breaks_rooted why place n x fine

  read_rooted : (more : Next) (place : ℕ) (bytes : List ℕ) (read : Result (Message × Heard × List ℕ) Fault) (n : ℕ) (x : Hearing) → NextRooted n more → SideRooted n x.side
      → SideRooted n (hears_read g more place bytes read x).side
  read_rooted more place bytes (Err fault) n x more_fine fine = breaks_rooted (reason_of fault) place n x fine
  read_rooted more place bytes (Ok read) n x more_fine fine =
      tested_rooted more place (place + (length bytes - length read.2)) read (refusal g x.side read.0) n x more_fine fine

  hears_rooted : (m front n : ℕ) → NextRooted n (hears g m front)
  unfolding hears
  hears_rooted zero front n place bytes x fine = block_ends_rooted front bytes n x fine
  hears_rooted (suc m) front n place bytes x fine =
      read_rooted (hears g m front) place bytes (message_at g.registry (waits_of x.side.stacks) x.side.incoming.heard bytes) n x (hears_rooted m front n) fine

  fed_by : (b : Bool) (n : ℕ) (whole part : Hearing) → SideRooted n whole.side → SideRooted n part.side → SideRooted n (if b then whole else part).side
  fed_by true n whole part now later = now
  fed_by false n whole part now later = later

  part_rooted : (bytes : List ℕ) (why : Option Reason) (n : ℕ) (s : Side) → SideRooted n s → SideRooted n (feeds_part g bytes why s).side
  part_rooted bytes (Some why) n s fine = breaks_rooted why s.incoming.place n (heard_nothing s) fine
  part_rooted bytes None n s fine =
      fed_by (block_stands bytes) n (feeds_whole g bytes s) (heard_nothing (holds_bytes bytes s))
      (hears_rooted (count_said bytes) s.incoming.place n (s.incoming.place + 8) (drop 8 bytes) (heard_nothing (takes_block bytes s)) fine)
      fine

  feeds_rooted : (piece : List ℕ) (n : ℕ) (s : Side) → SideRooted n s → SideRooted n (feeds g piece s).side
  unfolding feeds
  feeds_rooted piece n s fine = part_rooted (s.incoming.held ++ piece) (header_fault (s.incoming.held ++ piece)) n s fine

  -- ---- calls and queries of roots

  answered_rooted : (root : ℕ) (why : RuntimeCause) (n : ℕ) (s : Side) → SideRooted n s → SideRooted n (is_answered root (caused why) s)
  answered_rooted root why n s fine =
      quiet_state h k root (answered (answer (caused why))) n s.tables
      (answered_counts (ref_owes h (holder.Root k)) (caused why) ∙ caused_owes (ref_owes h (holder.Root k)) why) fine

  call_waits : (root n : ℕ) (t : Tables) → Rooted h k n t → Rooted h k n (with_root root waits_call t)
  call_waits root n t fine = quiet_state h k root waits_call n t (waits_call_counts (ref_owes h (holder.Root k))) fine

  query_waits : (root : ℕ) (wanted : List ℕ) (n : ℕ) (t : Tables) → Rooted h k n t → Rooted h k n (with_root root (waits_query wanted) t)
  query_waits root wanted n t fine = quiet_state h k root (waits_query wanted) n t (waits_query_counts (ref_owes h (holder.Root k)) wanted) fine

  call_rooted : (root : ℕ) (r : Ref) (function : ℕ) (args : List Plain) (n : ℕ) (s : Side) → SideRooted n s → SideRooted n (begins_call g root r function args s)
  call_rooted root null function args n s fine = fine
  call_rooted root (own oid face) function args n s fine =
      calls_own_rooted g h k of_root oid face function args (bottom root) n (with_root root waits_call s.tables) (call_waits root n s.tables fine)
  call_rooted root (peer oid face) function args n s fine =
      calls_peer_rooted g h k of_root (root_tid g root) oid face function args (bottom root) n (with_root root waits_call s.tables) (call_waits root n s.tables fine)

  calls_rooted : (root : ℕ) (oid face : List ℕ) (function : ℕ) (args : List Plain) (why : Option RuntimeCause) (n : ℕ) (s : Side) → SideRooted n s
      → SideRooted n (calls_unless g root oid face function args why s)
  calls_rooted root oid face function args (Some why) n s fine = answered_rooted root why n s fine
  calls_rooted root oid face function args None n s fine = call_rooted root (ref_of g oid face) function args n s fine

  gets_rooted_at_once : (root : ℕ) (wanted : List ℕ) (x : Plain) (n : ℕ) (t : Tables) → Rooted h k n t → Rooted h k n (gets_at_once g root wanted x t)
  gets_rooted_at_once root wanted x n t fine =
      let gained = gains_rooted h k (holder.Root root) (refs x) n t fine in
      let parts = returned_owes (ref_owes h (holder.Root root)) x [] in
      let nothing = values_none (ref_owes h (holder.Root root)) in
      gets_rooted g h k root (waits_query wanted) (returned x []) n (gains_all (holder.Root root) (refs x) t) (omega arith)

  asks_rooted : (root : ℕ) (oid face wanted : List ℕ) (n : ℕ) (s : Side) → SideRooted n s → SideRooted n (asks_peer g root oid face wanted s)
  asks_rooted root oid face wanted n s fine =
      calls_peer_rooted g h k of_root (root_tid g root) oid face 0 (query_args wanted) (bottom root) n (with_root root (waits_query wanted) s.tables) (query_waits root wanted n s.tables fine)

  query_rooted : (root : ℕ) (r : Ref) (wanted : List ℕ) (n : ℕ) (s : Side) → SideRooted n s → SideRooted n (begins_query g root r wanted s)
  query_rooted root null wanted n s fine = fine
  query_rooted root (own oid face) wanted n s fine = gets_rooted_at_once root wanted (object_answer g oid (kd.interface wanted) s.tables.objects) n s.tables fine
  query_rooted root (peer oid face) wanted n s fine = asks_rooted root oid face wanted n s fine

  queries_rooted : (root : ℕ) (oid face wanted : List ℕ) (why : Option RuntimeCause) (n : ℕ) (s : Side) → SideRooted n s → SideRooted n (queries_unless g root oid face wanted why s)
  queries_rooted root oid face wanted (Some why) n s fine = answered_rooted root why n s fine
  queries_rooted root oid face wanted None n s fine = query_rooted root (ref_of g oid face) wanted n s fine

  asks_unless_rooted : (root : ℕ) (name wanted : List ℕ) (why : Option RuntimeCause) (n : ℕ) (s : Side) → SideRooted n s → SideRooted n (asks_unless g root name wanted why s)
  asks_unless_rooted root name wanted (Some why) n s fine = answered_rooted root why n s fine
  asks_unless_rooted root name wanted None n s fine = asks_rooted root name x_interface_name wanted n s fine

  -- ---- objects and references of roots

  root_makes_rooted : (root behaviour : ℕ) (wanted : List ℕ) (n : ℕ) (s : Side) → SideRooted n s
      → SideRooted (n + ref_owes h (holder.Root root) (own (own_oid g (suc s.tables.objects_made)) wanted)) (root_makes g root behaviour wanted s)
  unfolding root_makes
  root_makes_rooted root behaviour wanted n s fine =
      let new : Ref = own (own_oid g (suc s.tables.objects_made)) wanted in
      let t = makes_default g behaviour s.tables in
      moved_to h k n (ref_owes h (holder.Root root) new) t (root_makes g root behaviour wanted s).tables (stay_gains (holder.Root root) new t)
      (gains_covers (holder.Root root) new h (n + owed_in h k t.roots) t (makes_rooted g h k of_root behaviour (defaults_of g behaviour) n s.tables fine))

  made_by : (root behaviour : ℕ) (wanted : List ℕ) (n : ℕ) (s : Side) (b : Bool) → (k == root) ≡ b → SideRooted n s
      → SideRooted (n + cond b (ref_owes h (holder.Root k) (own (own_oid g (suc s.tables.objects_made)) wanted)) 0) (root_makes g root behaviour wanted s)
  made_by root behaviour wanted n s true is fine =
      subst (λ r. SideRooted (n + ref_owes h (holder.Root k) (own (own_oid g (suc s.tables.objects_made)) wanted)) (root_makes g r behaviour wanted s)) (eqb-true k root is)
      (root_makes_rooted k behaviour wanted n s fine)
  made_by root behaviour wanted n s false is fine = let rest = root_makes_rooted root behaviour wanted n s fine in omega arith

  dropped_by : (b : Bool) (root : ℕ) (r : Ref) (n : ℕ) (t : Tables) → Rooted h k (n + ref_owes h (holder.Root root) r) t
      → Rooted h k n ((if b then lets_go g (holder.Root root) r else loses (holder.Root root) r) t)
  dropped_by true root r n t fine =
      kept_in h k n t (lets_go g (holder.Root root) r t) (stay_lets_go g (holder.Root root) r t) (lets_go_covers g (holder.Root root) r h (n + owed_in h k t.roots) t (omega arith))
  dropped_by false root r n t fine =
      kept_in h k n t (loses (holder.Root root) r t) (stay_loses (holder.Root root) r t) (loses_covers (holder.Root root) r h (n + owed_in h k t.roots) t (omega arith))

  dropped_entry : (root : ℕ) (r : Ref) (standing : Bool) (n : ℕ) (t : Tables) (b : Bool) → (k == root) ≡ b → Rooted h k (n + cond b (ref_owes h (holder.Root k) r) 0) t
      → Rooted h k n ((if standing then lets_go g (holder.Root root) r else loses (holder.Root root) r) t)
  dropped_entry root r standing n t true is fine =
      subst (λ m. Rooted h k n ((if standing then lets_go g (holder.Root m) r else loses (holder.Root m) r) t)) (eqb-true k root is) (dropped_by standing k r n t fine)
  dropped_entry root r standing n t false is fine =
      let none = another_holder h k root r of_root is (eq_by_cmp holder_cmp h.holder (holder.Root root)) refl in dropped_by standing root r n t (omega arith)

  took_by : (root n : ℕ) (t : Tables) (b : Bool) → (k == root) ≡ b → Rooted h k n t → Rooted h k (n + cond b (owed_in h k t.roots) 0) (with_root root idle t)
  took_by root n t true is fine = subst (λ r. Rooted h k (n + owed_in h k t.roots) (with_root r idle t)) (eqb-true k root is) (taken_state h k n t fine)
  took_by root n t false is fine = let rest = quiet_state h k root idle n t (idle_counts (ref_owes h (holder.Root k))) fine in omega arith

  -- ---- statements, and what goes

  effect_rooted : (tid : List ℕ) (p : Picked) (e : Effect) (n : ℕ) (s : Side) → SideRooted n s → SideRooted n (applies_effect g tid p e s)
  effect_rooted tid p disposes n s fine = ends_rooted cause.Disposed n s fine
  effect_rooted tid p e n s fine = applies_rooted g h k of_root tid p.method p.below e n s.tables fine

  applied_rooted : (tid : List ℕ) (p : Option Picked) (n : ℕ) (s : Side) → SideRooted n s → SideRooted n (applies_picked g tid p s)
  applied_rooted tid None n s fine = fine
  applied_rooted tid (Some p) n s fine = effect_rooted tid p (effect_at g tid p.method p.below s.tables) n s fine

  reaped_stays : (standing : Bool) (o : Object) (t : Tables) → (reaps_object g standing o t).roots ≡ t.roots
  reaped_stays true o t = stay_lets_go_all g (holder.Object o.number) (refs_of_values o.fields) _
  reaped_stays false o t = stay_loses_all (holder.Object o.number) (refs_of_values o.fields) _

  reaped_rooted : (o : Option Object) (n : ℕ) (s : Side) → lowest g s.tables ≡ o → SideRooted n s → SideRooted n (reaps_some g o s)
  unfolding reaps
  reaped_rooted None n s found fine = fine
  reaped_rooted (Some o) n s found fine =
      kept_in h k n s.tables (reaps_object g (stands s) o s.tables) (reaped_stays (stands s) o s.tables)
      (reaps_covers g (stands s) o h (n + owed_in h k s.tables.roots) s.tables found fine)

  -- ---- entries

  no_more : (n : ℕ) (t : Tables) → Rooted h k (n + 0) t → Rooted h k n t
  no_more n t fine = omega arith

  as_much : (n : ℕ) (t : Tables) → Rooted h k n t → Rooted h k (n + 0) t
  as_much n t fine = omega arith

  pub does_rooted : (e : Entry) (n : ℕ) (s : Side) → SideRooted (n + loss g (ref_owes h (holder.Root k)) k e) s → SideRooted (n + gain g (ref_owes h (holder.Root k)) k s e) (does g e s).side
  unfolding does root_calls root_queries root_asks root_drops root_takes drains
  does_rooted (fed b) n s fine = as_much n (does g (fed b) s).side.tables (feeds_rooted b n s (no_more n s.tables fine))
  does_rooted ended n s fine = as_much n (does g ended s).side.tables (ends_rooted cause.Ended n s (no_more n s.tables fine))
  does_rooted failed n s fine = as_much n (does g failed s).side.tables (ends_rooted cause.Failed n s (no_more n s.tables fine))
  does_rooted (asked root name wanted) n s fine =
      as_much n (does g (asked root name wanted) s).side.tables (asks_unless_rooted root name wanted (answered_before (root_tid g root) name x_interface_name 0 (query_args wanted)) n s (no_more n s.tables fine))
  does_rooted (called root oid face function args) n s fine =
      as_much n (does g (called root oid face function args) s).side.tables (calls_rooted root oid face function args (answered_before (root_tid g root) oid face function args) n s (no_more n s.tables fine))
  does_rooted (queried root oid face wanted) n s fine =
      as_much n (does g (queried root oid face wanted) s).side.tables (queries_rooted root oid face wanted (answered_before (root_tid g root) oid face 0 (query_args wanted)) n s (no_more n s.tables fine))
  does_rooted (made root behaviour wanted) n s fine = made_by root behaviour wanted n s (k == root) refl (no_more n s.tables fine)
  does_rooted (dropped root oid face) n s fine = as_much n (does g (dropped root oid face) s).side.tables (dropped_entry root (ref_of g oid face) (stands s) n s.tables (k == root) refl fine)
  does_rooted (applied tid) n s fine = as_much n (does g (applied tid) s).side.tables (applied_rooted tid (picked tid s) n s (no_more n s.tables fine))
  does_rooted (took root) n s fine = took_by root n s.tables (k == root) refl (no_more n s.tables fine)
  does_rooted (reaped object) n s fine = as_much n (does g (reaped object) s).side.tables (reaped_rooted (lowest g s.tables) n s refl (no_more n s.tables fine))
  does_rooted (drained b) n s fine = fine
  does_rooted disposed n s fine = as_much n (does g disposed s).side.tables (ends_rooted cause.Disposed n s (no_more n s.tables fine))
  does_rooted full n s fine = as_much n (does g full s).side.tables (ends_rooted cause.Full n s (no_more n s.tables fine))
  does_rooted no_memory n s fine = as_much n (does g no_memory s).side.tables (runs_out_rooted s.cause n s (no_more n s.tables fine))
