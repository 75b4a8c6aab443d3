-- What stands behind messages when messages come, when roots act, and when statements are run: what is used is held by who says it.
use Rattle.std.proofs.Common.{◌≡◌, ℕ, suc, ◌+◌, ◌≤◌, Bool, true, false, ◌==◌, if◌then◌else◌, List, [], ◌∷◌, find, Option, None, Some, refl, ap, ◌∙◌, subst, arith}
use Rattle.message_model.specs.Messages.{Message, request, release, reply, returned}
use Rattle.uno_model.specs.BuiltIn.{x_interface_name}
use Rattle.uno_model.specs.Kinds.{Kind}
use Rattle.uno_model.specs.Kinds as kd
use Rattle.uno_model.specs.Values.{Ref, null, own, peer, Plain, refs, object_in}
use Rattle.table_model.specs.Holdings.{Hold, holders}
use Rattle.table_model.specs.Pair.{Pair}
use Rattle.table_model.specs.declared.holder.Holder.TheVariants as holder
use Rattle.plan_model.specs.Asking.{Effect, disposes}
use Rattle.plan_model.specs.Forms.{is_export_name}
use Rattle.plan_model.specs.Frames.{Body, Frame, base, body, outgoing, frames_of}
use Rattle.plan_model.specs.Plans.{exported}
use Rattle.plan_model.specs.declared.runtime_cause.RuntimeCause.{RuntimeCause}
use Rattle.bridge_model.specs.Applying.{effect_at}
use Rattle.bridge_model.specs.Calls.{serves, query_args}
use Rattle.bridge_model.specs.Ends.{ends_by}
use Rattle.bridge_model.specs.Feeding.{feeds, remembers, takes_block, holds_bytes}
use Rattle.bridge_model.specs.Going.{reaps, reaps_object}
use Rattle.bridge_model.specs.Objects.{faces_at, object_named, object_answer, answer_of_number, name_answer, makes_default, lowest, may_go, without_object}
use Rattle.bridge_model.specs.Receiving.{asked_kind, answer_to, answers_at_once, requested, below_top, receives}
use Rattle.bridge_model.specs.References.{gains_all, lets_go, loses, refs_of_values, each_home, home_answer}
use Rattle.bridge_model.specs.Roots.{holds_pair, holds_each, answered_before, bottom, begins_call, calls_unless, root_calls, gets_at_once, begins_query, queries_unless, root_queries, asks_unless, root_asks, root_makes, root_drops, root_takes}
use Rattle.bridge_model.specs.Settings.{Setting, is_own, own_oid, root_tid, ref_of}
use Rattle.bridge_model.specs.Sides.{Object, Side, Tables, stands, on_tables, waits_call, waits_query, with_root}
use Rattle.bridge_model.specs.Stacks.{with_unwound}
use Rattle.bridge_model.specs.Steps.{Picked, picked_in, picked, applies_effect, applies_picked, reaps_some}
use Rattle.bridge_laws.specs.Counting.{total}
use Rattle.bridge_laws.specs.Living.{plan_constants}
use Rattle.bridge_laws.proofs.ApplyingCountLaws.{variables_of_counts, object_answer_counts, alone_counts}
use Rattle.bridge_laws.proofs.BackingLaws.{own_told}
use Rattle.bridge_laws.proofs.EffectLaws.{effect_counts}
use Rattle.bridge_laws.proofs.FrameCountLaws.{frames_count, fields_count, objects_count, body_counts}
use Rattle.bridge_laws.proofs.HandingLaws.{frames_have}
use Rattle.bridge_laws.proofs.HearingLaws.{along_feeds}
use Rattle.bridge_laws.proofs.IdentityLaws.{nothing_strays, query_strays}
use Rattle.bridge_laws.proofs.OccurrenceLaws.{Covers}
use Rattle.bridge_laws.proofs.PaidApplyingLaws.{own_peers, any_face}
use Rattle.bridge_laws.proofs.PaidEntryLaws.{holds_backed, each_backed}
use Rattle.bridge_laws.proofs.PaidLaws.{came_in_order}
use Rattle.bridge_laws.proofs.PaidSideLaws.{InOrder, ref_told, remembers_in_order, answer_told, read_settles}
use Rattle.bridge_laws.proofs.PaidStatementLaws.{variables_backed, fields_backed, works_out}
use Rattle.bridge_laws.proofs.PayingLaws.{peers, stray}
use Rattle.bridge_laws.proofs.SideLaws.{apart, thread_covers, below_has}
use Rattle.bridge_laws.proofs.StackCountLaws.{thread_counts}
use Rattle.bridge_laws.proofs.StandingEffectLaws.{target_counts, calls_own_upholds, serves_upholds, calls_peer_upholds, asks_name_upholds, queries_peer_upholds, applies_upholds}
use Rattle.bridge_laws.proofs.StandingFrameLaws.{upholds_reply, root_gets_upholds, hands_from_peer_upholds}
use Rattle.bridge_laws.proofs.StandingTableLaws.{Upholds, upheld_on, upholds_same, upholds_gains, upholds_gains_all, upholds_lets_go, upholds_lets_go_all, upholds_makes_default}
use Rattle.bridge_laws.proofs.Sums.{found_at_most}

-- ---- function 0

-- what is answered at once refers to objects of this end alone
object_answer_backed : (p : Pair) (g : Setting) (oid : List ℕ) (k : Kind) (os : List Object) → total (peers p) (refs (object_answer g oid k os)) ≡ 0
unfolding object_answer
object_answer_backed p g oid k os = query_strays (peers p) g.registry (faces_at g (object_named g oid os)) oid k (λ wanted is. own_peers p oid wanted)

number_backed : (p : Pair) (g : Setting) (k : Kind) (os : List Object) (o : Option ℕ) → total (peers p) (refs (answer_of_number g k os o)) ≡ 0
number_backed p g k os None = nothing_strays (peers p)
number_backed p g k os (Some n) = object_answer_backed p g (own_oid g n) k os

answer_by : (p : Pair) (g : Setting) (b : Bool) (oid : List ℕ) (k : Kind) (os : List Object) → total (peers p) (refs (if b then object_answer g oid k os else name_answer g oid k os)) ≡ 0
unfolding name_answer
answer_by p g true oid k os = object_answer_backed p g oid k os
answer_by p g false oid k os = number_backed p g k os (exported g.plan oid)

at_once_upholds : (p : Pair) (g : Setting) (tid oid face : List ℕ) (args : List Plain) (t : Tables) → Upholds p t (answers_at_once g tid oid face args t)
at_once_upholds p g tid oid face args t =
    upholds_reply p g tid face 0 (returned (answer_to g oid (asked_kind args) t.objects) []) t
    (λ none. alone_counts (peers p) (answer_to g oid (asked_kind args) t.objects) ∙ answer_by p g (is_own g oid) oid (asked_kind args) t.objects)

-- ---- messages

side_if : (p : Pair) (b : Bool) (s x y : Side) → Upholds p s.tables x.tables → Upholds p s.tables y.tables → Upholds p s.tables (if b then x else y).tables
side_if p true s x y u v = u
side_if p false s x y u v = v

requested_upholds : (p : Pair) (g : Setting) (tid oid face : List ℕ) (function : ℕ) (args : List Plain) (s : Side) → Upholds p s.tables (requested g tid oid face function args s).tables
requested_upholds p g tid oid face function args s =
    side_if p (function == 0) s (on_tables (answers_at_once g tid oid face args) s)
    (with_unwound tid (serves g oid face function (each_home g args) (frames_of tid s.stacks) s.tables) s)
    (at_once_upholds p g tid oid face args s.tables)
    (serves_upholds p g oid face function (each_home g args) (frames_of tid s.stacks) s.tables)

below_counts : (f : Ref → ℕ) (fs : List Frame) → frames_count f (below_top fs) ≤ frames_count f fs
unfolding total
below_counts f [] = omega arith
below_counts f (x ∷ fs) = omega arith

-- ---- what roots hold

-- the target of a call of what a root holds is held
target_by : (p : Pair) (oid face : List ℕ) (b : Bool) → peers p (peer oid face) ≡ 0 → total (peers p) (object_in (if b then own oid face else peer oid face)) ≡ 0
unfolding total
target_by p oid face true none = let mine = own_peers p oid face in omega arith
target_by p oid face false none = omega arith

target_backed : (p : Pair) (g : Setting) (root : ℕ) (oid face : List ℕ) (t : Tables) → holds_pair root oid face t ≡ true → holders p t.holdings ≡ 0
    → total (peers p) (object_in (ref_of g oid face)) ≡ 0
unfolding ref_of
target_backed p g root oid face t held none = target_by p oid face (is_own g oid) (holds_backed p (holder.Root root) (peer oid face) t held none)

begins_call_upholds : (p : Pair) (g : Setting) (root : ℕ) (r : Ref) (function : ℕ) (args : List Plain) (s : Side)
    → (holders p s.tables.holdings ≡ 0 → total (peers p) (object_in r) + total (peers p) (refs_of_values args) ≡ 0) → Upholds p s.tables (begins_call g root r function args s).tables
begins_call_upholds p g root null function args s back = upholds_same p s.tables
begins_call_upholds p g root (own oid face) function args s back = calls_own_upholds p g oid face function args (bottom root) (with_root root waits_call s.tables)
begins_call_upholds p g root (peer oid face) function args s back =
    calls_peer_upholds p g (root_tid g root) oid face function args (bottom root) (with_root root waits_call s.tables)
    (λ none. let all = back none in let same = target_counts p oid face in omega arith)

calls_unless_upholds : (p : Pair) (g : Setting) (root : ℕ) (oid face : List ℕ) (function : ℕ) (args : List Plain) (why : Option RuntimeCause) (s : Side)
    → (holders p s.tables.holdings ≡ 0 → total (peers p) (object_in (ref_of g oid face)) + total (peers p) (refs_of_values args) ≡ 0)
    → Upholds p s.tables (calls_unless g root oid face function args why s).tables
calls_unless_upholds p g root oid face function args (Some why) s back = upholds_same p s.tables
calls_unless_upholds p g root oid face function args None s back = begins_call_upholds p g root (ref_of g oid face) function args s back

pub root_calls_upholds : (p : Pair) (g : Setting) (root : ℕ) (oid face : List ℕ) (function : ℕ) (args : List Plain) (s : Side) → holds_pair root oid face s.tables ≡ true
    → holds_each root (refs_of_values args) s.tables ≡ true → Upholds p s.tables (root_calls g root oid face function args s).tables
unfolding root_calls
root_calls_upholds p g root oid face function args s held each =
    calls_unless_upholds p g root oid face function args (answered_before (root_tid g root) oid face function args) s
    (λ none. let target = target_backed p g root oid face s.tables held none in let rest = each_backed p root (refs_of_values args) s.tables each none in omega arith)

asks_unless_upholds : (p : Pair) (g : Setting) (root : ℕ) (name wanted : List ℕ) (why : Option RuntimeCause) (s : Side) → is_export_name name ≡ true
    → Upholds p s.tables (asks_unless g root name wanted why s).tables
asks_unless_upholds p g root name wanted (Some why) s other = upholds_same p s.tables
asks_unless_upholds p g root name wanted None s is =
    asks_name_upholds p g (root_tid g root) name x_interface_name wanted (bottom root) (with_root root (waits_query wanted) s.tables) is

pub root_asks_upholds : (p : Pair) (g : Setting) (root : ℕ) (name wanted : List ℕ) (s : Side) → is_export_name name ≡ true → Upholds p s.tables (root_asks g root name wanted s).tables
unfolding root_asks
root_asks_upholds p g root name wanted s is =
    asks_unless_upholds p g root name wanted (answered_before (root_tid g root) name x_interface_name 0 (query_args wanted)) s is

pub root_makes_upholds : (p : Pair) (g : Setting) (root behaviour : ℕ) (wanted : List ℕ) (s : Side) → Upholds p s.tables (root_makes g root behaviour wanted s).tables
unfolding root_makes
root_makes_upholds p g root behaviour wanted s =
    upheld_on (upholds_makes_default p g behaviour s.tables)
    (upholds_gains p (holder.Root root) (own (own_oid g (suc s.tables.objects_made)) wanted) (makes_default g behaviour s.tables))

pub root_takes_upholds : (p : Pair) (root : ℕ) (s : Side) → Upholds p s.tables (root_takes root s).tables
unfolding root_takes
root_takes_upholds p root s = upholds_same p s.tables

module _ (g : Setting) (p : Pair) (foreign : is_own g p.oid ≡ false) where
  -- ---- what is received

  receives_upholds : (m : Message) (s : Side) → InOrder g s → Upholds p s.tables (receives g m s).tables
  unfolding receives
  receives_upholds (release tid oid face) s order = upholds_same p s.tables
  receives_upholds (request tid oid face function args) s order = requested_upholds p g tid oid face function args s
  receives_upholds (reply tid face function a) s order =
      let before = order.free in
      let thread = thread_counts (stray g) tid s.stacks in
      let below = below_counts (stray g) (frames_of tid s.stacks) in
      hands_from_peer_upholds g p foreign tid (home_answer g a) (below_top (frames_of tid s.stacks)) (λ h. apart g h tid s.stacks) s.tables (answer_told g a) (omega arith)
      (λ h. let held = thread_covers g tid h s (order.covered h) in let less = below_has g h (frames_of tid s.stacks) in omega arith)

  pub fed_upholds : (piece : List ℕ) (s : Side) → stands (feeds g piece s).side ≡ true → InOrder g s → Upholds p s.tables (feeds g piece s).side.tables
  fed_upholds piece s up order =
      (along_feeds g (λ x. Upholds p s.tables x.side.tables × InOrder g x.side)
      (λ bytes read x got is so_far. (
        upheld_on so_far.0 (receives_upholds read.0 (remembers read.1 x.side) (remembers_in_order g read.1 x.side so_far.1)),
        (read_settles g p foreign bytes read x.side got so_far.1).order,
      ))
      piece s
      (λ bytes. (upholds_same p s.tables, came_in_order g p s (takes_block bytes s) refl refl order))
      (λ bytes. (upholds_same p s.tables, came_in_order g p s (holds_bytes bytes s) refl refl order))
      up).0

  -- ---- queries of roots, and what they let go

  query_at_once_upholds : (root : ℕ) (wanted oid face : List ℕ) (t : Tables) → stray g (own oid face) ≡ 0
      → Upholds p t (gets_at_once g root wanted (object_answer g oid (kd.interface wanted) t.objects) t)
  query_at_once_upholds root wanted oid face t told =
      let answer = object_answer_counts (stray g) g oid wanted t.objects (any_face g oid face told) in
      let alone = alone_counts (stray g) (object_answer g oid (kd.interface wanted) t.objects) in
      upheld_on (upholds_gains_all p (holder.Root root) (refs (object_answer g oid (kd.interface wanted) t.objects)) t)
      (root_gets_upholds g p foreign root (waits_query wanted) (returned (object_answer g oid (kd.interface wanted) t.objects) [])
      (gains_all (holder.Root root) (refs (object_answer g oid (kd.interface wanted) t.objects)) t) (omega arith))

  begins_query_upholds : (root : ℕ) (r : Ref) (wanted : List ℕ) (s : Side) → stray g r ≡ 0 → (holders p s.tables.holdings ≡ 0 → total (peers p) (object_in r) ≡ 0)
      → Upholds p s.tables (begins_query g root r wanted s).tables
  begins_query_upholds root null wanted s told back = upholds_same p s.tables
  begins_query_upholds root (own oid face) wanted s told back = query_at_once_upholds root wanted oid face s.tables told
  begins_query_upholds root (peer oid face) wanted s told back =
      queries_peer_upholds p g (root_tid g root) oid face wanted (bottom root) (with_root root (waits_query wanted) s.tables)
      (λ none. let all = back none in let same = target_counts p oid face in omega arith)

  queries_unless_upholds : (root : ℕ) (oid face wanted : List ℕ) (why : Option RuntimeCause) (s : Side) → (holders p s.tables.holdings ≡ 0 → total (peers p) (object_in (ref_of g oid face)) ≡ 0)
      → Upholds p s.tables (queries_unless g root oid face wanted why s).tables
  queries_unless_upholds root oid face wanted (Some why) s back = upholds_same p s.tables
  queries_unless_upholds root oid face wanted None s back = begins_query_upholds root (ref_of g oid face) wanted s (ref_told g oid face) back

  pub root_queries_upholds : (root : ℕ) (oid face wanted : List ℕ) (s : Side) → holds_pair root oid face s.tables ≡ true → Upholds p s.tables (root_queries g root oid face wanted s).tables
  unfolding root_queries
  root_queries_upholds root oid face wanted s held =
      queries_unless_upholds root oid face wanted (answered_before (root_tid g root) oid face 0 (query_args wanted)) s (target_backed p g root oid face s.tables held)

  dropped_by : (b : Bool) (root : ℕ) (r : Ref) (t : Tables) → b ≡ true → stray g r ≡ 0 → Upholds p t ((if b then lets_go g (holder.Root root) r else loses (holder.Root root) r) t)
  dropped_by true root r t up told = upholds_lets_go g p foreign (holder.Root root) r t told
  dropped_by false root r t up told = absurd (cc)

  pub root_drops_upholds : (root : ℕ) (oid face : List ℕ) (s : Side) → stands s ≡ true → Upholds p s.tables (root_drops g root oid face s).tables
  unfolding root_drops
  root_drops_upholds root oid face s up = dropped_by (stands s) root (ref_of g oid face) s.tables up (ref_told g oid face)

  -- ---- objects that go

  reaped_by : (b : Bool) (o : Object) (t : Tables) → b ≡ true → find (may_go g t) t.objects ≡ Some o → objects_count (stray g) t.objects ≡ 0 → Upholds p t (reaps_object g b o t)
  unfolding fields_count
  reaped_by true o t up found free =
      let one = found_at_most (fields_count (stray g)) (may_go g t) o t.objects found in
      upholds_lets_go_all g p foreign (holder.Object o.number) (refs_of_values o.fields) (record t { objects = without_object o.number t.objects }) (omega arith)
  reaped_by false o t up found free = absurd (cc)

  reaped_so : (o : Option Object) (s : Side) → find (may_go g s.tables) s.tables.objects ≡ o → stands s ≡ true → InOrder g s → Upholds p s.tables (reaps_some g o s).tables
  unfolding reaps
  reaped_so None s found up order = upholds_same p s.tables
  reaped_so (Some o) s found up order = reaped_by (stands s) o s.tables up found (let before = order.free in omega arith)

  pub reaps_upholds : (s : Side) → stands s ≡ true → InOrder g s → Upholds p s.tables (reaps_some g (lowest g s.tables) s).tables
  unfolding lowest
  reaps_upholds s up order = reaped_so (find (may_go g s.tables) s.tables.objects) s refl up order

module _ (g : Setting) (p : Pair) (foreign : is_own g p.oid ≡ false) (closed : plan_constants g.plan ≡ []) where
  -- ---- statements

  effect_upholds : (tid : List ℕ) (q : Picked) (e : Effect) (n : Hold → ℕ) (s : Side) → stands (applies_effect g tid q e s) ≡ true → effect_counts (stray g) e ≡ 0
      → (holders p s.tables.holdings ≡ 0 → effect_counts (peers p) e ≡ 0) → frames_count (stray g) (body q.method ∷ q.below) + objects_count (stray g) s.tables.objects ≡ 0
      → ((h : Hold) → Covers h (n h + frames_have g h (body q.method ∷ q.below)) s.tables) → Upholds p s.tables (applies_effect g tid q e s).tables
  unfolding ends_by
  effect_upholds tid q disposes n s up told back free fine = absurd (cc)
  effect_upholds tid q e n s up told back free fine = applies_upholds g p foreign tid q.method q.below e n s.tables told back free fine

  body_upholds : (tid : List ℕ) (b : Body) (fs : List Frame) (s : Side) → frames_of tid s.stacks ≡ body b ∷ fs → InOrder g s
      → stands (applies_effect g tid (record { method = b; below = fs }) (effect_at g tid b fs s.tables) s) ≡ true
      → Upholds p s.tables (applies_effect g tid (record { method = b; below = fs }) (effect_at g tid b fs s.tables) s).tables
  body_upholds tid b fs s is order up =
      let before = order.free in
      let thread = thread_counts (stray g) tid s.stacks in
      let same : frames_count (stray g) (frames_of tid s.stacks) ≡ frames_count (stray g) (body b ∷ fs) = ap (frames_count (stray g)) is in
      let all = body_counts (stray g) b fs in
      let fields = variables_of_counts (stray g) g b.object s.tables.objects in
      let covers : (h : Hold) → Covers h (apart g h tid s.stacks + frames_have g h (body b ∷ fs)) s.tables =
      λ h. subst (λ fs. Covers h (apart g h tid s.stacks + frames_have g h fs) s.tables) is (thread_covers g tid h s (order.covered h)) in
      effect_upholds tid (record { method = b; below = fs }) (effect_at g tid b fs s.tables) (λ h. apart g h tid s.stacks) s up
      (works_out (stray g) g tid b fs s.tables closed (λ face. own_told g b.object face) (omega arith) (omega arith))
      (λ none.
      works_out (peers p) g tid b fs s.tables closed (λ face. own_peers p (own_oid g b.object) face)
      (variables_backed g p b fs (λ h. apart g h tid s.stacks) s.tables covers none)
      (fields_backed g p b.object s.tables (λ h. apart g h tid s.stacks + frames_have g h (body b ∷ fs)) covers none))
      (omega arith)
      covers

  picked_upholds : (tid : List ℕ) (fs : List Frame) (s : Side) → frames_of tid s.stacks ≡ fs → InOrder g s → stands (applies_picked g tid (picked_in fs) s) ≡ true
      → Upholds p s.tables (applies_picked g tid (picked_in fs) s).tables
  picked_upholds tid [] s is order up = upholds_same p s.tables
  picked_upholds tid (base root ∷ fs) s is order up = upholds_same p s.tables
  picked_upholds tid (outgoing o ∷ fs) s is order up = upholds_same p s.tables
  picked_upholds tid (body b ∷ fs) s is order up = body_upholds tid b fs s is order up

  pub applied_upholds : (tid : List ℕ) (s : Side) → InOrder g s → stands (applies_picked g tid (picked tid s) s) ≡ true → Upholds p s.tables (applies_picked g tid (picked tid s) s).tables
  unfolding picked
  applied_upholds tid s order up = picked_upholds tid (frames_of tid s.stacks) s refl order up
