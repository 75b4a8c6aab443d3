-- What is paid at each entry of an end that stands, and that all is in order behind it: what roots do, statements, and objects that go.
use Rattle.std.proofs.Common.{◌≡◌, ℕ, suc, ◌+◌, ◌≤◌, Bool, true, false, not, ◌==◌, if◌then◌else◌, List, [], ◌∷◌, find, Option, None, Some, refl, sym, ap, ◌∙◌, arith}
use Rattle.std.proofs.lemmas.Bool.{and_parts}
use Rattle.std.specs.Cmp.{Equal-is}
use Rattle.std.specs.List.{list_all}
use Rattle.message_model.specs.Messages.{returned}
use Rattle.uno_model.specs.BuiltIn.{x_interface_name}
use Rattle.uno_model.specs.Kinds as kd
use Rattle.uno_model.specs.Values.{Ref, null, own, peer, Plain, refs}
use Rattle.table_model.specs.Holdings.{Hold, Holdings, hold, holders, holds}
use Rattle.table_model.specs.Pair.{Pair, pair, is_pair}
use Rattle.table_model.specs.declared.holder.Holder.{Holder}
use Rattle.table_model.specs.declared.holder.Holder.TheVariants as holder
use Rattle.table_model.proofs.PairLaws.{same_pair}
use Rattle.plan_model.specs.declared.runtime_cause.RuntimeCause.{RuntimeCause}
use Rattle.bridge_model.specs.Calls.{Unwound, calls_own, calls_peer, query_args}
use Rattle.bridge_model.specs.Going.{reaps, reaps_object}
use Rattle.bridge_model.specs.Objects.{object_answer, makes_default, lowest, may_go, without_object}
use Rattle.bridge_model.specs.References.{gains, gains_all, lets_go, loses, holds_ref, refs_of_values}
use Rattle.bridge_model.specs.Roots.{holds_each, answered_before, bottom, begins_call, calls_unless, root_calls, gets_at_once, begins_query, queries_unless, root_queries, asks_unless, root_asks, root_makes, root_drops, root_takes}
use Rattle.bridge_model.specs.Settings.{Setting, is_own, own_oid, root_tid, ref_of, is_told}
use Rattle.bridge_model.specs.Sides.{Object, RootState, idle, waits_call, waits_query, Tables, Side, stands, with_tables, with_root}
use Rattle.bridge_model.specs.Stacks.{with_unwound}
use Rattle.bridge_model.specs.Steps.{reaps_some}
use Rattle.bridge_laws.specs.Counting.{total, one_if}
use Rattle.bridge_laws.proofs.ApplyingCountLaws.{calls_own_free, calls_peer_free, makes_default_counts, object_answer_counts, alone_counts}
use Rattle.bridge_laws.proofs.BackingLaws.{times_at_most}
use Rattle.bridge_laws.proofs.FrameCountLaws.{frames_count, stacks_count, fields_count, objects_count, IsFree, base_counts, no_frames, lets_go_objects, lets_go_all_objects, root_gets_objects}
use Rattle.bridge_laws.proofs.OccurrenceLaws.{times, gains_all_objects}
use Rattle.bridge_laws.proofs.PaidApplyingLaws.{own_peers, any_face, gains_own_pays, calls_own_pays, calls_peer_pays, makes_default_pays}
use Rattle.bridge_laws.proofs.PaidHandingLaws.{root_gets_pays}
use Rattle.bridge_laws.proofs.PaidSideLaws.{InOrder, ref_told}
use Rattle.bridge_laws.proofs.PayingLaws.{holds_some, peers, stray, strays, Backed, Pays, pays_same, pays_on, pays_gains_all, pays_lets_go, pays_lets_go_all}
use Rattle.bridge_laws.proofs.SeatLaws.{is_seated, are_seated, puts_seated, calls_own_seated, calls_peer_seated}
use Rattle.bridge_laws.proofs.StackCountLaws.{puts_count}
use Rattle.bridge_laws.proofs.ThreadStackLaws.{apart_put}
use Rattle.bridge_laws.specs.Grounded.{AreApart}
use Rattle.bridge_laws.proofs.Sums.{total_filter, total_found}

-- ---- words

-- what is paid, and how frames and objects are behind it
pub record Moves (g : Setting) (p : Pair) (s s' : Side) : Type 0 where
  pub pays : Pays p 0 s.tables s'.tables
  pub free : stacks_count (stray g) s'.stacks + objects_count (stray g) s'.tables.objects ≡ 0
  pub seated : are_seated s'.stacks ≡ true
  pub apart : AreApart s'.stacks

pub moves_unwound : (g : Setting) (p : Pair) (tid : List ℕ) (u : Unwound) (s : Side) → Pays p 0 s.tables u.tables → IsFree (stray g) u → is_seated u.frames ≡ true → InOrder g s
    → Moves g p s (with_unwound tid u s)
moves_unwound g p tid u s pays free seated order =
    record {
      pays = pays;
      free = let put = puts_count (stray g) tid u.frames s.stacks in let before = order.free in omega arith;
      seated = puts_seated tid u.frames s.stacks seated order.seated;
      apart = apart_put tid u.frames s.stacks order.apart;
    }

moves_tables : (g : Setting) (p : Pair) (t : Tables) (s : Side) → Pays p 0 s.tables t → objects_count (stray g) t.objects ≤ objects_count (stray g) s.tables.objects → InOrder g s
    → Moves g p s (with_tables t s)
moves_tables g p t s pays fewer order =
    record { pays = pays; free = let before = order.free in omega arith; seated = order.seated; apart = order.apart }

pub moves_same : (g : Setting) (p : Pair) (s : Side) → InOrder g s → Moves g p s s
moves_same g p s order = record { pays = pays_same p s.tables; free = order.free; seated = order.seated; apart = order.apart }

same_objects : (f : Ref → ℕ) (os now : List Object) → now ≡ os → objects_count f now ≤ objects_count f os
same_objects f os now same = let alike : objects_count f now ≡ objects_count f os = ap (objects_count f) same in omega arith

-- ---- what a root holds

first_held : (h : Hold) (hs : Holdings) → holds h hs ≡ true → 1 ≤ times h hs
unfolding times
first_held h hs is = holds_some h hs is

null_peers : (p : Pair) → peers p null ≡ 0
unfolding peers
null_peers p = refl

other_by : (p : Pair) (oid face : List ℕ) (b : Bool) → is_pair p (pair oid face) ≡ b → (here there : ℕ) → (pair oid face ≡ p → here ≡ there) → 1 ≤ here → there ≡ 0 → one_if b ≡ 0
other_by p oid face true is here there same some none = let alike = same (sym (same_pair p (pair oid face) ((Equal-is _).0 is))) in absurd (omega arith)
other_by p oid face false is here there same some none = refl

-- a pair that is held is not one that is not
other_pair : (p : Pair) (oid face : List ℕ) (here there : ℕ) → (pair oid face ≡ p → here ≡ there) → 1 ≤ here → there ≡ 0 → peers p (peer oid face) ≡ 0
unfolding peers
other_pair p oid face here there same some none = other_by p oid face (is_pair p (pair oid face)) refl here there same some none

pub holds_backed : (p : Pair) (who : Holder) (r : Ref) (t : Tables) → holds_ref who r t ≡ true → holders p t.holdings ≡ 0 → peers p r ≡ 0
holds_backed p who null t is none = null_peers p
holds_backed p who (own oid face) t is none = own_peers p oid face
holds_backed p who (peer oid face) t is none =
    let held = first_held (hold who (pair oid face)) t.holdings is in
    let most = times_at_most (hold who (pair oid face)) t.holdings in
    other_pair p oid face (holders (pair oid face) t.holdings) (holders p t.holdings) (λ same. ap (λ q. holders q t.holdings) same) (omega arith) none

pub each_backed : (p : Pair) (root : ℕ) (rs : List Ref) (t : Tables) → holds_each root rs t ≡ true → Backed p rs t
unfolding holds_each total
each_backed p root [] t is none = refl
each_backed p root (r ∷ rs) t is none =
    let parts = and_parts (holds_ref (holder.Root root) r t) (list_all (λ r. holds_ref (holder.Root root) r t) rs) is in
    let here = holds_backed p (holder.Root root) r t parts.0 none in
    let rest = each_backed p root rs t parts.1 none in omega arith

told_one : (g : Setting) (r : Ref) → is_told g r ≡ true → stray g r ≡ 0
unfolding stray
told_one g r is = ap (λ b. one_if (not b)) is

pub all_told : (g : Setting) (rs : List Ref) → list_all (is_told g) rs ≡ true → strays g rs ≡ 0
unfolding total
all_told g [] is = refl
all_told g (r ∷ rs) is =
    let parts = and_parts (is_told g r) (list_all (is_told g) rs) is in let here = told_one g r parts.0 in let rest = all_told g rs parts.1 in omega arith

bottom_counts : (f : Ref → ℕ) (root : ℕ) → frames_count f (bottom root) ≡ 0
bottom_counts f root = base_counts f root [] ∙ no_frames f

bottom_seated : (root : ℕ) → is_seated (bottom root) ≡ true
unfolding is_seated
bottom_seated root = refl

module _ (g : Setting) (p : Pair) (foreign : is_own g p.oid ≡ false) where
  -- ---- calls of roots

  pub root_state_moves : (root : ℕ) (x : RootState) (s : Side) → InOrder g s → Moves g p s (with_tables (with_root root x s.tables) s)
  root_state_moves root x s order = moves_tables g p (with_root root x s.tables) s (pays_same p s.tables) (omega arith) order

  peer_moves : (root : ℕ) (oid face : List ℕ) (function : ℕ) (args : List Plain) (x : RootState) (s : Side) → InOrder g s
      → Moves g p s (with_unwound (root_tid g root) (calls_peer g (root_tid g root) oid face function args (bottom root) (with_root root x s.tables)) s)
  peer_moves root oid face function args x s order =
      let nothing = bottom_counts (stray g) root in
      let before = order.free in
      moves_unwound g p (root_tid g root) (calls_peer g (root_tid g root) oid face function args (bottom root) (with_root root x s.tables)) s
      (calls_peer_pays g p foreign (root_tid g root) oid face function args (bottom root) (with_root root x s.tables))
      (calls_peer_free (stray g) g (root_tid g root) oid face function args (bottom root) (with_root root x s.tables) (omega arith))
      (calls_peer_seated g (root_tid g root) oid face function args (bottom root) (with_root root x s.tables) refl (bottom_seated root))
      order

  begins_call_moves : (root : ℕ) (r : Ref) (function : ℕ) (args : List Plain) (s : Side) → strays g (refs_of_values args) ≡ 0 → Backed p (refs_of_values args) s.tables → InOrder g s
      → Moves g p s (begins_call g root r function args s)
  begins_call_moves root null function args s told back order = moves_same g p s order
  begins_call_moves root (own oid face) function args s told back order =
      let nothing = bottom_counts (stray g) root in
      let before = order.free in
      moves_unwound g p (root_tid g root) (calls_own g oid face function args (bottom root) (with_root root waits_call s.tables)) s
      (calls_own_pays g p foreign oid face function args (bottom root) (with_root root waits_call s.tables) told back)
      (calls_own_free (stray g) g oid face function args (bottom root) (with_root root waits_call s.tables) (omega arith))
      (calls_own_seated g oid face function args (bottom root) (with_root root waits_call s.tables) (bottom_seated root))
      order
  begins_call_moves root (peer oid face) function args s told back order = peer_moves root oid face function args waits_call s order

  calls_unless_moves : (root : ℕ) (oid face : List ℕ) (function : ℕ) (args : List Plain) (why : Option RuntimeCause) (s : Side) → strays g (refs_of_values args) ≡ 0
      → Backed p (refs_of_values args) s.tables → InOrder g s → Moves g p s (calls_unless g root oid face function args why s)
  calls_unless_moves root oid face function args (Some why) s told back order = root_state_moves root _ s order
  calls_unless_moves root oid face function args None s told back order = begins_call_moves root (ref_of g oid face) function args s told back order

  pub root_calls_moves : (root : ℕ) (oid face : List ℕ) (function : ℕ) (args : List Plain) (s : Side) → strays g (refs_of_values args) ≡ 0
      → holds_each root (refs_of_values args) s.tables ≡ true → InOrder g s → Moves g p s (root_calls g root oid face function args s)
  unfolding root_calls
  root_calls_moves root oid face function args s told held order =
      calls_unless_moves root oid face function args (answered_before (root_tid g root) oid face function args) s told (each_backed p root (refs_of_values args) s.tables held) order

  -- ---- queries of roots

  at_once_moves : (root : ℕ) (wanted oid face : List ℕ) (s : Side) → stray g (own oid face) ≡ 0 → InOrder g s
      → Moves g p s (with_tables (gets_at_once g root wanted (object_answer g oid (kd.interface wanted) s.tables.objects) s.tables) s)
  at_once_moves root wanted oid face s told order =
      let x = object_answer g oid (kd.interface wanted) s.tables.objects in
      let answer = object_answer_counts (stray g) g oid wanted s.tables.objects (any_face g oid face told) in
      let alone = alone_counts (stray g) (object_answer g oid (kd.interface wanted) s.tables.objects) in
      moves_tables g p (gets_at_once g root wanted (object_answer g oid (kd.interface wanted) s.tables.objects) s.tables) s
      (pays_on
      (pays_gains_all g p foreign (holder.Root root) (refs (object_answer g oid (kd.interface wanted) s.tables.objects)) s.tables answer
      (λ none. object_answer_counts (peers p) g oid wanted s.tables.objects (own_peers p oid)))
      (root_gets_pays g p foreign root (waits_query wanted) (returned (object_answer g oid (kd.interface wanted) s.tables.objects) [])
      (gains_all (holder.Root root) (refs (object_answer g oid (kd.interface wanted) s.tables.objects)) s.tables) (omega arith)))
      (same_objects (stray g) s.tables.objects _
      (root_gets_objects g root (waits_query wanted) (returned (object_answer g oid (kd.interface wanted) s.tables.objects) [])
      (gains_all (holder.Root root) (refs (object_answer g oid (kd.interface wanted) s.tables.objects)) s.tables)
      ∙ gains_all_objects (holder.Root root) (refs (object_answer g oid (kd.interface wanted) s.tables.objects)) s.tables))
      order

  begins_query_moves : (root : ℕ) (r : Ref) (wanted : List ℕ) (s : Side) → stray g r ≡ 0 → InOrder g s → Moves g p s (begins_query g root r wanted s)
  begins_query_moves root null wanted s told order = moves_same g p s order
  begins_query_moves root (own oid face) wanted s told order = at_once_moves root wanted oid face s told order
  begins_query_moves root (peer oid face) wanted s told order = peer_moves root oid face 0 (query_args wanted) (waits_query wanted) s order

  queries_unless_moves : (root : ℕ) (oid face wanted : List ℕ) (why : Option RuntimeCause) (s : Side) → InOrder g s → Moves g p s (queries_unless g root oid face wanted why s)
  queries_unless_moves root oid face wanted (Some why) s order = root_state_moves root _ s order
  queries_unless_moves root oid face wanted None s order = begins_query_moves root (ref_of g oid face) wanted s (ref_told g oid face) order

  pub root_queries_moves : (root : ℕ) (oid face wanted : List ℕ) (s : Side) → InOrder g s → Moves g p s (root_queries g root oid face wanted s)
  unfolding root_queries
  root_queries_moves root oid face wanted s order = queries_unless_moves root oid face wanted (answered_before (root_tid g root) oid face 0 (query_args wanted)) s order

  asks_unless_moves : (root : ℕ) (name wanted : List ℕ) (why : Option RuntimeCause) (s : Side) → InOrder g s → Moves g p s (asks_unless g root name wanted why s)
  asks_unless_moves root name wanted (Some why) s order = root_state_moves root _ s order
  asks_unless_moves root name wanted None s order = peer_moves root name x_interface_name 0 (query_args wanted) (waits_query wanted) s order

  pub root_asks_moves : (root : ℕ) (name wanted : List ℕ) (s : Side) → InOrder g s → Moves g p s (root_asks g root name wanted s)
  unfolding root_asks
  root_asks_moves root name wanted s order = asks_unless_moves root name wanted (answered_before (root_tid g root) name x_interface_name 0 (query_args wanted)) s order

  -- ---- objects and references of roots

  pub root_makes_moves : (root behaviour : ℕ) (wanted : List ℕ) (s : Side) → InOrder g s → Moves g p s (root_makes g root behaviour wanted s)
  unfolding root_makes
  root_makes_moves root behaviour wanted s order =
      let made = makes_default_counts (stray g) g behaviour s.tables in
      moves_tables g p (gains (holder.Root root) (own (own_oid g (suc s.tables.objects_made)) wanted) (makes_default g behaviour s.tables)) s
      (pays_on (makes_default_pays g p foreign behaviour s.tables) (gains_own_pays g p foreign (holder.Root root) (suc s.tables.objects_made) wanted (makes_default g behaviour s.tables)))
      (omega arith)
      order

  dropped_by : (b : Bool) (root : ℕ) (r : Ref) (s : Side) → b ≡ true → stray g r ≡ 0 → InOrder g s
      → Moves g p s (with_tables ((if b then lets_go g (holder.Root root) r else loses (holder.Root root) r) s.tables) s)
  dropped_by true root r s up told order =
      moves_tables g p (lets_go g (holder.Root root) r s.tables) s (pays_lets_go g p foreign (holder.Root root) r s.tables told)
      (same_objects (stray g) s.tables.objects _ (lets_go_objects g (holder.Root root) r s.tables)) order
  dropped_by false root r s up told order = absurd (cc)

  pub root_drops_moves : (root : ℕ) (oid face : List ℕ) (s : Side) → stands s ≡ true → InOrder g s → Moves g p s (root_drops g root oid face s)
  unfolding root_drops
  root_drops_moves root oid face s up order = dropped_by (stands s) root (ref_of g oid face) s up (ref_told g oid face) order

  pub root_takes_moves : (root : ℕ) (s : Side) → InOrder g s → Moves g p s (root_takes root s)
  unfolding root_takes
  root_takes_moves root s order = root_state_moves root idle s order

  -- ---- objects that go

  reaped_by : (b : Bool) (o : Object) (s : Side) → b ≡ true → find (may_go g s.tables) s.tables.objects ≡ Some o → InOrder g s → Moves g p s (with_tables (reaps_object g b o s.tables) s)
  unfolding without_object fields_count
  reaped_by true o s up found order =
      let parts = total_found (λ o. total (stray g) (refs_of_values o.fields)) (may_go g s.tables) o s.tables.objects found in
      let less = total_filter (λ o. total (stray g) (refs_of_values o.fields)) (λ k. not (o.number == k.number)) s.tables.objects in
      let before = order.free in
      let same = same_objects (stray g) (without_object o.number s.tables.objects) _
      (lets_go_all_objects g (holder.Object o.number) (refs_of_values o.fields) (record s.tables { objects = without_object o.number s.tables.objects })) in
      moves_tables g p (reaps_object g true o s.tables) s
      (pays_lets_go_all g p foreign (holder.Object o.number) (refs_of_values o.fields) (record s.tables { objects = without_object o.number s.tables.objects }) (omega arith))
      (omega arith) order
  reaped_by false o s up found order = absurd (cc)

  reaped_so : (o : Option Object) (s : Side) → find (may_go g s.tables) s.tables.objects ≡ o → stands s ≡ true → InOrder g s → Moves g p s (reaps_some g o s)
  unfolding reaps
  reaped_so None s found up order = moves_same g p s order
  reaped_so (Some o) s found up order = reaped_by (stands s) o s up found order

  pub reaps_moves : (s : Side) → stands s ≡ true → InOrder g s → Moves g p s (reaps_some g (lowest g s.tables) s)
  unfolding lowest
  reaps_moves s up order = reaped_so (find (may_go g s.tables) s.tables.objects) s refl up order
