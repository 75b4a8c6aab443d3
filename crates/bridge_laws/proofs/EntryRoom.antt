-- Room behind what roots do, and behind objects that go.
use Rattle.std.proofs.Common.{◌≡◌, ℕ, suc, ◌+◌, ◌≤◌, Bool, true, false, not, ◌==◌, if◌then◌else◌, List, [], length, Option, None, Some, refl, ap, ◌∙◌, arith, eq-eqb}
use Rattle.std.proofs.lemmas.Bool.{false≢true}
use Rattle.message_model.specs.Messages.{Answer, returned}
use Rattle.uno_model.specs.BuiltIn.{x_interface_name}
use Rattle.uno_model.specs.Kinds as kd
use Rattle.uno_model.specs.Values.{Ref, null, own, peer, Plain, refs}
use Rattle.uno_model.specs.Values as v
use Rattle.table_model.specs.declared.holder.Holder.TheVariants as holder
use Rattle.plan_model.specs.Frames.{Frame}
use Rattle.plan_model.specs.Holdings.{no_object, query_answer}
use Rattle.plan_model.specs.Leaving.{caused}
use Rattle.plan_model.specs.Plans.{supports}
use Rattle.plan_model.specs.declared.runtime_cause.RuntimeCause.{RuntimeCause}
use Rattle.bridge_model.specs.Calls.{first_body, calls_own, calls_peer, query_args}
use Rattle.bridge_model.specs.Going.{reaps_object, reaps}
use Rattle.bridge_model.specs.Objects.{may_go, lowest, without_object, faces_at, object_named, object_answer, makes_default}
use Rattle.bridge_model.specs.References.{says, gains, gains_all, holds_ref, loses, lets_go, refs_of_values}
use Rattle.bridge_model.specs.Roots as r
use Rattle.bridge_model.specs.Roots.{holds_pair, answered_before, is_answered, begins_call, calls_unless, root_calls, gets_at_once, asks_peer, begins_query, queries_unless, root_queries, asks_unless, root_asks, root_makes, root_drops, root_takes, outcome_in}
use Rattle.bridge_model.specs.Settings.{Setting, own_oid, root_tid, is_own, ref_of}
use Rattle.bridge_model.specs.Sides.{Object, RootState, idle, waits_call, waits_query, answered, answer, Tables, Side, stands, on_tables, state_of, states_with, with_root}
use Rattle.bridge_model.specs.Stacks.{with_unwound}
use Rattle.bridge_model.specs.Steps.{is_outcome, is_numbered, reaps_some}
use Rattle.bridge_laws.proofs.EffectStackLaws.{stay_holds_call}
use Rattle.bridge_laws.proofs.FrameLaws.{root_answered}
use Rattle.bridge_laws.proofs.RootStateLaws.{Stay, stay_gains, stay_gains_all, stay_loses, stay_loses_all, stay_lets_go, stay_lets_go_all, stay_makes_default}
use Rattle.bridge_laws.specs.Room.{open_roots, needed}
use Rattle.bridge_laws.proofs.EffectRoom.{calls_own_kept, calls_peer_kept}
use Rattle.bridge_laws.proofs.FrameRoom.{root_gets_kept, with_root_kept}
use Rattle.bridge_laws.proofs.RootRoom.{open_more, open_taken}
use Rattle.bridge_laws.proofs.SideRoom.{needed_is, needed_more, needed_less}
use Rattle.bridge_laws.proofs.TableRoom.{kept, gains_kept, gains_all_kept, lets_go_all_kept, loses_all_kept, loses_gone, lets_go_gone, makes_default_kept, fewer_left}

-- ---- a root that opens

-- a root begins a call, or is answered at once
opened : (root : ℕ) (x : RootState) (s u : Side) (n : ℕ) → u.cause ≡ s.cause → u.tables.roots ≡ states_with root x s.tables.roots → kept u.tables ≤ n + kept s.tables
    → needed u ≤ needed s + (1 + n)
opened root x s u n same changed tables =
    let roots : open_roots u.tables.roots ≡ open_roots (states_with root x s.tables.roots) = ap open_roots changed in
    let more = open_more root x s.tables.roots in
    needed_more s u 1 n same (omega arith) tables

answered_needed : (root : ℕ) (a : Answer) (s : Side) → needed (is_answered root a s) ≤ needed s + 1
answered_needed root a s =
    let same = with_root_kept root (answered (answer a)) s.tables in
    let more = opened root (answered (answer a)) s (is_answered root a s) 0 refl refl (omega arith) in omega arith

peer_roots : (g : Setting) (tid oid face : List ℕ) (function : ℕ) (args : List Plain) (fs : List Frame) (t : Tables) → Stay t (calls_peer g tid oid face function args fs t).tables
unfolding calls_peer says
peer_roots g tid oid face function args fs t = refl

own_roots : (g : Setting) (oid face : List ℕ) (function : ℕ) (args : List Plain) (fs : List Frame) (t : Tables) → Stay t (calls_own g oid face function args fs t).tables
unfolding calls_own
own_roots g oid face function args fs t = stay_holds_call g (first_body g false oid face function args t) args t

begun_peer : (g : Setting) (root : ℕ) (x : RootState) (oid face : List ℕ) (function : ℕ) (args : List Plain) (s : Side)
    → needed (with_unwound (root_tid g root) (calls_peer g (root_tid g root) oid face function args (r.bottom root) (with_root root x s.tables)) s) ≤ needed s + 1
begun_peer g root x oid face function args s =
    let same = with_root_kept root x s.tables in
    let called = calls_peer_kept g (root_tid g root) oid face function args (r.bottom root) (with_root root x s.tables) in
    let more =
    opened root x s (with_unwound (root_tid g root) (calls_peer g (root_tid g root) oid face function args (r.bottom root) (with_root root x s.tables)) s) 0 refl
    (peer_roots g (root_tid g root) oid face function args (r.bottom root) (with_root root x s.tables)) (omega arith) in omega arith

begun_own : (g : Setting) (root : ℕ) (x : RootState) (oid face : List ℕ) (function : ℕ) (args : List Plain) (s : Side)
    → needed (with_unwound (root_tid g root) (calls_own g oid face function args (r.bottom root) (with_root root x s.tables)) s) ≤ needed s + 1
begun_own g root x oid face function args s =
    let same = with_root_kept root x s.tables in
    let called = calls_own_kept g oid face function args (r.bottom root) (with_root root x s.tables) in
    let more =
    opened root x s (with_unwound (root_tid g root) (calls_own g oid face function args (r.bottom root) (with_root root x s.tables)) s) 0 refl
    (own_roots g oid face function args (r.bottom root) (with_root root x s.tables)) (omega arith) in omega arith

-- ---- calls

call_needed : (g : Setting) (root : ℕ) (x : Ref) (function : ℕ) (args : List Plain) (s : Side) → needed (begins_call g root x function args s) ≤ needed s + 1
call_needed g root null function args s = omega arith
call_needed g root (own oid face) function args s = begun_own g root waits_call oid face function args s
call_needed g root (peer oid face) function args s = begun_peer g root waits_call oid face function args s

unless_needed : (g : Setting) (root : ℕ) (oid face : List ℕ) (function : ℕ) (args : List Plain) (why : Option RuntimeCause) (s : Side)
    → needed (calls_unless g root oid face function args why s) ≤ needed s + 1
unless_needed g root oid face function args (Some why) s = answered_needed root (caused why) s
unless_needed g root oid face function args None s = call_needed g root (ref_of g oid face) function args s

pub calls_needed : (g : Setting) (root : ℕ) (oid face : List ℕ) (function : ℕ) (args : List Plain) (s : Side) → needed (root_calls g root oid face function args s) ≤ needed s + 1
unfolding root_calls
calls_needed g root oid face function args s = unless_needed g root oid face function args (answered_before (root_tid g root) oid face function args) s

-- ---- queries

unless_asked : (g : Setting) (root : ℕ) (name wanted : List ℕ) (why : Option RuntimeCause) (s : Side) → needed (asks_unless g root name wanted why s) ≤ needed s + 1
unless_asked g root name wanted (Some why) s = answered_needed root (caused why) s
unless_asked g root name wanted None s = begun_peer g root (waits_query wanted) name x_interface_name 0 (query_args wanted) s

pub asks_needed : (g : Setting) (root : ℕ) (name wanted : List ℕ) (s : Side) → needed (root_asks g root name wanted s) ≤ needed s + 1
unfolding root_asks
asks_needed g root name wanted s = unless_asked g root name wanted (answered_before (root_tid g root) name x_interface_name 0 (query_args wanted)) s

answer_refs : (b : Bool) (oid wanted : List ℕ) → length (refs (if b then v.any (kd.interface wanted) (v.ref (own oid wanted)) else no_object)) ≤ 1
unfolding refs
answer_refs true oid wanted = omega arith
answer_refs false oid wanted = omega arith

-- an object answers with itself, or with nothing
object_refs : (g : Setting) (oid wanted : List ℕ) (os : List Object) → length (refs (object_answer g oid (kd.interface wanted) os)) ≤ 1
unfolding object_answer query_answer
object_refs g oid wanted os = answer_refs (supports g.registry (faces_at g (object_named g oid os)) wanted) oid wanted

at_once_needed : (g : Setting) (root : ℕ) (wanted : List ℕ) (x : Plain) (s : Side) → length (refs x) ≤ 1 → needed (on_tables (gets_at_once g root wanted x) s) ≤ needed s + 2
at_once_needed g root wanted x s few =
    let held = gains_all_kept (holder.Root root) (refs x) s.tables in
    let got = root_answered g root (waits_query wanted) (returned x []) (gains_all (holder.Root root) (refs x) s.tables) in
    let tables = root_gets_kept g root (waits_query wanted) (returned x []) (gains_all (holder.Root root) (refs x) s.tables) in
    let same = stay_gains_all (holder.Root root) (refs x) s.tables in
    let more = opened root (answered got.0) s (on_tables (gets_at_once g root wanted x) s) 1 refl (got.1 ∙ ap (states_with root (answered got.0)) same) (omega arith) in omega arith

query_needed : (g : Setting) (root : ℕ) (x : Ref) (wanted : List ℕ) (s : Side) → needed (begins_query g root x wanted s) ≤ needed s + 2
query_needed g root null wanted s = omega arith
query_needed g root (own oid face) wanted s =
    at_once_needed g root wanted (object_answer g oid (kd.interface wanted) s.tables.objects) s (object_refs g oid wanted s.tables.objects)
query_needed g root (peer oid face) wanted s = let more = begun_peer g root (waits_query wanted) oid face 0 (query_args wanted) s in omega arith

unless_queried : (g : Setting) (root : ℕ) (oid face wanted : List ℕ) (why : Option RuntimeCause) (s : Side) → needed (queries_unless g root oid face wanted why s) ≤ needed s + 2
unless_queried g root oid face wanted (Some why) s = let more = answered_needed root (caused why) s in omega arith
unless_queried g root oid face wanted None s = query_needed g root (ref_of g oid face) wanted s

pub queries_needed : (g : Setting) (root : ℕ) (oid face wanted : List ℕ) (s : Side) → needed (root_queries g root oid face wanted s) ≤ needed s + 2
unfolding root_queries
queries_needed g root oid face wanted s = unless_queried g root oid face wanted (answered_before (root_tid g root) oid face 0 (query_args wanted)) s

-- ---- objects, references and outcomes

pub makes_needed : (g : Setting) (root behaviour : ℕ) (wanted : List ℕ) (s : Side) → needed (root_makes g root behaviour wanted s) ≤ needed s + 2
unfolding root_makes
makes_needed g root behaviour wanted s =
    let x : Ref = own (own_oid g (suc s.tables.objects_made)) wanted in
    let made = makes_default_kept g behaviour s.tables in
    let held = gains_kept (holder.Root root) (own (own_oid g (suc s.tables.objects_made)) wanted) (makes_default g behaviour s.tables) in
    let stay = stay_gains (holder.Root root) x (makes_default g behaviour s.tables) ∙ stay_makes_default g behaviour s.tables in
    let roots : open_roots (gains (holder.Root root) (own (own_oid g (suc s.tables.objects_made)) wanted) (makes_default g behaviour s.tables)).roots ≡ open_roots s.tables.roots = ap open_roots stay in
    let more = needed_more s (on_tables (λ t. gains (holder.Root root) (own (own_oid g (suc t.objects_made)) wanted) (makes_default g behaviour t)) s) 0 2 refl (omega arith) (omega arith) in omega arith

holds_told : (g : Setting) (b : Bool) (root : ℕ) (oid face : List ℕ) (t : Tables) → holds_pair root oid face t ≡ true → holds_ref (holder.Root root) (if b then own oid face else peer oid face) t ≡ true
holds_told g true root oid face t there = there
holds_told g false root oid face t there = there

holds_it : (g : Setting) (root : ℕ) (oid face : List ℕ) (t : Tables) → holds_pair root oid face t ≡ true → holds_ref (holder.Root root) (ref_of g oid face) t ≡ true
unfolding ref_of
holds_it g root oid face t there = holds_told g (is_own g oid) root oid face t there

gone_either : (b : Bool) (t : Tables) (f h : Tables → Tables) → suc (kept (f t)) ≤ kept t → suc (kept (h t)) ≤ kept t → suc (kept ((if b then f else h) t)) ≤ kept t
gone_either true t f h p q = p
gone_either false t f h p q = q

stay_either : (b : Bool) (t : Tables) (f h : Tables → Tables) → Stay t (f t) → Stay t (h t) → Stay t ((if b then f else h) t)
stay_either true t f h p q = p
stay_either false t f h p q = q

-- an occurrence that a root holds goes
pub drops_needed : (g : Setting) (root : ℕ) (oid face : List ℕ) (s : Side) → holds_pair root oid face s.tables ≡ true → suc (needed (root_drops g root oid face s)) ≤ needed s
unfolding root_drops
drops_needed g root oid face s there =
    let x = ref_of g oid face in
    let holds = holds_it g root oid face s.tables there in
    needed_less s
    (on_tables (if stands s then lets_go g (holder.Root root) (ref_of g oid face) else loses (holder.Root root) (ref_of g oid face)) s)
    refl
    (stay_either (stands s) s.tables (lets_go g (holder.Root root) x) (loses (holder.Root root) x) (stay_lets_go g (holder.Root root) x s.tables) (stay_loses (holder.Root root) x s.tables))
    (gone_either (stands s) s.tables (lets_go g (holder.Root root) x) (loses (holder.Root root) x) (lets_go_gone g (holder.Root root) x s.tables refl holds) (loses_gone (holder.Root root) x s.tables refl holds))

-- an outcome goes
pub takes_needed : (root : ℕ) (s : Side) → is_outcome (outcome_in (state_of root s.tables.roots)) ≡ true → suc (needed (root_takes root s)) ≤ needed s
unfolding root_takes
takes_needed root s there =
    let before = needed_is s in
    let after = needed_is (on_tables (with_root root idle) s) in
    let taken = open_taken root s.tables.roots there in
    let same = with_root_kept root idle s.tables in omega arith

-- ---- objects that go

without_kept : (g : Setting) (o : Object) (t : Tables) → lowest g t ≡ Some o → suc (kept (record t { objects = without_object o.number t.objects })) ≤ kept t
unfolding kept lowest without_object
without_kept g o t found =
    let fewer = fewer_left (may_go g t) (λ k. not (o.number == k.number)) o t.objects found (ap not (eq-eqb o.number o.number refl)) in omega arith

reaped_by : (g : Setting) (up : Bool) (o : Object) (t : Tables) → lowest g t ≡ Some o → suc (kept (reaps_object g up o t)) ≤ kept t
reaped_by g true o t found =
    let gone = without_kept g o t found in
    let let_go = lets_go_all_kept g (holder.Object o.number) (refs_of_values o.fields) (record t { objects = without_object o.number t.objects }) in omega arith
reaped_by g false o t found =
    let gone = without_kept g o t found in
    let lost = loses_all_kept (holder.Object o.number) (refs_of_values o.fields) (record t { objects = without_object o.number t.objects }) in omega arith

reaped_roots : (g : Setting) (up : Bool) (o : Object) (t : Tables) → Stay t (reaps_object g up o t)
reaped_roots g true o t = stay_lets_go_all g (holder.Object o.number) (refs_of_values o.fields) (record t { objects = without_object o.number t.objects })
reaped_roots g false o t = stay_loses_all (holder.Object o.number) (refs_of_values o.fields) (record t { objects = without_object o.number t.objects })

reaped_some : (g : Setting) (object : ℕ) (found : Option Object) (s : Side) → lowest g s.tables ≡ found → is_numbered object found ≡ true
    → suc (needed (reaps_some g found s)) ≤ needed s
unfolding reaps
reaped_some g object None s is there = absurd (false≢true there)
reaped_some g object (Some o) s is there =
    needed_less s (on_tables (reaps_object g (stands s) o) s) refl (reaped_roots g (stands s) o s.tables) (reaped_by g (stands s) o s.tables is)

pub reaps_needed : (g : Setting) (object : ℕ) (s : Side) → is_numbered object (lowest g s.tables) ≡ true → suc (needed (reaps_some g (lowest g s.tables) s)) ≤ needed s
reaps_needed g object s there = reaped_some g object (lowest g s.tables) s refl there
