-- What is said stands behind what was said before, and stubs count what is sent with it: so do frames that begin, answers, effects and roots.
use Rattle.std.proofs.Common.{ℕ, suc, Bool, true, false, List, [], ◌∷◌, ◌++◌, Option, None, Some, Result, Ok, Err, if◌then◌else◌}
use Rattle.message_model.specs.Messages.{Answer, returned, raised, reply, request}
use Rattle.uno_model.specs.BuiltIn.{x_interface_name}
use Rattle.uno_model.specs.Kinds as kd
use Rattle.uno_model.specs.Values.{Ref, null, own, peer, Plain, refs}
use Rattle.uno_model.specs.Values as v
use Rattle.table_model.specs.declared.holder.Holder.{Holder}
use Rattle.table_model.specs.declared.holder.Holder.TheVariants as holder
use Rattle.plan_model.specs.Asking.{Effect, lets, sets, sets_field, drops, skips, calls, queries, makes, disposes, creates, returns, raises}
use Rattle.plan_model.specs.Frames.{Variable, Body, Frame, base, body, outgoing}
use Rattle.plan_model.specs.Holdings.{is_taken, let_go_at_end, let_go_by, held_by, reference_of}
use Rattle.plan_model.specs.Leaving.{leaving_frame}
use Rattle.plan_model.specs.Services.{Created, fresh, singleton, created}
use Rattle.plan_model.specs.declared.refusal.Refusal.{Refusal}
use Rattle.plan_model.specs.declared.runtime_cause.RuntimeCause.{RuntimeCause}
use Rattle.bridge_model.specs.Applying.{holder_for, with_fields_after, changes_own, goes_on_after, applies_call, answers_query, applies_query, applies_making, applies_creating, applies}
use Rattle.bridge_model.specs.Calls.{Unwound, first_body, holds_call, takes_call, calls_own, serves, calls_peer, query_args}
use Rattle.bridge_model.specs.Going.{reaps}
use Rattle.bridge_model.specs.Handing.{taken_by, goes_on_with, statement_at, root_gets, lets_go_frame, answers_peer, holder_of, gains_with, gains_below, takes_with, takes_below, hands_over, hands, hands_down, ends_frame, hands_from_peer}
use Rattle.bridge_model.specs.Objects.{object_numbered, variables_of, object_answer, makes_object, makes_default, without_object}
use Rattle.bridge_model.specs.Receiving.{asked_kind, answer_to, answers_at_once}
use Rattle.bridge_model.specs.References.{gains_all, takes_all, loses, loses_all, lets_go, lets_go_all, refs_of_values, refs_of_answer}
use Rattle.bridge_model.specs.Roots.{bottom, answered_before, begins_call, calls_unless, root_calls, gets_at_once, asks_peer, begins_query, queries_unless, root_queries, asks_unless, root_asks, root_makes, root_drops, root_takes}
use Rattle.bridge_model.specs.Settings.{Setting, own_oid, root_tid, ref_of}
use Rattle.bridge_model.specs.Sides.{Object, RootState, idle, waits_call, waits_query, answered, answer, Tables, Side, stands, state_of, with_root}
use Rattle.bridge_laws.proofs.GrowsLaws.{Grows, grows_same, grows_on, grows_if, grows_says, grows_gains, grows_gains_all, grows_takes_all, grows_loses, grows_loses_all, grows_lets_go, grows_lets_go_all, grows_makes_object, grows_makes_default}

-- either way
unwound_if : (g : Setting) (b : Bool) (t : Tables) (u v : Unwound) → Grows g t u.tables → Grows g t v.tables → Grows g t (if b then u else v).tables
unwound_if g true t u v p q = p
unwound_if g false t u v p q = q

either : (g : Setting) (b : Bool) (t : Tables) (f h : Tables → Tables) → Grows g t (f t) → Grows g t (h t) → Grows g t ((if b then f else h) t)
either g true t f h p q = p
either g false t f h p q = q

-- ---- frames that begin

grows_holds_call : (g : Setting) (b : Body) (args : List Plain) (t : Tables) → Grows g t (holds_call g b args t)
grows_holds_call g b args t =
    grows_on
    (grows_gains_all g (holder.Frame b.number) (refs_of_values args) t)
    (grows_gains g (holder.Frame b.number) (own (own_oid g b.object) b.face) (gains_all (holder.Frame b.number) (refs_of_values args) t))

grows_takes_call : (g : Setting) (b : Body) (args : List Plain) (t : Tables) → Grows g t (takes_call g b args t)
grows_takes_call g b args t =
    grows_on
    (grows_takes_all g (holder.Frame b.number) (refs_of_values args) t)
    (grows_gains g (holder.Frame b.number) (own (own_oid g b.object) b.face) (takes_all g (holder.Frame b.number) (refs_of_values args) t))

pub grows_calls_own : (g : Setting) (oid face : List ℕ) (function : ℕ) (args : List Plain) (fs : List Frame) (t : Tables)
    → Grows g t (calls_own g oid face function args fs t).tables
unfolding calls_own
grows_calls_own g oid face function args fs t = grows_holds_call g (first_body g false oid face function args t) args t

pub grows_serves : (g : Setting) (oid face : List ℕ) (function : ℕ) (args : List Plain) (fs : List Frame) (t : Tables)
    → Grows g t (serves g oid face function args fs t).tables
unfolding serves
grows_serves g oid face function args fs t = grows_takes_call g (first_body g true oid face function args t) args t

pub grows_calls_peer : (g : Setting) (tid oid face : List ℕ) (function : ℕ) (args : List Plain) (fs : List Frame) (t : Tables)
    → Grows g t (calls_peer g tid oid face function args fs t).tables
unfolding calls_peer
grows_calls_peer g tid oid face function args fs t = grows_says g (request tid oid face function args) t

-- ---- answers

pub grows_goes_on_with : (g : Setting) (b : Body) (x : Plain) (outs : List Plain) (fs : List Frame) (t : Tables)
    → Grows g t (goes_on_with g b x outs fs t).tables
unfolding goes_on_with
grows_goes_on_with g b x outs fs t =
    let taken = taken_by g (statement_at g t.objects b) x outs b.variables in
    grows_lets_go_all g (holder.Frame b.number) taken.let_go t

pub grows_root_gets : (g : Setting) (root : ℕ) (s : RootState) (a : Answer) (t : Tables) → Grows g t (root_gets g root s a t)
unfolding root_gets
grows_root_gets g root (waits_query wanted) (returned x outs) t =
    grows_lets_go_all
    g
    (holder.Root root)
    (if is_taken g.registry wanted x then [] else refs x)
    (with_root root (answered (answer (returned (v.ref (reference_of g.registry wanted x)) []))) t)
grows_root_gets g root (waits_query wanted) (raised k x) t = grows_same g t
grows_root_gets g root idle a t = grows_same g t
grows_root_gets g root waits_call a t = grows_same g t
grows_root_gets g root (answered o) a t = grows_same g t

grows_lets_go_frame : (g : Setting) (b : Body) (extra : List Ref) (t : Tables) → Grows g t (lets_go_frame g b extra t)
grows_lets_go_frame g b extra t = grows_lets_go_all g (holder.Frame b.number) (extra ++ let_go_at_end (own_oid g b.object) b) t

grows_answers_peer : (g : Setting) (tid : List ℕ) (b : Body) (extra : List Ref) (a : Answer) (t : Tables) → Grows g t (answers_peer g tid b extra a t)
grows_answers_peer g tid b extra a t = grows_on (grows_says g (reply tid b.face b.function a) t) (grows_lets_go_frame g b extra _)

grows_gains_with : (g : Setting) (h : Option Holder) (rs : List Ref) (t : Tables) → Grows g t (gains_with h rs t)
grows_gains_with g None rs t = grows_same g t
grows_gains_with g (Some h) rs t = grows_gains_all g h rs t

pub grows_gains_below : (g : Setting) (fs : List Frame) (a : Answer) (t : Tables) → Grows g t (gains_below fs a t)
grows_gains_below g [] a t = grows_same g t
grows_gains_below g (f ∷ fs) a t = grows_gains_with g (holder_of f) (refs_of_answer a) t

grows_takes_with : (g : Setting) (h : Option Holder) (rs : List Ref) (t : Tables) → Grows g t (takes_with g h rs t)
grows_takes_with g None rs t = grows_same g t
grows_takes_with g (Some h) rs t = grows_takes_all g h rs t

grows_takes_below : (g : Setting) (fs : List Frame) (a : Answer) (t : Tables) → Grows g t (takes_below g fs a t)
grows_takes_below g [] a t = grows_same g t
grows_takes_below g (f ∷ fs) a t = grows_takes_with g (holder_of f) (refs_of_answer a) t

grows_hands_over : (g : Setting) (b : Body) (extra : List Ref) (a : Answer) (fs : List Frame) (t : Tables) → Grows g t (hands_over g b extra a fs t)
grows_hands_over g b extra a fs t = grows_on (grows_gains_below g fs a t) (grows_lets_go_frame g b extra (gains_below fs a t))

pub grows_hands : (g : Setting) (tid : List ℕ) (a : Answer) (fs : List Frame) (t : Tables) → Grows g t (hands g tid a fs t).tables
unfolding hands
grows_hands g tid a [] t = grows_same g t
grows_hands g tid a (base root ∷ fs) t = grows_root_gets g root (state_of root t.roots) a t
grows_hands g tid a (outgoing o ∷ fs) t = grows_same g t
grows_hands g tid (returned x outs) (body b ∷ fs) t = grows_goes_on_with g b x outs fs t
grows_hands g tid (raised k x) (body b ∷ fs) t =
    let left = leaving_frame g.registry tid b (raised k x) in
    unwound_if g b.from_peer t _ _
    (grows_answers_peer g tid b (refs x) left t)
    (grows_on (grows_hands_over g b (refs x) left fs t) (grows_hands g tid left fs (hands_over g b (refs x) left fs t)))

grows_hands_down : (g : Setting) (tid : List ℕ) (b : Body) (a : Answer) (fs : List Frame) (t : Tables) → Grows g t (hands_down g tid b a fs t).tables
grows_hands_down g tid b (returned x outs) fs t =
    let below = gains_below fs (returned x outs) t in
    grows_on
    (grows_gains_below g fs (returned x outs) t)
    (grows_on (grows_hands g tid (returned x outs) fs below) (grows_lets_go_frame g b [] (hands g tid (returned x outs) fs below).tables))
grows_hands_down g tid b (raised k x) fs t =
    grows_on (grows_hands_over g b [] (raised k x) fs t) (grows_hands g tid (raised k x) fs (hands_over g b [] (raised k x) fs t))

pub grows_ends_frame : (g : Setting) (tid : List ℕ) (b : Body) (a : Answer) (fs : List Frame) (t : Tables) → Grows g t (ends_frame g tid b a fs t).tables
unfolding ends_frame
grows_ends_frame g tid b a fs t = unwound_if g b.from_peer t _ _ (grows_answers_peer g tid b [] a t) (grows_hands_down g tid b a fs t)

pub grows_hands_from_peer : (g : Setting) (tid : List ℕ) (a : Answer) (fs : List Frame) (t : Tables) → Grows g t (hands_from_peer g tid a fs t).tables
unfolding hands_from_peer
grows_hands_from_peer g tid a fs t = grows_on (grows_takes_below g fs a t) (grows_hands g tid a fs (takes_below g fs a t))

pub grows_answers_at_once : (g : Setting) (tid oid face : List ℕ) (args : List Plain) (t : Tables) → Grows g t (answers_at_once g tid oid face args t)
grows_answers_at_once g tid oid face args t = grows_says g (reply tid face 0 (returned (answer_to g oid (asked_kind args) t.objects) [])) t

-- ---- effects

grows_with_fields_after : (g : Setting) (e : Effect) (b : Body) (fields : List Variable) (t : Tables) → Grows g t (with_fields_after e b fields t)
grows_with_fields_after g (sets_field x) b fields t = grows_same g t
grows_with_fields_after g e b fields t = grows_same g t

grows_changes_own : (g : Setting) (e : Effect) (b : Body) (fields : List Variable) (t : Tables) → Grows g t (changes_own g e b fields t)
grows_changes_own g e b fields t =
    let held = gains_all (holder_for e b) (held_by e) t in
    grows_on
    (grows_gains_all g (holder_for e b) (held_by e) t)
    (grows_on (grows_with_fields_after g e b fields held) (grows_lets_go_all g (holder_for e b) (let_go_by b.variables fields e) (with_fields_after e b fields held)))

grows_goes_on_after : (g : Setting) (e : Effect) (b : Body) (fs : List Frame) (t : Tables) → Grows g t (goes_on_after g e b fs t).tables
grows_goes_on_after g e b fs t = grows_changes_own g e b (variables_of g (object_numbered b.object t.objects)) t

grows_applies_call : (g : Setting) (tid : List ℕ) (r : Ref) (function : ℕ) (args : List Plain) (fs : List Frame) (t : Tables)
    → Grows g t (applies_call g tid r function args fs t).tables
grows_applies_call g tid null function args fs t = grows_same g t
grows_applies_call g tid (own oid face) function args fs t = grows_calls_own g oid face function args fs t
grows_applies_call g tid (peer oid face) function args fs t = grows_calls_peer g tid oid face function args fs t

grows_answers_query : (g : Setting) (tid : List ℕ) (x : Plain) (fs : List Frame) (t : Tables) → Grows g t (answers_query g tid x fs t).tables
grows_answers_query g tid x fs t =
    grows_on (grows_gains_below g fs (returned x []) t) (grows_hands g tid (returned x []) fs (gains_below fs (returned x []) t))

grows_applies_query : (g : Setting) (tid : List ℕ) (r : Ref) (wanted : List ℕ) (fs : List Frame) (t : Tables) → Grows g t (applies_query g tid r wanted fs t).tables
grows_applies_query g tid null wanted fs t = grows_same g t
grows_applies_query g tid (own oid face) wanted fs t = grows_answers_query g tid (object_answer g oid (kd.interface wanted) t.objects) fs t
grows_applies_query g tid (peer oid face) wanted fs t = grows_calls_peer g tid oid face 0 (query_args wanted) fs t

grows_applies_making : (g : Setting) (behaviour : ℕ) (face to : List ℕ) (b : Body) (fs : List Frame) (t : Tables)
    → Grows g t (applies_making g behaviour face to b fs t).tables
grows_applies_making g behaviour face to b fs t =
    grows_on
    (grows_makes_default g behaviour t)
    (grows_gains g (holder.Frame b.number) (own (own_oid g (suc t.objects_made)) face) (makes_default g behaviour t))

grows_applies_creating : (g : Setting) (tid : List ℕ) (b : Body) (name : List ℕ) (r : Result Created Refusal) (fs : List Frame) (t : Tables)
    → Grows g t (applies_creating g tid b name r fs t).tables
unfolding applies_creating
grows_applies_creating g tid b name (Ok (fresh behaviour fields)) fs t =
    grows_on (grows_makes_object g behaviour fields t) (grows_ends_frame g tid b _ fs (makes_object behaviour fields t))
grows_applies_creating g tid b name (Ok (singleton place)) fs t = grows_ends_frame g tid b _ fs t
grows_applies_creating g tid b name (Err why) fs t = grows_ends_frame g tid b _ fs t

pub grows_applies : (g : Setting) (tid : List ℕ) (b : Body) (fs : List Frame) (e : Effect) (t : Tables) → Grows g t (applies g tid b fs e t).tables
unfolding applies
grows_applies g tid b fs (lets x) t = grows_goes_on_after g (lets x) b fs t
grows_applies g tid b fs (sets x) t = grows_goes_on_after g (sets x) b fs t
grows_applies g tid b fs (sets_field x) t = grows_goes_on_after g (sets_field x) b fs t
grows_applies g tid b fs (drops name) t = grows_goes_on_after g (drops name) b fs t
grows_applies g tid b fs skips t = grows_goes_on_after g skips b fs t
grows_applies g tid b fs (calls target function args to) t = grows_applies_call g tid target function args (body b ∷ fs) t
grows_applies g tid b fs (queries target wanted to) t = grows_applies_query g tid target wanted (body b ∷ fs) t
grows_applies g tid b fs (makes behaviour face to) t = grows_applies_making g behaviour face to b fs t
grows_applies g tid b fs disposes t = grows_same g t
grows_applies g tid b fs (creates name args) t = grows_applies_creating g tid b name (created g.plan g.registry name args) fs t
grows_applies g tid b fs (returns x outs) t = grows_ends_frame g tid b (returned x outs) fs t
grows_applies g tid b fs (raises k x) t = grows_ends_frame g tid b (raised k x) fs t

-- ---- roots

grows_begins_call : (g : Setting) (root : ℕ) (r : Ref) (function : ℕ) (args : List Plain) (s : Side) → Grows g s.tables (begins_call g root r function args s).tables
grows_begins_call g root null function args s = grows_same g s.tables
grows_begins_call g root (own oid face) function args s = grows_calls_own g oid face function args (bottom root) (with_root root waits_call s.tables)
grows_begins_call g root (peer oid face) function args s =
    grows_calls_peer g (root_tid g root) oid face function args (bottom root) (with_root root waits_call s.tables)

grows_calls_unless : (g : Setting) (root : ℕ) (oid face : List ℕ) (function : ℕ) (args : List Plain) (why : Option RuntimeCause) (s : Side)
    → Grows g s.tables (calls_unless g root oid face function args why s).tables
grows_calls_unless g root oid face function args (Some why) s = grows_same g s.tables
grows_calls_unless g root oid face function args None s = grows_begins_call g root (ref_of g oid face) function args s

pub grows_root_calls : (g : Setting) (root : ℕ) (oid face : List ℕ) (function : ℕ) (args : List Plain) (s : Side)
    → Grows g s.tables (root_calls g root oid face function args s).tables
unfolding root_calls
grows_root_calls g root oid face function args s =
    grows_calls_unless g root oid face function args (answered_before (root_tid g root) oid face function args) s

grows_gets_at_once : (g : Setting) (root : ℕ) (wanted : List ℕ) (x : Plain) (t : Tables) → Grows g t (gets_at_once g root wanted x t)
grows_gets_at_once g root wanted x t =
    grows_on
    (grows_gains_all g (holder.Root root) (refs x) t)
    (grows_root_gets g root (waits_query wanted) (returned x []) (gains_all (holder.Root root) (refs x) t))

grows_asks_peer : (g : Setting) (root : ℕ) (oid face wanted : List ℕ) (s : Side) → Grows g s.tables (asks_peer g root oid face wanted s).tables
grows_asks_peer g root oid face wanted s =
    grows_calls_peer g (root_tid g root) oid face 0 (query_args wanted) (bottom root) (with_root root (waits_query wanted) s.tables)

grows_begins_query : (g : Setting) (root : ℕ) (r : Ref) (wanted : List ℕ) (s : Side) → Grows g s.tables (begins_query g root r wanted s).tables
grows_begins_query g root null wanted s = grows_same g s.tables
grows_begins_query g root (own oid face) wanted s = grows_gets_at_once g root wanted (object_answer g oid (kd.interface wanted) s.tables.objects) s.tables
grows_begins_query g root (peer oid face) wanted s = grows_asks_peer g root oid face wanted s

grows_queries_unless : (g : Setting) (root : ℕ) (oid face wanted : List ℕ) (why : Option RuntimeCause) (s : Side)
    → Grows g s.tables (queries_unless g root oid face wanted why s).tables
grows_queries_unless g root oid face wanted (Some why) s = grows_same g s.tables
grows_queries_unless g root oid face wanted None s = grows_begins_query g root (ref_of g oid face) wanted s

pub grows_root_queries : (g : Setting) (root : ℕ) (oid face wanted : List ℕ) (s : Side) → Grows g s.tables (root_queries g root oid face wanted s).tables
unfolding root_queries
grows_root_queries g root oid face wanted s =
    grows_queries_unless g root oid face wanted (answered_before (root_tid g root) oid face 0 (query_args wanted)) s

grows_asks_unless : (g : Setting) (root : ℕ) (name wanted : List ℕ) (why : Option RuntimeCause) (s : Side)
    → Grows g s.tables (asks_unless g root name wanted why s).tables
grows_asks_unless g root name wanted (Some why) s = grows_same g s.tables
grows_asks_unless g root name wanted None s = grows_asks_peer g root name x_interface_name wanted s

pub grows_root_asks : (g : Setting) (root : ℕ) (name wanted : List ℕ) (s : Side) → Grows g s.tables (root_asks g root name wanted s).tables
unfolding root_asks
grows_root_asks g root name wanted s =
    grows_asks_unless g root name wanted (answered_before (root_tid g root) name x_interface_name 0 (query_args wanted)) s

pub grows_root_makes : (g : Setting) (root behaviour : ℕ) (wanted : List ℕ) (s : Side) → Grows g s.tables (root_makes g root behaviour wanted s).tables
unfolding root_makes
grows_root_makes g root behaviour wanted s =
    grows_on
    (grows_makes_default g behaviour s.tables)
    (grows_gains g (holder.Root root) (own (own_oid g (suc s.tables.objects_made)) wanted) (makes_default g behaviour s.tables))

pub grows_root_drops : (g : Setting) (root : ℕ) (oid face : List ℕ) (s : Side) → Grows g s.tables (root_drops g root oid face s).tables
unfolding root_drops
grows_root_drops g root oid face s =
    either
    g
    (stands s)
    s.tables
    (lets_go g (holder.Root root) (ref_of g oid face))
    (loses (holder.Root root) (ref_of g oid face))
    (grows_lets_go g (holder.Root root) (ref_of g oid face) s.tables)
    (grows_loses g (holder.Root root) (ref_of g oid face) s.tables)

pub grows_root_takes : (g : Setting) (root : ℕ) (s : Side) → Grows g s.tables (root_takes root s).tables
unfolding root_takes
grows_root_takes g root s = grows_same g s.tables

-- ---- objects that go

pub grows_reaps : (g : Setting) (o : Object) (s : Side) → Grows g s.tables (reaps g o s).tables
unfolding reaps
grows_reaps g o s =
    let less = record s.tables { objects = without_object o.number s.tables.objects } in
    grows_if
    g
    (stands s)
    s.tables
    (lets_go_all g (holder.Object o.number) (refs_of_values o.fields) less)
    (loses_all (holder.Object o.number) (refs_of_values o.fields) less)
    (grows_lets_go_all g (holder.Object o.number) (refs_of_values o.fields) less)
    (grows_loses_all g (holder.Object o.number) (refs_of_values o.fields) less)
