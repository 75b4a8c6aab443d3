-- What frames and objects have is held, in every history: what roots do, what goes, and each step keep it.
use Rattle.std.proofs.Common.{◌≡◌, ℕ, suc, ◌+◌, Bool, true, false, if◌then◌else◌, List, [], ◌∷◌, length, Option, None, Some, refl, ap, ◌∙◌, arith}
use Rattle.std.specs.Ordering.{eq_by_cmp}
use Rattle.message_model.specs.Messages.{returned}
use Rattle.uno_model.specs.BuiltIn.{x_interface_name}
use Rattle.uno_model.specs.Kinds as kd
use Rattle.uno_model.specs.Values.{Ref, null, own, peer, Plain, refs}
use Rattle.table_model.specs.Holdings.{Hold, holder_cmp}
use Rattle.table_model.specs.declared.holder.Holder.{Holder}
use Rattle.table_model.specs.declared.holder.Holder.TheVariants as holder
use Rattle.plan_model.specs.Asking.{Effect, disposes}
use Rattle.plan_model.specs.Frames.{Frame, base, body, outgoing, Stack, frames_of}
use Rattle.plan_model.specs.Holdings.{let_go_at_end}
use Rattle.plan_model.specs.Plans.{first_objects}
use Rattle.plan_model.specs.declared.runtime_cause.RuntimeCause.{RuntimeCause}
use Rattle.bridge_model.specs.Applying.{applies, effect_at}
use Rattle.bridge_model.specs.Calls.{calls_own, calls_peer, query_args}
use Rattle.bridge_model.specs.Entries.{Entry, fed, ended, failed, asked, called, queried, made, dropped, applied, took, reaped, drained, disposed, full, no_memory, counts}
use Rattle.bridge_model.specs.Going.{drains, reaps}
use Rattle.bridge_model.specs.Histories.{Told, Leads}
use Rattle.bridge_model.specs.Objects.{object_answer, makes_default, defaults_of, lowest}
use Rattle.bridge_model.specs.References.{gains_all, lets_go, loses}
use Rattle.bridge_model.specs.Roots.{answered_before, bottom, begins_call, calls_unless, root_calls, gets_at_once, asks_peer, begins_query, queries_unless, root_queries, asks_unless, root_asks, root_makes, root_drops, root_takes}
use Rattle.bridge_model.specs.Settings.{Setting, own_oid, root_tid, ref_of}
use Rattle.bridge_model.specs.Sides.{Object, Tables, Side, stands, waits_call, waits_query, with_root}
use Rattle.bridge_model.specs.Steps.{opening, no_objects, Picked, picked_in, picked, applies_effect, applies_picked, reaps_some, does}
use Rattle.bridge_model.specs.declared.cause.Cause.TheVariants as cause
use Rattle.bridge_laws.specs.Covering.{AreCovered}
use Rattle.bridge_laws.proofs.ApplyingLaws.{calls_own_covers, calls_peer_covers, applies_covers}
use Rattle.bridge_laws.proofs.HandingLaws.{frame_has, frames_have, base_more, frames_none, base_has, outgoing_has, method_has, returned_owes, root_gets_covers}
use Rattle.bridge_laws.proofs.ObjectLaws.{objects_none, makes_covers, makes_all_covers, reaps_covers, apart_owes, all_apart, root_objects}
use Rattle.bridge_laws.proofs.OccurrenceLaws.{times, objects_have, ref_owes, Covers, gains_covers, gains_all_covers, loses_covers, lets_go_covers}
use Rattle.bridge_laws.proofs.Replays.{IsKept, along_replay}
use Rattle.bridge_laws.proofs.SideLaws.{stacks_have, SideCovers, apart, stacks_none, thread_covers, unwound_covers, ends_by_covers, runs_out_covers, feeds_covers}
use Rattle.bridge_laws.proofs.Sums.{total_none}
use Rattle.bridge_laws.proofs.VariableLaws.{values_none}

-- ---- calls of roots

-- a stack that begins with a root has nothing
bottom_covers : (g : Setting) (tid : List ℕ) (root : ℕ) (h : Hold) (s : Side) → SideCovers g h s
    → Covers h (apart g h tid s.stacks + frames_have g h (bottom root)) s.tables
bottom_covers g tid root h s fine =
    let thread = thread_covers g tid h s fine in let one = base_more g h root [] in let nothing = frames_none g h in omega arith

begins_call_covers : (g : Setting) (root : ℕ) (r : Ref) (function : ℕ) (args : List Plain) (h : Hold) (s : Side)
    → SideCovers g h s → SideCovers g h (begins_call g root r function args s)
begins_call_covers g root null function args h s fine = fine
begins_call_covers g root (own oid face) function args h s fine =
    unwound_covers g (root_tid g root) (calls_own g oid face function args (bottom root) (with_root root waits_call s.tables)) h s
    (calls_own_covers g oid face function args (bottom root) h (apart g h (root_tid g root) s.stacks) (with_root root waits_call s.tables)
    (bottom_covers g (root_tid g root) root h s fine))
begins_call_covers g root (peer oid face) function args h s fine =
    unwound_covers g (root_tid g root) (calls_peer g (root_tid g root) oid face function args (bottom root) (with_root root waits_call s.tables)) h s
    (calls_peer_covers g (root_tid g root) oid face function args (bottom root) h (apart g h (root_tid g root) s.stacks) (with_root root waits_call s.tables)
    (bottom_covers g (root_tid g root) root h s fine))

calls_unless_covers : (g : Setting) (root : ℕ) (oid face : List ℕ) (function : ℕ) (args : List Plain) (why : Option RuntimeCause) (h : Hold) (s : Side)
    → SideCovers g h s → SideCovers g h (calls_unless g root oid face function args why s)
calls_unless_covers g root oid face function args (Some why) h s fine = fine
calls_unless_covers g root oid face function args None h s fine = begins_call_covers g root (ref_of g oid face) function args h s fine

root_calls_covers : (g : Setting) (root : ℕ) (oid face : List ℕ) (function : ℕ) (args : List Plain) (h : Hold) (s : Side)
    → SideCovers g h s → SideCovers g h (root_calls g root oid face function args s)
unfolding root_calls
root_calls_covers g root oid face function args h s fine =
    calls_unless_covers g root oid face function args (answered_before (root_tid g root) oid face function args) h s fine

-- ---- queries of roots

at_once_covers : (g : Setting) (root : ℕ) (wanted : List ℕ) (x : Plain) (h : Hold) (n : ℕ) (t : Tables) → Covers h n t → Covers h n (gets_at_once g root wanted x t)
at_once_covers g root wanted x h n t fine =
    let gained = gains_all_covers (holder.Root root) (refs x) h n t fine in
    let parts = returned_owes (ref_owes h (holder.Root root)) x [] in
    let nothing = values_none (ref_owes h (holder.Root root)) in
    root_gets_covers g root (waits_query wanted) (returned x []) h n (gains_all (holder.Root root) (refs x) t) (omega arith)

asks_peer_covers : (g : Setting) (root : ℕ) (oid face wanted : List ℕ) (h : Hold) (s : Side) → SideCovers g h s → SideCovers g h (asks_peer g root oid face wanted s)
asks_peer_covers g root oid face wanted h s fine =
    unwound_covers g (root_tid g root) (calls_peer g (root_tid g root) oid face 0 (query_args wanted) (bottom root) (with_root root (waits_query wanted) s.tables)) h s
    (calls_peer_covers g (root_tid g root) oid face 0 (query_args wanted) (bottom root) h (apart g h (root_tid g root) s.stacks) (with_root root (waits_query wanted) s.tables)
    (bottom_covers g (root_tid g root) root h s fine))

begins_query_covers : (g : Setting) (root : ℕ) (r : Ref) (wanted : List ℕ) (h : Hold) (s : Side) → SideCovers g h s → SideCovers g h (begins_query g root r wanted s)
begins_query_covers g root null wanted h s fine = fine
begins_query_covers g root (own oid face) wanted h s fine =
    at_once_covers g root wanted (object_answer g oid (kd.interface wanted) s.tables.objects) h (stacks_have g h s.stacks) s.tables fine
begins_query_covers g root (peer oid face) wanted h s fine = asks_peer_covers g root oid face wanted h s fine

queries_unless_covers : (g : Setting) (root : ℕ) (oid face wanted : List ℕ) (why : Option RuntimeCause) (h : Hold) (s : Side)
    → SideCovers g h s → SideCovers g h (queries_unless g root oid face wanted why s)
queries_unless_covers g root oid face wanted (Some why) h s fine = fine
queries_unless_covers g root oid face wanted None h s fine = begins_query_covers g root (ref_of g oid face) wanted h s fine

root_queries_covers : (g : Setting) (root : ℕ) (oid face wanted : List ℕ) (h : Hold) (s : Side) → SideCovers g h s → SideCovers g h (root_queries g root oid face wanted s)
unfolding root_queries
root_queries_covers g root oid face wanted h s fine =
    queries_unless_covers g root oid face wanted (answered_before (root_tid g root) oid face 0 (query_args wanted)) h s fine

asks_unless_covers : (g : Setting) (root : ℕ) (name wanted : List ℕ) (why : Option RuntimeCause) (h : Hold) (s : Side)
    → SideCovers g h s → SideCovers g h (asks_unless g root name wanted why s)
asks_unless_covers g root name wanted (Some why) h s fine = fine
asks_unless_covers g root name wanted None h s fine = asks_peer_covers g root name x_interface_name wanted h s fine

root_asks_covers : (g : Setting) (root : ℕ) (name wanted : List ℕ) (h : Hold) (s : Side) → SideCovers g h s → SideCovers g h (root_asks g root name wanted s)
unfolding root_asks
root_asks_covers g root name wanted h s fine =
    asks_unless_covers g root name wanted (answered_before (root_tid g root) name x_interface_name 0 (query_args wanted)) h s fine

-- ---- objects and references of roots

root_makes_covers : (g : Setting) (root behaviour : ℕ) (wanted : List ℕ) (h : Hold) (s : Side) → SideCovers g h s → SideCovers g h (root_makes g root behaviour wanted s)
unfolding root_makes
root_makes_covers g root behaviour wanted h s fine =
    let made = makes_covers behaviour (defaults_of g behaviour) h (stacks_have g h s.stacks) s.tables fine in
    let held = gains_covers (holder.Root root) (own (own_oid g (suc s.tables.objects_made)) wanted) h (stacks_have g h s.stacks) (makes_default g behaviour s.tables) made in
    omega arith

-- frames have nothing that a root has
frame_apart : (g : Setting) (n : ℕ) (h : Hold) → h.holder ≡ holder.Root n → (f : Frame) → frame_has g h f ≡ 0
frame_apart g n h is (base root) = base_has g h root
frame_apart g n h is (outgoing o) = outgoing_has g h o
frame_apart g n h is (body b) =
    method_has g h b ∙ all_apart h (holder.Frame b.number) (let_go_at_end (own_oid g b.object) b) (ap (λ who. eq_by_cmp holder_cmp who (holder.Frame b.number)) is)

stacks_apart : (g : Setting) (n : ℕ) (h : Hold) → h.holder ≡ holder.Root n → (ss : List Stack) → stacks_have g h ss ≡ 0
stacks_apart g n h is ss = total_none (λ s. frames_have g h s.frames) (λ s. total_none (frame_has g h) (frame_apart g n h is) s.frames) ss

-- what a root lets go is no frame's and no object's
root_lets_go : (g : Setting) (b : Bool) (root : ℕ) (r : Ref) (who : Holder) (h : Hold) (s : Side) → h.holder ≡ who → SideCovers g h s
    → Covers h (stacks_have g h s.stacks) (if b then lets_go g (holder.Root root) r s.tables else loses (holder.Root root) r s.tables)
root_lets_go g b root r (holder.Root n) h s is fine =
    let frames = stacks_apart g n h is s.stacks in
    let objects = root_objects n h is (if b then lets_go g (holder.Root root) r s.tables else loses (holder.Root root) r s.tables).objects in omega arith
root_lets_go g true root r (holder.Frame n) h s is fine =
    let other = apart_owes h (holder.Root root) r (ap (λ who. eq_by_cmp holder_cmp who (holder.Root root)) is) in
    lets_go_covers g (holder.Root root) r h (stacks_have g h s.stacks) s.tables (omega arith)
root_lets_go g true root r (holder.Object n) h s is fine =
    let other = apart_owes h (holder.Root root) r (ap (λ who. eq_by_cmp holder_cmp who (holder.Root root)) is) in
    lets_go_covers g (holder.Root root) r h (stacks_have g h s.stacks) s.tables (omega arith)
root_lets_go g false root r (holder.Frame n) h s is fine =
    let other = apart_owes h (holder.Root root) r (ap (λ who. eq_by_cmp holder_cmp who (holder.Root root)) is) in
    loses_covers (holder.Root root) r h (stacks_have g h s.stacks) s.tables (omega arith)
root_lets_go g false root r (holder.Object n) h s is fine =
    let other = apart_owes h (holder.Root root) r (ap (λ who. eq_by_cmp holder_cmp who (holder.Root root)) is) in
    loses_covers (holder.Root root) r h (stacks_have g h s.stacks) s.tables (omega arith)

dropped_by : (g : Setting) (b : Bool) (root : ℕ) (r : Ref) (h : Hold) (s : Side)
    → Covers h (stacks_have g h s.stacks) (if b then lets_go g (holder.Root root) r s.tables else loses (holder.Root root) r s.tables)
    → SideCovers g h (record s { tables = (if b then lets_go g (holder.Root root) r else loses (holder.Root root) r) s.tables })
dropped_by g true root r h s fine = fine
dropped_by g false root r h s fine = fine

root_drops_covers : (g : Setting) (root : ℕ) (oid face : List ℕ) (h : Hold) (s : Side) → SideCovers g h s → SideCovers g h (root_drops g root oid face s)
unfolding root_drops
root_drops_covers g root oid face h s fine =
    dropped_by g (stands s) root (ref_of g oid face) h s (root_lets_go g (stands s) root (ref_of g oid face) h.holder h s refl fine)

root_takes_covers : (g : Setting) (root : ℕ) (h : Hold) (s : Side) → SideCovers g h s → SideCovers g h (root_takes root s)
unfolding root_takes
root_takes_covers g root h s fine = fine

-- ---- statements, and what goes

effect_covers : (g : Setting) (tid : List ℕ) (p : Picked) (e : Effect) (h : Hold) (s : Side)
    → Covers h (apart g h tid s.stacks + frames_have g h (body p.method ∷ p.below)) s.tables → SideCovers g h s → SideCovers g h (applies_effect g tid p e s)
effect_covers g tid p disposes h s thread fine = ends_by_covers g cause.Disposed h s fine
effect_covers g tid p e h s thread fine =
    unwound_covers g tid (applies g tid p.method p.below e s.tables) h s (applies_covers g tid p.method p.below e h (apart g h tid s.stacks) s.tables thread)

picked_covers : (g : Setting) (tid : List ℕ) (fs : List Frame) (h : Hold) (s : Side) → frames_of tid s.stacks ≡ fs → SideCovers g h s
    → SideCovers g h (applies_picked g tid (picked_in fs) s)
picked_covers g tid (body b ∷ fs) h s is fine =
    let thread = thread_covers g tid h s fine in
    let same : frames_have g h (frames_of tid s.stacks) ≡ frames_have g h (body b ∷ fs) = ap (frames_have g h) is in
    effect_covers g tid (record { method = b; below = fs }) (effect_at g tid b fs s.tables) h s (omega arith) fine
picked_covers g tid fs h s is fine = fine

applied_covers : (g : Setting) (tid : List ℕ) (h : Hold) (s : Side) → SideCovers g h s → SideCovers g h (applies_picked g tid (picked tid s) s)
unfolding picked
applied_covers g tid h s fine = picked_covers g tid (frames_of tid s.stacks) h s refl fine

reaped_covers : (g : Setting) (o : Option Object) (h : Hold) (s : Side) → lowest g s.tables ≡ o → SideCovers g h s → SideCovers g h (reaps_some g o s)
unfolding reaps
reaped_covers g None h s found fine = fine
reaped_covers g (Some o) h s found fine = reaps_covers g (stands s) o h (stacks_have g h s.stacks) s.tables found fine

drains_covers : (g : Setting) (n : ℕ) (h : Hold) (s : Side) → SideCovers g h s → SideCovers g h (drains g n s)
unfolding drains
drains_covers g n h s fine = fine

-- ---- the step

pub does_covers : (g : Setting) (e : Entry) (h : Hold) (s : Side) → SideCovers g h s → SideCovers g h (does g e s).side
unfolding does
does_covers g (fed b) h s fine = feeds_covers g b h s fine
does_covers g ended h s fine = ends_by_covers g cause.Ended h s fine
does_covers g failed h s fine = ends_by_covers g cause.Failed h s fine
does_covers g (asked root name wanted) h s fine = root_asks_covers g root name wanted h s fine
does_covers g (called root oid face function args) h s fine = root_calls_covers g root oid face function args h s fine
does_covers g (queried root oid face wanted) h s fine = root_queries_covers g root oid face wanted h s fine
does_covers g (made root behaviour wanted) h s fine = root_makes_covers g root behaviour wanted h s fine
does_covers g (dropped root oid face) h s fine = root_drops_covers g root oid face h s fine
does_covers g (applied tid) h s fine = applied_covers g tid h s fine
does_covers g (took root) h s fine = root_takes_covers g root h s fine
does_covers g (reaped object) h s fine = reaped_covers g (lowest g s.tables) h s refl fine
does_covers g (drained b) h s fine = drains_covers g (length b) h s fine
does_covers g disposed h s fine = ends_by_covers g cause.Disposed h s fine
does_covers g full h s fine = ends_by_covers g cause.Full h s fine
does_covers g no_memory h s fine = runs_out_covers g s.cause h s fine

counted_by : (g : Setting) (b : Bool) (h : Hold) (s : Side) → SideCovers g h s → SideCovers g h (if b then record s { entries = suc s.entries } else s)
counted_by g true h s fine = fine
counted_by g false h s fine = fine

pub opening_covers : (g : Setting) (h : Hold) → SideCovers g h (opening g)
unfolding opening
opening_covers g h =
    let none = stacks_none g h in
    let nothing = objects_none h in
    makes_all_covers g (first_objects g.plan) h (stacks_have g h []) (no_objects g.plan) (omega arith)

pub kept : (g : Setting) (h : Hold) → IsKept g (λ x. SideCovers g h x.side)
kept g h x e fine may_it = counted_by g (counts e) h (does g e x.side).side (does_covers g e h x.side fine)

-- ---- the law

pub all_covered : (g : Setting) (es : List Entry) (x : Told) → Leads g es x → AreCovered g x.side
unfolding frame_has objects_have times
all_covered g es x leads h = along_replay g (λ y. SideCovers g h y.side) (opening_covers g h) (kept g h) es x leads
