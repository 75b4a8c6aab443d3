-- What roots do keeps what holds of threads and roots: a root that begins a call waits on a stack of its own, and one that has an outcome has none.
use Rattle.std.proofs.Common.{◌≡◌, refl, sym, ap, subst, ◌∙◌, ℕ, zero, suc, Bool, true, false, List, [], length, replicate, unwrap_or, slice_get, Option, None, Some, if◌then◌else◌}
use Rattle.std.proofs.lemmas.Bool.{true≢false}
use Rattle.std.proofs.lemmas.List.{length-replicate}
use Rattle.message_model.specs.Messages.{Answer, returned}
use Rattle.uno_model.specs.BuiltIn.{x_interface_name}
use Rattle.uno_model.specs.Kinds as kd
use Rattle.uno_model.specs.Values.{Ref, null, own, peer, Plain, refs}
use Rattle.table_model.specs.declared.holder.Holder.TheVariants as holder
use Rattle.plan_model.specs.Frames.{Frame, frames_of}
use Rattle.plan_model.specs.Leaving.{caused}
use Rattle.plan_model.specs.Plans.{first_objects}
use Rattle.plan_model.specs.declared.runtime_cause.RuntimeCause.{RuntimeCause}
use Rattle.bridge_model.specs.Calls.{query_args}
use Rattle.bridge_model.specs.Going.{reaps}
use Rattle.bridge_model.specs.Objects.{object_answer, makes_default, without_object}
use Rattle.bridge_model.specs.References.{gains_all, lets_go, loses, lets_go_all, loses_all, refs_of_values}
use Rattle.bridge_model.specs.Roots as r
use Rattle.bridge_model.specs.Roots.{answered_before, is_answered, begins_call, calls_unless, root_calls, gets_at_once, asks_peer, begins_query, queries_unless, root_queries, asks_unless, root_asks, root_makes, root_drops, root_takes, is_idle, outcome_in}
use Rattle.bridge_model.specs.Settings.{Setting, own_oid, root_tid, ref_of}
use Rattle.bridge_model.specs.Sides.{Object, RootState, idle, waits_call, waits_query, answered, answer, Tables, Side, stands, state_of, states_with, with_root}
use Rattle.bridge_model.specs.Stacks.{puts_frames}
use Rattle.bridge_model.specs.Steps.{no_objects, opening, reaps_some, is_outcome}
use Rattle.bridge_laws.specs.OfPlan.{IsRoot}
use Rattle.bridge_laws.specs.Rooted.{waits}
use Rattle.bridge_laws.proofs.EffectStackLaws.{Stands, own_stands, peer_stands}
use Rattle.bridge_laws.proofs.FrameLaws.{root_answered}
use Rattle.bridge_laws.specs.Grounded.{is_stack, AreApart, nothing, Grounded, HasRoots}
use Rattle.bridge_laws.proofs.RootSideLaws.{roots_stay}
use Rattle.bridge_laws.proofs.RootStateLaws.{Stay, stay_if, stay_gains, stay_gains_all, stay_loses, stay_loses_all, stay_lets_go, stay_lets_go_all, stay_makes_default, stay_makes_all}
use Rattle.bridge_laws.proofs.ThreadLaws.{grounded_begins, grounded_quiet}

-- ---- states

idle_quiet : (x : RootState) → is_idle x ≡ true → waits x ≡ false
idle_quiet idle is = refl
idle_quiet waits_call is = absurd (true≢false (sym is))
idle_quiet (waits_query wanted) is = absurd (true≢false (sym is))
idle_quiet (answered o) is = absurd (true≢false (sym is))

outcome_quiet : (x : RootState) → is_outcome (outcome_in x) ≡ true → waits x ≡ false
outcome_quiet idle is = absurd (true≢false (sym is))
outcome_quiet waits_call is = absurd (true≢false (sym is))
outcome_quiet (waits_query wanted) is = absurd (true≢false (sym is))
outcome_quiet (answered o) is = refl

-- ---- calls

-- a call stands on the root that begins it
root_begins : (g : Setting) (root : ℕ) (x : RootState) (states now : List RootState) (s : Side) (gs : List Frame) → IsRoot g root → waits x ≡ true
    → states ≡ states_with root x s.tables.roots → Stands (r.bottom root) states gs now → HasRoots g s → Grounded g now (puts_frames (root_tid g root) gs s.stacks)
root_begins g root x states now s gs is waiting changed on all =
    subst
    (λ xs. Grounded g xs (puts_frames (root_tid g root) gs s.stacks))
    (sym (on.stay ∙ changed))
    (grounded_begins g root x s.tables.roots s.stacks gs is.0 is.1 waiting on.live on.same all)

bottom_stack : (root : ℕ) → is_stack (r.bottom root) ≡ true
unfolding is_stack
bottom_stack root = refl

answered_rooted : (g : Setting) (root : ℕ) (a : Answer) (s : Side) → is_idle (state_of root s.tables.roots) ≡ true → HasRoots g s → HasRoots g (is_answered root a s)
answered_rooted g root a s free all = grounded_quiet g root (answered (answer a)) s.tables.roots s.stacks (idle_quiet (state_of root s.tables.roots) free) refl all

call_rooted : (g : Setting) (root : ℕ) (x : Ref) (function : ℕ) (args : List Plain) (s : Side) → IsRoot g root → HasRoots g s → HasRoots g (begins_call g root x function args s)
call_rooted g root null function args s is all = all
call_rooted g root (own oid face) function args s is all =
    root_begins g root waits_call _ _ s _ is refl refl
    (own_stands g oid face function args (r.bottom root) (with_root root waits_call s.tables) refl (bottom_stack root))
    all
call_rooted g root (peer oid face) function args s is all =
    root_begins g root waits_call _ _ s _ is refl refl
    (peer_stands g (root_tid g root) oid face function args (r.bottom root) (with_root root waits_call s.tables) refl (bottom_stack root))
    all

unless_rooted : (g : Setting) (root : ℕ) (oid face : List ℕ) (function : ℕ) (args : List Plain) (why : Option RuntimeCause) (s : Side) → IsRoot g root
    → is_idle (state_of root s.tables.roots) ≡ true → HasRoots g s → HasRoots g (calls_unless g root oid face function args why s)
unless_rooted g root oid face function args (Some why) s is free all = answered_rooted g root (caused why) s free all
unless_rooted g root oid face function args None s is free all = call_rooted g root (ref_of g oid face) function args s is all

pub calls_rooted : (g : Setting) (root : ℕ) (oid face : List ℕ) (function : ℕ) (args : List Plain) (s : Side) → IsRoot g root → is_idle (state_of root s.tables.roots) ≡ true
    → HasRoots g s → HasRoots g (root_calls g root oid face function args s)
unfolding root_calls
calls_rooted g root oid face function args s is free all =
    unless_rooted g root oid face function args (answered_before (root_tid g root) oid face function args) s is free all

-- ---- queries

-- an own object answers at once
at_once_rooted : (g : Setting) (root : ℕ) (wanted : List ℕ) (x : Plain) (s : Side) → is_idle (state_of root s.tables.roots) ≡ true → HasRoots g s
    → Grounded g (gets_at_once g root wanted x s.tables).roots s.stacks
at_once_rooted g root wanted x s free all =
    let held = gains_all (holder.Root root) (refs x) s.tables in
    let got = root_answered g root (waits_query wanted) (returned x []) held in
    let same = stay_gains_all (holder.Root root) (refs x) s.tables in
    roots_stay
    g
    (states_with root (answered got.0) s.tables.roots)
    (gets_at_once g root wanted x s.tables).roots
    s.stacks
    (got.1 ∙ ap (states_with root (answered got.0)) same)
    (grounded_quiet g root (answered got.0) s.tables.roots s.stacks (idle_quiet (state_of root s.tables.roots) free) refl all)

asks_rooted : (g : Setting) (root : ℕ) (oid face wanted : List ℕ) (s : Side) → IsRoot g root → HasRoots g s → HasRoots g (asks_peer g root oid face wanted s)
asks_rooted g root oid face wanted s is all =
    root_begins g root (waits_query wanted) _ _ s _ is refl refl
    (peer_stands g (root_tid g root) oid face 0 (query_args wanted) (r.bottom root) (with_root root (waits_query wanted) s.tables) refl (bottom_stack root))
    all

query_rooted : (g : Setting) (root : ℕ) (x : Ref) (wanted : List ℕ) (s : Side) → IsRoot g root → is_idle (state_of root s.tables.roots) ≡ true
    → HasRoots g s → HasRoots g (begins_query g root x wanted s)
query_rooted g root null wanted s is free all = all
query_rooted g root (own oid face) wanted s is free all = at_once_rooted g root wanted (object_answer g oid (kd.interface wanted) s.tables.objects) s free all
query_rooted g root (peer oid face) wanted s is free all = asks_rooted g root oid face wanted s is all

unless_queried : (g : Setting) (root : ℕ) (oid face wanted : List ℕ) (why : Option RuntimeCause) (s : Side) → IsRoot g root → is_idle (state_of root s.tables.roots) ≡ true
    → HasRoots g s → HasRoots g (queries_unless g root oid face wanted why s)
unless_queried g root oid face wanted (Some why) s is free all = answered_rooted g root (caused why) s free all
unless_queried g root oid face wanted None s is free all = query_rooted g root (ref_of g oid face) wanted s is free all

pub queries_rooted : (g : Setting) (root : ℕ) (oid face wanted : List ℕ) (s : Side) → IsRoot g root → is_idle (state_of root s.tables.roots) ≡ true
    → HasRoots g s → HasRoots g (root_queries g root oid face wanted s)
unfolding root_queries
queries_rooted g root oid face wanted s is free all =
    unless_queried g root oid face wanted (answered_before (root_tid g root) oid face 0 (query_args wanted)) s is free all

unless_asked : (g : Setting) (root : ℕ) (name wanted : List ℕ) (why : Option RuntimeCause) (s : Side) → IsRoot g root → is_idle (state_of root s.tables.roots) ≡ true
    → HasRoots g s → HasRoots g (asks_unless g root name wanted why s)
unless_asked g root name wanted (Some why) s is free all = answered_rooted g root (caused why) s free all
unless_asked g root name wanted None s is free all = asks_rooted g root name x_interface_name wanted s is all

pub root_asks_rooted : (g : Setting) (root : ℕ) (name wanted : List ℕ) (s : Side) → IsRoot g root → is_idle (state_of root s.tables.roots) ≡ true
    → HasRoots g s → HasRoots g (root_asks g root name wanted s)
unfolding root_asks
root_asks_rooted g root name wanted s is free all =
    unless_asked g root name wanted (answered_before (root_tid g root) name x_interface_name 0 (query_args wanted)) s is free all

-- ---- objects, references and outcomes

pub makes_rooted : (g : Setting) (root behaviour : ℕ) (wanted : List ℕ) (s : Side) → HasRoots g s → HasRoots g (root_makes g root behaviour wanted s)
unfolding root_makes
makes_rooted g root behaviour wanted s all =
    roots_stay g s.tables.roots _ s.stacks
    (stay_gains (holder.Root root) (own (own_oid g (suc s.tables.objects_made)) wanted) (makes_default g behaviour s.tables) ∙ stay_makes_default g behaviour s.tables)
    all

either : (b : Bool) (t : Tables) (f h : Tables → Tables) → Stay t (f t) → Stay t (h t) → Stay t ((if b then f else h) t)
either true t f h p q = p
either false t f h p q = q

pub drops_rooted : (g : Setting) (root : ℕ) (oid face : List ℕ) (s : Side) → HasRoots g s → HasRoots g (root_drops g root oid face s)
unfolding root_drops
drops_rooted g root oid face s all =
    let x = ref_of g oid face in
    roots_stay g s.tables.roots _ s.stacks
    (either (stands s) s.tables (lets_go g (holder.Root root) x) (loses (holder.Root root) x) (stay_lets_go g (holder.Root root) x s.tables) (stay_loses (holder.Root root) x s.tables))
    all

pub takes_rooted : (g : Setting) (root : ℕ) (s : Side) → is_outcome (outcome_in (state_of root s.tables.roots)) ≡ true → HasRoots g s → HasRoots g (root_takes root s)
unfolding root_takes
takes_rooted g root s there all = grounded_quiet g root idle s.tables.roots s.stacks (outcome_quiet (state_of root s.tables.roots) there) refl all

pub reaps_rooted : (g : Setting) (o : Option Object) (s : Side) → HasRoots g s → HasRoots g (reaps_some g o s)
unfolding reaps
reaps_rooted g None s all = all
reaps_rooted g (Some o) s all =
    let less = record s.tables { objects = without_object o.number s.tables.objects } in
    let rs = refs_of_values o.fields in
    roots_stay g s.tables.roots _ s.stacks
    (stay_if (stands s) s.tables (lets_go_all g (holder.Object o.number) rs less) (loses_all (holder.Object o.number) rs less) (stay_lets_go_all g (holder.Object o.number) rs less) (stay_loses_all (holder.Object o.number) rs less))
    all

-- ---- the beginning

idle_place : (n k : ℕ) → unwrap_or (slice_get (replicate n idle) k) idle ≡ idle
idle_place zero k = refl
idle_place (suc n) zero = refl
idle_place (suc n) (suc k) = idle_place n k

idle_at : (n root : ℕ) → waits (state_of root (replicate n idle)) ≡ false
unfolding state_of
idle_at n zero = refl
idle_at n (suc k) = ap waits (idle_place n k)

pub opening_rooted : (g : Setting) → HasRoots g (opening g)
unfolding opening frames_of AreApart
opening_rooted g =
    roots_stay g (no_objects g.plan).roots _ []
    (stay_makes_all g (first_objects g.plan) (no_objects g.plan))
    (record {
      counted = length-replicate (length g.plan.threads) idle;
      apart = tt;
      each = λ tid. nothing refl (λ root least most is. idle_at (length g.plan.threads) root);
    })
