-- What leaves objects as they are: messages, what is held and let go, answers, calls and queries, of methods and of roots.
use Rattle.std.proofs.Common.{◌≡◌, refl, ◌∙◌, ℕ, Bool, true, false, List, [], ◌∷◌, ◌++◌, Option, None, Some, if◌then◌else◌}
use Rattle.message_model.specs.Messages.{Answer, returned, raised, Message, reply}
use Rattle.uno_model.specs.Kinds as kd
use Rattle.uno_model.specs.Values.{Ref, null, own, peer, Plain, refs}
use Rattle.uno_model.specs.Values as v
use Rattle.table_model.specs.declared.holder.Holder.{Holder}
use Rattle.table_model.specs.declared.holder.Holder.TheVariants as holder
use Rattle.plan_model.specs.Frames.{Body, Frame, base, body, outgoing}
use Rattle.plan_model.specs.Holdings.{is_taken, let_go_at_end, reference_of}
use Rattle.plan_model.specs.Leaving.{leaving_frame}
use Rattle.plan_model.specs.declared.runtime_cause.RuntimeCause.{RuntimeCause}
use Rattle.bridge_model.specs.Applying.{applies_call, answers_query, applies_query}
use Rattle.bridge_model.specs.Calls.{Unwound, first_body, calls_own, serves, calls_peer, query_args}
use Rattle.bridge_model.specs.Handing.{taken_by, goes_on_with, statement_at, root_gets, lets_go_frame, answers_peer, holder_of, gains_with, gains_below, takes_with, takes_below, hands_over, hands, hands_down, ends_frame, hands_from_peer}
use Rattle.bridge_model.specs.Objects.{object_answer}
use Rattle.bridge_model.specs.Receiving.{asked_kind, answer_to, answers_at_once}
use Rattle.bridge_model.specs.References.{says, releases, gains, gains_all, is_held, takes, takes_all, loses, loses_all, stays, gives_back, holds_ref, lets_go, lets_go_all, refs_of_values, refs_of_answer}
use Rattle.bridge_model.specs.Roots.{bottom, answered_before, begins_call, calls_unless, root_calls, gets_at_once, begins_query, queries_unless, root_queries, asks_unless, root_asks, root_drops}
use Rattle.bridge_model.specs.Settings.{Setting, own_oid, root_tid, ref_of}
use Rattle.bridge_model.specs.Sides.{RootState, idle, waits_call, waits_query, answered, answer, Tables, Side, stands, state_of, with_root}

-- the same objects live, and as many were made
pub record Still (t u : Tables) : Type 0 where
  pub living : u.objects ≡ t.objects
  pub made : u.objects_made ≡ t.objects_made

pub still : (t : Tables) → Still t t
still t = record { living = refl; made = refl }

pub still_on : {t u v : Tables} → Still t u → Still u v → Still t v
still_on a b = record { living = b.living ∙ a.living; made = b.made ∙ a.made }

still_if : (b : Bool) (t u v : Tables) → Still t u → Still t v → Still t (if b then u else v)
still_if true t u v p q = p
still_if false t u v p q = q

unwound_if : (b : Bool) (t : Tables) (u v : Unwound) → Still t u.tables → Still t v.tables → Still t (if b then u else v).tables
unwound_if true t u v p q = p
unwound_if false t u v p q = q

-- ---- messages and holdings

still_says : (g : Setting) (m : Message) (t : Tables) → Still t (says g m t)
unfolding says
still_says g m t = record { living = refl; made = refl }

still_gains : (h : Holder) (r : Ref) (t : Tables) → Still t (gains h r t)
still_gains h null t = still t
still_gains h (own oid face) t = record { living = refl; made = refl }
still_gains h (peer oid face) t = record { living = refl; made = refl }

pub still_gains_all : (h : Holder) (rs : List Ref) (t : Tables) → Still t (gains_all h rs t)
unfolding gains_all
still_gains_all h [] t = still t
still_gains_all h (r ∷ rs) t = still_on (still_gains h r t) (still_gains_all h rs (gains h r t))

still_takes : (g : Setting) (h : Holder) (r : Ref) (t : Tables) → Still t (takes g h r t)
still_takes g h null t = still t
still_takes g h (own oid face) t = record { living = refl; made = refl }
still_takes g h (peer oid face) t =
    let first = still_if (is_held oid face t) t (releases g oid face t) t (still_says g _ t) (still t) in record { living = first.living; made = first.made }

still_takes_all : (g : Setting) (h : Holder) (rs : List Ref) (t : Tables) → Still t (takes_all g h rs t)
unfolding takes_all
still_takes_all g h [] t = still t
still_takes_all g h (r ∷ rs) t = still_on (still_takes g h r t) (still_takes_all g h rs (takes g h r t))

still_loses : (h : Holder) (r : Ref) (t : Tables) → Still t (loses h r t)
still_loses h null t = still t
still_loses h (own oid face) t = record { living = refl; made = refl }
still_loses h (peer oid face) t = record { living = refl; made = refl }

pub still_loses_all : (h : Holder) (rs : List Ref) (t : Tables) → Still t (loses_all h rs t)
unfolding loses_all
still_loses_all h [] t = still t
still_loses_all h (r ∷ rs) t = still_on (still_loses h r t) (still_loses_all h rs (loses h r t))

still_gives_back : (g : Setting) (r : Ref) (t : Tables) → Still t (gives_back g r t)
still_gives_back g null t = still t
still_gives_back g (own oid face) t = still t
still_gives_back g (peer oid face) t = still_if (stays g oid face t) t t (releases g oid face t) (still t) (still_says g _ t)

still_lets_go : (g : Setting) (h : Holder) (r : Ref) (t : Tables) → Still t (lets_go g h r t)
still_lets_go g h r t =
    still_if (holds_ref h r t) t (gives_back g r (loses h r t)) t (still_on (still_loses h r t) (still_gives_back g r (loses h r t))) (still t)

pub still_lets_go_all : (g : Setting) (h : Holder) (rs : List Ref) (t : Tables) → Still t (lets_go_all g h rs t)
unfolding lets_go_all
still_lets_go_all g h [] t = still t
still_lets_go_all g h (r ∷ rs) t = still_on (still_lets_go g h r t) (still_lets_go_all g h rs (lets_go g h r t))

-- ---- frames that begin

still_calls_own : (g : Setting) (oid face : List ℕ) (function : ℕ) (args : List Plain) (fs : List Frame) (t : Tables) → Still t (calls_own g oid face function args fs t).tables
unfolding calls_own
still_calls_own g oid face function args fs t =
    let b = first_body g false oid face function args t in let held = still_gains_all (holder.Frame b.number) (refs_of_values args) t in record { living = held.living; made = held.made }

pub still_serves : (g : Setting) (oid face : List ℕ) (function : ℕ) (args : List Plain) (fs : List Frame) (t : Tables) → Still t (serves g oid face function args fs t).tables
unfolding serves
still_serves g oid face function args fs t =
    let b = first_body g true oid face function args t in let held = still_takes_all g (holder.Frame b.number) (refs_of_values args) t in record { living = held.living; made = held.made }

still_calls_peer : (g : Setting) (tid oid face : List ℕ) (function : ℕ) (args : List Plain) (fs : List Frame) (t : Tables) → Still t (calls_peer g tid oid face function args fs t).tables
unfolding calls_peer says
still_calls_peer g tid oid face function args fs t = record { living = refl; made = refl }

-- ---- answers

still_root_gets : (g : Setting) (root : ℕ) (s : RootState) (a : Answer) (t : Tables) → Still t (root_gets g root s a t)
unfolding root_gets
still_root_gets g root (waits_query wanted) (returned x outs) t =
    let gone = still_lets_go_all g (holder.Root root) (if is_taken g.registry wanted x then [] else refs x)
    (with_root root (answered (answer (returned (v.ref (reference_of g.registry wanted x)) []))) t) in record { living = gone.living; made = gone.made }
still_root_gets g root (waits_query wanted) (raised k x) t = record { living = refl; made = refl }
still_root_gets g root idle a t = record { living = refl; made = refl }
still_root_gets g root waits_call a t = record { living = refl; made = refl }
still_root_gets g root (answered o) a t = record { living = refl; made = refl }

still_lets_go_frame : (g : Setting) (b : Body) (extra : List Ref) (t : Tables) → Still t (lets_go_frame g b extra t)
still_lets_go_frame g b extra t = still_lets_go_all g (holder.Frame b.number) (extra ++ let_go_at_end (own_oid g b.object) b) t

still_answers_peer : (g : Setting) (tid : List ℕ) (b : Body) (extra : List Ref) (a : Answer) (t : Tables) → Still t (answers_peer g tid b extra a t)
still_answers_peer g tid b extra a t = still_on (still_says g (reply tid b.face b.function a) t) (still_lets_go_frame g b extra _)

still_gains_with : (h : Option Holder) (rs : List Ref) (t : Tables) → Still t (gains_with h rs t)
still_gains_with None rs t = still t
still_gains_with (Some h) rs t = still_gains_all h rs t

still_gains_below : (fs : List Frame) (a : Answer) (t : Tables) → Still t (gains_below fs a t)
still_gains_below [] a t = still t
still_gains_below (f ∷ fs) a t = still_gains_with (holder_of f) (refs_of_answer a) t

still_takes_with : (g : Setting) (h : Option Holder) (rs : List Ref) (t : Tables) → Still t (takes_with g h rs t)
still_takes_with g None rs t = still t
still_takes_with g (Some h) rs t = still_takes_all g h rs t

still_takes_below : (g : Setting) (fs : List Frame) (a : Answer) (t : Tables) → Still t (takes_below g fs a t)
still_takes_below g [] a t = still t
still_takes_below g (f ∷ fs) a t = still_takes_with g (holder_of f) (refs_of_answer a) t

still_hands_over : (g : Setting) (b : Body) (extra : List Ref) (a : Answer) (fs : List Frame) (t : Tables) → Still t (hands_over g b extra a fs t)
still_hands_over g b extra a fs t = still_on (still_gains_below fs a t) (still_lets_go_frame g b extra (gains_below fs a t))

still_goes_on_with : (g : Setting) (b : Body) (x : Plain) (outs : List Plain) (fs : List Frame) (t : Tables) → Still t (goes_on_with g b x outs fs t).tables
unfolding goes_on_with
still_goes_on_with g b x outs fs t =
    let taken = taken_by g (statement_at g t.objects b) x outs b.variables in still_lets_go_all g (holder.Frame b.number) taken.let_go t

still_hands : (g : Setting) (tid : List ℕ) (a : Answer) (fs : List Frame) (t : Tables) → Still t (hands g tid a fs t).tables
unfolding hands
still_hands g tid a [] t = still t
still_hands g tid a (base root ∷ fs) t = still_root_gets g root (state_of root t.roots) a t
still_hands g tid a (outgoing o ∷ fs) t = still t
still_hands g tid (returned x outs) (body b ∷ fs) t = still_goes_on_with g b x outs fs t
still_hands g tid (raised k x) (body b ∷ fs) t =
    let left = leaving_frame g.registry tid b (raised k x) in
    unwound_if b.from_peer t _ _
    (still_answers_peer g tid b (refs x) left t)
    (still_on (still_hands_over g b (refs x) left fs t) (still_hands g tid left fs (hands_over g b (refs x) left fs t)))

still_hands_down : (g : Setting) (tid : List ℕ) (b : Body) (a : Answer) (fs : List Frame) (t : Tables) → Still t (hands_down g tid b a fs t).tables
still_hands_down g tid b (returned x outs) fs t =
    let below = gains_below fs (returned x outs) t in
    still_on
    (still_gains_below fs (returned x outs) t)
    (still_on (still_hands g tid (returned x outs) fs below) (still_lets_go_frame g b [] (hands g tid (returned x outs) fs below).tables))
still_hands_down g tid b (raised k x) fs t =
    still_on (still_hands_over g b [] (raised k x) fs t) (still_hands g tid (raised k x) fs (hands_over g b [] (raised k x) fs t))

pub still_ends_frame : (g : Setting) (tid : List ℕ) (b : Body) (a : Answer) (fs : List Frame) (t : Tables) → Still t (ends_frame g tid b a fs t).tables
unfolding ends_frame
still_ends_frame g tid b a fs t = unwound_if b.from_peer t _ _ (still_answers_peer g tid b [] a t) (still_hands_down g tid b a fs t)

pub still_hands_from_peer : (g : Setting) (tid : List ℕ) (a : Answer) (fs : List Frame) (t : Tables) → Still t (hands_from_peer g tid a fs t).tables
unfolding hands_from_peer
still_hands_from_peer g tid a fs t = still_on (still_takes_below g fs a t) (still_hands g tid a fs (takes_below g fs a t))

pub still_answers_at_once : (g : Setting) (tid oid face : List ℕ) (args : List Plain) (t : Tables) → Still t (answers_at_once g tid oid face args t)
still_answers_at_once g tid oid face args t = still_says g (reply tid face 0 (returned (answer_to g oid (asked_kind args) t.objects) [])) t

-- ---- calls and queries of methods

pub still_applies_call : (g : Setting) (tid : List ℕ) (r : Ref) (function : ℕ) (args : List Plain) (fs : List Frame) (t : Tables) → Still t (applies_call g tid r function args fs t).tables
still_applies_call g tid null function args fs t = still t
still_applies_call g tid (own oid face) function args fs t = still_calls_own g oid face function args fs t
still_applies_call g tid (peer oid face) function args fs t = still_calls_peer g tid oid face function args fs t

still_answers_query : (g : Setting) (tid : List ℕ) (x : Plain) (fs : List Frame) (t : Tables) → Still t (answers_query g tid x fs t).tables
still_answers_query g tid x fs t = still_on (still_gains_below fs (returned x []) t) (still_hands g tid (returned x []) fs (gains_below fs (returned x []) t))

pub still_applies_query : (g : Setting) (tid : List ℕ) (r : Ref) (wanted : List ℕ) (fs : List Frame) (t : Tables) → Still t (applies_query g tid r wanted fs t).tables
still_applies_query g tid null wanted fs t = still t
still_applies_query g tid (own oid face) wanted fs t = still_answers_query g tid (object_answer g oid (kd.interface wanted) t.objects) fs t
still_applies_query g tid (peer oid face) wanted fs t = still_calls_peer g tid oid face 0 (query_args wanted) fs t

-- ---- roots

still_begins_call : (g : Setting) (root : ℕ) (r : Ref) (function : ℕ) (args : List Plain) (s : Side) → Still s.tables (begins_call g root r function args s).tables
still_begins_call g root null function args s = still s.tables
still_begins_call g root (own oid face) function args s =
    let same = still_calls_own g oid face function args (bottom root) (with_root root waits_call s.tables) in record { living = same.living; made = same.made }
still_begins_call g root (peer oid face) function args s =
    let same = still_calls_peer g (root_tid g root) oid face function args (bottom root) (with_root root waits_call s.tables) in record { living = same.living; made = same.made }

still_calls_unless : (g : Setting) (root : ℕ) (oid face : List ℕ) (function : ℕ) (args : List Plain) (why : Option RuntimeCause) (s : Side)
    → Still s.tables (calls_unless g root oid face function args why s).tables
still_calls_unless g root oid face function args (Some why) s = record { living = refl; made = refl }
still_calls_unless g root oid face function args None s = still_begins_call g root (ref_of g oid face) function args s

pub still_root_calls : (g : Setting) (root : ℕ) (oid face : List ℕ) (function : ℕ) (args : List Plain) (s : Side) → Still s.tables (root_calls g root oid face function args s).tables
unfolding root_calls
still_root_calls g root oid face function args s = still_calls_unless g root oid face function args (answered_before (root_tid g root) oid face function args) s

still_gets_at_once : (g : Setting) (root : ℕ) (wanted : List ℕ) (x : Plain) (t : Tables) → Still t (gets_at_once g root wanted x t)
still_gets_at_once g root wanted x t =
    still_on (still_gains_all (holder.Root root) (refs x) t) (still_root_gets g root (waits_query wanted) (returned x []) (gains_all (holder.Root root) (refs x) t))

still_begins_query : (g : Setting) (root : ℕ) (r : Ref) (wanted : List ℕ) (s : Side) → Still s.tables (begins_query g root r wanted s).tables
still_begins_query g root null wanted s = still s.tables
still_begins_query g root (own oid face) wanted s = still_gets_at_once g root wanted (object_answer g oid (kd.interface wanted) s.tables.objects) s.tables
still_begins_query g root (peer oid face) wanted s =
    let same = still_calls_peer g (root_tid g root) oid face 0 (query_args wanted) (bottom root) (with_root root (waits_query wanted) s.tables) in record { living = same.living; made = same.made }

still_queries_unless : (g : Setting) (root : ℕ) (oid face wanted : List ℕ) (why : Option RuntimeCause) (s : Side) → Still s.tables (queries_unless g root oid face wanted why s).tables
still_queries_unless g root oid face wanted (Some why) s = record { living = refl; made = refl }
still_queries_unless g root oid face wanted None s = still_begins_query g root (ref_of g oid face) wanted s

pub still_root_queries : (g : Setting) (root : ℕ) (oid face wanted : List ℕ) (s : Side) → Still s.tables (root_queries g root oid face wanted s).tables
unfolding root_queries
still_root_queries g root oid face wanted s = still_queries_unless g root oid face wanted (answered_before (root_tid g root) oid face 0 (query_args wanted)) s

still_asks_unless : (g : Setting) (root : ℕ) (name wanted : List ℕ) (why : Option RuntimeCause) (s : Side) → Still s.tables (asks_unless g root name wanted why s).tables
unfolding calls_peer says
still_asks_unless g root name wanted (Some why) s = record { living = refl; made = refl }
still_asks_unless g root name wanted None s = record { living = refl; made = refl }

pub still_root_asks : (g : Setting) (root : ℕ) (name wanted : List ℕ) (s : Side) → Still s.tables (root_asks g root name wanted s).tables
unfolding root_asks
still_root_asks g root name wanted s = still_asks_unless g root name wanted _ s

pub still_root_drops : (g : Setting) (root : ℕ) (oid face : List ℕ) (s : Side) → Still s.tables (root_drops g root oid face s).tables
unfolding root_drops
still_root_drops g root oid face s = by_standing (stands s)
  where
    by_standing : (b : Bool) → Still s.tables ((if b then lets_go g (holder.Root root) (ref_of g oid face) else loses (holder.Root root) (ref_of g oid face)) s.tables)
    by_standing true = still_lets_go g (holder.Root root) (ref_of g oid face) s.tables
    by_standing false = still_loses (holder.Root root) (ref_of g oid face) s.tables
