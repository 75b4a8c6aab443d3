-- What roots do keeps that all that is held lives: they call and let go what they hold.
use Rattle.std.proofs.Common.{◌≡◌, ℕ, suc, ◌+◌, ◌≤◌, Bool, true, false, not, cond, if◌then◌else◌, List, [], ◌∷◌, Option, None, Some, refl, ap, ◌∙◌, arith, ltb-true}
use Rattle.std.proofs.lemmas.Bool.{and_parts}
use Rattle.std.specs.Cmp.{Equal-is}
use Rattle.std.specs.List.{list_all}
use Rattle.std.specs.Ordering.{eq_by_cmp}
use Rattle.message_model.specs.Messages.{returned}
use Rattle.uno_model.specs.BuiltIn.{x_interface_name}
use Rattle.uno_model.specs.Kinds as kd
use Rattle.uno_model.specs.Values.{Ref, null, own, peer, Plain, refs}
use Rattle.table_model.specs.Bags.{how_many, how_often}
use Rattle.table_model.specs.Holdings.{Hold, hold, hold_cmp, Holdings, holds}
use Rattle.table_model.specs.Pair.{pair}
use Rattle.table_model.specs.declared.holder.Holder.TheVariants as holder
use Rattle.table_model.proofs.HoldLaws.{same_hold}
use Rattle.plan_model.specs.declared.runtime_cause.RuntimeCause.{RuntimeCause}
use Rattle.bridge_model.specs.Calls.{calls_own, calls_peer, query_args}
use Rattle.bridge_model.specs.Objects.{object_answer, makes_default}
use Rattle.bridge_model.specs.References.{gains_all, holds_ref, lets_go, loses, refs_of_values}
use Rattle.bridge_model.specs.Roots.{holds_each, holds_pair, answered_before, bottom, begins_call, calls_unless, root_calls, gets_at_once, asks_peer, begins_query, queries_unless, root_queries, asks_unless, root_asks, root_makes, root_drops, root_takes}
use Rattle.bridge_model.specs.Settings.{Setting, own_oid, root_tid, ref_of, is_own, is_told}
use Rattle.bridge_model.specs.Sides.{Tables, Side, stands, waits_call, waits_query, with_root}
use Rattle.bridge_laws.specs.Counting.{total, one_if}
use Rattle.bridge_laws.proofs.IdentityLaws.{own_alive, object_answer_lives}
use Rattle.bridge_laws.proofs.LivingEffectLaws.{default_alive, made_lives, query_args_live}
use Rattle.bridge_laws.proofs.LivingFrameLaws.{frames_untold, base_told, none_told, calls_own_lives, calls_peer_lives, root_gets_alive}
use Rattle.bridge_laws.proofs.LivingSideLaws.{first_count, LivesIn, living_lives}
use Rattle.bridge_laws.proofs.LivingTableLaws.{AliveIn, lives_with, gains_alive, gains_all_alive, lets_go_alive, loses_alive}
use Rattle.bridge_laws.proofs.OccurrenceLaws.{times}
use Rattle.bridge_laws.proofs.StrayLaws.{is_stray, strays, held_strays}

-- ---- what is held

often_step : (h k : Hold) (test : Hold → Bool) (rest : ℕ) (hs : Holdings) (b : Bool) → eq_by_cmp hold_cmp h k ≡ b
    → (1 ≤ how_often hold_cmp h hs → cond (test h) 1 0 ≤ rest) → 1 ≤ cond b 1 0 + how_often hold_cmp h hs → cond (test h) 1 0 ≤ cond (test k) 1 0 + rest
often_step h k test rest hs true is more there =
    let alike : ◌≡◌ {A = ℕ} (cond (test h) 1 0) (cond (test k) 1 0) = ap (λ k. cond (test k) 1 0) (same_hold h k ((Equal-is _).0 is)) in omega arith
often_step h k test rest hs false is more there = let behind = more (omega arith) in omega arith

-- an occurrence that is there passes where it counts
pub often_passes : (h : Hold) (test : Hold → Bool) (hs : Holdings) → 1 ≤ how_often hold_cmp h hs → cond (test h) 1 0 ≤ how_many test hs
often_passes h test [] there = absurd (omega arith)
often_passes h test (k ∷ hs) there = often_step h k test (how_many test hs) hs (eq_by_cmp hold_cmp h k) refl (λ more. often_passes h test hs more) there

pub held_unstray : (g : Setting) (live : List ℕ → Bool) (h : Hold) (hs : Holdings) → 1 ≤ times h hs → held_strays g live hs ≡ 0 → one_if (is_stray g live h.pair.oid) ≡ 0
unfolding times held_strays
held_unstray g live h hs there none = let most = often_passes h (λ k. is_stray g live k.pair.oid) hs there in omega arith

holds_unstray : (g : Setting) (live : List ℕ → Bool) (h : Hold) (hs : Holdings) → holds h hs ≡ true → held_strays g live hs ≡ 0 → one_if (is_stray g live h.pair.oid) ≡ 0
unfolding times
holds_unstray g live h hs is none = held_unstray g live h hs (ltb-true 0 (how_often hold_cmp h hs) is) none

told_own : (g : Setting) (live : List ℕ → Bool) (oid face : List ℕ) (b : Bool) → is_own g oid ≡ b → one_if (is_stray g live oid) ≡ 0
    → strays g live (if b then own oid face else peer oid face) ≡ 0
unfolding strays
told_own g live oid face true given none = rw given (omega arith)
told_own g live oid face false given none = ap one_if given

-- what a root holds, as it is here
held_ref_lives : (g : Setting) (m : ℕ) (live : List ℕ → Bool) (root : ℕ) (oid face : List ℕ) (t : Tables) → AliveIn g m live t → holds_pair root oid face t ≡ true
    → strays g live (ref_of g oid face) ≡ 0
unfolding ref_of
held_ref_lives g m live root oid face t alive held =
    told_own g live oid face (is_own g oid) refl (holds_unstray g live (hold (holder.Root root) (pair oid face)) t.holdings held alive.held)

peer_told : (b : Bool) → not b ≡ true → one_if b ≡ 0
peer_told true is = absurd (cc)
peer_told false is = refl

told_held : (g : Setting) (m : ℕ) (live : List ℕ → Bool) (root : ℕ) (r : Ref) (t : Tables) → AliveIn g m live t → is_told g r ≡ true → holds_ref (holder.Root root) r t ≡ true
    → strays g live r ≡ 0
unfolding is_told strays
told_held g m live root null t alive told held = absurd (cc)
told_held g m live root (own oid face) t alive told held =
    let none = holds_unstray g live (hold (holder.Root root) (pair oid face)) t.holdings held alive.held in rw told (omega arith)
told_held g m live root (peer oid face) t alive told held = peer_told (is_own g oid) told

each_held : (g : Setting) (m : ℕ) (live : List ℕ → Bool) (root : ℕ) (rs : List Ref) (t : Tables) → AliveIn g m live t → list_all (is_told g) rs ≡ true
    → list_all (λ r. holds_ref (holder.Root root) r t) rs ≡ true → total (strays g live) rs ≡ 0
unfolding total
each_held g m live root [] t alive told held = refl
each_held g m live root (r ∷ rs) t alive told held =
    let tells = and_parts (is_told g r) (list_all (is_told g) rs) told in
    let holds_it = and_parts (holds_ref (holder.Root root) r t) (list_all (λ r. holds_ref (holder.Root root) r t) rs) held in
    let here = told_held g m live root r t alive tells.0 holds_it.0 in
    let rest = each_held g m live root rs t alive tells.1 holds_it.1 in omega arith

-- ---- calls

bottom_untold : (g : Setting) (root : ℕ) → frames_untold g (bottom root) ≡ 0
bottom_untold g root = base_told g root [] ∙ none_told g

call_lives : (g : Setting) (root : ℕ) (r : Ref) (function : ℕ) (args : List Plain) (s : Side) (fine : LivesIn g s) → strays g fine.live r ≡ 0
    → total (strays g fine.live) (refs_of_values args) ≡ 0 → LivesIn g (begins_call g root r function args s)
call_lives g root null function args s fine target live = fine
call_lives g root (own oid face) function args s fine target live =
    living_lives g fine.live (root_tid g root) (calls_own g oid face function args (bottom root) (with_root root waits_call s.tables)) s fine.told
    (calls_own_lives g (first_count g) fine.live oid face function args (bottom root) (with_root root waits_call s.tables) target live (bottom_untold g root) fine.alive)
call_lives g root (peer oid face) function args s fine target live =
    living_lives g fine.live (root_tid g root) (calls_peer g (root_tid g root) oid face function args (bottom root) (with_root root waits_call s.tables)) s fine.told
    (calls_peer_lives g (first_count g) fine.live (root_tid g root) oid face function args (bottom root) (with_root root waits_call s.tables) live (bottom_untold g root) fine.alive)

calls_unless_lives : (g : Setting) (root : ℕ) (oid face : List ℕ) (function : ℕ) (args : List Plain) (why : Option RuntimeCause) (s : Side) (fine : LivesIn g s)
    → holds_pair root oid face s.tables ≡ true → total (strays g fine.live) (refs_of_values args) ≡ 0 → LivesIn g (calls_unless g root oid face function args why s)
calls_unless_lives g root oid face function args (Some why) s fine held live = record { live = fine.live; alive = fine.alive; told = fine.told }
calls_unless_lives g root oid face function args None s fine held live =
    call_lives g root (ref_of g oid face) function args s fine (held_ref_lives g (first_count g) fine.live root oid face s.tables fine.alive held) live

pub root_calls_lives : (g : Setting) (root : ℕ) (oid face : List ℕ) (function : ℕ) (args : List Plain) (s : Side) → list_all (is_told g) (refs_of_values args) ≡ true
    → holds_pair root oid face s.tables ≡ true → holds_each root (refs_of_values args) s.tables ≡ true → LivesIn g s → LivesIn g (root_calls g root oid face function args s)
unfolding root_calls holds_each
root_calls_lives g root oid face function args s told held each fine =
    calls_unless_lives g root oid face function args (answered_before (root_tid g root) oid face function args) s fine held
    (each_held g (first_count g) fine.live root (refs_of_values args) s.tables fine.alive told each)

-- ---- queries

asks_lives : (g : Setting) (root : ℕ) (oid face wanted : List ℕ) (s : Side) → LivesIn g s → LivesIn g (asks_peer g root oid face wanted s)
asks_lives g root oid face wanted s fine =
    living_lives g fine.live (root_tid g root) (calls_peer g (root_tid g root) oid face 0 (query_args wanted) (bottom root) (with_root root (waits_query wanted) s.tables)) s fine.told
    (calls_peer_lives g (first_count g) fine.live (root_tid g root) oid face 0 (query_args wanted) (bottom root) (with_root root (waits_query wanted) s.tables)
    (query_args_live (strays g fine.live) wanted) (bottom_untold g root) fine.alive)

at_once_alive : (g : Setting) (m : ℕ) (live : List ℕ → Bool) (root : ℕ) (wanted : List ℕ) (x : Plain) (t : Tables) → total (strays g live) (refs x) ≡ 0 → AliveIn g m live t
    → AliveIn g m live (gets_at_once g root wanted x t)
at_once_alive g m live root wanted x t fine alive =
    root_gets_alive g m live root (waits_query wanted) (returned x []) (gains_all (holder.Root root) (refs x) t) (gains_all_alive g m live (holder.Root root) (refs x) t fine alive)

query_lives : (g : Setting) (root : ℕ) (r : Ref) (wanted : List ℕ) (s : Side) (fine : LivesIn g s) → strays g fine.live r ≡ 0 → LivesIn g (begins_query g root r wanted s)
query_lives g root null wanted s fine target = fine
query_lives g root (own oid face) wanted s fine target =
    record {
      live = fine.live;
      alive =
          at_once_alive g (first_count g) fine.live root wanted (object_answer g oid (kd.interface wanted) s.tables.objects) s.tables
          (object_answer_lives g (first_count g) fine.live oid (kd.interface wanted) s.tables (own_alive g fine.live oid face target).0 fine.alive)
          fine.alive;
      told = fine.told;
    }
query_lives g root (peer oid face) wanted s fine target = asks_lives g root oid face wanted s fine

queries_unless_lives : (g : Setting) (root : ℕ) (oid face wanted : List ℕ) (why : Option RuntimeCause) (s : Side) → holds_pair root oid face s.tables ≡ true → LivesIn g s
    → LivesIn g (queries_unless g root oid face wanted why s)
queries_unless_lives g root oid face wanted (Some why) s held fine = record { live = fine.live; alive = fine.alive; told = fine.told }
queries_unless_lives g root oid face wanted None s held fine =
    query_lives g root (ref_of g oid face) wanted s fine (held_ref_lives g (first_count g) fine.live root oid face s.tables fine.alive held)

pub root_queries_lives : (g : Setting) (root : ℕ) (oid face wanted : List ℕ) (s : Side) → holds_pair root oid face s.tables ≡ true → LivesIn g s
    → LivesIn g (root_queries g root oid face wanted s)
unfolding root_queries
root_queries_lives g root oid face wanted s held fine =
    queries_unless_lives g root oid face wanted (answered_before (root_tid g root) oid face 0 (query_args wanted)) s held fine

asks_unless_lives : (g : Setting) (root : ℕ) (name wanted : List ℕ) (why : Option RuntimeCause) (s : Side) → LivesIn g s → LivesIn g (asks_unless g root name wanted why s)
asks_unless_lives g root name wanted (Some why) s fine = record { live = fine.live; alive = fine.alive; told = fine.told }
asks_unless_lives g root name wanted None s fine = asks_lives g root name x_interface_name wanted s fine

pub root_asks_lives : (g : Setting) (root : ℕ) (name wanted : List ℕ) (s : Side) → LivesIn g s → LivesIn g (root_asks g root name wanted s)
unfolding root_asks
root_asks_lives g root name wanted s fine =
    asks_unless_lives g root name wanted (answered_before (root_tid g root) name x_interface_name 0 (query_args wanted)) s fine

-- ---- objects and references

pub root_makes_lives : (g : Setting) (root behaviour : ℕ) (wanted : List ℕ) (s : Side) → LivesIn g s → LivesIn g (root_makes g root behaviour wanted s)
unfolding root_makes
root_makes_lives g root behaviour wanted s fine =
    record {
      live = lives_with g fine.live (suc s.tables.objects_made);
      alive =
          gains_alive g (first_count g) (lives_with g fine.live (suc s.tables.objects_made)) (holder.Root root) (own (own_oid g (suc s.tables.objects_made)) wanted)
          (makes_default g behaviour s.tables) (made_lives g fine.live (suc s.tables.objects_made) wanted)
          (default_alive g (first_count g) fine.live behaviour s.tables fine.alive);
      told = fine.told;
    }

dropped_alive : (g : Setting) (m : ℕ) (live : List ℕ → Bool) (b : Bool) (root : ℕ) (r : Ref) (t : Tables) → AliveIn g m live t
    → AliveIn g m live ((if b then lets_go g (holder.Root root) r else loses (holder.Root root) r) t)
dropped_alive g m live true root r t alive = lets_go_alive g m live (holder.Root root) r t alive
dropped_alive g m live false root r t alive = loses_alive g m live (holder.Root root) r t alive

pub root_drops_lives : (g : Setting) (root : ℕ) (oid face : List ℕ) (s : Side) → LivesIn g s → LivesIn g (root_drops g root oid face s)
unfolding root_drops
root_drops_lives g root oid face s fine =
    record { live = fine.live; alive = dropped_alive g (first_count g) fine.live (stands s) root (ref_of g oid face) s.tables fine.alive; told = fine.told }

pub root_takes_lives : (g : Setting) (root : ℕ) (s : Side) → LivesIn g s → LivesIn g (root_takes root s)
unfolding root_takes
root_takes_lives g root s fine = record { live = fine.live; alive = fine.alive; told = fine.told }
