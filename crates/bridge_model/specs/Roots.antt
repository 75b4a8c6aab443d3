-- What roots do: asking the peer for a name, calling, querying, making an object, letting go, and taking an outcome.
use Rattle.std.specs.Prelude.{ℕ, suc, Bool, true, false, List, [], ◌∷◌, Option, None, Some, if◌then◌else◌}
use Rattle.std.specs.List.{list_all}
use Rattle.message_model.specs.Messages.{Answer, request, returned}
use Rattle.message_model.specs.Sayable.{message_weight}
use Rattle.uno_model.specs.BuiltIn.{x_interface_name}
use Rattle.uno_model.specs.Kinds as kd
use Rattle.uno_model.specs.Values.{Ref, own, peer, Plain, plains, depth_in}
use Rattle.uno_model.specs.Values as v
use Rattle.table_model.specs.Holdings.{hold, holds}
use Rattle.table_model.specs.Pair.{pair}
use Rattle.table_model.specs.declared.holder.Holder.TheVariants as holder
use Rattle.plan_model.specs.Evaluation.{is_heavy, is_deep}
use Rattle.plan_model.specs.Frames.{Frame, base}
use Rattle.plan_model.specs.Leaving.{caused}
use Rattle.plan_model.specs.declared.runtime_cause.RuntimeCause.{RuntimeCause}
use Rattle.plan_model.specs.declared.runtime_cause.RuntimeCause.TheVariants.{TooLarge, TooDeep}
use Rattle.bridge_model.specs.Calls.{calls_own, calls_peer, query_args}
use Rattle.bridge_model.specs.Handing.{root_gets}
use Rattle.bridge_model.specs.Objects.{object_answer, makes_default}
use Rattle.bridge_model.specs.References.{gains, gains_all, holds_ref, lets_go, loses}
use Rattle.bridge_model.specs.Settings.{Setting, own_oid, root_tid, ref_of}
use Rattle.bridge_model.specs.Sides.{RootState, idle, waits_call, waits_query, answered, answer, Outcome, Tables, Side, stands, on_tables, with_root}
use Rattle.bridge_model.specs.Stacks.{with_unwound}

-- ---- what a root holds

-- an occurrence of each of these references
unfoldable pub holds_each : ℕ → List Ref → Tables → Bool
holds_each root rs t = list_all (λ r. holds_ref (holder.Root root) r t) rs

abbrev pub holds_pair : ℕ → (oid face : List ℕ) → Tables → Bool
holds_pair root oid face t = holds (hold (holder.Root root) (pair oid face)) t.holdings

-- ---- why a call is answered before it begins

-- its request would weigh too much, or an argument is nested too deep
unfoldable pub answered_before : (tid oid face : List ℕ) → ℕ → List Plain → Option RuntimeCause
answered_before tid oid face function args =
    if is_heavy (message_weight (request tid oid face function args)) then Some TooLarge else (if is_deep (depth_in (plains args)) then Some TooDeep else None)

abbrev pub is_answered : ℕ → Answer → Side → Side
is_answered root a s = on_tables (with_root root (answered (answer a))) s

-- ---- calls

-- the stack of a root's thread begins with the root
abbrev pub bottom : ℕ → List Frame
bottom root = base root ∷ []

abbrev pub begins_call : Setting → ℕ → Ref → ℕ → List Plain → Side → Side
begins_call g root v.null function args s = s
begins_call g root (own oid face) function args s =
    with_unwound (root_tid g root) (calls_own g oid face function args (bottom root) (with_root root waits_call s.tables)) s
begins_call g root (peer oid face) function args s =
    with_unwound (root_tid g root) (calls_peer g (root_tid g root) oid face function args (bottom root) (with_root root waits_call s.tables)) s

abbrev pub calls_unless : Setting → ℕ → (oid face : List ℕ) → ℕ → List Plain → Option RuntimeCause → Side → Side
calls_unless g root oid face function args (Some why) s = is_answered root (caused why) s
calls_unless g root oid face function args None s = begins_call g root (ref_of g oid face) function args s

unfoldable pub root_calls : Setting → ℕ → (oid face : List ℕ) → ℕ → List Plain → Side → Side
root_calls g root oid face function args s =
    calls_unless g root oid face function args (answered_before (root_tid g root) oid face function args) s

-- ---- queries

-- an own object answers at once
abbrev pub gets_at_once : Setting → ℕ → List ℕ → Plain → Tables → Tables
gets_at_once g root wanted x t = root_gets g root (waits_query wanted) (returned x []) (gains_all (holder.Root root) (v.refs x) t)

abbrev pub asks_peer : Setting → ℕ → (oid face wanted : List ℕ) → Side → Side
asks_peer g root oid face wanted s =
    with_unwound
    (root_tid g root)
    (calls_peer g (root_tid g root) oid face 0 (query_args wanted) (bottom root) (with_root root (waits_query wanted) s.tables))
    s

abbrev pub begins_query : Setting → ℕ → Ref → List ℕ → Side → Side
begins_query g root v.null wanted s = s
begins_query g root (own oid face) wanted s = on_tables (λ t. gets_at_once g root wanted (object_answer g oid (kd.interface wanted) t.objects) t) s
begins_query g root (peer oid face) wanted s = asks_peer g root oid face wanted s

abbrev pub queries_unless : Setting → ℕ → (oid face wanted : List ℕ) → Option RuntimeCause → Side → Side
queries_unless g root oid face wanted (Some why) s = is_answered root (caused why) s
queries_unless g root oid face wanted None s = begins_query g root (ref_of g oid face) wanted s

unfoldable pub root_queries : Setting → ℕ → (oid face wanted : List ℕ) → Side → Side
root_queries g root oid face wanted s =
    queries_unless g root oid face wanted (answered_before (root_tid g root) oid face 0 (query_args wanted)) s

-- a name of the peer's is asked for: a query whose request has the name as its object
abbrev pub asks_unless : Setting → ℕ → (name wanted : List ℕ) → Option RuntimeCause → Side → Side
asks_unless g root name wanted (Some why) s = is_answered root (caused why) s
asks_unless g root name wanted None s = asks_peer g root name x_interface_name wanted s

unfoldable pub root_asks : Setting → ℕ → (name wanted : List ℕ) → Side → Side
root_asks g root name wanted s =
    asks_unless g root name wanted (answered_before (root_tid g root) name x_interface_name 0 (query_args wanted)) s

-- ---- objects and references

-- a new object, which the root holds under the wanted interface
unfoldable pub root_makes : Setting → ℕ → ℕ → List ℕ → Side → Side
root_makes g root behaviour wanted s =
    on_tables (λ t. gains (holder.Root root) (own (own_oid g (suc t.objects_made)) wanted) (makes_default g behaviour t)) s

-- where the bridge has ended, nothing is sent
unfoldable pub root_drops : Setting → ℕ → (oid face : List ℕ) → Side → Side
root_drops g root oid face s =
    on_tables (if stands s then lets_go g (holder.Root root) (ref_of g oid face) else loses (holder.Root root) (ref_of g oid face)) s

-- the outcome is given out, and what it holds is still held
unfoldable pub root_takes : ℕ → Side → Side
root_takes root s = on_tables (with_root root idle) s

abbrev pub is_idle : RootState → Bool
is_idle idle = true
is_idle s = false

abbrev pub outcome_in : RootState → Option Outcome
outcome_in (answered o) = Some o
outcome_in s = None
