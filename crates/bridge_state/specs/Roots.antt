-- What a root may begin, and what it begins that waits.
use Rattle.std.specs.Prelude.{◌≡◌, ◌&&◌, ℕ, ◌≤◌, Bool, true, List, [], length}
use Rattle.table_model.specs.declared.holder.Holder.TheVariants as holder
use Rattle.uno_model.specs.Kinds as kd
use Rattle.uno_model.specs.Values.{Plain, Ref}
use Rattle.plan_model.specs.Frames.{frames_of}
use Rattle.bridge_model.specs.Calls.{calls_own, calls_peer}
use Rattle.bridge_model.specs.Objects.{object_answer}
use Rattle.bridge_model.specs.References.{holds_ref}
use Rattle.bridge_model.specs.Roots.{bottom, gets_at_once}
use Rattle.bridge_model.specs.Settings.{Setting, is_told, root_tid}
use Rattle.bridge_model.specs.Sides.{RootState, idle, Side, Tables, stands, state_of, waits_call, on_tables, with_root}
use Rattle.bridge_model.specs.Stacks.{with_unwound}
use Rattle.bridge_model.specs.Steps.{is_root}

-- a root of the plan that has nothing open, of a bridge that stands
pub record MayBegin (g : Setting) (root : ℕ) (s : Side) : Type 0 where
  pub stands : stands s ≡ true
  pub of_plan : is_root g root ≡ true
  pub idle : state_of root s.tables.roots ≡ idle
  pub none : frames_of (root_tid g root) s.stacks ≡ []
  pub least : 1 ≤ root
  pub most : root ≤ length s.tables.roots

-- it waits, and a method of an own object begins above it
abbrev pub begins_own : Setting → ℕ → (oid face : List ℕ) → ℕ → List Plain → Side → Side
begins_own g root oid face function args s =
    with_unwound (root_tid g root) (calls_own g oid face function args (bottom root) (with_root root waits_call s.tables)) s

-- or a call goes to the peer
abbrev pub begins_peer : Setting → ℕ → RootState → (oid face : List ℕ) → ℕ → List Plain → Side → Side
begins_peer g root waits oid face function args s =
    with_unwound (root_tid g root) (calls_peer g (root_tid g root) oid face function args (bottom root) (with_root root waits s.tables)) s

-- it gives a reference that it holds, and that is told as own or as the peer's by its identity
abbrev pub gives : Setting → ℕ → Tables → Ref → Bool
gives g root t r = holds_ref (holder.Root root) r t && is_told g r

-- an own object answers a query at once
abbrev pub answers_own : Setting → ℕ → (oid wanted : List ℕ) → Side → Side
answers_own g root oid wanted s = on_tables (λ t. gets_at_once g root wanted (object_answer g oid (kd.interface wanted) t.objects) t) s
