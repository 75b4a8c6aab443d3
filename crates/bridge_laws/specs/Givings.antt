-- Which entry gave a root its answer.
use Rattle.std.specs.Prelude.{◌≡◌, ℕ, Bool, true, not, ◌==◌, List, [], ◌∷◌, ◌++◌, Some}
use Rattle.std.specs.List.{list_all}
use Rattle.message_model.specs.Messages.{Message, Answer, returned}
use Rattle.uno_model.specs.BuiltIn.{x_interface_name}
use Rattle.uno_model.specs.Kinds as kd
use Rattle.uno_model.specs.Values.{Plain}
use Rattle.plan_model.specs.Leaving.{caused}
use Rattle.plan_model.specs.declared.runtime_cause.RuntimeCause.{RuntimeCause}
use Rattle.bridge_model.specs.Applying.{effect_at}
use Rattle.bridge_model.specs.Calls.{query_args}
use Rattle.bridge_model.specs.Entries.{Entry, fed, asked, called, queried, applied, took}
use Rattle.bridge_model.specs.Histories.{Told, Leads}
use Rattle.bridge_model.specs.Objects.{object_answer}
use Rattle.bridge_model.specs.Roots.{answered_before}
use Rattle.bridge_model.specs.Settings.{Setting, root_tid, is_own}
use Rattle.bridge_model.specs.Sides.{waits_query, Side, state_of}
use Rattle.bridge_model.specs.Steps.{Picked, picked, Turn, step}
use Rattle.bridge_laws.specs.Hearings.{Hears}
use Rattle.bridge_laws.specs.Outcomes.{for_root, fate_of, fate_of_message, root_outcome}

-- a statement answers the root, a method that it called here having ended; a message that comes does, a reply; the call was answered before it began, since it would weigh
-- too much or is nested too deep; or an own object answered a query
pub data Gives (g : Setting) (s : Side) (root : ℕ) (a : Answer) : Entry → List Message → Type 0 where
  by_statement : (got : List Message) → (tid : List ℕ) → (p : Picked) → picked tid s ≡ Some p → (c : Answer)
      → fate_of g tid p.method p.below (effect_at g tid p.method p.below s.tables) s.tables ≡ for_root root c → a ≡ root_outcome g (state_of root s.tables.roots) c → Gives g s root a (applied tid) got
  by_message : (got : List Message) → (bytes : List ℕ) → (before rs : List Message) → (z : Side) → Hears g s.tables s.stacks before rs z → (m : Message) → (later : List Message) → got ≡ before ++ m ∷ later
      → (c : Answer) → fate_of_message g z.stacks m ≡ for_root root c → a ≡ root_outcome g (state_of root z.tables.roots) c → Gives g s root a (fed bytes) got
  before_asking : (got : List Message) → (name wanted : List ℕ) → (why : RuntimeCause) → answered_before (root_tid g root) name x_interface_name 0 (query_args wanted) ≡ Some why → a ≡ caused why
      → Gives g s root a (asked root name wanted) got
  before_calling : (got : List Message) → (oid face : List ℕ) → (function : ℕ) → (args : List Plain) → (why : RuntimeCause) → answered_before (root_tid g root) oid face function args ≡ Some why → a ≡ caused why
      → Gives g s root a (called root oid face function args) got
  before_querying : (got : List Message) → (oid face wanted : List ℕ) → (why : RuntimeCause) → answered_before (root_tid g root) oid face 0 (query_args wanted) ≡ Some why → a ≡ caused why
      → Gives g s root a (queried root oid face wanted) got
  at_once : (got : List Message) → (oid face wanted : List ℕ) → is_own g oid ≡ true
      → a ≡ root_outcome g (waits_query wanted) (returned (object_answer g oid (kd.interface wanted) s.tables.objects) []) → Gives g s root a (queried root oid face wanted) got

-- an entry leaves a root the outcome that it has: the root does not take it there, nor ask, call or query
abbrev pub leaves_outcome : ℕ → Entry → Bool
leaves_outcome n (asked root name wanted) = not (root == n)
leaves_outcome n (called root oid face function args) = not (root == n)
leaves_outcome n (queried root oid face wanted) = not (root == n)
leaves_outcome n (took root) = not (root == n)
leaves_outcome n e = true

-- a journal gave a root its answer at one entry, behind which the root took none and began no call
pub record IsGiven (g : Setting) (es : List Entry) (root : ℕ) (a : Answer) : Type 0 where
  pub before : List Entry
  pub entry : Entry
  pub later : List Entry
  pub journal : es ≡ before ++ entry ∷ later
  pub told : Told
  pub leads : Leads g before told
  pub turn : Turn
  pub does : step g told.side entry ≡ Some turn
  pub gives : Gives g told.side root a entry turn.got
  pub kept : list_all (leaves_outcome root) later ≡ true
