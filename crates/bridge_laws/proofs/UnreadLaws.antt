-- What is done before feeding does not read what came in, so it is the same where more bytes are held.
use Rattle.std.proofs.Common.{◌≡◌, refl, ap, ◌∙◌, ℕ, Bool, true, false, List, [], ◌∷◌, Option, None, Some, codes, if◌then◌else◌}
use Rattle.uno_model.specs.Entities.{Entity}
use Rattle.uno_model.specs.Values.{Ref, null, own, peer}
use Rattle.plan_model.specs.Roots.{Run, asked_name, next_loose}
use Rattle.plan_model.specs.Statements.{Call, Query, RootStatement, ask, ask_instance, root_call, root_query, root_make, root_drop, same, root_dispose}
use Rattle.plan_model.specs.Calling.{object_of}
use Rattle.plan_model.specs.Evaluation.{value_of_word}
use Rattle.bridge_model.specs.Answers.{drained_next}
use Rattle.bridge_model.specs.Feeding.{holds_bytes}
use Rattle.bridge_model.specs.Going.{waiting_bytes}
use Rattle.bridge_model.specs.Orders.{first_or_later, root_move}
use Rattle.bridge_model.specs.RootRuns.{is_skipped, scene_of, without_entry, over_with, calls_on, queries_on, asks_for, begins_statement, next_statement, statement_at, idle_moves, state_moves, root_moves}
use Rattle.bridge_model.specs.Settings.{Setting}
use Rattle.bridge_model.specs.Sides.{RootState, idle, waits_call, waits_query, answered, Side, state_of}

calls_held : (reg : List Entity) (bytes : List ℕ) (s : Side) (r : Run) (c : Call) (x : Ref) → calls_on reg (holds_bytes bytes s) r c x ≡ calls_on reg s r c x
calls_held reg bytes s r c null = refl
calls_held reg bytes s r c (own oid face) = refl
calls_held reg bytes s r c (peer oid face) = refl

queries_held : (bytes : List ℕ) (s : Side) (r : Run) (q : Query) (x : Ref) → queries_on (holds_bytes bytes s) r q x ≡ queries_on s r q x
queries_held bytes s r q null = refl
queries_held bytes s r q (own oid face) = refl
queries_held bytes s r q (peer oid face) = refl

asks_held : (bytes : List ℕ) (s : Side) (r : Run) (wanted : List ℕ) (name : Option (List ℕ)) → asks_for (holds_bytes bytes s) r wanted name ≡ asks_for s r wanted name
asks_held bytes s r wanted None = refl
asks_held bytes s r wanted (Some name) = refl

begins_held : (g : Setting) (bytes : List ℕ) (s : Side) (r : Run) (x : RootStatement) → begins_statement g (holds_bytes bytes s) r x ≡ begins_statement g s r x
unfolding begins_statement
begins_held g bytes s r (ask to wanted name) = asks_held bytes s r wanted (asked_name r.instance (ask to wanted name))
begins_held g bytes s r (ask_instance to wanted) = asks_held bytes s r wanted (asked_name r.instance (ask_instance to wanted))
begins_held g bytes s r (root_call c) = calls_held g.registry bytes s r c (object_of (value_of_word (scene_of r) c.target))
begins_held g bytes s r (root_query q) = queries_held bytes s r q (object_of (value_of_word (scene_of r) q.target))
begins_held g bytes s r (root_make m) = refl
begins_held g bytes s r (root_drop name) = refl
begins_held g bytes s r (same a b) = refl
begins_held g bytes s r root_dispose = refl

unless_held : (g : Setting) (bytes : List ℕ) (s : Side) (r : Run) (x : RootStatement) (b : Bool)
    → (if b then without_entry (over_with (codes "skipped") r) else begins_statement g (holds_bytes bytes s) r x)
    ≡ (if b then without_entry (over_with (codes "skipped") r) else begins_statement g s r x)
unless_held g bytes s r x true = refl
unless_held g bytes s r x false = begins_held g bytes s r x

next_held : (g : Setting) (bytes : List ℕ) (s : Side) (r : Run) (x : Option RootStatement) → next_statement g (holds_bytes bytes s) r x ≡ next_statement g s r x
next_held g bytes s r None = refl
next_held g bytes s r (Some x) = unless_held g bytes s r x (is_skipped r.variables x)

idle_held : (g : Setting) (bytes : List ℕ) (s : Side) (r : Run) (x : Option Ref) → idle_moves g (holds_bytes bytes s) r x ≡ idle_moves g s r x
idle_held g bytes s r None = next_held g bytes s r (statement_at g r)
idle_held g bytes s r (Some x) = refl

state_held : (g : Setting) (bytes : List ℕ) (s : Side) (r : Run) (x : RootState) → state_moves g (holds_bytes bytes s) r x ≡ state_moves g s r x
state_held g bytes s r idle = idle_held g bytes s r (next_loose r.loose)
state_held g bytes s r waits_call = refl
state_held g bytes s r (waits_query wanted) = refl
state_held g bytes s r (answered o) = refl

moves_held : (g : Setting) (bytes : List ℕ) (s : Side) (r : Run) → root_moves g (holds_bytes bytes s) r ≡ root_moves g s r
unfolding root_moves
moves_held g bytes s r = state_held g bytes s r (state_of r.root s.tables.roots)

-- the lowest root that moves is the same
pub root_held : (g : Setting) (bytes : List ℕ) (s : Side) (rs : List Run) → root_move g (holds_bytes bytes s) rs ≡ root_move g s rs
unfolding root_move
root_held g bytes s [] = refl
root_held g bytes s (r ∷ rs) =
    ap (λ m. first_or_later r rs m (root_move g (holds_bytes bytes s) rs)) (moves_held g bytes s r)
    ∙ ap (first_or_later r rs (root_moves g s r)) (root_held g bytes s rs)

-- and so are the bytes that are drained next
pub drained_held : (g : Setting) (bytes : List ℕ) (most : ℕ) (s : Side) → drained_next g most (holds_bytes bytes s) ≡ drained_next g most s
unfolding drained_next waiting_bytes
drained_held g bytes most s = refl
