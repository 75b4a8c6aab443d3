-- What a root's move enters drains nothing.
use Rattle.std.proofs.Common.{◌≡◌, refl, subst, ℕ, Bool, true, false, not, List, [], Option, None, Some, codes, if◌then◌else◌}
use Rattle.std.specs.Option.{unwrap_or}
use Rattle.bridge_model.specs.Entries.{Entry, asked, called, disposed, full, queried}
use Rattle.bridge_model.specs.Histories.{bytes_drained}
use Rattle.bridge_model.specs.RootRuns as runs
use Rattle.bridge_model.specs.RootRuns.{Moved, asks_for, begins, begins_statement, calls_on, finished, idle_moves, is_skipped, lets_loose, makes_new, moved, next_statement, over_with, queries_on, root_moves, scene_of, state_moves, statement_at, takes_at, waiting}
use Rattle.bridge_model.specs.Settings.{Setting}
use Rattle.bridge_model.specs.Sides.{Outcome, RootState, Side, answered, idle, stands, state_of, waits_call, waits_query}
use Rattle.bridge_model.specs.Steps.{has_entries}
use Rattle.plan_model.specs.Calling.{given_values, number_in, object_of}
use Rattle.plan_model.specs.Evaluation.{value_of_word}
use Rattle.plan_model.specs.Roots.{Run, asked_name, next_loose}
use Rattle.plan_model.specs.Statements.{Call, Making, Query, RootStatement, ask, ask_instance, root_call, root_dispose, root_drop, root_make, root_query, same}
use Rattle.uno_model.specs.Entities.{Entity}
use Rattle.uno_model.specs.Values.{Ref, null, own, peer}

abbrev Still : Moved → Type 0
Still waiting = Unit
Still finished = Unit
Still (moved next None) = Unit
Still (moved next (Some x)) = bytes_drained x ≡ []

either_still : (b : Bool) (x y : Moved) → Still x → Still y → Still (if b then x else y)
either_still true x y one two = one
either_still false x y one two = two

begins_still : (s : Side) (r : Run) (x : Entry) → bytes_drained x ≡ [] → Still (begins s r x)
begins_still s r x none =
    either_still (not (stands s)) (moved (over_with (codes "gone") r) None) (if has_entries s then moved (over_with (codes "full") r) (Some full) else moved r (Some x)) tt
    (either_still (has_entries s) (moved (over_with (codes "full") r) (Some full)) (moved r (Some x)) refl none)

making_still : (g : Setting) (s : Side) (r : Run) (m : Making) (b c : Bool) → stands s ≡ b → has_entries s ≡ c → Still (makes_new g s r m)
making_still g s r m false c up much = rw (up) tt
making_still g s r m true true up much = rw (up, much) refl
making_still g s r m true false up much = rw (up, much) refl

asks_still : (s : Side) (r : Run) (wanted : List ℕ) (o : Option (List ℕ)) → Still (asks_for s r wanted o)
asks_still s r wanted None = tt
asks_still s r wanted (Some name) = begins_still s r (asked r.root name wanted) refl

call_still : (reg : List Entity) (s : Side) (r : Run) (c : Call) (x : Ref) → Still (calls_on reg s r c x)
call_still reg s r c null = tt
call_still reg s r c (own oid face) = begins_still s r (called r.root oid face (number_in reg face c.callee) (unwrap_or (given_values (scene_of r) c.arguments) [])) refl
call_still reg s r c (peer oid face) = begins_still s r (called r.root oid face (number_in reg face c.callee) (unwrap_or (given_values (scene_of r) c.arguments) [])) refl

query_still : (s : Side) (r : Run) (q : Query) (x : Ref) → Still (queries_on s r q x)
query_still s r q null = tt
query_still s r q (own oid face) = begins_still s r (queried r.root oid face q.wanted) refl
query_still s r q (peer oid face) = begins_still s r (queried r.root oid face q.wanted) refl

dispose_still : (next : Run) (b : Bool) → Still (moved next (if b then Some disposed else None))
dispose_still next true = refl
dispose_still next false = tt

statement_still : (g : Setting) (s : Side) (r : Run) (x : RootStatement) → Still (begins_statement g s r x)
unfolding begins_statement
statement_still g s r (ask to wanted name) = asks_still s r wanted (asked_name r.instance (ask to wanted name))
statement_still g s r (ask_instance to wanted) = asks_still s r wanted (asked_name r.instance (ask_instance to wanted))
statement_still g s r (root_call c) = call_still g.registry s r c (object_of (value_of_word (scene_of r) c.target))
statement_still g s r (root_query q) = query_still s r q (object_of (value_of_word (scene_of r) q.target))
statement_still g s r (root_make m) = making_still g s r m (stands s) (has_entries s) refl refl
statement_still g s r (root_drop name) = tt
statement_still g s r (same a b) = tt
statement_still g s r root_dispose = dispose_still (runs.goes_over r) (stands s)

next_still : (g : Setting) (s : Side) (r : Run) (o : Option RootStatement) → Still (next_statement g s r o)
next_still g s r None = tt
next_still g s r (Some x) = either_still (is_skipped r.variables x) (moved (over_with (codes "skipped") r) None) (begins_statement g s r x) tt (statement_still g s r x)

loose_still : (r : Run) (x : Ref) → Still (lets_loose r x)
loose_still r null = tt
loose_still r (own oid face) = refl
loose_still r (peer oid face) = refl

idle_still : (g : Setting) (s : Side) (r : Run) (x : Option Ref) → Still (idle_moves g s r x)
idle_still g s r (Some x) = loose_still r x
idle_still g s r None = next_still g s r (statement_at g r)

takes_still : (g : Setting) (r : Run) (o : Outcome) (x : Option RootStatement) → Still (takes_at g r o x)
takes_still g r o None = tt
takes_still g r o (Some x) = refl

state_still : (g : Setting) (s : Side) (r : Run) (x : RootState) → Still (state_moves g s r x)
state_still g s r idle = idle_still g s r (next_loose r.loose)
state_still g s r waits_call = tt
state_still g s r (waits_query wanted) = tt
state_still g s r (answered o) = takes_still g r o (statement_at g r)

pub move_drains : (g : Setting) (s : Side) (r next : Run) (x : Entry) → root_moves g s r ≡ moved next (Some x) → bytes_drained x ≡ []
unfolding root_moves
move_drains g s r next x is = subst Still is (state_still g s r (state_of r.root s.tables.roots))
