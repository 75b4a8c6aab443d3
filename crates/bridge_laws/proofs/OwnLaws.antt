-- The entry that a root's move makes is that root's own, or nobody's.
use Rattle.std.proofs.Common.{◌≡◌, refl, sym, subst, ℕ, suc, Bool, true, false, not, eqb-true, List, [], ◌++◌, Option, None, Some, codes, if◌then◌else◌}
use Rattle.std.proofs.lemmas.Bool.{true≢false}
use Rattle.std.specs.Option.{unwrap_or}
use Rattle.literal_model.specs.Literals.{print}
use Rattle.uno_model.specs.Entities.{Entity}
use Rattle.uno_model.specs.Values.{Ref, null, own, peer, Plain}
use Rattle.uno_model.specs.Values as v
use Rattle.plan_model.specs.Calling.{given_values, number_in, object_of}
use Rattle.plan_model.specs.Evaluation.{value_of_word}
use Rattle.plan_model.specs.Roots.{Run, asked_name, next_loose}
use Rattle.plan_model.specs.Statements.{Call, Query, Making, RootStatement, ask, ask_instance, root_call, root_query, root_make, root_drop, same, root_dispose}
use Rattle.bridge_model.specs.Entries.{Entry, asked, called, queried, made, dropped, took, disposed, full}
use Rattle.bridge_model.specs.Histories.{bytes_fed}
use Rattle.bridge_model.specs.RootRuns.{Moved, waiting, finished, moved, is_skipped, over_with, takes_at, scene_of, begins, calls_on, queries_on, asks_for, makes_new, begins_statement, next_statement, statement_at, lets_loose, idle_moves, state_moves, root_moves, is_of_root}
use Rattle.bridge_model.specs.RootRuns as runs
use Rattle.bridge_model.specs.Settings.{Setting, own_oid}
use Rattle.bridge_model.specs.Sides.{Outcome, RootState, idle, waits_call, waits_query, answered, Side, stands, state_of}
use Rattle.bridge_model.specs.Steps.{has_entries}

-- ---- what a root enters

-- an entry of a root's own, that it disposes the bridge, or that there is no room for an entry
pub data IsEntryOf (root : ℕ) : Entry → Type 0 where
  asks : (name wanted : List ℕ) → IsEntryOf root (asked root name wanted)
  calls : (oid face : List ℕ) → (function : ℕ) → (args : List Plain) → IsEntryOf root (called root oid face function args)
  queries : (oid face wanted : List ℕ) → IsEntryOf root (queried root oid face wanted)
  makes : (behaviour : ℕ) → (wanted : List ℕ) → IsEntryOf root (made root behaviour wanted)
  drops : (oid face : List ℕ) → IsEntryOf root (dropped root oid face)
  takes : IsEntryOf root (took root)
  disposes : IsEntryOf root disposed
  is_full : IsEntryOf root full

-- no other root has it
abbrev pub IsOwn : ℕ → Option Entry → Type 0
IsOwn root None = Unit
IsOwn root (Some x) = (n : ℕ) → is_of_root n x ≡ true → n ≡ root

own_entry : (root : ℕ) (x : Entry) → IsEntryOf root x → (n : ℕ) → is_of_root n x ≡ true → n ≡ root
own_entry root x (asks name wanted) n is = eqb-true n root is
own_entry root x (calls oid face function args) n is = eqb-true n root is
own_entry root x (queries oid face wanted) n is = eqb-true n root is
own_entry root x (makes behaviour wanted) n is = eqb-true n root is
own_entry root x (drops oid face) n is = eqb-true n root is
own_entry root x takes n is = eqb-true n root is
own_entry root x disposes n is = absurd (true≢false (sym is))
own_entry root x is_full n is = absurd (true≢false (sym is))

feeds_none : (root : ℕ) (x : Entry) → IsEntryOf root x → bytes_fed x ≡ []
feeds_none root x (asks name wanted) = refl
feeds_none root x (calls oid face function args) = refl
feeds_none root x (queries oid face wanted) = refl
feeds_none root x (makes behaviour wanted) = refl
feeds_none root x (drops oid face) = refl
feeds_none root x takes = refl
feeds_none root x disposes = refl
feeds_none root x is_full = refl

-- ---- moves that enter so

abbrev EntryOf : ℕ → Option Entry → Type 0
EntryOf root None = Unit
EntryOf root (Some x) = IsEntryOf root x

abbrev OwnMove : ℕ → Moved → Type 0
OwnMove root waiting = Unit
OwnMove root finished = Unit
OwnMove root (moved next e) = EntryOf root e

either_own : (root : ℕ) (b : Bool) (x y : Moved) → OwnMove root x → OwnMove root y → OwnMove root (if b then x else y)
either_own root true x y one two = one
either_own root false x y one two = two

begins_own : (z : Side) (r : Run) (x : Entry) → IsEntryOf r.root x → OwnMove r.root (begins z r x)
begins_own z r x is =
    either_own r.root (not (stands z)) (moved (over_with (codes "gone") r) None) (if has_entries z then moved (over_with (codes "full") r) (Some full) else moved r (Some x)) tt
    (either_own r.root (has_entries z) (moved (over_with (codes "full") r) (Some full)) (moved r (Some x)) is_full is)

-- ---- a new object

same_entry : (next other : Run) (d e : Option Entry) → moved other d ≡ moved next e → d ≡ e
same_entry next other d e is = cc

own_as : (root : ℕ) (next other : Run) (d e : Option Entry) → moved other d ≡ moved next e → EntryOf root d → EntryOf root e
own_as root next other d e is it = subst (EntryOf root) (same_entry next other d e is) it

making_own : (g : Setting) (z : Side) (r next : Run) (m : Making) (e : Option Entry) (b c : Bool) → stands z ≡ b → has_entries z ≡ c → makes_new g z r m ≡ moved next e → EntryOf r.root e
making_own g z r next m e false c up much is = own_as r.root next (over_with (codes "gone") r) None e (rw up at is) tt
making_own g z r next m e true true up much is = own_as r.root next (over_with (codes "full") r) (Some full) e (rw (up, much) at is) is_full
making_own g z r next m e true false up much is =
    own_as r.root next
    (over_with (codes "returned " ++ print g.registry (v.ref (own (own_oid g (suc z.tables.objects_made)) m.face))) (runs.adds m.to (v.ref (own (own_oid g (suc z.tables.objects_made)) m.face)) r))
    (Some (made r.root m.behaviour m.face)) e (rw (up, much) at is) (makes m.behaviour m.face)

by_making : (g : Setting) (z : Side) (r : Run) (m : Making) (x : Moved) → makes_new g z r m ≡ x → OwnMove r.root x
by_making g z r m waiting is = tt
by_making g z r m finished is = tt
by_making g z r m (moved next e) is = making_own g z r next m e (stands z) (has_entries z) refl refl is

-- ---- statements

asks_own : (z : Side) (r : Run) (wanted : List ℕ) (o : Option (List ℕ)) → OwnMove r.root (asks_for z r wanted o)
asks_own z r wanted None = tt
asks_own z r wanted (Some name) = begins_own z r (asked r.root name wanted) (asks name wanted)

call_own : (reg : List Entity) (z : Side) (r : Run) (c : Call) (x : Ref) → OwnMove r.root (calls_on reg z r c x)
call_own reg z r c null = tt
call_own reg z r c (own oid face) =
    begins_own z r (called r.root oid face (number_in reg face c.callee) (unwrap_or (given_values (scene_of r) c.arguments) []))
    (calls oid face (number_in reg face c.callee) (unwrap_or (given_values (scene_of r) c.arguments) []))
call_own reg z r c (peer oid face) =
    begins_own z r (called r.root oid face (number_in reg face c.callee) (unwrap_or (given_values (scene_of r) c.arguments) []))
    (calls oid face (number_in reg face c.callee) (unwrap_or (given_values (scene_of r) c.arguments) []))

query_own : (z : Side) (r : Run) (q : Query) (x : Ref) → OwnMove r.root (queries_on z r q x)
query_own z r q null = tt
query_own z r q (own oid face) = begins_own z r (queried r.root oid face q.wanted) (queries oid face q.wanted)
query_own z r q (peer oid face) = begins_own z r (queried r.root oid face q.wanted) (queries oid face q.wanted)

disposing_own : (root : ℕ) (next : Run) (b : Bool) → OwnMove root (moved next (if b then Some disposed else None))
disposing_own root next true = disposes
disposing_own root next false = tt

statement_own : (g : Setting) (z : Side) (r : Run) (s : RootStatement) → OwnMove r.root (begins_statement g z r s)
unfolding begins_statement
statement_own g z r (ask to wanted name) = asks_own z r wanted (asked_name r.instance (ask to wanted name))
statement_own g z r (ask_instance to wanted) = asks_own z r wanted (asked_name r.instance (ask_instance to wanted))
statement_own g z r (root_call c) = call_own g.registry z r c (object_of (value_of_word (scene_of r) c.target))
statement_own g z r (root_query q) = query_own z r q (object_of (value_of_word (scene_of r) q.target))
statement_own g z r (root_make m) = by_making g z r m (makes_new g z r m) refl
statement_own g z r (root_drop name) = tt
statement_own g z r (same a b) = tt
statement_own g z r root_dispose = disposing_own r.root (runs.goes_over r) (stands z)

next_own : (g : Setting) (z : Side) (r : Run) (o : Option RootStatement) → OwnMove r.root (next_statement g z r o)
next_own g z r None = tt
next_own g z r (Some s) =
    either_own r.root (is_skipped r.variables s) (moved (over_with (codes "skipped") r) None) (begins_statement g z r s) tt (statement_own g z r s)

-- ---- moves

loose_own : (r : Run) (x : Ref) → OwnMove r.root (lets_loose r x)
loose_own r null = tt
loose_own r (own oid face) = drops oid face
loose_own r (peer oid face) = drops oid face

idle_own : (g : Setting) (z : Side) (r : Run) (x : Option Ref) → OwnMove r.root (idle_moves g z r x)
idle_own g z r (Some x) = loose_own r x
idle_own g z r None = next_own g z r (statement_at g r)

takes_own : (g : Setting) (r : Run) (o : Outcome) (s : Option RootStatement) → OwnMove r.root (takes_at g r o s)
takes_own g r o None = tt
takes_own g r o (Some s) = takes

state_own : (g : Setting) (z : Side) (r : Run) (x : RootState) → OwnMove r.root (state_moves g z r x)
state_own g z r idle = idle_own g z r (next_loose r.loose)
state_own g z r waits_call = tt
state_own g z r (waits_query wanted) = tt
state_own g z r (answered o) = takes_own g r o (statement_at g r)

root_own : (g : Setting) (z : Side) (r : Run) → OwnMove r.root (root_moves g z r)
unfolding root_moves
root_own g z r = state_own g z r (state_of r.root z.tables.roots)

move_entry : (g : Setting) (z : Side) (r next : Run) (e : Option Entry) → root_moves g z r ≡ moved next e → EntryOf r.root e
move_entry g z r next e is = subst (OwnMove r.root) is (root_own g z r)

own_if : (root : ℕ) (e : Option Entry) → EntryOf root e → IsOwn root e
own_if root None it = tt
own_if root (Some x) it = own_entry root x it

pub move_own : (g : Setting) (z : Side) (r next : Run) (e : Option Entry) → root_moves g z r ≡ moved next e → IsOwn r.root e
move_own g z r next e is = own_if r.root e (move_entry g z r next e is)

-- it feeds nothing
pub move_feeds : (g : Setting) (z : Side) (r next : Run) (x : Entry) → root_moves g z r ≡ moved next (Some x) → bytes_fed x ≡ []
move_feeds g z r next x is = feeds_none r.root x (move_entry g z r next (Some x) is)
