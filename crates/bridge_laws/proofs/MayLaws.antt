-- The entry that a move of a root makes may stand: the root holds what it calls, gives and lets go, and tells it right.
use Rattle.std.proofs.Common.{◌≡◌, refl, ap, subst, ℕ, zero, suc, ◌≤◌, nat_lt, Bool, true, false, not, ◌&&◌, ◌||◌, if◌then◌else◌, List, [], ◌++◌, length, Option, None, Some, slice_get, codes, arith}
use Rattle.std.proofs.lemmas.Bool.{and_from, or_left, lt-ltb, le-ltb}
use Rattle.std.specs.List.{flat_map}
use Rattle.std.specs.Option.{unwrap_or}
use Rattle.literal_model.specs.Literals.{print}
use Rattle.uno_model.specs.Values.{Ref, null, own, peer, Plain, Plains, refs, refs_in, object_in}
use Rattle.uno_model.specs.Values as v
use Rattle.table_model.specs.Holdings.{hold, holds}
use Rattle.table_model.specs.Pair.{pair}
use Rattle.table_model.specs.declared.holder.Holder.TheVariants as holder
use Rattle.plan_model.specs.Calling.{given_values, number_in, object_of}
use Rattle.plan_model.specs.Evaluation.{value_of_word}
use Rattle.plan_model.specs.Expressions.{Argument}
use Rattle.plan_model.specs.Holdings.{refs_under}
use Rattle.plan_model.specs.Roots.{Run, asked_name, next_loose, statements_of, statements_in}
use Rattle.plan_model.specs.Statements.{Call, Query, Making, RootStatement, ask, ask_instance, root_call, root_query, root_make, root_drop, same, root_dispose}
use Rattle.bridge_model.specs.Entries.{Entry, asked, called, queried, made, dropped, took, disposed, full}
use Rattle.bridge_model.specs.Histories.{Told, Leads}
use Rattle.bridge_model.specs.References.{refs_of_values}
use Rattle.bridge_model.specs.RootRuns.{Moved, waiting, finished, moved, is_skipped, over_with, takes_outcome, takes_at, scene_of, begins, calls_on, queries_on, asks_for, makes_new, begins_statement, next_statement, statement_at, lets_loose, idle_moves, state_moves, root_moves, same_text, StandsFor}
use Rattle.bridge_model.specs.RootRuns as runs
use Rattle.bridge_model.specs.Roots.{holds_each, is_idle, outcome_in}
use Rattle.bridge_model.specs.Settings.{Setting, own_oid}
use Rattle.bridge_model.specs.Sides.{Outcome, RootState, idle, waits_call, waits_query, answered, Tables, Side, stands, state_of}
use Rattle.bridge_model.specs.Steps.{is_root, is_outcome, has_entries, has_fed, may}
use Rattle.bridge_laws.specs.Counting.{total}
use Rattle.bridge_laws.specs.Living.{plan_constants, argument_constants}
use Rattle.bridge_laws.specs.OfPlan.{IsRoot}
use Rattle.bridge_laws.proofs.EvaluationLaws.{scene_counts, word_at_most}
use Rattle.bridge_laws.proofs.OccurrenceLaws.{ref_owes}
use Rattle.bridge_laws.proofs.PayingLaws.{stray, strays}
use Rattle.bridge_laws.proofs.Sums.{total_flat_map, got_at_most}
use Rattle.bridge_laws.specs.RootConstants.{root_statement_constants, root_constants}
use Rattle.bridge_laws.proofs.HeldMoveLaws.{loose_parts}
use Rattle.bridge_laws.proofs.HeldRunLaws.{run_held}
use Rattle.bridge_laws.proofs.ToldRunLaws.{run_told, all_right}
use Rattle.bridge_laws.proofs.HeldGivenLaws.{AreHeld, each_held, given_none, held_all, object_nulls, or_none, pair_held, peer_held, target_counts, unheld, variables_nulls}

-- ---- moves

-- what a move of a root rests on
record IsFit (g : Setting) (z : Side) (r : Run) : Type 0 where
  root : is_root g r.root ≡ true
  held : total (unheld r.root z.tables) (refs_under r.variables) ≡ 0
  told : strays g (refs_under r.variables) ≡ 0
  loose : (x : Ref) → next_loose r.loose ≡ Some x → total (unheld r.root z.tables) (object_in x) ≡ 0
  closed : root_constants g.plan ≡ []

abbrev MaySo : Setting → Side → Moved → Type 0
MaySo g z waiting = Unit
MaySo g z finished = Unit
MaySo g z (moved next None) = Unit
MaySo g z (moved next (Some e)) = may g z e ≡ true

either_may : (g : Setting) (z : Side) (b : Bool) (x y : Moved) → MaySo g z x → MaySo g z y → MaySo g z (if b then x else y)
either_may g z true x y one two = one
either_may g z false x y one two = two

full_may : (g : Setting) (z : Side) → stands z ≡ true → has_entries z ≡ true → may g z full ≡ true
unfolding may
full_may g z up much = and_from (stands z) (has_entries z || has_fed z) up (or_left (has_entries z) (has_fed z) much)

disposed_may : (g : Setting) (z : Side) → stands z ≡ true → may g z disposed ≡ true
unfolding may
disposed_may g z up = up

begins_by : (g : Setting) (z : Side) (r : Run) (e : Entry) (b c : Bool) → stands z ≡ b → has_entries z ≡ c → (stands z ≡ true → has_entries z ≡ false → may g z e ≡ true)
    → MaySo g z (if not b then moved (over_with (codes "gone") r) None else (if c then moved (over_with (codes "full") r) (Some full) else moved r (Some e)))
begins_by g z r e false c up much can = tt
begins_by g z r e true true up much can = full_may g z up much
begins_by g z r e true false up much can = can up much

begins_may : (g : Setting) (z : Side) (r : Run) (e : Entry) → (stands z ≡ true → has_entries z ≡ false → may g z e ≡ true) → MaySo g z (begins z r e)
begins_may g z r e can = begins_by g z r e (stands z) (has_entries z) refl refl can

abbrev begun_if : Setting → Side → ℕ → Bool → Bool
begun_if g z root rest = stands z && (not (has_entries z) && ((is_root g root && is_idle (state_of root z.tables.roots)) && rest))

begun_so : (g : Setting) (z : Side) (root : ℕ) (rest : Bool) → is_root g root ≡ true → state_of root z.tables.roots ≡ idle → stands z ≡ true → has_entries z ≡ false → rest ≡ true
    → begun_if g z root rest ≡ true
begun_so g z root rest is state up much fine =
    and_from (stands z) _ up
    (and_from (not (has_entries z)) _ (ap not much)
    (and_from (is_root g root && is_idle (state_of root z.tables.roots)) rest (and_from (is_root g root) (is_idle (state_of root z.tables.roots)) is (ap is_idle state)) fine))

asked_may : (g : Setting) (z : Side) (root : ℕ) (name wanted : List ℕ) → is_root g root ≡ true → state_of root z.tables.roots ≡ idle → stands z ≡ true → has_entries z ≡ false
    → may g z (asked root name wanted) ≡ true
unfolding may
asked_may g z root name wanted is state up much =
    and_from (stands z) _ up
    (and_from (not (has_entries z)) _ (ap not much) (and_from (is_root g root) (is_idle (state_of root z.tables.roots)) is (ap is_idle state)))

queried_may : (g : Setting) (z : Side) (root : ℕ) (oid face wanted : List ℕ) → is_root g root ≡ true → state_of root z.tables.roots ≡ idle
    → holds (hold (holder.Root root) (pair oid face)) z.tables.holdings ≡ true → stands z ≡ true → has_entries z ≡ false → may g z (queried root oid face wanted) ≡ true
unfolding may
queried_may g z root oid face wanted is state held up much = begun_so g z root (holds (hold (holder.Root root) (pair oid face)) z.tables.holdings) is state up much held

called_may : (g : Setting) (z : Side) (root : ℕ) (oid face : List ℕ) (function : ℕ) (args : List Plain) → is_root g root ≡ true → state_of root z.tables.roots ≡ idle
    → holds (hold (holder.Root root) (pair oid face)) z.tables.holdings ≡ true → total (unheld root z.tables) (refs_of_values args) ≡ 0 → strays g (refs_of_values args) ≡ 0
    → stands z ≡ true → has_entries z ≡ false → may g z (called root oid face function args) ≡ true
unfolding may
called_may g z root oid face function args is state held each told up much =
    begun_so g z root _ is state up much
    (and_from (holds (hold (holder.Root root) (pair oid face)) z.tables.holdings) _ held
    (and_from (holds_each root (refs_of_values args) z.tables) _ (each_held root z.tables (refs_of_values args) each) (all_right g (refs_of_values args) told)))

made_may : (g : Setting) (z : Side) (root behaviour : ℕ) (wanted : List ℕ) → is_root g root ≡ true → stands z ≡ true → has_entries z ≡ false → may g z (made root behaviour wanted) ≡ true
unfolding may
made_may g z root behaviour wanted is up much = and_from (stands z) _ up (and_from (not (has_entries z)) (is_root g root) (ap not much) is)

dropped_may : (g : Setting) (z : Side) (root : ℕ) (oid face : List ℕ) → holds (hold (holder.Root root) (pair oid face)) z.tables.holdings ≡ true → may g z (dropped root oid face) ≡ true
unfolding may
dropped_may g z root oid face held = held

took_may : (g : Setting) (z : Side) (root : ℕ) (o : Outcome) → state_of root z.tables.roots ≡ answered o → may g z (took root) ≡ true
unfolding may
took_may g z root o state = ap (λ x. is_outcome (outcome_in x)) state

-- ---- statements

asks_may : (g : Setting) (z : Side) (r : Run) (wanted : List ℕ) (o : Option (List ℕ)) → IsFit g z r → state_of r.root z.tables.roots ≡ idle → MaySo g z (asks_for z r wanted o)
asks_may g z r wanted None fit state = tt
asks_may g z r wanted (Some name) fit state = begins_may g z r (asked r.root name wanted) (λ up much. asked_may g z r.root name wanted fit.root state up much)

-- the scene of a run counts what its variables count
scene_none : (f : Ref → ℕ) (r : Run) → total f (refs_under r.variables) ≡ 0 → scene_counts f (scene_of r) ≡ 0
unfolding refs_under total
scene_none f r none = omega arith

no_constants : (f : Ref → ℕ) (rs : List Ref) → rs ≡ [] → total f rs ≡ 0
unfolding total
no_constants f rs none = ap (total f) none

args_none : (f : Ref → ℕ) (r : Run) (args : List Argument) → total f (refs_under r.variables) ≡ 0 → total f (flat_map argument_constants args) ≡ 0
    → total f (refs_of_values (unwrap_or (given_values (scene_of r) args) [])) ≡ 0
args_none f r args none constants = or_none f (given_values (scene_of r) args) (given_none f (scene_of r) args (scene_none f r none) constants)

target_none : (f : Ref → ℕ) (r : Run) (x : Plain) → total f (refs x) ≤ scene_counts f (scene_of r) → total f (refs_under r.variables) ≡ 0 → total f (object_in (object_of x)) ≡ 0
target_none f r x most none = let scene = scene_none f r none in let target = target_counts f x in omega arith

call_may : (g : Setting) (z : Side) (r : Run) (c : Call) (x : Ref) → IsFit g z r → state_of r.root z.tables.roots ≡ idle → total (unheld r.root z.tables) (object_in x) ≡ 0
    → total (unheld r.root z.tables) (flat_map argument_constants c.arguments) ≡ 0 → strays g (flat_map argument_constants c.arguments) ≡ 0 → MaySo g z (calls_on g.registry z r c x)
call_may g z r c null fit state target constants wrong = tt
call_may g z r c (own oid face) fit state target constants wrong =
    let args = unwrap_or (given_values (scene_of r) c.arguments) [] in
    begins_may g z r (called r.root oid face (number_in g.registry face c.callee) args)
    (λ up much.
    called_may g z r.root oid face (number_in g.registry face c.callee) args fit.root state (pair_held r.root z.tables (own oid face) oid face refl target)
    (args_none (unheld r.root z.tables) r c.arguments fit.held constants) (args_none (stray g) r c.arguments fit.told wrong) up much)
call_may g z r c (peer oid face) fit state target constants wrong =
    let args = unwrap_or (given_values (scene_of r) c.arguments) [] in
    begins_may g z r (called r.root oid face (number_in g.registry face c.callee) args)
    (λ up much.
    called_may g z r.root oid face (number_in g.registry face c.callee) args fit.root state (peer_held r.root z.tables (peer oid face) oid face refl target)
    (args_none (unheld r.root z.tables) r c.arguments fit.held constants) (args_none (stray g) r c.arguments fit.told wrong) up much)

query_may : (g : Setting) (z : Side) (r : Run) (q : Query) (x : Ref) → IsFit g z r → state_of r.root z.tables.roots ≡ idle → total (unheld r.root z.tables) (object_in x) ≡ 0
    → MaySo g z (queries_on z r q x)
query_may g z r q null fit state target = tt
query_may g z r q (own oid face) fit state target =
    begins_may g z r (queried r.root oid face q.wanted)
    (λ up much. queried_may g z r.root oid face q.wanted fit.root state (pair_held r.root z.tables (own oid face) oid face refl target) up much)
query_may g z r q (peer oid face) fit state target =
    begins_may g z r (queried r.root oid face q.wanted)
    (λ up much. queried_may g z r.root oid face q.wanted fit.root state (peer_held r.root z.tables (peer oid face) oid face refl target) up much)

may_as : (g : Setting) (z : Side) (next other : Run) (e d : Option Entry) → moved other d ≡ moved next e → MaySo g z (moved other d) → MaySo g z (moved next e)
may_as g z next other e d is it = subst (MaySo g z) is it

making_may : (g : Setting) (z : Side) (r next : Run) (m : Making) (e : Option Entry) (b c : Bool) → IsFit g z r → stands z ≡ b → has_entries z ≡ c → makes_new g z r m ≡ moved next e
    → MaySo g z (moved next e)
making_may g z r next m e false c fit up much is = may_as g z next (over_with (codes "gone") r) e None (rw up at is) tt
making_may g z r next m e true true fit up much is = may_as g z next (over_with (codes "full") r) e (Some full) (rw (up, much) at is) (full_may g z up much)
making_may g z r next m e true false fit up much is =
    may_as g z next
    (over_with (codes "returned " ++ print g.registry (v.ref (own (own_oid g (suc z.tables.objects_made)) m.face))) (runs.adds m.to (v.ref (own (own_oid g (suc z.tables.objects_made)) m.face)) r)) e
    (Some (made r.root m.behaviour m.face)) (rw (up, much) at is) (made_may g z r.root m.behaviour m.face fit.root up much)

by_making : (g : Setting) (z : Side) (r : Run) (m : Making) (x : Moved) → IsFit g z r → makes_new g z r m ≡ x → MaySo g z x
by_making g z r m waiting fit is = tt
by_making g z r m finished fit is = tt
by_making g z r m (moved next e) fit is = making_may g z r next m e (stands z) (has_entries z) fit refl refl is

dispose_by : (g : Setting) (z : Side) (r : Run) (b : Bool) → stands z ≡ b → MaySo g z (moved (runs.goes_over r) (if b then Some disposed else None))
dispose_by g z r true up = disposed_may g z up
dispose_by g z r false up = tt

statement_may : (g : Setting) (z : Side) (r : Run) (s : RootStatement) → IsFit g z r → state_of r.root z.tables.roots ≡ idle
    → total (unheld r.root z.tables) (root_statement_constants s) ≡ 0 → strays g (root_statement_constants s) ≡ 0 → MaySo g z (begins_statement g z r s)
unfolding begins_statement
statement_may g z r (ask to wanted name) fit state constants wrong = asks_may g z r wanted (asked_name r.instance (ask to wanted name)) fit state
statement_may g z r (ask_instance to wanted) fit state constants wrong = asks_may g z r wanted (asked_name r.instance (ask_instance to wanted)) fit state
statement_may g z r (root_call c) fit state constants wrong =
    call_may g z r c (object_of (value_of_word (scene_of r) c.target)) fit state
    (target_none (unheld r.root z.tables) r (value_of_word (scene_of r) c.target) (word_at_most (unheld r.root z.tables) (scene_of r) c.target) fit.held) constants wrong
statement_may g z r (root_query q) fit state constants wrong =
    query_may g z r q (object_of (value_of_word (scene_of r) q.target)) fit state
    (target_none (unheld r.root z.tables) r (value_of_word (scene_of r) q.target) (word_at_most (unheld r.root z.tables) (scene_of r) q.target) fit.held)
statement_may g z r (root_make m) fit state constants wrong = by_making g z r m (makes_new g z r m) fit refl
statement_may g z r (root_drop name) fit state constants wrong = tt
statement_may g z r (same a b) fit state constants wrong = tt
statement_may g z r root_dispose fit state constants wrong = dispose_by g z r (stands z) refl

-- the constants of a statement are some of the plan's
thread_none : (f : Ref → ℕ) (g : Setting) (n place : ℕ) (o : Option (List RootStatement)) (s : RootStatement) → root_constants g.plan ≡ [] → slice_get g.plan.threads n ≡ o
    → slice_get (statements_in o) place ≡ Some s → total f (root_statement_constants s) ≡ 0
unfolding root_constants
thread_none f g n place None s closed is at = absurd (cc)
thread_none f g n place (Some ss) s closed is at =
    let none = no_constants f (flat_map (λ t. flat_map root_statement_constants t) g.plan.threads) closed in
    let all = total_flat_map f (λ t. flat_map root_statement_constants t) g.plan.threads in
    let one = got_at_most (λ t. total f (flat_map root_statement_constants t)) g.plan.threads n ss is in
    let each = total_flat_map f root_statement_constants ss in
    let here = got_at_most (λ x. total f (root_statement_constants x)) ss place s at in omega arith

statement_none : (f : Ref → ℕ) (g : Setting) (root place : ℕ) (s : RootStatement) → root_constants g.plan ≡ [] → slice_get (statements_of g.plan root) place ≡ Some s
    → total f (root_statement_constants s) ≡ 0
unfolding statements_of
statement_none f g zero place s closed at = absurd (cc)
statement_none f g (suc n) place s closed at = thread_none f g n place (slice_get g.plan.threads n) s closed refl at

next_may : (g : Setting) (z : Side) (r : Run) (o : Option RootStatement) → IsFit g z r → state_of r.root z.tables.roots ≡ idle → statement_at g r ≡ o → MaySo g z (next_statement g z r o)
next_may g z r None fit state at = tt
next_may g z r (Some s) fit state at =
    either_may g z (is_skipped r.variables s) (moved (over_with (codes "skipped") r) None) (begins_statement g z r s) tt
    (statement_may g z r s fit state (statement_none (unheld r.root z.tables) g r.root r.place s fit.closed at) (statement_none (stray g) g r.root r.place s fit.closed at))

loose_may : (g : Setting) (z : Side) (r : Run) (x : Ref) → IsFit g z r → next_loose r.loose ≡ Some x → MaySo g z (lets_loose r x)
loose_may g z r null fit is = tt
loose_may g z r (own oid face) fit is = dropped_may g z r.root oid face (pair_held r.root z.tables (own oid face) oid face refl (fit.loose (own oid face) is))
loose_may g z r (peer oid face) fit is = dropped_may g z r.root oid face (peer_held r.root z.tables (peer oid face) oid face refl (fit.loose (peer oid face) is))

idle_may : (g : Setting) (z : Side) (r : Run) (o : Option Ref) → IsFit g z r → state_of r.root z.tables.roots ≡ idle → next_loose r.loose ≡ o → MaySo g z (idle_moves g z r o)
idle_may g z r (Some x) fit state is = loose_may g z r x fit is
idle_may g z r None fit state is = next_may g z r (statement_at g r) fit state refl

takes_may : (g : Setting) (z : Side) (r : Run) (o : Outcome) (s : Option RootStatement) → state_of r.root z.tables.roots ≡ answered o → MaySo g z (takes_at g r o s)
takes_may g z r o None state = tt
takes_may g z r o (Some s) state = took_may g z r.root o state

state_may : (g : Setting) (z : Side) (r : Run) (x : RootState) → IsFit g z r → state_of r.root z.tables.roots ≡ x → MaySo g z (state_moves g z r x)
state_may g z r idle fit state = idle_may g z r (next_loose r.loose) fit state refl
state_may g z r waits_call fit state = tt
state_may g z r (waits_query wanted) fit state = tt
state_may g z r (answered o) fit state = takes_may g z r o (statement_at g r) state

root_may : (g : Setting) (z : Side) (r next : Run) (e : Entry) → IsFit g z r → root_moves g z r ≡ moved next (Some e) → may g z e ≡ true
unfolding root_moves
root_may g z r next e fit is = subst (MaySo g z) is (state_may g z r (state_of r.root z.tables.roots) fit refl)

-- ---- runs

-- a run that stands for a history has what its root holds
variables_held : (g : Setting) (es : List Entry) (r : Run) (x : Told) → Leads g es x → StandsFor g es r → AreHeld r.root (refs_under r.variables) x.side.tables
variables_held g es r x leads stands p = let held = run_held g (hold (holder.Root r.root) p) es r stands refl x leads in omega arith

one_less : (k : ℕ) (t : Tables) (y : Ref) (rs : List Ref) → next_loose rs ≡ Some y → AreHeld k rs t → AreHeld k (object_in y) t
unfolding total ref_owes
one_less k t null rs is held p = omega arith
one_less k t (own oid face) rs is held p = let parts = loose_parts (ref_owes (hold (holder.Root k) p) (holder.Root k)) (own oid face) rs is in let all = held p in omega arith
one_less k t (peer oid face) rs is held p = let parts = loose_parts (ref_owes (hold (holder.Root k) p) (holder.Root k)) (peer oid face) rs is in let all = held p in omega arith

loose_held : (g : Setting) (es : List Entry) (r : Run) (x : Told) → Leads g es x → StandsFor g es r → AreHeld r.root r.loose x.side.tables
loose_held g es r x leads stands p = let held = run_held g (hold (holder.Root r.root) p) es r stands refl x leads in omega arith

is_root_of : (g : Setting) (root : ℕ) → IsRoot g root → is_root g root ≡ true
is_root_of g root within =
    let first = within.0 in
    and_from (nat_lt 0 root) (not (nat_lt (length g.plan.threads) root)) (lt-ltb 0 root (omega arith)) (ap not (le-ltb (length g.plan.threads) root within.1))

run_fits : (g : Setting) (es : List Entry) (r : Run) (x : Told) → plan_constants g.plan ≡ [] → root_constants g.plan ≡ [] → IsRoot g r.root → Leads g es x → StandsFor g es r → IsFit g x.side r
run_fits g es r x plan roots within leads stands =
    record {
      root = is_root_of g r.root within;
      held = held_all r.root x.side.tables (refs_under r.variables) (variables_nulls r.variables) (variables_held g es r x leads stands);
      told = let all = run_told g es r plan stands in omega arith;
      loose =
          λ y is. held_all r.root x.side.tables (object_in y) (object_nulls y) (one_less r.root x.side.tables y r.loose is (loose_held g es r x leads stands));
      closed = roots;
    }

-- ---- the law

pub own_entry_may : (g : Setting) (es : List Entry) (r next : Run) (e : Entry) (x : Told) → plan_constants g.plan ≡ [] → root_constants g.plan ≡ [] → IsRoot g r.root → Leads g es x → StandsFor g es r
    → root_moves g x.side r ≡ moved next (Some e) → may g x.side e ≡ true
own_entry_may g es r next e x plan roots within leads stands is = root_may g x.side r next e (run_fits g es r x plan roots within leads stands) is
