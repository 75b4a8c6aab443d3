-- A move of a root: what its run has behind it is what it had, without what its entry lets go and with what its entry gains.
use Rattle.std.proofs.Common.{◌≡◌, refl, ap, subst, ◌∙◌, ℕ, suc, ◌+◌, ◌≤◌, Bool, true, false, not, cond, ◌==◌, eq-eqb, if◌then◌else◌, List, [], ◌∷◌, ◌++◌, Option, None, Some, codes, arith}
use Rattle.std.specs.Option.{option_map, unwrap_or}
use Rattle.literal_model.specs.Literals.{print}
use Rattle.message_model.specs.Messages.{returned, raised}
use Rattle.uno_model.specs.Values.{Ref, null, own, peer, Plain, refs}
use Rattle.uno_model.specs.Values as v
use Rattle.table_model.specs.Holdings.{Hold}
use Rattle.table_model.specs.declared.holder.Holder.{Holder}
use Rattle.plan_model.specs.Calling.{given_values, number_in, object_of}
use Rattle.plan_model.specs.Evaluation.{value_under, value_of_word, same_value}
use Rattle.plan_model.specs.Expressions.{Argument, into, out, both}
use Rattle.plan_model.specs.Holdings.{refs_under}
use Rattle.plan_model.specs.Roots.{Run, asked_name, next_loose, less_loose}
use Rattle.plan_model.specs.Statements.{Call, Query, Making, RootStatement, ask, ask_instance, root_call, root_query, root_make, root_drop, same, root_dispose}
use Rattle.bridge_model.specs.Entries.{Entry, asked, called, queried, made, took, disposed, full}
use Rattle.bridge_model.specs.References.{refs_of_values}
use Rattle.bridge_model.specs.RootRuns.{Moved, waiting, finished, moved, is_skipped, outcome_text, over_with, with_loose, puts, puts_outs, adds_result, takes_outcome, takes_at, scene_of, begins, calls_on, queries_on, asks_for, makes_new, begins_statement, next_statement, statement_at, lets_loose, idle_moves, state_moves, root_moves, same_text}
use Rattle.bridge_model.specs.RootRuns as runs
use Rattle.bridge_model.specs.Settings.{Setting, is_own, own_oid, ref_of}
use Rattle.bridge_model.specs.Sides.{Outcome, answer, RootState, idle, waits_call, waits_query, answered, Side, stands, state_of}
use Rattle.bridge_model.specs.Steps.{has_entries}
use Rattle.bridge_laws.specs.Counting.{total}
use Rattle.bridge_laws.proofs.ApplyingLaws.{own_owes}
use Rattle.bridge_laws.proofs.HandingLaws.{returned_owes, raised_owes}
use Rattle.bridge_laws.proofs.OccurrenceLaws.{ref_owes}
use Rattle.bridge_laws.proofs.Sums.{total_append}
use Rattle.bridge_laws.proofs.VariableLaws.{put_owes, without_owes, with_variable_owes, values_more}
use Rattle.bridge_laws.specs.RootReferences.{outcome_refs}
use Rattle.bridge_laws.proofs.StateLaws.{state_counts, counts_in, gain, loss}

-- ---- words

-- what the references of a run count
abbrev pub has : (Ref → ℕ) → Run → ℕ
has f r = total f (refs_under r.variables) + total f r.loose

-- the same root, with so much more at most
record Takes (f : Ref → ℕ) (r next : Run) (m : ℕ) : Type 0 where
  root : next.root ≡ r.root
  most : has f next ≤ has f r + m

abbrev pub gain_of : Setting → (Ref → ℕ) → ℕ → Side → Option Entry → ℕ
gain_of g f k z None = 0
gain_of g f k z (Some e) = gain g f k z e

abbrev pub loss_of : Setting → (Ref → ℕ) → ℕ → Option Entry → ℕ
loss_of g f k None = 0
loss_of g f k (Some e) = loss g f k e

-- a count under which a reference that is told by its identity counts no more than one that is told otherwise
pub record IsHomely (g : Setting) (f : Ref → ℕ) : Type 0 where
  pub own_one : (oid face : List ℕ) → f (ref_of g oid face) ≤ f (own oid face)
  pub peer_one : (oid face : List ℕ) → f (ref_of g oid face) ≤ f (peer oid face)

-- the same root, with what the entry gains at most, and without what it lets go
pub record Moves (g : Setting) (f : Ref → ℕ) (z : Side) (r next : Run) (e : Option Entry) : Type 0 where
  pub root : next.root ≡ r.root
  pub most : has f next + loss_of g f r.root e ≤ has f r + gain_of g f r.root z e

abbrev MovesSo : Setting → (Ref → ℕ) → Side → Run → Moved → Type 0
MovesSo g f z r waiting = Unit
MovesSo g f z r finished = Unit
MovesSo g f z r (moved next e) = Moves g f z r next e

-- ---- outcomes

puts_owe : (f : Ref → ℕ) (name : List ℕ) (x : Plain) (r : Run) → Takes f r (puts name x r) (total f (refs x))
puts_owe f name x r =
    let placed = put_owes f name x r.variables in
    let gone = total_append f r.loose (refs (value_under name r.variables)) in record { root = refl; most = omega arith }

one_more : (f : Ref → ℕ) (r s t : Run) (x : Plain) (xs : List Plain) → Takes f r s (total f (refs x)) → Takes f s t (total f (refs_of_values xs)) → Takes f r t (total f (refs_of_values (x ∷ xs)))
one_more f r s t x xs first later =
    let most = first.most in let more = later.most in let parts = values_more f x xs in record { root = later.root ∙ first.root; most = omega arith }

puts_all_owe : (f : Ref → ℕ) (args : List Argument) (xs : List Plain) (r : Run) → Takes f r (puts_outs args xs r) (total f (refs_of_values xs))
unfolding puts_outs
puts_all_owe f [] xs r = record { root = refl; most = omega arith }
puts_all_owe f (into a ∷ args) xs r = puts_all_owe f args xs r
puts_all_owe f (out name ∷ args) [] r = record { root = refl; most = omega arith }
puts_all_owe f (out name ∷ args) (x ∷ xs) r = one_more f r (puts name x r) (puts_outs args xs (puts name x r)) x xs (puts_owe f name x r) (puts_all_owe f args xs (puts name x r))
puts_all_owe f (both name ∷ args) [] r = record { root = refl; most = omega arith }
puts_all_owe f (both name ∷ args) (x ∷ xs) r = one_more f r (puts name x r) (puts_outs args xs (puts name x r)) x xs (puts_owe f name x r) (puts_all_owe f args xs (puts name x r))

loose_owes : (f : Ref → ℕ) (x : Plain) (r : Run) → Takes f r (with_loose x r) (total f (refs x))
loose_owes f x r = let more = total_append f r.loose (refs x) in record { root = refl; most = omega arith }

adds_owe : (f : Ref → ℕ) (name : List ℕ) (x : Plain) (r : Run) → Takes f r (runs.adds name x r) (total f (refs x))
adds_owe f name x r = let more = with_variable_owes f name x r.variables in record { root = refl; most = omega arith }

result_owes : (f : Ref → ℕ) (to : Option (List ℕ)) (x : Plain) (r : Run) → Takes f r (adds_result to x r) (total f (refs x))
result_owes f None x r = loose_owes f x r
result_owes f (Some name) x r = adds_owe f name x r

both_owe : (f : Ref → ℕ) (r s t : Run) (x : Plain) (outs : List Plain) → Takes f r s (total f (refs x)) → Takes f s t (total f (refs_of_values outs))
    → Takes f r t (total f (outcome_refs (answer (returned x outs))))
both_owe f r s t x outs first later =
    let most = first.most in let more = later.most in let parts = returned_owes f x outs in record { root = later.root ∙ first.root; most = omega arith }

first_owes : (f : Ref → ℕ) (r s : Run) (x : Plain) (outs : List Plain) → Takes f r s (total f (refs x)) → Takes f r s (total f (outcome_refs (answer (returned x outs))))
first_owes f r s x outs first = let most = first.most in let parts = returned_owes f x outs in record { root = first.root; most = omega arith }

nothing_owes : (f : Ref → ℕ) (r : Run) (m : ℕ) → Takes f r r m
nothing_owes f r m = record { root = refl; most = omega arith }

outcome_owes : (f : Ref → ℕ) (s : RootStatement) (o : Outcome) (r : Run) → Takes f r (takes_outcome s o r) (total f (outcome_refs o))
unfolding takes_outcome
outcome_owes f (root_call c) (answer (returned x outs)) r =
    let added = adds_result (option_map (λ f. f.name) c.to) x r in
    both_owe f r added (puts_outs c.arguments outs added) x outs (result_owes f (option_map (λ f. f.name) c.to) x r) (puts_all_owe f c.arguments outs added)
outcome_owes f (root_query q) (answer (returned x outs)) r = first_owes f r (runs.adds q.to x r) x outs (adds_owe f q.to x r)
outcome_owes f (ask to wanted name) (answer (returned x outs)) r = first_owes f r (runs.adds to x r) x outs (adds_owe f to x r)
outcome_owes f (ask_instance to wanted) (answer (returned x outs)) r = first_owes f r (runs.adds to x r) x outs (adds_owe f to x r)
outcome_owes f s (answer (raised j x)) r =
    let parts = raised_owes f j x in let loose = loose_owes f x r in let most = loose.most in record { root = refl; most = omega arith }
outcome_owes f s o r = nothing_owes f r (total f (outcome_refs o))

-- ---- what a move is

moves_as : (g : Setting) (f : Ref → ℕ) (z : Side) (r next other : Run) (e d : Option Entry) → moved other d ≡ moved next e → Moves g f z r other d → Moves g f z r next e
moves_as g f z r next other e d is it = subst (MovesSo g f z r) is it

-- a run that has no more, and an entry that lets nothing go
quiet_move : (g : Setting) (f : Ref → ℕ) (z : Side) (r next : Run) (e : Option Entry) → loss_of g f r.root e ≡ 0 → Takes f r next 0 → Moves g f z r next e
quiet_move g f z r next e none takes = let most = takes.most in record { root = takes.root; most = omega arith }

over_move : (g : Setting) (f : Ref → ℕ) (z : Side) (r : Run) (text : List ℕ) (e : Option Entry) → loss_of g f r.root e ≡ 0 → Moves g f z r (over_with text r) e
over_move g f z r text e none = quiet_move g f z r (over_with text r) e none (record { root = refl; most = omega arith })

either_move : (g : Setting) (f : Ref → ℕ) (z : Side) (r : Run) (b : Bool) (x y : Moved) → MovesSo g f z r x → MovesSo g f z r y → MovesSo g f z r (if b then x else y)
either_move g f z r true x y one two = one
either_move g f z r false x y one two = two

begins_moves : (g : Setting) (f : Ref → ℕ) (z : Side) (r : Run) (e : Entry) → loss g f r.root e ≡ 0 → MovesSo g f z r (begins z r e)
begins_moves g f z r e none =
    either_move g f z r (not (stands z)) (moved (over_with (codes "gone") r) None) (if has_entries z then moved (over_with (codes "full") r) (Some full) else moved r (Some e))
    (over_move g f z r (codes "gone") None refl)
    (either_move g f z r (has_entries z) (moved (over_with (codes "full") r) (Some full)) (moved r (Some e)) (over_move g f z r (codes "full") (Some full) refl)
    (quiet_move g f z r r (Some e) none (nothing_owes f r 0)))

-- ---- a new object

pub own_root : (k n : ℕ) → cond (k == k) n 0 ≡ n
own_root k n = ap (λ b. cond b n 0) (eq-eqb k k refl)

makes_takes : (g : Setting) (f : Ref → ℕ) (z : Side) (r : Run) (m : Making) (text : List ℕ)
    → Moves g f z r (over_with text (runs.adds m.to (v.ref (own (own_oid g (suc z.tables.objects_made)) m.face)) r)) (Some (made r.root m.behaviour m.face))
makes_takes g f z r m text =
    let adds = adds_owe f m.to (v.ref (own (own_oid g (suc z.tables.objects_made)) m.face)) r in
    let most = adds.most in
    let one = own_owes f (own_oid g (suc z.tables.objects_made)) m.face in
    let mine = own_root r.root (f (own (own_oid g (suc z.tables.objects_made)) m.face)) in record { root = refl; most = omega arith }

making_moves : (g : Setting) (f : Ref → ℕ) (z : Side) (r next : Run) (m : Making) (e : Option Entry) (b c : Bool) → stands z ≡ b → has_entries z ≡ c → makes_new g z r m ≡ moved next e → Moves g f z r next e
making_moves g f z r next m e false c up much is = moves_as g f z r next (over_with (codes "gone") r) e None (rw up at is) (over_move g f z r (codes "gone") None refl)
making_moves g f z r next m e true true up much is = moves_as g f z r next (over_with (codes "full") r) e (Some full) (rw (up, much) at is) (over_move g f z r (codes "full") (Some full) refl)
making_moves g f z r next m e true false up much is =
    moves_as g f z r next
    (over_with (codes "returned " ++ print g.registry (v.ref (own (own_oid g (suc z.tables.objects_made)) m.face))) (runs.adds m.to (v.ref (own (own_oid g (suc z.tables.objects_made)) m.face)) r)) e
    (Some (made r.root m.behaviour m.face)) (rw (up, much) at is)
    (makes_takes g f z r m (codes "returned " ++ print g.registry (v.ref (own (own_oid g (suc z.tables.objects_made)) m.face))))

by_making : (g : Setting) (f : Ref → ℕ) (z : Side) (r : Run) (m : Making) (x : Moved) → makes_new g z r m ≡ x → MovesSo g f z r x
by_making g f z r m waiting is = tt
by_making g f z r m finished is = tt
by_making g f z r m (moved next e) is = making_moves g f z r next m e (stands z) (has_entries z) refl refl is

-- ---- statements

asks_moves : (g : Setting) (f : Ref → ℕ) (z : Side) (r : Run) (wanted : List ℕ) (o : Option (List ℕ)) → MovesSo g f z r (asks_for z r wanted o)
asks_moves g f z r wanted None = tt
asks_moves g f z r wanted (Some name) = begins_moves g f z r (asked r.root name wanted) refl

null_moves : (g : Setting) (f : Ref → ℕ) (z : Side) (r : Run) → Moves g f z r (over_with (codes "null") r) None
null_moves g f z r = over_move g f z r (codes "null") None refl

call_moves : (g : Setting) (f : Ref → ℕ) (z : Side) (r : Run) (c : Call) (x : Ref) → MovesSo g f z r (calls_on g.registry z r c x)
call_moves g f z r c null = null_moves g f z r
call_moves g f z r c (own oid face) = begins_moves g f z r (called r.root oid face (number_in g.registry face c.callee) (unwrap_or (given_values (scene_of r) c.arguments) [])) refl
call_moves g f z r c (peer oid face) = begins_moves g f z r (called r.root oid face (number_in g.registry face c.callee) (unwrap_or (given_values (scene_of r) c.arguments) [])) refl

query_moves : (g : Setting) (f : Ref → ℕ) (z : Side) (r : Run) (q : Query) (x : Ref) → MovesSo g f z r (queries_on z r q x)
query_moves g f z r q null = null_moves g f z r
query_moves g f z r q (own oid face) = begins_moves g f z r (queried r.root oid face q.wanted) refl
query_moves g f z r q (peer oid face) = begins_moves g f z r (queried r.root oid face q.wanted) refl

drop_moves : (g : Setting) (f : Ref → ℕ) (z : Side) (r : Run) (name : List ℕ) → Moves g f z r (runs.goes_over (runs.drops name r)) None
drop_moves g f z r name =
    let gone = without_owes f name r.variables in
    let more = total_append f r.loose (refs (value_under name r.variables)) in record { root = refl; most = omega arith }

dispose_moves : (g : Setting) (f : Ref → ℕ) (z : Side) (r : Run) (b : Bool) → MovesSo g f z r (moved (runs.goes_over r) (if b then Some disposed else None))
dispose_moves g f z r true = record { root = refl; most = omega arith }
dispose_moves g f z r false = record { root = refl; most = omega arith }

statement_moves : (g : Setting) (f : Ref → ℕ) (z : Side) (r : Run) (s : RootStatement) → MovesSo g f z r (begins_statement g z r s)
unfolding begins_statement
statement_moves g f z r (ask to wanted name) = asks_moves g f z r wanted (asked_name r.instance (ask to wanted name))
statement_moves g f z r (ask_instance to wanted) = asks_moves g f z r wanted (asked_name r.instance (ask_instance to wanted))
statement_moves g f z r (root_call c) = call_moves g f z r c (object_of (value_of_word (scene_of r) c.target))
statement_moves g f z r (root_query q) = query_moves g f z r q (object_of (value_of_word (scene_of r) q.target))
statement_moves g f z r (root_make m) = by_making g f z r m (makes_new g z r m) refl
statement_moves g f z r (root_drop name) = drop_moves g f z r name
statement_moves g f z r (same a b) = over_move g f z r (same_text (same_value (value_under a r.variables) (value_under b r.variables))) None refl
statement_moves g f z r root_dispose = dispose_moves g f z r (stands z)

next_moves : (g : Setting) (f : Ref → ℕ) (z : Side) (r : Run) (o : Option RootStatement) → MovesSo g f z r (next_statement g z r o)
next_moves g f z r None = tt
next_moves g f z r (Some s) =
    either_move g f z r (is_skipped r.variables s) (moved (over_with (codes "skipped") r) None) (begins_statement g z r s) (over_move g f z r (codes "skipped") None refl) (statement_moves g f z r s)

-- ---- loose references and outcomes

pub loose_parts : (f : Ref → ℕ) (x : Ref) (rs : List Ref) → next_loose rs ≡ Some x → f x + total f (less_loose rs) ≡ total f rs
unfolding total
loose_parts f x [] is = absurd (cc)
loose_parts f x (y ∷ rs) is = let one : y ≡ x = cc in let alike : f y ≡ f x = ap f one in omega arith

loose_moves : (g : Setting) (f : Ref → ℕ) (z : Side) (r : Run) (x : Ref) → IsHomely g f → next_loose r.loose ≡ Some x → MovesSo g f z r (lets_loose r x)
loose_moves g f z r null homely is = let parts = loose_parts f null r.loose is in record { root = refl; most = omega arith }
loose_moves g f z r (own oid face) homely is =
    let parts = loose_parts f (own oid face) r.loose is in
    let mine = own_root r.root (f (ref_of g oid face)) in
    let most = homely.own_one oid face in record { root = refl; most = omega arith }
loose_moves g f z r (peer oid face) homely is =
    let parts = loose_parts f (peer oid face) r.loose is in
    let mine = own_root r.root (f (ref_of g oid face)) in
    let most = homely.peer_one oid face in record { root = refl; most = omega arith }

idle_moves_so : (g : Setting) (f : Ref → ℕ) (z : Side) (r : Run) (o : Option Ref) → IsHomely g f → next_loose r.loose ≡ o → MovesSo g f z r (idle_moves g z r o)
idle_moves_so g f z r (Some x) homely is = loose_moves g f z r x homely is
idle_moves_so g f z r None homely is = next_moves g f z r (statement_at g r)

took_gain : (g : Setting) (f : Ref → ℕ) (z : Side) (k : ℕ) (o : Outcome) → state_of k z.tables.roots ≡ answered o → gain g f k z (took k) ≡ total f (outcome_refs o)
unfolding state_counts
took_gain g f z k o has_it = own_root k (counts_in f k z.tables.roots) ∙ ap (state_counts f) has_it

took_moves : (g : Setting) (f : Ref → ℕ) (z : Side) (r : Run) (o : Outcome) (s : Option RootStatement) → state_of r.root z.tables.roots ≡ answered o → MovesSo g f z r (takes_at g r o s)
took_moves g f z r o None has_it = tt
took_moves g f z r o (Some s) has_it =
    let takes = outcome_owes f s o r in
    let most = takes.most in let gains = took_gain g f z r.root o has_it in record { root = takes.root; most = omega arith }

state_moves_so : (g : Setting) (f : Ref → ℕ) (z : Side) (r : Run) (x : RootState) → IsHomely g f → state_of r.root z.tables.roots ≡ x → MovesSo g f z r (state_moves g z r x)
state_moves_so g f z r idle homely is = idle_moves_so g f z r (next_loose r.loose) homely refl
state_moves_so g f z r waits_call homely is = tt
state_moves_so g f z r (waits_query wanted) homely is = tt
state_moves_so g f z r (answered o) homely is = took_moves g f z r o (statement_at g r) is

pub root_moves_so : (g : Setting) (f : Ref → ℕ) (z : Side) (r next : Run) (e : Option Entry) → IsHomely g f → root_moves g z r ≡ moved next e → Moves g f z r next e
unfolding root_moves
root_moves_so g f z r next e homely is = subst (MovesSo g f z r) is (state_moves_so g f z r (state_of r.root z.tables.roots) homely refl)

-- ---- counts

told_owes : (h : Hold) (who : Holder) (oid face : List ℕ) (b : Bool) → ref_owes h who (if b then own oid face else peer oid face) ≡ ref_owes h who (own oid face)
unfolding ref_owes
told_owes h who oid face true = refl
told_owes h who oid face false = refl

there_owes : (h : Hold) (who : Holder) (oid face : List ℕ) → ref_owes h who (peer oid face) ≡ ref_owes h who (own oid face)
unfolding ref_owes
there_owes h who oid face = refl

-- occurrences count alike, however they are told
pub occurrences_homely : (g : Setting) (h : Hold) (who : Holder) → IsHomely g (ref_owes h who)
unfolding ref_of
occurrences_homely g h who =
    record {
      own_one = λ oid face. let alike = told_owes h who oid face (is_own g oid) in omega arith;
      peer_one = λ oid face. let alike = told_owes h who oid face (is_own g oid) in let there = there_owes h who oid face in omega arith;
    }

-- what counts nothing
pub nothing_homely : (g : Setting) → IsHomely g (λ r. 0)
nothing_homely g = record { own_one = λ oid face. omega arith; peer_one = λ oid face. omega arith }
