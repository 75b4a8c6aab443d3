-- What a move of a root does: it stays at its statement, or is over with it, with a line or without.
use Rattle.std.proofs.Common.{◌≡◌, refl, sym, ap, subst, ◌∙◌, ℕ, suc, Bool, true, false, not, List, [], ◌∷◌, ◌++◌, Option, None, Some, codes, if◌then◌else◌}
use Rattle.std.specs.Fmt.{decimal}
use Rattle.std.specs.Option.{option_map}
use Rattle.literal_model.specs.Literals.{print}
use Rattle.message_model.specs.Messages.{returned, raised}
use Rattle.uno_model.specs.Values.{Ref, null, own, peer, Plain}
use Rattle.uno_model.specs.Values as v
use Rattle.plan_model.specs.Calling.{object_of}
use Rattle.plan_model.specs.Evaluation.{value_under, value_of_word, same_value}
use Rattle.plan_model.specs.Expressions.{Argument, into, out, both}
use Rattle.plan_model.specs.Roots.{Run, asked_name, next_loose}
use Rattle.plan_model.specs.Statements.{Call, Query, Making, RootStatement, ask, ask_instance, root_call, root_query, root_make, root_drop, same, root_dispose}
use Rattle.bridge_model.specs.Entries.{Entry, made, dropped, took, disposed, full}
use Rattle.bridge_model.specs.RootRuns.{Moved, waiting, finished, moved, is_skipped, outcome_text, line_of, over_with, puts, puts_outs, adds_result, takes_outcome, takes_at, scene_of, begins, calls_on, queries_on, asks_for, makes_new, begins_statement, begins_unless_skipped, next_statement, statement_at, lets_loose, idle_moves, state_moves, root_moves, same_text}
use Rattle.bridge_model.specs.RootRuns as runs
use Rattle.bridge_model.specs.Settings.{Setting, own_oid}
use Rattle.bridge_model.specs.Sides.{Outcome, answer, RootState, idle, waits_call, waits_query, answered, Side, stands, state_of}
use Rattle.bridge_model.specs.Steps.{has_entries}
use Rattle.bridge_laws.specs.Lines.{HasNull, IsBegun, Says, is_skipped_line, is_null_line, compares, takes, makes, is_gone, is_full, Silent, drops_one, disposes, is_disposed}

-- the same root, at this place with these lines
pub record Reaches (r next : Run) (place : ℕ) (ls : List (List ℕ)) : Type 0 where
  pub root : next.root ≡ r.root
  pub place_is : next.place ≡ place
  pub lines_are : next.lines ≡ ls

pub data Goes (g : Setting) (z : Side) (r next : Run) (e : Option Entry) : Type 0 where
  stays : Reaches r next r.place r.lines → Goes g z r next e
  is_over : (s : RootStatement) → statement_at g r ≡ Some s → Silent z s e → Reaches r next (suc r.place) r.lines → Goes g z r next e
  gives : (s : RootStatement) → (text : List ℕ) → statement_at g r ≡ Some s → Says g z r s e text → Reaches r next (suc r.place) (r.lines ++ line_of r text ∷ []) → Goes g z r next e

-- ---- what an outcome changes

same_run : (r : Run) → Reaches r r r.place r.lines
same_run r = record { root = refl; place_is = refl; lines_are = refl }

then_same : (r s t : Run) → Reaches r s r.place r.lines → Reaches s t s.place s.lines → Reaches r t r.place r.lines
then_same r s t p q = record { root = q.root ∙ p.root; place_is = q.place_is ∙ p.place_is; lines_are = q.lines_are ∙ p.lines_are }

puts_same : (args : List Argument) (xs : List Plain) (r : Run) → Reaches r (puts_outs args xs r) r.place r.lines
unfolding puts_outs
puts_same [] xs r = same_run r
puts_same (into a ∷ args) xs r = puts_same args xs r
puts_same (out name ∷ args) [] r = same_run r
puts_same (out name ∷ args) (x ∷ xs) r = then_same r (puts name x r) _ (record { root = refl; place_is = refl; lines_are = refl }) (puts_same args xs (puts name x r))
puts_same (both name ∷ args) [] r = same_run r
puts_same (both name ∷ args) (x ∷ xs) r = then_same r (puts name x r) _ (record { root = refl; place_is = refl; lines_are = refl }) (puts_same args xs (puts name x r))

adds_same : (to : Option (List ℕ)) (x : Plain) (r : Run) → Reaches r (adds_result to x r) r.place r.lines
adds_same None x r = record { root = refl; place_is = refl; lines_are = refl }
adds_same (Some name) x r = record { root = refl; place_is = refl; lines_are = refl }

outcome_same : (s : RootStatement) (o : Outcome) (r : Run) → Reaches r (takes_outcome s o r) r.place r.lines
unfolding takes_outcome
outcome_same (root_call c) (answer (returned x outs)) r =
    let added = adds_result (option_map (λ f. f.name) c.to) x r in then_same r added _ (adds_same (option_map (λ f. f.name) c.to) x r) (puts_same c.arguments outs added)
outcome_same (root_query q) (answer (returned x outs)) r = record { root = refl; place_is = refl; lines_are = refl }
outcome_same (ask to wanted name) (answer (returned x outs)) r = record { root = refl; place_is = refl; lines_are = refl }
outcome_same (ask_instance to wanted) (answer (returned x outs)) r = record { root = refl; place_is = refl; lines_are = refl }
outcome_same s (answer (raised k x)) r = record { root = refl; place_is = refl; lines_are = refl }
outcome_same s o r = same_run r

-- ---- what a move is

moved_same : (next other : Run) (e d : Option Entry) → moved other d ≡ moved next e → (other ≡ next) × (d ≡ e)
moved_same next other e d is = (cc, cc)

-- a move that is known
by_move : (g : Setting) (z : Side) (r next other : Run) (e d : Option Entry) → moved other d ≡ moved next e → Goes g z r other d → Goes g z r next e
by_move g z r next other e d is goes =
    let both = moved_same next other e d is in subst (λ x. Goes g z r next x) both.1 (subst (λ x. Goes g z r x d) both.0 goes)

not_moved : {X : Type 0} (next : Run) (e : Option Entry) → finished ≡ moved next e → X
not_moved next e is = absurd (cc)

not_waiting : {X : Type 0} (next : Run) (e : Option Entry) → waiting ≡ moved next e → X
not_waiting next e is = absurd (cc)

over : (r : Run) (text : List ℕ) → Reaches r (over_with text r) (suc r.place) (r.lines ++ line_of r text ∷ [])
over r text = record { root = refl; place_is = refl; lines_are = refl }

-- ---- a statement that needs the bridge

begins_by : (g : Setting) (z : Side) (r next : Run) (s : RootStatement) (x : Entry) (e : Option Entry) (b c : Bool) → stands z ≡ b → has_entries z ≡ c → statement_at g r ≡ Some s → IsBegun r s
    → (if not b then moved (over_with (codes "gone") r) None else (if c then moved (over_with (codes "full") r) (Some full) else moved r (Some x))) ≡ moved next e → Goes g z r next e
begins_by g z r next s x e false c up much at begun is = by_move g z r next (over_with (codes "gone") r) e None is (gives s (codes "gone") at (is_gone begun up) (over r (codes "gone")))
begins_by g z r next s x e true true up much at begun is = by_move g z r next (over_with (codes "full") r) e (Some full) is (gives s (codes "full") at (is_full begun up much) (over r (codes "full")))
begins_by g z r next s x e true false up much at begun is = by_move g z r next r e (Some x) is (stays (same_run r))

begins_goes : (g : Setting) (z : Side) (r next : Run) (s : RootStatement) (x : Entry) (e : Option Entry) → statement_at g r ≡ Some s → IsBegun r s → begins z r x ≡ moved next e → Goes g z r next e
begins_goes g z r next s x e at begun is = begins_by g z r next s x e (stands z) (has_entries z) refl refl at begun is

null_goes : (g : Setting) (z : Side) (r next : Run) (s : RootStatement) (e : Option Entry) → statement_at g r ≡ Some s → is_skipped r.variables s ≡ false → HasNull r s
    → moved (over_with (codes "null") r) None ≡ moved next e → Goes g z r next e
null_goes g z r next s e at there none is = by_move g z r next (over_with (codes "null") r) e None is (gives s (codes "null") at (is_null_line there none) (over r (codes "null")))

no_null : (x : Ref) (oid face : List ℕ) → x ≡ own oid face → x ≡ null → ⊥
no_null x oid face is none = let bad : own oid face ≡ null = sym is ∙ none in absurd (cc)

no_null_peer : (x : Ref) (oid face : List ℕ) → x ≡ peer oid face → x ≡ null → ⊥
no_null_peer x oid face is none = let bad : peer oid face ≡ null = sym is ∙ none in absurd (cc)

call_goes : (g : Setting) (z : Side) (r next : Run) (c : Call) (e : Option Entry) (x : Ref) → object_of (value_of_word (scene_of r) c.target) ≡ x → statement_at g r ≡ Some (root_call c)
    → is_skipped r.variables (root_call c) ≡ false → calls_on g.registry z r c x ≡ moved next e → Goes g z r next e
call_goes g z r next c e null target at there is = null_goes g z r next (root_call c) e at there target is
call_goes g z r next c e (own oid face) target at there is =
    begins_goes g z r next (root_call c) _ e at (record { needs = refl; there = there; target = no_null _ oid face target }) is
call_goes g z r next c e (peer oid face) target at there is =
    begins_goes g z r next (root_call c) _ e at (record { needs = refl; there = there; target = no_null_peer _ oid face target }) is

query_goes : (g : Setting) (z : Side) (r next : Run) (q : Query) (e : Option Entry) (x : Ref) → object_of (value_of_word (scene_of r) q.target) ≡ x → statement_at g r ≡ Some (root_query q)
    → is_skipped r.variables (root_query q) ≡ false → queries_on z r q x ≡ moved next e → Goes g z r next e
query_goes g z r next q e null target at there is = null_goes g z r next (root_query q) e at there target is
query_goes g z r next q e (own oid face) target at there is =
    begins_goes g z r next (root_query q) _ e at (record { needs = refl; there = there; target = no_null _ oid face target }) is
query_goes g z r next q e (peer oid face) target at there is =
    begins_goes g z r next (root_query q) _ e at (record { needs = refl; there = there; target = no_null_peer _ oid face target }) is

asks_goes : (g : Setting) (z : Side) (r next : Run) (s : RootStatement) (wanted : List ℕ) (o : Option (List ℕ)) (e : Option Entry) → statement_at g r ≡ Some s → IsBegun r s
    → asks_for z r wanted o ≡ moved next e → Goes g z r next e
asks_goes g z r next s wanted None e at begun is = not_moved next e is
asks_goes g z r next s wanted (Some name) e at begun is = begins_goes g z r next s _ e at begun is

making_goes : (g : Setting) (z : Side) (r next : Run) (m : Making) (e : Option Entry) (b c : Bool) → stands z ≡ b → has_entries z ≡ c → statement_at g r ≡ Some (root_make m) → IsBegun r (root_make m)
    → makes_new g z r m ≡ moved next e → Goes g z r next e
unfolding line_of
making_goes g z r next m e false c up much at begun is =
    by_move g z r next (over_with (codes "gone") r) e None (rw up at is) (gives (root_make m) (codes "gone") at (is_gone begun up) (over r (codes "gone")))
making_goes g z r next m e true true up much at begun is =
    by_move g z r next (over_with (codes "full") r) e (Some full) (rw (up, much) at is) (gives (root_make m) (codes "full") at (is_full begun up much) (over r (codes "full")))
making_goes g z r next m e true false up much at begun is =
    by_move g z r next (over_with (codes "returned " ++ print g.registry (v.ref (own (own_oid g (suc z.tables.objects_made)) m.face))) (runs.adds m.to (v.ref (own (own_oid g (suc z.tables.objects_made)) m.face)) r)) e
    (Some (made r.root m.behaviour m.face)) (rw (up, much) at is)
    (gives (root_make m) (codes "returned " ++ print g.registry (v.ref (own (own_oid g (suc z.tables.objects_made)) m.face))) at (makes m refl up) (record { root = refl; place_is = refl; lines_are = refl }))

disposing_goes : (g : Setting) (z : Side) (r next : Run) (e : Option Entry) (b : Bool) → stands z ≡ b → statement_at g r ≡ Some root_dispose
    → moved (record r { place = suc r.place }) (if b then Some disposed else None) ≡ moved next e → Goes g z r next e
disposing_goes g z r next e true up at is = by_move g z r next _ e (Some disposed) is (is_over root_dispose at (disposes up) (record { root = refl; place_is = refl; lines_are = refl }))
disposing_goes g z r next e false up at is = by_move g z r next _ e None is (is_over root_dispose at (is_disposed up) (record { root = refl; place_is = refl; lines_are = refl }))

-- ---- statements

statement_goes : (g : Setting) (z : Side) (r next : Run) (s : RootStatement) (e : Option Entry) → statement_at g r ≡ Some s → is_skipped r.variables s ≡ false → begins_statement g z r s ≡ moved next e
    → Goes g z r next e
unfolding begins_statement
statement_goes g z r next (ask to wanted name) e at there is =
    asks_goes g z r next (ask to wanted name) wanted (asked_name r.instance (ask to wanted name)) e at (record { needs = refl; there = there; target = λ bad. bad }) is
statement_goes g z r next (ask_instance to wanted) e at there is =
    asks_goes g z r next (ask_instance to wanted) wanted (asked_name r.instance (ask_instance to wanted)) e at (record { needs = refl; there = there; target = λ bad. bad }) is
statement_goes g z r next (root_call c) e at there is = call_goes g z r next c e (object_of (value_of_word (scene_of r) c.target)) refl at there is
statement_goes g z r next (root_query q) e at there is = query_goes g z r next q e (object_of (value_of_word (scene_of r) q.target)) refl at there is
statement_goes g z r next (root_make m) e at there is =
    making_goes g z r next m e (stands z) (has_entries z) refl refl at (record { needs = refl; there = there; target = λ bad. bad }) is
statement_goes g z r next (root_drop name) e at there is =
    by_move g z r next (runs.goes_over (runs.drops name r)) e None is (is_over (root_drop name) at (drops_one name) (record { root = refl; place_is = refl; lines_are = refl }))
statement_goes g z r next (same a b) e at there is =
    let text = same_text (same_value (value_under a r.variables) (value_under b r.variables)) in
    by_move g z r next (over_with text r) e None is (gives (same a b) text at (compares a b refl there) (over r text))
statement_goes g z r next root_dispose e at there is = disposing_goes g z r next e (stands z) refl at is

unskipped_goes : (g : Setting) (z : Side) (r next : Run) (s : RootStatement) (e : Option Entry) (b : Bool) → is_skipped r.variables s ≡ b → statement_at g r ≡ Some s
    → (if b then moved (over_with (codes "skipped") r) None else begins_statement g z r s) ≡ moved next e → Goes g z r next e
unskipped_goes g z r next s e true skips at is = by_move g z r next (over_with (codes "skipped") r) e None is (gives s (codes "skipped") at (is_skipped_line skips) (over r (codes "skipped")))
unskipped_goes g z r next s e false skips at is = statement_goes g z r next s e at skips is

next_goes : (g : Setting) (z : Side) (r next : Run) (o : Option RootStatement) (e : Option Entry) → statement_at g r ≡ o → next_statement g z r o ≡ moved next e → Goes g z r next e
next_goes g z r next None e at is = not_moved next e is
next_goes g z r next (Some s) e at is = unskipped_goes g z r next s e (is_skipped r.variables s) refl at is

loose_goes : (g : Setting) (z : Side) (r next : Run) (x : Ref) (e : Option Entry) → lets_loose r x ≡ moved next e → Goes g z r next e
loose_goes g z r next null e is = by_move g z r next _ e None is (stays (record { root = refl; place_is = refl; lines_are = refl }))
loose_goes g z r next (own oid face) e is = by_move g z r next _ e (Some (dropped r.root oid face)) is (stays (record { root = refl; place_is = refl; lines_are = refl }))
loose_goes g z r next (peer oid face) e is = by_move g z r next _ e (Some (dropped r.root oid face)) is (stays (record { root = refl; place_is = refl; lines_are = refl }))

idle_goes : (g : Setting) (z : Side) (r next : Run) (x : Option Ref) (e : Option Entry) → idle_moves g z r x ≡ moved next e → Goes g z r next e
idle_goes g z r next (Some x) e is = loose_goes g z r next x e is
idle_goes g z r next None e is = next_goes g z r next (statement_at g r) e refl is

-- ---- outcomes

line_same : (r s : Run) (text : List ℕ) → s.root ≡ r.root → s.place ≡ r.place → line_of s text ≡ line_of r text
unfolding line_of
line_same r s text p q = λ i. decimal (p i) ++ (codes "." ++ (decimal (suc (q i)) ++ (codes " " ++ text)))

took_goes : (g : Setting) (z : Side) (r next : Run) (o : Outcome) (s : Option RootStatement) (e : Option Entry) → statement_at g r ≡ s → state_of r.root z.tables.roots ≡ answered o
    → takes_at g r o s ≡ moved next e → Goes g z r next e
took_goes g z r next o None e at has is = not_moved next e is
took_goes g z r next o (Some s) e at has is =
    let text = outcome_text g.registry s o in
    let other = takes_outcome s o r in
    let same = outcome_same s o r in
    by_move g z r next (over_with text other) e (Some (took r.root)) is
    (gives s text at (takes o has)
    (record { root = same.root; place_is = ap (λ n. suc n) same.place_is; lines_are = (λ i. same.lines_are i ++ line_same r other text same.root same.place_is i ∷ []) }))

state_goes : (g : Setting) (z : Side) (r next : Run) (x : RootState) (e : Option Entry) → state_of r.root z.tables.roots ≡ x → state_moves g z r x ≡ moved next e → Goes g z r next e
state_goes g z r next idle e has is = idle_goes g z r next (next_loose r.loose) e is
state_goes g z r next waits_call e has is = not_waiting next e is
state_goes g z r next (waits_query wanted) e has is = not_waiting next e is
state_goes g z r next (answered o) e has is = took_goes g z r next o (statement_at g r) e refl has is

pub root_goes : (g : Setting) (z : Side) (r next : Run) (e : Option Entry) → root_moves g z r ≡ moved next e → Goes g z r next e
unfolding root_moves
root_goes g z r next e is = state_goes g z r next (state_of r.root z.tables.roots) e refl is
