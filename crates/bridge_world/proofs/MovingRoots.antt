-- Which roots move: those that do not wait and have a statement left, or a reference to let go.
use Rattle.std.proofs.Common.{◌≡◌, refl, sym, ap, ◌∙◌, Bool, true, false, not, ◌||◌, is_some, List, [], ◌∷◌, ◌++◌, map, flat_map, Option, None, Some, codes, if◌then◌else◌}
use Rattle.std.specs.Option.{option_map, unwrap_or}
use Rattle.bridge_model.specs.Entries.{Entry, asked, called, full, queried}
use Rattle.bridge_model.specs.RootRuns.{Moved, begins, begins_statement, calls_on, idle_moves, is_skipped, lets_loose, makes_new, moved, next_statement, over_with, queries_on, root_moves, scene_of, state_moves, statement_at, takes_at}
use Rattle.bridge_model.specs.Settings.{Setting}
use Rattle.bridge_model.specs.Sides.{Outcome, RootState, Side, answered, idle, stands, state_of, waits_call, waits_query}
use Rattle.bridge_model.specs.Steps.{has_entries}
use Rattle.bridge_endpoint.specs.Telling.{state_told}
use Rattle.bridge_endpoint.specs.Telling as told
use Rattle.world_model.specs.Moves.{does_move}
use Rattle.plan_model.specs.Calling.{given_values, number_in, object_of}
use Rattle.plan_model.specs.Evaluation.{value_of_word}
use Rattle.plan_model.specs.Roots.{Run, asked_name, next_loose}
use Rattle.plan_model.specs.Statements.{Call, Making, Query, RootStatement, ask, ask_instance, root_call, root_dispose, root_drop, root_make, root_query, same}
use Rattle.uno_model.specs.Entities.{Entity}
use Rattle.uno_model.specs.Values.{Ref, null, own, peer, refs, refs_in}
use Rattle.uno_values.specs.References.{ref_of}
use Rattle.uno_values.specs.Values.{plain_of, plains_of}
use Rattle.uno_values.specs.declared.reference.Reference.{Reference}
use Rattle.uno_values.specs.declared.value.Value.{Value}

-- ---- what a statement begins is a move

either_moves : (b : Bool) (x y : Moved) → does_move x ≡ true → does_move y ≡ true → does_move (if b then x else y) ≡ true
either_moves true x y one two = one
either_moves false x y one two = two

begins_moves : (s : Side) (r : Run) (x : Entry) → does_move (begins s r x) ≡ true
begins_moves s r x =
    either_moves (not (stands s)) (moved (over_with (codes "gone") r) None) (if has_entries s then moved (over_with (codes "full") r) (Some full) else moved r (Some x)) refl
    (either_moves (has_entries s) (moved (over_with (codes "full") r) (Some full)) (moved r (Some x)) refl refl)

making_moves : (g : Setting) (s : Side) (r : Run) (m : Making) (b c : Bool) → stands s ≡ b → has_entries s ≡ c → does_move (makes_new g s r m) ≡ true
making_moves g s r m false c up much = rw (up) refl
making_moves g s r m true true up much = rw (up, much) refl
making_moves g s r m true false up much = rw (up, much) refl

call_moves : (reg : List Entity) (s : Side) (r : Run) (c : Call) (x : Ref) → does_move (calls_on reg s r c x) ≡ true
call_moves reg s r c null = refl
call_moves reg s r c (own oid face) = begins_moves s r (called r.root oid face (number_in reg face c.callee) (unwrap_or (given_values (scene_of r) c.arguments) []))
call_moves reg s r c (peer oid face) = begins_moves s r (called r.root oid face (number_in reg face c.callee) (unwrap_or (given_values (scene_of r) c.arguments) []))

query_moves : (s : Side) (r : Run) (q : Query) (x : Ref) → does_move (queries_on s r q x) ≡ true
query_moves s r q null = refl
query_moves s r q (own oid face) = begins_moves s r (queried r.root oid face q.wanted)
query_moves s r q (peer oid face) = begins_moves s r (queried r.root oid face q.wanted)

statement_moves : (g : Setting) (s : Side) (r : Run) (x : RootStatement) → does_move (begins_statement g s r x) ≡ true
unfolding begins_statement asked_name
statement_moves g s r (ask to wanted name) = begins_moves s r (asked r.root name wanted)
statement_moves g s r (ask_instance to wanted) = begins_moves s r (asked r.root r.instance wanted)
statement_moves g s r (root_call c) = call_moves g.registry s r c (object_of (value_of_word (scene_of r) c.target))
statement_moves g s r (root_query q) = query_moves s r q (object_of (value_of_word (scene_of r) q.target))
statement_moves g s r (root_make m) = making_moves g s r m (stands s) (has_entries s) refl refl
statement_moves g s r (root_drop name) = refl
statement_moves g s r (same a b) = refl
statement_moves g s r root_dispose = refl

next_moves : (g : Setting) (s : Side) (r : Run) (o : Option RootStatement) → does_move (next_statement g s r o) ≡ is_some o
next_moves g s r None = refl
next_moves g s r (Some x) = either_moves (is_skipped r.variables x) (moved (over_with (codes "skipped") r) None) (begins_statement g s r x) refl (statement_moves g s r x)

-- ---- by what a root does

loose_moves : (r : Run) (x : Ref) → does_move (lets_loose r x) ≡ true
loose_moves r null = refl
loose_moves r (own oid face) = refl
loose_moves r (peer oid face) = refl

or_true : (b : Bool) → (b || true) ≡ true
or_true true = refl
or_true false = refl

or_false : (b : Bool) → (b || false) ≡ b
or_false true = refl
or_false false = refl

idle_so : (g : Setting) (s : Side) (r : Run) (x : Option Ref) → (is_some (statement_at g r) || is_some x) ≡ does_move (idle_moves g s r x)
idle_so g s r (Some x) = or_true (is_some (statement_at g r)) ∙ sym (loose_moves r x)
idle_so g s r None = or_false (is_some (statement_at g r)) ∙ sym (next_moves g s r (statement_at g r))

takes_so : (g : Setting) (r : Run) (o : Outcome) (x : Option RootStatement) → is_some x ≡ does_move (takes_at g r o x)
takes_so g r o None = refl
takes_so g r o (Some x) = refl

waiting_so : (g : Setting) (s : Side) (r : Run) (x : RootState) → state_told x ≡ told.Waits → false ≡ does_move (state_moves g s r x)
waiting_so g s r idle is = absurd (cc)
waiting_so g s r waits_call is = refl
waiting_so g s r (waits_query wanted) is = refl
waiting_so g s r (answered o) is = absurd (cc)

answered_so : (g : Setting) (s : Side) (r : Run) (x : RootState) → state_told x ≡ told.Answered → is_some (statement_at g r) ≡ does_move (state_moves g s r x)
answered_so g s r idle is = absurd (cc)
answered_so g s r waits_call is = absurd (cc)
answered_so g s r (waits_query wanted) is = absurd (cc)
answered_so g s r (answered o) is = takes_so g r o (statement_at g r)

resting_so : (g : Setting) (s : Side) (r : Run) (x : RootState) → state_told x ≡ told.Idle → (is_some (statement_at g r) || is_some (next_loose r.loose)) ≡ does_move (state_moves g s r x)
resting_so g s r idle is = idle_so g s r (next_loose r.loose)
resting_so g s r waits_call is = absurd (cc)
resting_so g s r (waits_query wanted) is = absurd (cc)
resting_so g s r (answered o) is = absurd (cc)

module _ (g : Setting) (s : Side) (r : Run) where
  pub stays_waiting : state_told (state_of r.root s.tables.roots) ≡ told.Waits → false ≡ does_move (root_moves g s r)
  unfolding root_moves
  stays_waiting is = waiting_so g s r (state_of r.root s.tables.roots) is

  pub moves_answered : state_told (state_of r.root s.tables.roots) ≡ told.Answered → is_some (statement_at g r) ≡ does_move (root_moves g s r)
  unfolding root_moves
  moves_answered is = answered_so g s r (state_of r.root s.tables.roots) is

  pub moves_idle : state_told (state_of r.root s.tables.roots) ≡ told.Idle → (is_some (statement_at g r) || is_some (next_loose r.loose)) ≡ does_move (root_moves g s r)
  unfolding root_moves
  moves_idle is = resting_so g s r (state_of r.root s.tables.roots) is

-- ---- what is left

pub mapped_some : {X Y : Type 0} (f : X → Y) (o : Option X) → is_some o ≡ is_some (option_map f o)
mapped_some f None = refl
mapped_some f (Some x) = refl

refs_flat : (vs : List Value) → refs_in (plains_of vs) ≡ flat_map (λ x. refs (plain_of x)) vs
unfolding refs_in
refs_flat [] = refl
refs_flat (v ∷ vs) = ap (λ rs. refs (plain_of v) ++ rs) (refs_flat vs)

-- references of values alone are left
pub none_letting : (ls : List Reference) (vs : List Value) → ls ≡ [] → is_some (next_loose (refs_in (plains_of vs))) ≡ is_some (next_loose (map ref_of ls ++ flat_map (λ x. refs (plain_of x)) vs))
none_letting ls vs none = ap (λ rs. is_some (next_loose rs)) (refs_flat vs) ∙ ap (λ xs. is_some (next_loose (map ref_of xs ++ flat_map (λ x. refs (plain_of x)) vs))) (sym none)
