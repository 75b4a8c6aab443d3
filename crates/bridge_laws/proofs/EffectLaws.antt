-- The references in the effect of a statement are those of its frame, of its object, or of the plan's constants: what none of these counts, it does not count.
use Rattle.std.proofs.Common.{◌≡◌, ℕ, ◌+◌, ◌≤◌, Bool, true, false, if◌then◌else◌, List, [], ◌∷◌, map, flat_map, Option, None, Some, Result, Ok, Err, option_map, refl, sym, ap, ◌∙◌, arith}
use Rattle.message_model.specs.Calls.{numbered, comes, out_kinds}
use Rattle.message_model.specs.Messages.{Answer, returned, raised, request, reply}
use Rattle.message_model.specs.Calls.{may_raise}
use Rattle.message_model.specs.Sayable.{message_weight}
use Rattle.uno_model.specs.Defaults.{default_of_kind}
use Rattle.uno_model.specs.Entities.{Entity, Param}
use Rattle.uno_model.specs.Functions.{Function}
use Rattle.uno_model.specs.Kinds.{Kind}
use Rattle.uno_model.specs.Kinds as kd
use Rattle.uno_model.specs.Values.{Ref, null, own, peer, Plain, Plains, refs, refs_in, object_in, plains, depth_in}
use Rattle.uno_model.specs.Values as v
use Rattle.uno_model.proofs.DefaultLaws.{default_holds_none}
use Rattle.plan_model.specs.Asking.{Effect, lets, sets, sets_field, drops, skips, calls, queries, makes, disposes, creates, returns, raises, Running, ending, ends_with, fails, on_value, out_values, returns_value}
use Rattle.plan_model.specs.Calling.{given_values, number_in, object_of, is_full, calls_object, calls_target, call_effect, queries_object, queries_target, query_effect}
use Rattle.plan_model.specs.Effects.{return_effect, default_effect, let_effect, set_effect, set_field_effect, when_effect, raise_effect, statement_effect, values_in}
use Rattle.plan_model.specs.Evaluation.{Scene, value_under, value_of_word, value_of, is_heavy, is_deep, evaluated, compares}
use Rattle.plan_model.specs.Expressions.{Expression, Argument, into, out, both}
use Rattle.plan_model.specs.Frames.{Variable, Body}
use Rattle.plan_model.specs.Holdings.{refs_under}
use Rattle.plan_model.specs.Leaving.{runtime_raised, caused, message_of, as_declared, answer_depth, leaving, leaving_frame}
use Rattle.plan_model.specs.Statements.{Call, Query, Statement, let_variable, set_variable, set_field, call, query, make, drop_variable, when, return, raise, dispose}
use Rattle.plan_model.specs.declared.runtime_cause.RuntimeCause.{RuntimeCause}
use Rattle.plan_model.specs.declared.runtime_cause.RuntimeCause.TheVariants.{Depth, TooLarge, TooDeep, Range, Null}
use Rattle.bridge_model.specs.References.{refs_of_values, refs_of_answer}
use Rattle.bridge_laws.specs.Counting.{total}
use Rattle.bridge_laws.specs.Living.{constants_in, constants_if, argument_constants, statement_constants}
use Rattle.bridge_laws.proofs.EvaluationLaws.{scene_counts, option_counts, result_counts, under_at_most, word_at_most, value_counts, evaluated_counts}
use Rattle.bridge_laws.proofs.HandingLaws.{returned_owes, raised_owes}
use Rattle.bridge_laws.proofs.Sums.{total_append}
use Rattle.bridge_laws.proofs.VariableLaws.{values_more, values_none}

-- ---- words

-- what an effect counts
abbrev pub effect_counts : (Ref → ℕ) → Effect → ℕ
effect_counts f (lets x) = total f (refs x.value)
effect_counts f (sets x) = total f (refs x.value)
effect_counts f (sets_field x) = total f (refs x.value)
effect_counts f (drops name) = 0
effect_counts f skips = 0
effect_counts f (calls target function args to) = total f (object_in target) + total f (refs_of_values args)
effect_counts f (queries target wanted to) = total f (object_in target)
effect_counts f (makes behaviour face to) = 0
effect_counts f disposes = 0
effect_counts f (creates name args) = total f (refs_of_values args)
effect_counts f (returns x outs) = total f (refs_of_answer (returned x outs))
effect_counts f (raises k x) = total f (refs_of_answer (raised k x))

-- ---- lists of values

nothing_in_none : (f : Ref → ℕ) → total f (refs_in v.none) ≡ 0
unfolding refs_in total
nothing_in_none f = refl

pub plains_count : (f : Ref → ℕ) (xs : List Plain) → total f (refs_in (plains xs)) ≡ total f (refs_of_values xs)
unfolding refs_in
plains_count f [] = let nothing = values_none f in nothing_in_none f ∙ sym nothing
plains_count f (x ∷ xs) =
    let left = total_append f (refs x) (refs_in (plains xs)) in let right = values_more f x xs in let rest = plains_count f xs in omega arith

pub values_in_count : (f : Ref → ℕ) (xs : Plains) → total f (refs_of_values (values_in xs)) ≡ total f (refs_in xs)
unfolding values_in refs_in
values_in_count f v.none = values_none f ∙ sym (nothing_in_none f)
values_in_count f (v.more x xs) =
    let left = values_more f x (values_in xs) in let right = total_append f (refs x) (refs_in xs) in let rest = values_in_count f xs in omega arith

-- ---- what leaves a frame

ending_counts : (f : Ref → ℕ) (a : Answer) → effect_counts f (ending a) ≡ total f (refs_of_answer a)
ending_counts f (returned x outs) = refl
ending_counts f (raised k x) = refl

runtime_counts : (f : Ref → ℕ) (message : List ℕ) → total f (refs_of_answer (runtime_raised message)) ≡ 0
unfolding refs_of_answer refs total
runtime_counts f message = refl

declared_by : (f : Ref → ℕ) (b : Bool) (k : Kind) (x : Plain) (message : List ℕ)
    → total f (refs_of_answer (if b then raised k x else runtime_raised message)) ≤ total f (refs_of_answer (raised k x))
declared_by f true k x message = omega arith
declared_by f false k x message = let nothing = runtime_counts f message in omega arith

declared_counts : (f : Ref → ℕ) (reg : List Entity) (fn : Function) (a : Answer) → total f (refs_of_answer (as_declared reg fn a)) ≤ total f (refs_of_answer a)
declared_counts f reg fn (returned x outs) = omega arith
declared_counts f reg fn (raised k x) = declared_by f (may_raise reg fn k) k x _

limited_by : (f : Ref → ℕ) (heavy deep : Bool) (large nested : RuntimeCause) (a : Answer)
    → total f (refs_of_answer (if heavy then caused large else (if deep then caused nested else a))) ≤ total f (refs_of_answer a)
limited_by f true deep large nested a = let nothing = runtime_counts f (message_of large) in omega arith
limited_by f false true large nested a = let nothing = runtime_counts f (message_of nested) in omega arith
limited_by f false false large nested a = omega arith

pub leaving_counts : (f : Ref → ℕ) (reg : List Entity) (tid face : List ℕ) (number : ℕ) (fn : Function) (a : Answer)
    → total f (refs_of_answer (leaving reg tid face number fn a)) ≤ total f (refs_of_answer a)
unfolding leaving
leaving_counts f reg tid face number fn a =
    let declared = declared_counts f reg fn a in
    let limited =
    limited_by f (is_heavy (message_weight (reply tid face number (as_declared reg fn a)))) (is_deep (answer_depth (as_declared reg fn a))) TooLarge TooDeep (as_declared reg fn a) in
    omega arith

leaving_by : (f : Ref → ℕ) (reg : List Entity) (tid : List ℕ) (b : Body) (a : Answer) (fn : Option Function) → numbered reg b.face b.function ≡ fn
    → total f (refs_of_answer (leaving_frame reg tid b a)) ≤ total f (refs_of_answer a)
unfolding leaving_frame
leaving_by f reg tid b a None is = rw is (omega arith)
leaving_by f reg tid b a (Some fn) is = rw is (leaving_counts f reg tid b.face b.function fn a)

-- what leaves a frame refers to no more than what it ends with
pub leaving_frame_counts : (f : Ref → ℕ) (reg : List Entity) (tid : List ℕ) (b : Body) (a : Answer)
    → total f (refs_of_answer (leaving_frame reg tid b a)) ≤ total f (refs_of_answer a)
leaving_frame_counts f reg tid b a = leaving_by f reg tid b a (numbered reg b.face b.function) refl

ends_with_counts : (f : Ref → ℕ) (reg : List Entity) (r : Running) (a : Answer) → effect_counts f (ends_with reg r a) ≤ total f (refs_of_answer a)
ends_with_counts f reg r a =
    let ending = ending_counts f (leaving reg r.tid r.face r.number r.function a) in let left = leaving_counts f reg r.tid r.face r.number r.function a in omega arith

fails_counts : (f : Ref → ℕ) (reg : List Entity) (r : Running) (cause : RuntimeCause) → effect_counts f (fails reg r cause) ≡ 0
fails_counts f reg r cause = let ended = ends_with_counts f reg r (caused cause) in let nothing = runtime_counts f (message_of cause) in omega arith

on_value_counts : (f : Ref → ℕ) (reg : List Entity) (r : Running) (x : Result Plain RuntimeCause) (go : Plain → Effect) → result_counts f x ≡ 0
    → ((x : Plain) → total f (refs x) ≡ 0 → effect_counts f (go x) ≡ 0) → effect_counts f (on_value reg r x go) ≡ 0
on_value_counts f reg r (Ok x) go fine then_fine = then_fine x fine
on_value_counts f reg r (Err cause) go fine then_fine = fails_counts f reg r cause

-- ---- values that come out

out_step : (f : Ref → ℕ) (b : Bool) (x : Plain) (rest : List Plain) → total f (refs x) ≡ 0 → total f (refs_of_values rest) ≡ 0
    → total f (refs_of_values (if b then x ∷ rest else rest)) ≡ 0
out_step f true x rest here behind = let parts = values_more f x rest in omega arith
out_step f false x rest here behind = behind

out_counts : (f : Ref → ℕ) (ps : List Param) (xs : List Variable) → total f (refs_under xs) ≡ 0 → total f (refs_of_values (out_values ps xs)) ≡ 0
unfolding out_values
out_counts f [] xs fine = values_none f
out_counts f (p ∷ ps) xs fine =
    let here = under_at_most f p.name xs in
    out_step f (comes p.way) (value_under p.name xs) (out_values ps xs) (omega arith) (out_counts f ps xs fine)

pub returns_value_counts : (f : Ref → ℕ) (reg : List Entity) (r : Running) (x : Plain) → scene_counts f r.scene ≡ 0 → total f (refs x) ≡ 0
    → effect_counts f (returns_value reg r x) ≡ 0
returns_value_counts f reg r x scene fine =
    let outs = out_counts f r.function.params r.scene.variables (omega arith) in
    let parts = returned_owes f x (out_values r.function.params r.scene.variables) in
    let ended = ends_with_counts f reg r (returned x (out_values r.function.params r.scene.variables)) in omega arith

pub void_counts : (f : Ref → ℕ) → total f (refs v.void) ≡ 0
unfolding refs total
void_counts f = refl

pub return_counts : (f : Ref → ℕ) (reg : List Entity) (r : Running) (back : Option Expression) → scene_counts f r.scene ≡ 0 → total f (constants_if back) ≡ 0
    → effect_counts f (return_effect reg r back) ≡ 0
unfolding return_effect
return_counts f reg r None scene constants = returns_value_counts f reg r v.void scene (void_counts f)
return_counts f reg r (Some a) scene constants =
    on_value_counts f reg r (evaluated r.scene a) (returns_value reg r) (evaluated_counts f r.scene a scene constants) (λ x fine. returns_value_counts f reg r x scene fine)

defaults_count : (f : Ref → ℕ) (reg : List Entity) (ks : List Kind) → total f (refs_of_values (map (default_of_kind reg) ks)) ≡ 0
unfolding total
defaults_count f reg [] = values_none f
defaults_count f reg (k ∷ ks) =
    let parts = values_more f (default_of_kind reg k) (map (default_of_kind reg) ks) in
    let here = ap (total f) (default_holds_none reg k) in let rest = defaults_count f reg ks in omega arith

pub default_counts : (f : Ref → ℕ) (reg : List Entity) (r : Running) → effect_counts f (default_effect reg r) ≡ 0
unfolding default_effect total
default_counts f reg r =
    let outs = defaults_count f reg (out_kinds r.function) in
    let result = ap (total f) (default_holds_none reg r.function.result_kind) in
    let parts = returned_owes f (default_of_kind reg r.function.result_kind) (map (default_of_kind reg) (out_kinds r.function)) in
    let ended = ends_with_counts f reg r (returned (default_of_kind reg r.function.result_kind) (map (default_of_kind reg) (out_kinds r.function))) in omega arith

-- ---- calls

abbrev given_counts : (Ref → ℕ) → Option (List Plain) → ℕ
given_counts f None = 0
given_counts f (Some xs) = total f (refs_of_values xs)

into_by : (f : Ref → ℕ) (s : Scene) (a : Expression) (args : List Argument) (x : Option Plain) (xs : Option (List Plain)) → value_of s a ≡ x → given_values s args ≡ xs
    → option_counts f x ≡ 0 → given_counts f xs ≡ 0 → given_counts f (given_values s (into a ∷ args)) ≡ 0
unfolding given_values
into_by f s a args None xs is are here rest = rw is refl
into_by f s a args (Some x) None is are here rest = rw (is, are) refl
into_by f s a args (Some x) (Some xs) is are here rest = rw (is, are) (let parts = values_more f x xs in omega arith)

both_counts : (f : Ref → ℕ) (x : Plain) (o : Option (List Plain)) → total f (refs x) ≡ 0 → given_counts f o ≡ 0 → given_counts f (option_map (λ xs. x ∷ xs) o) ≡ 0
both_counts f x None here rest = refl
both_counts f x (Some xs) here rest = let parts = values_more f x xs in omega arith

given_values_count : (f : Ref → ℕ) (s : Scene) (args : List Argument) → scene_counts f s ≡ 0 → total f (flat_map argument_constants args) ≡ 0
    → given_counts f (given_values s args) ≡ 0
unfolding given_values
given_values_count f s [] scene constants = values_none f
given_values_count f s (into a ∷ args) scene constants =
    let parts = total_append f (constants_in a) (flat_map argument_constants args) in
    into_by f s a args (value_of s a) (given_values s args) refl refl (value_counts f s a scene (omega arith)) (given_values_count f s args scene (omega arith))
given_values_count f s (out name ∷ args) scene constants = given_values_count f s args scene constants
given_values_count f s (both name ∷ args) scene constants =
    let here = under_at_most f name s.variables in
    both_counts f (value_under name s.variables) (given_values s args) (omega arith) (given_values_count f s args scene constants)

sent_by : (f : Ref → ℕ) (reg : List Entity) (r : Running) (full heavy deep : Bool) (e : Effect) → effect_counts f e ≡ 0
    → effect_counts f (if full then fails reg r Depth else (if heavy then fails reg r TooLarge else (if deep then fails reg r TooDeep else e))) ≡ 0
sent_by f reg r true heavy deep e fine = fails_counts f reg r Depth
sent_by f reg r false true deep e fine = fails_counts f reg r TooLarge
sent_by f reg r false false true e fine = fails_counts f reg r TooDeep
sent_by f reg r false false false e fine = fine

calls_object_counts : (f : Ref → ℕ) (reg : List Entity) (r : Running) (c : Call) (target : Ref) (oid face : List ℕ) (args : Option (List Plain))
    → total f (object_in target) ≡ 0 → given_counts f args ≡ 0 → effect_counts f (calls_object reg r c target oid face args) ≡ 0
calls_object_counts f reg r c target oid face None here fine = fails_counts f reg r Range
calls_object_counts f reg r c target oid face (Some args) here fine =
    sent_by f reg r (is_full r.depth) (is_heavy (message_weight (request r.tid oid face (number_in reg face c.callee) args))) (is_deep (depth_in (plains args)))
    (calls target (number_in reg face c.callee) args (option_map (λ f. f.name) c.to)) (omega arith)

calls_target_counts : (f : Ref → ℕ) (reg : List Entity) (r : Running) (c : Call) (target : Ref) → scene_counts f r.scene ≡ 0 → total f (object_in target) ≡ 0
    → total f (flat_map argument_constants c.arguments) ≡ 0 → effect_counts f (calls_target reg r c target) ≡ 0
calls_target_counts f reg r c null scene here constants = fails_counts f reg r Null
calls_target_counts f reg r c (own oid face) scene here constants =
    calls_object_counts f reg r c (own oid face) oid face (given_values r.scene c.arguments) here (given_values_count f r.scene c.arguments scene constants)
calls_target_counts f reg r c (peer oid face) scene here constants =
    calls_object_counts f reg r c (peer oid face) oid face (given_values r.scene c.arguments) here (given_values_count f r.scene c.arguments scene constants)

object_counts : (f : Ref → ℕ) (x : Plain) → total f (object_in (object_of x)) ≤ total f (refs x)
unfolding refs total
object_counts f (v.ref r) = omega arith
object_counts f x = omega arith

call_counts : (f : Ref → ℕ) (reg : List Entity) (r : Running) (c : Call) → scene_counts f r.scene ≡ 0 → total f (flat_map argument_constants c.arguments) ≡ 0
    → effect_counts f (call_effect reg r c) ≡ 0
unfolding call_effect
call_counts f reg r c scene constants =
    let word = word_at_most f r.scene c.target in let object = object_counts f (value_of_word r.scene c.target) in
    calls_target_counts f reg r c (object_of (value_of_word r.scene c.target)) scene (omega arith) constants

queries_object_counts : (f : Ref → ℕ) (reg : List Entity) (r : Running) (q : Query) (target : Ref) (oid face : List ℕ) → total f (object_in target) ≡ 0
    → effect_counts f (queries_object reg r q target oid face) ≡ 0
queries_object_counts f reg r q target oid face here =
    sent_by f reg r (is_full r.depth) (is_heavy (message_weight (request r.tid oid face 0 (v.kind (kd.interface q.wanted) ∷ [])))) (is_deep (depth_in (plains (v.kind (kd.interface q.wanted) ∷ []))))
    (queries target q.wanted q.to) here

queries_target_counts : (f : Ref → ℕ) (reg : List Entity) (r : Running) (q : Query) (target : Ref) → total f (object_in target) ≡ 0
    → effect_counts f (queries_target reg r q target) ≡ 0
queries_target_counts f reg r q null here = fails_counts f reg r Null
queries_target_counts f reg r q (own oid face) here = queries_object_counts f reg r q (own oid face) oid face here
queries_target_counts f reg r q (peer oid face) here = queries_object_counts f reg r q (peer oid face) oid face here

query_counts : (f : Ref → ℕ) (reg : List Entity) (r : Running) (q : Query) → scene_counts f r.scene ≡ 0 → effect_counts f (query_effect reg r q) ≡ 0
unfolding query_effect
query_counts f reg r q scene =
    let word = word_at_most f r.scene q.target in let object = object_counts f (value_of_word r.scene q.target) in
    queries_target_counts f reg r q (object_of (value_of_word r.scene q.target)) (omega arith)

-- ---- statements

when_by : (f : Ref → ℕ) (b : Bool) (e : Effect) → effect_counts f e ≡ 0 → effect_counts f (if b then e else skips) ≡ 0
when_by f true e fine = fine
when_by f false e fine = refl

pub statement_counts : (f : Ref → ℕ) (reg : List Entity) (r : Running) (s : Statement) → scene_counts f r.scene ≡ 0 → total f (statement_constants s) ≡ 0
    → effect_counts f (statement_effect reg r s) ≡ 0
unfolding statement_effect let_effect set_effect set_field_effect when_effect raise_effect
statement_counts f reg r (let_variable x a) scene constants =
    on_value_counts f reg r (evaluated r.scene a) (λ y. lets (record { name = x.name; value = y })) (evaluated_counts f r.scene a scene constants) (λ y fine. fine)
statement_counts f reg r (set_variable name a) scene constants =
    on_value_counts f reg r (evaluated r.scene a) (λ y. sets (record { name = name; value = y })) (evaluated_counts f r.scene a scene constants) (λ y fine. fine)
statement_counts f reg r (set_field name a) scene constants =
    on_value_counts f reg r (evaluated r.scene a) (λ y. sets_field (record { name = name; value = y })) (evaluated_counts f r.scene a scene constants) (λ y fine. fine)
statement_counts f reg r (call c) scene constants = call_counts f reg r c scene constants
statement_counts f reg r (query q) scene constants = query_counts f reg r q scene
statement_counts f reg r (make m) scene constants = refl
statement_counts f reg r (drop_variable name) scene constants = refl
statement_counts f reg r (when t back) scene constants =
    let parts = total_append f (constants_in t.right) (constants_if back) in
    on_value_counts f reg r (evaluated r.scene t.right) (λ x. if compares t.comparison (value_of_word r.scene t.left) x then return_effect reg r back else skips)
    (evaluated_counts f r.scene t.right scene (omega arith))
    (λ x fine. when_by f (compares t.comparison (value_of_word r.scene t.left) x) (return_effect reg r back) (return_counts f reg r back scene (omega arith)))
statement_counts f reg r (return back) scene constants = return_counts f reg r back scene constants
statement_counts f reg r (raise name a) scene constants =
    on_value_counts f reg r (evaluated r.scene a) (λ x. ends_with reg r (raised (kd.exception name) x)) (evaluated_counts f r.scene a scene constants)
    (λ x fine. let ended = ends_with_counts f reg r (raised (kd.exception name) x) in let parts = raised_owes f (kd.exception name) x in omega arith)
statement_counts f reg r dispose scene constants = refl
