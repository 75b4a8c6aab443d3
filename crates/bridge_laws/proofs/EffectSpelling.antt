-- What a statement asks can be carried by bytes, where its frame, its object and the plan's constants can.
use Rattle.std.proofs.Common.{◌≡◌, ℕ, zero, suc, Bool, true, false, if◌then◌else◌, List, [], ◌∷◌, ◌++◌, codes, Option, None, Some, Result, Ok, Err, option_map, slice_get, refl, subst}
use Rattle.std.specs.List.{AllByRecursion, find}
use Rattle.std.specs.Str.{IsUtf8}
use Rattle.std.proofs.lemmas.Str.{IsUtf8-append}
use Rattle.message_model.specs.Calls.{numbered, comes, may_raise}
use Rattle.message_model.specs.Messages.{Answer, returned, raised, request, reply}
use Rattle.message_model.specs.Sayable.{message_weight}
use Rattle.uno_model.specs.BuiltIn.{runtime_exception_name}
use Rattle.uno_model.specs.Entities.{Entity, Param}
use Rattle.uno_model.specs.Functions.{Function}
use Rattle.uno_model.specs.Kinds.{Kind, name_of}
use Rattle.uno_model.specs.Kinds as kd
use Rattle.uno_model.specs.Spellable.{IsSpellableRef, IsSpellable, AreSpellable}
use Rattle.uno_model.specs.Values.{Ref, null, own, peer, Plain, Plains, plains, depth_in}
use Rattle.uno_model.specs.Values as v
use Rattle.urp_model.proofs.Utf8Laws.{utf8_of_ascii}
use Rattle.plan_model.specs.Asking.{Effect, lets, sets, sets_field, drops, skips, calls, queries, makes, disposes, creates, returns, raises, Running, ending, ends_with, fails, on_value, out_values, returns_value}
use Rattle.plan_model.specs.Calling.{given_values, number_in, object_of, is_full, calls_object, calls_target, call_effect, queries_object, queries_target, query_effect}
use Rattle.plan_model.specs.Effects.{return_effect, let_effect, set_effect, set_field_effect, when_effect, raise_effect, statement_effect}
use Rattle.plan_model.specs.Evaluation.{Scene, value_under, value_of_word, value_of, is_heavy, is_deep, evaluated, compares}
use Rattle.plan_model.specs.Expressions.{Expression, Argument, into, out, both}
use Rattle.plan_model.specs.Frames.{Variable, Body}
use Rattle.plan_model.specs.Leaving.{runtime_raised, caused, message_of, as_declared, answer_depth, sendable, leaving, leaving_frame}
use Rattle.plan_model.specs.Statements.{Call, Query, Test, Statement, let_variable, set_variable, set_field, call, query, make, drop_variable, when, return, raise, dispose}
use Rattle.plan_model.specs.declared.runtime_cause.RuntimeCause.{RuntimeCause}
use Rattle.plan_model.specs.declared.runtime_cause.RuntimeCause.TheVariants.{Depth, TooLarge, TooDeep, Range, Null}
use Rattle.bridge_laws.specs.Holding.{AnswerGoes}
use Rattle.bridge_laws.specs.Texts.{IsWritable, IsWritableIf, IsWritableArgument, IsWritableStatement}
use Rattle.bridge_laws.proofs.EvaluationSpelling.{VariablesSpellable, SceneSpellable, IfSpellable, OkSpellable, void_spellable, under_spellable, word_spellable, value_spellable, evaluated_spellable}
use Rattle.bridge_laws.proofs.ValueSpelling.{AllSpellable, ref_in}

-- ---- words

abbrev pub EffectSpellable : Effect → Type 0
EffectSpellable (lets x) = IsSpellable x.value
EffectSpellable (sets x) = IsSpellable x.value
EffectSpellable (sets_field x) = IsSpellable x.value
EffectSpellable (drops name) = Unit
EffectSpellable skips = Unit
EffectSpellable (calls target function args to) = IsSpellableRef target × AllSpellable args
EffectSpellable (queries target wanted to) = IsSpellableRef target
EffectSpellable (makes behaviour face to) = Unit
EffectSpellable disposes = Unit
EffectSpellable (creates name args) = IsUtf8 name × AllSpellable args
EffectSpellable (returns x outs) = AnswerGoes (returned x outs)
EffectSpellable (raises k x) = AnswerGoes (raised k x)

-- ---- what leaves a frame

-- an exception with a message and no context
pub message_spellable : (name message : List ℕ) → IsUtf8 message → IsSpellable (v.tuple name (v.more (v.str message) (v.more (v.ref null) v.none)))
unfolding IsSpellable AreSpellable
message_spellable name message fine = (fine, (tt, tt))

runtime_goes : (message : List ℕ) → IsUtf8 message → AnswerGoes (runtime_raised message)
runtime_goes message fine = (utf8_of_ascii runtime_exception_name refl, message_spellable runtime_exception_name message fine)

message_utf8 : (cause : RuntimeCause) → IsUtf8 (message_of cause)
unfolding message_of
message_utf8 Null = utf8_of_ascii (codes "null") refl
message_utf8 Range = utf8_of_ascii (codes "range") refl
message_utf8 Depth = utf8_of_ascii (codes "depth") refl
message_utf8 TooLarge = utf8_of_ascii (codes "too large") refl
message_utf8 TooDeep = utf8_of_ascii (codes "too deep") refl

pub caused_goes : (cause : RuntimeCause) → AnswerGoes (caused cause)
caused_goes cause = runtime_goes (message_of cause) (message_utf8 cause)

answer_by : (b : Bool) (a c : Answer) → AnswerGoes a → AnswerGoes c → AnswerGoes (if b then a else c)
answer_by true a c p q = p
answer_by false a c p q = q

declared_goes : (reg : List Entity) (f : Function) (a : Answer) → AnswerGoes a → AnswerGoes (as_declared reg f a)
declared_goes reg f (returned x outs) fine = fine
declared_goes reg f (raised k x) fine =
    answer_by (may_raise reg f k) (raised k x) (runtime_raised (codes "undeclared " ++ name_of k)) fine
    (runtime_goes (codes "undeclared " ++ name_of k) (IsUtf8-append (codes "undeclared ") (name_of k) (utf8_of_ascii (codes "undeclared ") refl) fine.0))

sendable_goes : (tid face : List ℕ) (number : ℕ) (a : Answer) → AnswerGoes a → AnswerGoes (sendable tid face number a)
sendable_goes tid face number a fine =
    answer_by (is_heavy (message_weight (reply tid face number a))) (caused TooLarge) (if is_deep (answer_depth a) then caused TooDeep else a) (caused_goes TooLarge)
    (answer_by (is_deep (answer_depth a)) (caused TooDeep) a (caused_goes TooDeep) fine)

pub leaving_goes : (reg : List Entity) (tid face : List ℕ) (number : ℕ) (f : Function) (a : Answer) → AnswerGoes a → AnswerGoes (leaving reg tid face number f a)
unfolding leaving
leaving_goes reg tid face number f a fine = sendable_goes tid face number (as_declared reg f a) (declared_goes reg f a fine)

leaving_by : (reg : List Entity) (tid : List ℕ) (b : Body) (a : Answer) (f : Option Function) → numbered reg b.face b.function ≡ f → AnswerGoes a → AnswerGoes (leaving_frame reg tid b a)
unfolding leaving_frame
leaving_by reg tid b a None is fine = rw is fine
leaving_by reg tid b a (Some f) is fine = rw is (leaving_goes reg tid b.face b.function f a fine)

pub leaving_frame_goes : (reg : List Entity) (tid : List ℕ) (b : Body) (a : Answer) → AnswerGoes a → AnswerGoes (leaving_frame reg tid b a)
leaving_frame_goes reg tid b a fine = leaving_by reg tid b a (numbered reg b.face b.function) refl fine

ending_spellable : (a : Answer) → AnswerGoes a → EffectSpellable (ending a)
ending_spellable (returned x outs) fine = fine
ending_spellable (raised k x) fine = fine

pub ends_with_spellable : (reg : List Entity) (r : Running) (a : Answer) → AnswerGoes a → EffectSpellable (ends_with reg r a)
ends_with_spellable reg r a fine = ending_spellable (leaving reg r.tid r.face r.number r.function a) (leaving_goes reg r.tid r.face r.number r.function a fine)

fails_spellable : (reg : List Entity) (r : Running) (cause : RuntimeCause) → EffectSpellable (fails reg r cause)
fails_spellable reg r cause = ends_with_spellable reg r (caused cause) (caused_goes cause)

on_value_spellable : (reg : List Entity) (r : Running) (x : Result Plain RuntimeCause) (go : Plain → Effect) → OkSpellable x
    → ((x : Plain) → IsSpellable x → EffectSpellable (go x)) → EffectSpellable (on_value reg r x go)
on_value_spellable reg r (Ok x) go fine then_fine = then_fine x fine
on_value_spellable reg r (Err cause) go fine then_fine = fails_spellable reg r cause

-- ---- values that come out

out_by : (b : Bool) (x : Plain) (rest : List Plain) → IsSpellable x → AllSpellable rest → AllSpellable (if b then x ∷ rest else rest)
out_by true x rest here behind = (here, behind)
out_by false x rest here behind = behind

outs_spellable : (ps : List Param) (xs : List Variable) → VariablesSpellable xs → AllSpellable (out_values ps xs)
unfolding out_values
outs_spellable [] xs fine = tt
outs_spellable (p ∷ ps) xs fine = out_by (comes p.way) (value_under p.name xs) (out_values ps xs) (under_spellable p.name xs fine) (outs_spellable ps xs fine)

pub returns_spellable : (reg : List Entity) (r : Running) (x : Plain) → SceneSpellable r.scene → IsSpellable x → EffectSpellable (returns_value reg r x)
returns_spellable reg r x scene fine =
    ends_with_spellable reg r (returned x (out_values r.function.params r.scene.variables)) (fine, outs_spellable r.function.params r.scene.variables scene.variables)

pub return_spellable : (reg : List Entity) (r : Running) (back : Option Expression) → SceneSpellable r.scene → IsWritableIf back → EffectSpellable (return_effect reg r back)
unfolding return_effect
return_spellable reg r None scene fine = returns_spellable reg r v.void scene void_spellable
return_spellable reg r (Some a) scene fine =
    on_value_spellable reg r (evaluated r.scene a) (returns_value reg r) (evaluated_spellable r.scene a scene fine) (λ x is. returns_spellable reg r x scene is)

-- ---- calls

abbrev pub IfAllSpellable : Option (List Plain) → Type 0
IfAllSpellable None = Unit
IfAllSpellable (Some xs) = AllSpellable xs

into_by : (s : Scene) (a : Expression) (args : List Argument) (x : Option Plain) (xs : Option (List Plain)) → value_of s a ≡ x → given_values s args ≡ xs
    → IfSpellable x → IfAllSpellable xs → IfAllSpellable (given_values s (into a ∷ args))
unfolding given_values
into_by s a args None xs is are here rest = rw is tt
into_by s a args (Some x) None is are here rest = rw (is, are) tt
into_by s a args (Some x) (Some xs) is are here rest = rw (is, are) (here, rest)

both_by : (x : Plain) (o : Option (List Plain)) → IsSpellable x → IfAllSpellable o → IfAllSpellable (option_map (λ xs. x ∷ xs) o)
both_by x None here rest = tt
both_by x (Some xs) here rest = (here, rest)

pub given_spellable : (s : Scene) (args : List Argument) → SceneSpellable s → AllByRecursion IsWritableArgument args → IfAllSpellable (given_values s args)
unfolding given_values
given_spellable s [] scene fine = tt
given_spellable s (into a ∷ args) scene fine =
    into_by s a args (value_of s a) (given_values s args) refl refl (value_spellable s a scene fine.0) (given_spellable s args scene fine.1)
given_spellable s (out name ∷ args) scene fine = given_spellable s args scene fine.1
given_spellable s (both name ∷ args) scene fine =
    both_by (value_under name s.variables) (given_values s args) (under_spellable name s.variables scene.variables) (given_spellable s args scene fine.1)

sent_by : (reg : List Entity) (r : Running) (full heavy deep : Bool) (e : Effect) → EffectSpellable e
    → EffectSpellable (if full then fails reg r Depth else (if heavy then fails reg r TooLarge else (if deep then fails reg r TooDeep else e)))
sent_by reg r true heavy deep e fine = fails_spellable reg r Depth
sent_by reg r false true deep e fine = fails_spellable reg r TooLarge
sent_by reg r false false true e fine = fails_spellable reg r TooDeep
sent_by reg r false false false e fine = fine

calls_object_spellable : (reg : List Entity) (r : Running) (c : Call) (target : Ref) (oid face : List ℕ) (args : Option (List Plain))
    → IsSpellableRef target → IfAllSpellable args → EffectSpellable (calls_object reg r c target oid face args)
calls_object_spellable reg r c target oid face None here fine = fails_spellable reg r Range
calls_object_spellable reg r c target oid face (Some args) here fine =
    sent_by reg r (is_full r.depth) (is_heavy (message_weight (request r.tid oid face (number_in reg face c.callee) args))) (is_deep (depth_in (plains args)))
    (calls target (number_in reg face c.callee) args (option_map (λ f. f.name) c.to)) (here, fine)

calls_target_spellable : (reg : List Entity) (r : Running) (c : Call) (target : Ref) → SceneSpellable r.scene → IsSpellableRef target
    → AllByRecursion IsWritableArgument c.arguments → EffectSpellable (calls_target reg r c target)
calls_target_spellable reg r c null scene here fine = fails_spellable reg r Null
calls_target_spellable reg r c (own oid face) scene here fine =
    calls_object_spellable reg r c (own oid face) oid face (given_values r.scene c.arguments) here (given_spellable r.scene c.arguments scene fine)
calls_target_spellable reg r c (peer oid face) scene here fine =
    calls_object_spellable reg r c (peer oid face) oid face (given_values r.scene c.arguments) here (given_spellable r.scene c.arguments scene fine)

object_of_spellable : (x : Plain) → IsSpellable x → IsSpellableRef (object_of x)
object_of_spellable (v.ref r) fine = ref_in r fine
object_of_spellable x fine = tt

call_spellable : (reg : List Entity) (r : Running) (c : Call) → SceneSpellable r.scene → AllByRecursion IsWritableArgument c.arguments → EffectSpellable (call_effect reg r c)
unfolding call_effect
call_spellable reg r c scene fine =
    calls_target_spellable reg r c (object_of (value_of_word r.scene c.target)) scene
    (object_of_spellable (value_of_word r.scene c.target) (word_spellable r.scene c.target scene)) fine

queries_object_spellable : (reg : List Entity) (r : Running) (q : Query) (target : Ref) (oid face : List ℕ) → IsSpellableRef target
    → EffectSpellable (queries_object reg r q target oid face)
queries_object_spellable reg r q target oid face here =
    sent_by reg r (is_full r.depth) (is_heavy (message_weight (request r.tid oid face 0 (v.kind (kd.interface q.wanted) ∷ [])))) (is_deep (depth_in (plains (v.kind (kd.interface q.wanted) ∷ []))))
    (queries target q.wanted q.to) here

queries_target_spellable : (reg : List Entity) (r : Running) (q : Query) (target : Ref) → IsSpellableRef target → EffectSpellable (queries_target reg r q target)
queries_target_spellable reg r q null here = fails_spellable reg r Null
queries_target_spellable reg r q (own oid face) here = queries_object_spellable reg r q (own oid face) oid face here
queries_target_spellable reg r q (peer oid face) here = queries_object_spellable reg r q (peer oid face) oid face here

query_spellable : (reg : List Entity) (r : Running) (q : Query) → SceneSpellable r.scene → EffectSpellable (query_effect reg r q)
unfolding query_effect
query_spellable reg r q scene =
    queries_target_spellable reg r q (object_of (value_of_word r.scene q.target)) (object_of_spellable (value_of_word r.scene q.target) (word_spellable r.scene q.target scene))

-- ---- statements

pub effect_by : (b : Bool) (x y : Effect) → EffectSpellable x → EffectSpellable y → EffectSpellable (if b then x else y)
effect_by true x y p q = p
effect_by false x y p q = q

when_spellable : (reg : List Entity) (r : Running) (t : Test) (back : Option Expression) → SceneSpellable r.scene → IsWritable t.right → IsWritableIf back
    → EffectSpellable (when_effect reg r t back)
unfolding when_effect
when_spellable reg r t back scene right fine =
    on_value_spellable reg r (evaluated r.scene t.right) (λ x. if compares t.comparison (value_of_word r.scene t.left) x then return_effect reg r back else skips)
    (evaluated_spellable r.scene t.right scene right)
    (λ x is. effect_by (compares t.comparison (value_of_word r.scene t.left) x) (return_effect reg r back) skips (return_spellable reg r back scene fine) tt)

pub statement_spellable : (reg : List Entity) (r : Running) (s : Statement) → SceneSpellable r.scene → IsWritableStatement s → EffectSpellable (statement_effect reg r s)
unfolding statement_effect let_effect set_effect set_field_effect raise_effect
statement_spellable reg r (let_variable f a) scene fine =
    on_value_spellable reg r (evaluated r.scene a) (λ x. lets (record { name = f.name; value = x })) (evaluated_spellable r.scene a scene fine) (λ x is. is)
statement_spellable reg r (set_variable name a) scene fine =
    on_value_spellable reg r (evaluated r.scene a) (λ x. sets (record { name = name; value = x })) (evaluated_spellable r.scene a scene fine) (λ x is. is)
statement_spellable reg r (set_field name a) scene fine =
    on_value_spellable reg r (evaluated r.scene a) (λ x. sets_field (record { name = name; value = x })) (evaluated_spellable r.scene a scene fine) (λ x is. is)
statement_spellable reg r (call c) scene fine = call_spellable reg r c scene fine
statement_spellable reg r (query q) scene fine = query_spellable reg r q scene
statement_spellable reg r (make m) scene fine = tt
statement_spellable reg r (drop_variable name) scene fine = tt
statement_spellable reg r (when t back) scene fine = when_spellable reg r t back scene fine.0 fine.1
statement_spellable reg r (return back) scene fine = return_spellable reg r back scene fine
statement_spellable reg r (raise name a) scene fine =
    on_value_spellable reg r (evaluated r.scene a) (λ x. ends_with reg r (raised (kd.exception name) x)) (evaluated_spellable r.scene a scene fine.1)
    (λ x is. ends_with_spellable reg r (raised (kd.exception name) x) (fine.0, is))
statement_spellable reg r dispose scene fine = tt

pub got_one : {X : Type 0} (P : X → Type 0) (xs : List X) (n : ℕ) → AllByRecursion P xs → (x : X) → slice_get xs n ≡ Some x → P x
got_one P [] n all x is = absurd (cc)
got_one P (y ∷ ys) zero all x is = let same : y ≡ x = cc in subst P same all.0
got_one P (y ∷ ys) (suc n) all x is = got_one P ys n all.1 x is

pub found_one : {X : Type 0} (P : X → Type 0) (test : X → Bool) (xs : List X) → AllByRecursion P xs → (x : X) → find test xs ≡ Some x → P x
found_one P test [] all x is = absurd (cc)
found_one P test (y ∷ ys) all x is = found_by P (test y) y (find test ys) x all.0 (found_one P test ys all.1 x) is
  where
    found_by : {X : Type 0} (P : X → Type 0) (b : Bool) (y : X) (behind : Option X) (x : X) → P y → (behind ≡ Some x → P x) → (if b then Some y else behind) ≡ Some x → P x
    found_by P true y behind x here there is = let same : y ≡ x = cc in subst P same here
    found_by P false y behind x here there is = there is
