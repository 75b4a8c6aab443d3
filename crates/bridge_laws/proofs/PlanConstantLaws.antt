-- The constants of a plan that keeps the rules refer to nothing.
use Rattle.std.proofs.Common.{◌≡◌, ℕ, ◌+◌, Bool, true, false, if◌then◌else◌, List, [], ◌∷◌, ◌++◌, flat_map, Option, None, Some, option_map, refl, ap, ◌∙◌, arith}
use Rattle.literal_model.specs.Readings.{and_then}
use Rattle.uno_model.specs.Entities.{Entity, Field}
use Rattle.uno_model.specs.Functions.{Function}
use Rattle.uno_model.specs.Kinds.{Kind, exception_of}
use Rattle.uno_model.specs.Kinds as kd
use Rattle.uno_model.specs.NamedTypes.{type_of_text}
use Rattle.uno_model.specs.Values.{Ref}
use Rattle.plan_model.specs.Building.{with_result, with_statement, with_root_statement, with_line, opens_method, with_field, closes, behind_statement, behind_root_statement, with_service, with_singleton, with_export, behind, behind_all}
use Rattle.plan_model.specs.Contexts.{Scoped, Context, Block, at_top, in_behaviour, in_method, in_thread, opening, behaviour_number, declared_function, kind_of_variable, kind_of_field, kind_of_word, called_function, known_variable, open_function}
use Rattle.plan_model.specs.Evaluation.{both_values}
use Rattle.plan_model.specs.Expressions.{Word, Expression, Argument}
use Rattle.plan_model.specs.Keeps.{KeepsTheRules}
use Rattle.plan_model.specs.Lines.{Term, Terms, leaf, type_named, void_any, typed, elements, members, word, operation, none, more, Declared, Line}
use Rattle.plan_model.specs.Lines as line
use Rattle.plan_model.specs.Plans.{Plan, Behaviour, Method}
use Rattle.plan_model.specs.Statements.{Statement, RootStatement}
use Rattle.plan_model.specs.Statements as s
use Rattle.plan_model.specs.TypedStatements.{face_of_word, call_with, declared_field, result_field, call_of, query_of, making_of, set_of, stays, result_kind_of, back_of, is_compared, test_of, statement_of, root_statement_of}
use Rattle.plan_model.specs.Typing.{only_if, expression_of, arguments_of}
use Rattle.plan_model.specs.declared.comparison.Comparison.{Comparison}
use Rattle.bridge_laws.specs.Counting.{total}
use Rattle.bridge_laws.specs.Living.{constants_in, constants_if, argument_constants, statement_constants, plan_constants}
use Rattle.bridge_laws.proofs.JobLaws.{method_constants, behaviour_constants}
use Rattle.bridge_laws.proofs.TermConstantLaws.{expression_counts, arguments_count, term_counts, given_count}
use Rattle.bridge_laws.proofs.Sums.{total_append, total_flat_map, total_push}

-- ---- statements

abbrev pub statement_counts : (Ref → ℕ) → Option Statement → ℕ
statement_counts f None = 0
statement_counts f (Some x) = total f (statement_constants x)

abbrev pub call_counts : (Ref → ℕ) → Option s.Call → ℕ
call_counts f None = 0
call_counts f (Some x) = total f (flat_map argument_constants x.arguments)

made_counts : (f : Ref → ℕ) (mk : Expression → Statement) (o : Option Expression) → ((a : Expression) → statement_constants (mk a) ≡ constants_in a) → expression_counts f o ≡ 0
    → statement_counts f (option_map mk o) ≡ 0
made_counts f mk None same fine = refl
made_counts f mk (Some a) same fine = ap (total f) (same a) ∙ fine

call_with_counts : (f : Ref → ℕ) (target : Word) (fn : Function) (args : Option (List Argument)) (to : Option (Option Field)) → arguments_count f args ≡ 0
    → call_counts f (both_values args to (call_with target fn)) ≡ 0
call_with_counts f target fn None to fine = refl
call_with_counts f target fn (Some args) None fine = refl
call_with_counts f target fn (Some args) (Some to) fine = fine

call_on : (f : Ref → ℕ) (reg : List Entity) (c : Context) (to : Option Declared) (target : Word) (args : List Term) (fn : Option Function)
    → call_counts f (and_then fn (λ fn. both_values (arguments_of reg c fn.params args) (result_field reg fn to) (call_with target fn))) ≡ 0
call_on f reg c to target args None = refl
call_on f reg c to target args (Some fn) =
    call_with_counts f target fn (arguments_of reg c fn.params args) (result_field reg fn to) (given_count f reg c fn.params args)

call_of_counts : (f : Ref → ℕ) (reg : List Entity) (c : Context) (to : Option Declared) (target : Word) (function : List ℕ) (args : List Term)
    → call_counts f (call_of reg c to target function args) ≡ 0
unfolding call_of
call_of_counts f reg c to target function args = call_on f reg c to target args (and_then (face_of_word c target) (λ face. called_function reg face function))

call_statement : (f : Ref → ℕ) (o : Option s.Call) → call_counts f o ≡ 0 → statement_counts f (option_map s.call o) ≡ 0
call_statement f None fine = refl
call_statement f (Some x) fine = fine

plain_statement : {X : Type 0} (f : Ref → ℕ) (mk : X → Statement) (o : Option X) → ((x : X) → statement_constants (mk x) ≡ []) → statement_counts f (option_map mk o) ≡ 0
unfolding total
plain_statement f mk None same = refl
plain_statement f mk (Some x) same = ap (total f) (same x)

let_counts : (f : Ref → ℕ) (reg : List Entity) (c : Context) (t : Term) (d : Option Field)
    → statement_counts f (and_then d (λ d. option_map (s.let_variable d) (expression_of reg c t d.kind))) ≡ 0
let_counts f reg c t None = refl
let_counts f reg c t (Some d) = made_counts f (s.let_variable d) (expression_of reg c t d.kind) (λ a. refl) (term_counts f reg c t d.kind)

set_counts : (f : Ref → ℕ) (reg : List Entity) (c : Context) (mk : Expression → Statement) (k : Option Kind) (t : Term) → ((a : Expression) → statement_constants (mk a) ≡ constants_in a)
    → statement_counts f (set_of reg c mk k t) ≡ 0
set_counts f reg c mk None t same = refl
set_counts f reg c mk (Some k) t same = made_counts f mk (expression_of reg c t k) same (term_counts f reg c t k)

drop_counts : (f : Ref → ℕ) (b : Bool) (name : List ℕ) → statement_counts f (if b then None else Some (s.drop_variable name)) ≡ 0
unfolding total
drop_counts f true name = refl
drop_counts f false name = refl

abbrev pub back_counts : (Ref → ℕ) → Option (Option Expression) → ℕ
back_counts f None = 0
back_counts f (Some b) = total f (constants_if b)

returned_counts : (f : Ref → ℕ) (o : Option Expression) → expression_counts f o ≡ 0 → back_counts f (option_map Some o) ≡ 0
returned_counts f None fine = refl
returned_counts f (Some a) fine = fine

back_of_counts : (f : Ref → ℕ) (reg : List Entity) (c : Context) (back : Option Term) → back_counts f (back_of reg c back) ≡ 0
unfolding total
back_of_counts f reg c None = refl
back_of_counts f reg c (Some t) =
    returned_counts f (expression_of reg c t (result_kind_of (open_function c.block))) (term_counts f reg c t (result_kind_of (open_function c.block)))

return_counts : (f : Ref → ℕ) (o : Option (Option Expression)) → back_counts f o ≡ 0 → statement_counts f (option_map s.return o) ≡ 0
return_counts f None fine = refl
return_counts f (Some b) fine = fine

abbrev pub test_counts : (Ref → ℕ) → Option s.Test → ℕ
test_counts f None = 0
test_counts f (Some t) = total f (constants_in t.right)

test_made : (f : Ref → ℕ) (left : Word) (comparison : Comparison) (b : Bool) (o : Option Expression) → expression_counts f o ≡ 0
    → test_counts f (only_if b (option_map (λ a. record { left = left; comparison = comparison; right = a }) o)) ≡ 0
test_made f left comparison false o fine = refl
test_made f left comparison true None fine = refl
test_made f left comparison true (Some a) fine = fine

test_of_counts : (f : Ref → ℕ) (reg : List Entity) (c : Context) (left : Word) (comparison : Comparison) (right : Term) (k : Option Kind)
    → test_counts f (and_then k (λ k. only_if (is_compared comparison k) (option_map (λ a. record { left = left; comparison = comparison; right = a }) (expression_of reg c right k)))) ≡ 0
test_of_counts f reg c left comparison right None = refl
test_of_counts f reg c left comparison right (Some k) =
    test_made f left comparison (is_compared comparison k) (expression_of reg c right k) (term_counts f reg c right k)

when_counts : (f : Ref → ℕ) (t : Option s.Test) (b : Option (Option Expression)) → test_counts f t ≡ 0 → back_counts f b ≡ 0
    → statement_counts f (both_values t b (λ t b. Some (s.when t b))) ≡ 0
when_counts f None b here there = refl
when_counts f (Some t) None here there = refl
when_counts f (Some t) (Some b) here there = let parts = total_append f (constants_in t.right) (constants_if b) in omega arith

raise_counts : (f : Ref → ℕ) (reg : List Entity) (c : Context) (t : Term) (name : Option (List ℕ))
    → statement_counts f (and_then name (λ name. option_map (s.raise name) (expression_of reg c t (kd.exception name)))) ≡ 0
raise_counts f reg c t None = refl
raise_counts f reg c t (Some name) = made_counts f (s.raise name) (expression_of reg c t (kd.exception name)) (λ a. refl) (term_counts f reg c t (kd.exception name))

line_counts : (f : Ref → ℕ) (reg : List Entity) (c : Context) (l : Line) → statement_counts f (statement_of reg c l) ≡ 0
unfolding statement_of total
line_counts f reg c (line.let_variable d t) = let_counts f reg c t (declared_field reg d)
line_counts f reg c (line.set_variable name t) = set_counts f reg c (s.set_variable name) (kind_of_variable c name) t (λ a. refl)
line_counts f reg c (line.set_field name t) = set_counts f reg c (s.set_field name) (kind_of_field c name) t (λ a. refl)
line_counts f reg c (line.call to target function args) = call_statement f (call_of reg c to target function args) (call_of_counts f reg c to target function args)
line_counts f reg c (line.query d target) = plain_statement f s.query (query_of reg c d target) (λ q. refl)
line_counts f reg c (line.make d b) = plain_statement f s.make (making_of reg c d b) (λ m. refl)
line_counts f reg c (line.drop_variable name) = drop_counts f (stays (known_variable c name)) name
line_counts f reg c (line.when left comparison right back) =
    when_counts f (test_of reg c left comparison right) (back_of reg c back) (test_of_counts f reg c left comparison right (kind_of_word c left)) (back_of_counts f reg c back)
line_counts f reg c (line.return back) = return_counts f (back_of reg c back) (back_of_counts f reg c back)
line_counts f reg c (line.raise k t) = raise_counts f reg c t (and_then (type_of_text reg k) exception_of)
line_counts f reg c line.dispose = refl
line_counts f reg c l = refl

-- ---- blocks

abbrev pub block_counts : (Ref → ℕ) → Block → ℕ
block_counts f at_top = 0
block_counts f (in_behaviour b) = behaviour_constants f b
block_counts f (in_method b m fn) = behaviour_constants f b + method_constants f m
block_counts f (in_thread ss) = 0

abbrev pub context_counts : (Ref → ℕ) → Context → ℕ
context_counts f c = total f (plan_constants c.plan) + block_counts f c.block

result_same : (f : Ref → ℕ) (to : Option Field) (c : Context) → context_counts f (with_result to c) ≡ context_counts f c
result_same f None c = refl
result_same f (Some x) c = refl

-- variables change no constants
statement_same : (f : Ref → ℕ) (x : Statement) (c : Context) → context_counts f (behind_statement x c) ≡ context_counts f c
statement_same f (s.let_variable d a) c = refl
statement_same f (s.call x) c = result_same f x.to c
statement_same f (s.query q) c = refl
statement_same f (s.make m) c = refl
statement_same f (s.drop_variable name) c = refl
statement_same f x c = refl

root_statement_same : (f : Ref → ℕ) (x : RootStatement) (c : Context) → context_counts f (behind_root_statement x c) ≡ context_counts f c
root_statement_same f (s.ask to wanted name) c = refl
root_statement_same f (s.ask_instance to wanted) c = refl
root_statement_same f (s.root_call x) c = result_same f x.to c
root_statement_same f (s.root_query q) c = refl
root_statement_same f (s.root_make m) c = refl
root_statement_same f (s.root_drop name) c = refl
root_statement_same f x c = refl

body_push : (f : Ref → ℕ) (ss : List Statement) (x : Statement) → total f (flat_map statement_constants (ss ++ x ∷ [])) ≡ total f (flat_map statement_constants ss) + total f (statement_constants x)
body_push f ss x =
    let after = total_flat_map f statement_constants (ss ++ x ∷ []) in let before = total_flat_map f statement_constants ss in
    let push = total_push (λ x. total f (statement_constants x)) ss x in omega arith

with_statement_counts : (f : Ref → ℕ) (b : Behaviour) (m : Method) (fn : Function) (x : Option Statement) (c : Context) → c.block ≡ in_method b m fn → statement_counts f x ≡ 0
    → context_counts f c ≡ 0 → context_counts f (with_statement b m fn x c) ≡ 0
with_statement_counts f b m fn None c is fine before = before
with_statement_counts f b m fn (Some x) c is fine before =
    let same = statement_same f x (record c { block = in_method b (record m { body = m.body ++ x ∷ [] }) fn }) in
    let push = body_push f m.body x in let block = ap (block_counts f) is in omega arith

with_root_counts : (f : Ref → ℕ) (ss : List RootStatement) (x : Option RootStatement) (c : Context) → context_counts f c ≡ 0 → context_counts f (with_root_statement ss x c) ≡ 0
with_root_counts f ss None c before = before
with_root_counts f ss (Some x) c before = let same = root_statement_same f x (record c { block = in_thread (ss ++ x ∷ []) }) in omega arith

abbrev pub context_of : Plan → Block → List Scoped → Context
context_of p block xs = record { plan = p; block = block; variables = xs }

with_line_counts : (f : Ref → ℕ) (reg : List Entity) (l : Line) (p : Plan) (block : Block) (xs : List Scoped) → context_counts f (context_of p block xs) ≡ 0
    → context_counts f (with_line reg l (context_of p block xs)) ≡ 0
with_line_counts f reg l p (in_method b m fn) xs before =
    with_statement_counts f b m fn (statement_of reg (context_of p (in_method b m fn) xs) l) (context_of p (in_method b m fn) xs) refl
    (line_counts f reg (context_of p (in_method b m fn) xs) l) before
with_line_counts f reg l p (in_thread ss) xs before =
    with_root_counts f ss (root_statement_of reg (context_of p (in_thread ss) xs) l) (context_of p (in_thread ss) xs) before
with_line_counts f reg l p (in_behaviour b) xs before = before
with_line_counts f reg l p at_top xs before = before

opens_counts : (f : Ref → ℕ) (block : Block) (face function : List ℕ) (found : Option Function) (c : Context) → c.block ≡ block → context_counts f c ≡ 0
    → context_counts f (opens_method block face function found c) ≡ 0
unfolding total
opens_counts f (in_behaviour b) face function (Some fn) c is before = let block = ap (block_counts f) is in omega arith
opens_counts f block face function found c is before = before

field_counts : (f : Ref → ℕ) (block : Block) (name : List ℕ) (k : Option Kind) (c : Context) → c.block ≡ block → context_counts f c ≡ 0 → context_counts f (with_field block name k c) ≡ 0
field_counts f (in_behaviour b) name (Some k) c is before = let block = ap (block_counts f) is in omega arith
field_counts f block name k c is before = before

behaviours_push : (f : Ref → ℕ) (p : Plan) (b : Behaviour) → total f (plan_constants (record p { behaviours = p.behaviours ++ b ∷ [] })) ≡ total f (plan_constants p) + behaviour_constants f b
unfolding plan_constants
behaviours_push f p b =
    let after = total_flat_map f (λ b. flat_map (λ m. flat_map statement_constants m.body) b.methods) (p.behaviours ++ b ∷ []) in
    let before = total_flat_map f (λ b. flat_map (λ m. flat_map statement_constants m.body) b.methods) p.behaviours in
    let push = total_push (behaviour_constants f) p.behaviours b in omega arith

methods_push : (f : Ref → ℕ) (b : Behaviour) (m : Method) → behaviour_constants f (record b { methods = b.methods ++ m ∷ [] }) ≡ behaviour_constants f b + method_constants f m
methods_push f b m =
    let after = total_flat_map f (λ m. flat_map statement_constants m.body) (b.methods ++ m ∷ []) in
    let before = total_flat_map f (λ m. flat_map statement_constants m.body) b.methods in
    let push = total_push (method_constants f) b.methods m in omega arith

same_behaviours : (f : Ref → ℕ) (p q : Plan) → p.behaviours ≡ q.behaviours → total f (plan_constants p) ≡ total f (plan_constants q)
unfolding plan_constants
same_behaviours f p q same = ap (λ bs. total f (flat_map (λ b. flat_map (λ m. flat_map statement_constants m.body) b.methods) bs)) same

closes_counts : (f : Ref → ℕ) (block : Block) (c : Context) → c.block ≡ block → context_counts f c ≡ 0 → context_counts f (closes block c) ≡ 0
closes_counts f (in_behaviour b) c is before = let block = ap (block_counts f) is in let push = behaviours_push f c.plan b in omega arith
closes_counts f (in_method b m fn) c is before = let block = ap (block_counts f) is in let push = methods_push f b m in omega arith
closes_counts f (in_thread ss) c is before = let same = same_behaviours f (record c.plan { threads = c.plan.threads ++ ss ∷ [] }) c.plan refl in omega arith
closes_counts f at_top c is before = before

plan_counts : (f : Ref → ℕ) (p : Plan) (c : Context) → p.behaviours ≡ c.plan.behaviours → context_counts f c ≡ 0 → context_counts f (record c { plan = p }) ≡ 0
plan_counts f p c same before = let alike = same_behaviours f p c.plan same in omega arith

service_same : (o : Option ℕ) (name : List ℕ) (p : Plan) → (with_service o name p).behaviours ≡ p.behaviours
service_same None name p = refl
service_same (Some n) name p = refl

singleton_same : (o : Option ℕ) (name : List ℕ) (p : Plan) → (with_singleton o name p).behaviours ≡ p.behaviours
singleton_same None name p = refl
singleton_same (Some n) name p = refl

export_same : (o : Option ℕ) (name : List ℕ) (p : Plan) → (with_export o name p).behaviours ≡ p.behaviours
export_same None name p = refl
export_same (Some n) name p = refl

-- ---- lines

behind_counts : (f : Ref → ℕ) (reg : List Entity) (l : Line) (c : Context) → context_counts f c ≡ 0 → context_counts f (behind reg l c) ≡ 0
unfolding behind total
behind_counts f reg (line.behaviour name faces) c before = omega arith
behind_counts f reg (line.field d) c before = field_counts f c.block d.name (type_of_text reg d.kind) c refl before
behind_counts f reg (line.method face function) c before = opens_counts f c.block face function (declared_function reg face function) c refl before
behind_counts f reg (line.service name b) c before = plan_counts f (with_service (behaviour_number c b) name c.plan) c (service_same (behaviour_number c b) name c.plan) before
behind_counts f reg (line.singleton name b) c before = plan_counts f (with_singleton (behaviour_number c b) name c.plan) c (singleton_same (behaviour_number c b) name c.plan) before
behind_counts f reg (line.export name b) c before = plan_counts f (with_export (behaviour_number c b) name c.plan) c (export_same (behaviour_number c b) name c.plan) before
behind_counts f reg line.thread c before = omega arith
behind_counts f reg line.end_line c before = closes_counts f c.block c refl before
behind_counts f reg l c before = with_line_counts f reg l c.plan c.block c.variables before

all_behind : (f : Ref → ℕ) (reg : List Entity) (ls : List Line) (c : Context) → context_counts f c ≡ 0 → context_counts f (behind_all reg ls c) ≡ 0
unfolding behind_all
all_behind f reg [] c before = before
all_behind f reg (l ∷ ls) c before = all_behind f reg ls (behind reg l c) (behind_counts f reg l c before)

opening_counts : (f : Ref → ℕ) → context_counts f opening ≡ 0
unfolding plan_constants total
opening_counts f = refl

none_counted : (rs : List Ref) → total (λ r. 1) rs ≡ 0 → rs ≡ []
unfolding total
none_counted [] fine = refl
none_counted (r ∷ rs) fine = absurd (omega arith)

-- the constants of a plan that keeps the rules
pub plan_refers_to_nothing : (reg : List Entity) (p : Plan) → KeepsTheRules reg p → plan_constants p ≡ []
plan_refers_to_nothing reg p keeps =
    let all = all_behind (λ r. 1) reg keeps.lines opening (opening_counts (λ r. 1)) in
    let same = ap (λ q. total (λ r. 1) (plan_constants q)) keeps.made in
    none_counted (plan_constants p) (omega arith)
