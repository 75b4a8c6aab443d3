-- The constants in the statements of roots refer to nothing, in a plan that keeps the rules.
use Rattle.std.proofs.Common.{◌≡◌, ℕ, ◌+◌, List, [], ◌∷◌, ◌++◌, flat_map, Option, None, Some, option_map, refl, ap, arith}
use Rattle.literal_model.specs.Readings.{and_then}
use Rattle.uno_model.specs.Entities.{Entity, Field}
use Rattle.uno_model.specs.Functions.{Function}
use Rattle.uno_model.specs.Kinds.{Kind}
use Rattle.uno_model.specs.NamedTypes.{type_of_text}
use Rattle.uno_model.specs.Values.{Ref}
use Rattle.plan_model.specs.Building.{with_result, with_statement, with_root_statement, with_line, opens_method, with_field, closes, behind_statement, behind_root_statement, with_service, with_singleton, with_export, behind, behind_all}
use Rattle.plan_model.specs.Contexts.{Scoped, Context, Block, at_top, in_behaviour, in_method, in_thread, opening, behaviour_number, declared_function, called_function}
use Rattle.plan_model.specs.Evaluation.{both_values}
use Rattle.plan_model.specs.Expressions.{Word, Argument}
use Rattle.plan_model.specs.Keeps.{KeepsTheRules}
use Rattle.plan_model.specs.Lines.{Term, Declared, Line}
use Rattle.plan_model.specs.Lines as line
use Rattle.plan_model.specs.Plans.{Plan, Behaviour, Method}
use Rattle.plan_model.specs.Statements.{Statement, RootStatement}
use Rattle.plan_model.specs.Statements as s
use Rattle.plan_model.specs.TypedStatements.{face_of_word, face_of_text, call_with, result_field, call_of, query_of, making_of, statement_of, root_statement_of}
use Rattle.plan_model.specs.Typing.{arguments_of}
use Rattle.bridge_laws.specs.Counting.{total}
use Rattle.bridge_laws.specs.Living.{argument_constants}
use Rattle.bridge_laws.proofs.TermConstantLaws.{arguments_count, given_count}
use Rattle.bridge_laws.proofs.Sums.{total_flat_map, total_push}
use Rattle.bridge_laws.specs.RootConstants.{root_statement_constants, root_constants}

-- ---- statements

abbrev root_counts : (Ref → ℕ) → Option RootStatement → ℕ
root_counts f None = 0
root_counts f (Some x) = total f (root_statement_constants x)

abbrev call_counts : (Ref → ℕ) → Option s.Call → ℕ
call_counts f None = 0
call_counts f (Some x) = total f (flat_map argument_constants x.arguments)

call_with_counts : (f : Ref → ℕ) (target : Word) (fn : Function) (args : Option (List Argument)) (to : Option (Option Field)) → arguments_count f args ≡ 0
    → call_counts f (both_values args to (call_with target fn)) ≡ 0
call_with_counts f target fn None to fine = refl
call_with_counts f target fn (Some args) None fine = refl
call_with_counts f target fn (Some args) (Some to) fine = fine

call_on : (f : Ref → ℕ) (reg : List Entity) (c : Context) (to : Option Declared) (target : Word) (args : List Term) (fn : Option Function)
    → call_counts f (and_then fn (λ fn. both_values (arguments_of reg c fn.params args) (result_field reg fn to) (call_with target fn))) ≡ 0
call_on f reg c to target args None = refl
call_on f reg c to target args (Some fn) =
    call_with_counts f target fn (arguments_of reg c fn.params args) (result_field reg fn to) (given_count f reg c fn.params args)

call_of_counts : (f : Ref → ℕ) (reg : List Entity) (c : Context) (to : Option Declared) (target : Word) (function : List ℕ) (args : List Term)
    → call_counts f (call_of reg c to target function args) ≡ 0
unfolding call_of
call_of_counts f reg c to target function args = call_on f reg c to target args (and_then (face_of_word c target) (λ face. called_function reg face function))

call_statement : (f : Ref → ℕ) (o : Option s.Call) → call_counts f o ≡ 0 → root_counts f (option_map s.root_call o) ≡ 0
call_statement f None fine = refl
call_statement f (Some x) fine = fine

plain_statement : {X : Type 0} (f : Ref → ℕ) (mk : X → RootStatement) (o : Option X) → ((x : X) → root_statement_constants (mk x) ≡ []) → root_counts f (option_map mk o) ≡ 0
unfolding total
plain_statement f mk None none = refl
plain_statement f mk (Some x) none = ap (total f) (none x)

line_counts : (f : Ref → ℕ) (reg : List Entity) (c : Context) (l : Line) → root_counts f (root_statement_of reg c l) ≡ 0
unfolding root_statement_of total
line_counts f reg c (line.ask d name) = plain_statement f (λ wanted. s.ask d.name wanted name) (face_of_text reg d.kind) (λ wanted. refl)
line_counts f reg c (line.ask_instance d) = plain_statement f (s.ask_instance d.name) (face_of_text reg d.kind) (λ wanted. refl)
line_counts f reg c (line.call to target function args) = call_statement f (call_of reg c to target function args) (call_of_counts f reg c to target function args)
line_counts f reg c (line.query d target) = plain_statement f s.root_query (query_of reg c d target) (λ q. refl)
line_counts f reg c (line.make d b) = plain_statement f s.root_make (making_of reg c d b) (λ m. refl)
line_counts f reg c (line.drop_variable name) = refl
line_counts f reg c (line.same x y) = refl
line_counts f reg c line.dispose = refl
line_counts f reg c l = refl

-- ---- blocks

abbrev thread_constants : (Ref → ℕ) → List RootStatement → ℕ
thread_constants f ss = total f (flat_map root_statement_constants ss)

abbrev block_counts : (Ref → ℕ) → Block → ℕ
block_counts f at_top = 0
block_counts f (in_behaviour b) = 0
block_counts f (in_method b m fn) = 0
block_counts f (in_thread ss) = thread_constants f ss

abbrev context_counts : (Ref → ℕ) → Context → ℕ
context_counts f c = total f (root_constants c.plan) + block_counts f c.block

result_same : (f : Ref → ℕ) (to : Option Field) (c : Context) → context_counts f (with_result to c) ≡ context_counts f c
result_same f None c = refl
result_same f (Some x) c = refl

statement_same : (f : Ref → ℕ) (x : Statement) (c : Context) → context_counts f (behind_statement x c) ≡ context_counts f c
statement_same f (s.let_variable d a) c = refl
statement_same f (s.call x) c = result_same f x.to c
statement_same f (s.query q) c = refl
statement_same f (s.make m) c = refl
statement_same f (s.drop_variable name) c = refl
statement_same f x c = refl

root_statement_same : (f : Ref → ℕ) (x : RootStatement) (c : Context) → context_counts f (behind_root_statement x c) ≡ context_counts f c
root_statement_same f (s.ask to wanted name) c = refl
root_statement_same f (s.ask_instance to wanted) c = refl
root_statement_same f (s.root_call x) c = result_same f x.to c
root_statement_same f (s.root_query q) c = refl
root_statement_same f (s.root_make m) c = refl
root_statement_same f (s.root_drop name) c = refl
root_statement_same f x c = refl

thread_push : (f : Ref → ℕ) (ss : List RootStatement) (x : RootStatement) → thread_constants f (ss ++ x ∷ []) ≡ thread_constants f ss + total f (root_statement_constants x)
thread_push f ss x =
    let after = total_flat_map f root_statement_constants (ss ++ x ∷ []) in
    let before = total_flat_map f root_statement_constants ss in
    let push = total_push (λ x. total f (root_statement_constants x)) ss x in omega arith

with_statement_counts : (f : Ref → ℕ) (b : Behaviour) (m : Method) (fn : Function) (x : Option Statement) (c : Context) → c.block ≡ in_method b m fn → context_counts f c ≡ 0
    → context_counts f (with_statement b m fn x c) ≡ 0
with_statement_counts f b m fn None c is before = before
with_statement_counts f b m fn (Some x) c is before =
    let same = statement_same f x (record c { block = in_method b (record m { body = m.body ++ x ∷ [] }) fn }) in
    let block = ap (block_counts f) is in omega arith

with_root_counts : (f : Ref → ℕ) (ss : List RootStatement) (x : Option RootStatement) (c : Context) → c.block ≡ in_thread ss → root_counts f x ≡ 0 → context_counts f c ≡ 0
    → context_counts f (with_root_statement ss x c) ≡ 0
with_root_counts f ss None c is fine before = before
with_root_counts f ss (Some x) c is fine before =
    let same = root_statement_same f x (record c { block = in_thread (ss ++ x ∷ []) }) in
    let push = thread_push f ss x in
    let block = ap (block_counts f) is in omega arith

abbrev context_of : Plan → Block → List Scoped → Context
context_of p block xs = record { plan = p; block = block; variables = xs }

with_line_counts : (f : Ref → ℕ) (reg : List Entity) (l : Line) (p : Plan) (block : Block) (xs : List Scoped) → context_counts f (context_of p block xs) ≡ 0
    → context_counts f (with_line reg l (context_of p block xs)) ≡ 0
with_line_counts f reg l p (in_method b m fn) xs before =
    with_statement_counts f b m fn (statement_of reg (context_of p (in_method b m fn) xs) l) (context_of p (in_method b m fn) xs) refl before
with_line_counts f reg l p (in_thread ss) xs before =
    with_root_counts f ss (root_statement_of reg (context_of p (in_thread ss) xs) l) (context_of p (in_thread ss) xs) refl (line_counts f reg (context_of p (in_thread ss) xs) l) before
with_line_counts f reg l p (in_behaviour b) xs before = before
with_line_counts f reg l p at_top xs before = before

opens_counts : (f : Ref → ℕ) (block : Block) (face function : List ℕ) (found : Option Function) (c : Context) → c.block ≡ block → context_counts f c ≡ 0
    → context_counts f (opens_method block face function found c) ≡ 0
opens_counts f (in_behaviour b) face function (Some fn) c is before = let block = ap (block_counts f) is in omega arith
opens_counts f block face function found c is before = before

field_counts : (f : Ref → ℕ) (block : Block) (name : List ℕ) (k : Option Kind) (c : Context) → c.block ≡ block → context_counts f c ≡ 0 → context_counts f (with_field block name k c) ≡ 0
field_counts f (in_behaviour b) name (Some k) c is before = let block = ap (block_counts f) is in omega arith
field_counts f block name k c is before = before

threads_push : (f : Ref → ℕ) (p : Plan) (ss : List RootStatement) → total f (root_constants (record p { threads = p.threads ++ ss ∷ [] })) ≡ total f (root_constants p) + thread_constants f ss
unfolding root_constants
threads_push f p ss =
    let after = total_flat_map f (λ t. flat_map root_statement_constants t) (p.threads ++ ss ∷ []) in
    let before = total_flat_map f (λ t. flat_map root_statement_constants t) p.threads in
    let push = total_push (thread_constants f) p.threads ss in omega arith

same_threads : (f : Ref → ℕ) (p q : Plan) → p.threads ≡ q.threads → total f (root_constants p) ≡ total f (root_constants q)
unfolding root_constants
same_threads f p q same = ap (λ ts. total f (flat_map (λ t. flat_map root_statement_constants t) ts)) same

closes_counts : (f : Ref → ℕ) (block : Block) (c : Context) → c.block ≡ block → context_counts f c ≡ 0 → context_counts f (closes block c) ≡ 0
closes_counts f (in_behaviour b) c is before = let same = same_threads f (record c.plan { behaviours = c.plan.behaviours ++ b ∷ [] }) c.plan refl in omega arith
closes_counts f (in_method b m fn) c is before = omega arith
closes_counts f (in_thread ss) c is before = let block = ap (block_counts f) is in let push = threads_push f c.plan ss in omega arith
closes_counts f at_top c is before = before

plan_counts : (f : Ref → ℕ) (p : Plan) (c : Context) → p.threads ≡ c.plan.threads → context_counts f c ≡ 0 → context_counts f (record c { plan = p }) ≡ 0
plan_counts f p c same before = let alike = same_threads f p c.plan same in omega arith

service_same : (o : Option ℕ) (name : List ℕ) (p : Plan) → (with_service o name p).threads ≡ p.threads
service_same None name p = refl
service_same (Some n) name p = refl

singleton_same : (o : Option ℕ) (name : List ℕ) (p : Plan) → (with_singleton o name p).threads ≡ p.threads
singleton_same None name p = refl
singleton_same (Some n) name p = refl

export_same : (o : Option ℕ) (name : List ℕ) (p : Plan) → (with_export o name p).threads ≡ p.threads
export_same None name p = refl
export_same (Some n) name p = refl

-- ---- lines

behind_counts : (f : Ref → ℕ) (reg : List Entity) (l : Line) (c : Context) → context_counts f c ≡ 0 → context_counts f (behind reg l c) ≡ 0
unfolding behind total
behind_counts f reg (line.behaviour name faces) c before = omega arith
behind_counts f reg (line.field d) c before = field_counts f c.block d.name (type_of_text reg d.kind) c refl before
behind_counts f reg (line.method face function) c before = opens_counts f c.block face function (declared_function reg face function) c refl before
behind_counts f reg (line.service name b) c before = plan_counts f (with_service (behaviour_number c b) name c.plan) c (service_same (behaviour_number c b) name c.plan) before
behind_counts f reg (line.singleton name b) c before = plan_counts f (with_singleton (behaviour_number c b) name c.plan) c (singleton_same (behaviour_number c b) name c.plan) before
behind_counts f reg (line.export name b) c before = plan_counts f (with_export (behaviour_number c b) name c.plan) c (export_same (behaviour_number c b) name c.plan) before
behind_counts f reg line.thread c before = omega arith
behind_counts f reg line.end_line c before = closes_counts f c.block c refl before
behind_counts f reg l c before = with_line_counts f reg l c.plan c.block c.variables before

all_behind : (f : Ref → ℕ) (reg : List Entity) (ls : List Line) (c : Context) → context_counts f c ≡ 0 → context_counts f (behind_all reg ls c) ≡ 0
unfolding behind_all
all_behind f reg [] c before = before
all_behind f reg (l ∷ ls) c before = all_behind f reg ls (behind reg l c) (behind_counts f reg l c before)

opening_counts : (f : Ref → ℕ) → context_counts f opening ≡ 0
unfolding root_constants total
opening_counts f = refl

none_counted : (rs : List Ref) → total (λ r. 1) rs ≡ 0 → rs ≡ []
unfolding total
none_counted [] fine = refl
none_counted (r ∷ rs) fine = absurd (omega arith)

-- the constants of roots, in a plan that keeps the rules
pub roots_refer_to_nothing : (reg : List Entity) (p : Plan) → KeepsTheRules reg p → root_constants p ≡ []
roots_refer_to_nothing reg p keeps =
    let all = all_behind (λ r. 1) reg keeps.lines opening (opening_counts (λ r. 1)) in
    let same = ap (λ q. total (λ r. 1) (root_constants q)) keeps.made in
    none_counted (root_constants p) (omega arith)
