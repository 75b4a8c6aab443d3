-- In a plan that keeps the rules all can be carried by bytes.
use Rattle.std.proofs.Common.{◌≡◌, ℕ, ◌<◌, ◌≤◌, Bool, true, false, not, ◌&&◌, ◌||◌, ◌==◌, nat_lt, nat_le, length, if◌then◌else◌, List, [], ◌∷◌, ◌++◌, Option, None, Some, option_map, refl, subst, inl, inr, arith}
use Rattle.std.specs.Char.{is_ascii_alphanumeric}
use Rattle.std.specs.Int.{is_in_range}
use Rattle.std.specs.List.{AllByRecursion, list_all}
use Rattle.std.specs.Str.{IsUtf8}
use Rattle.std.proofs.lemmas.Bool.{and_parts, and_from, or_cases, eqb-true, leb-true, lt-ltb}
use Rattle.literal_model.specs.Readings.{and_then}
use Rattle.uno_model.specs.Entities.{Entity, Field}
use Rattle.uno_model.specs.Functions.{Function}
use Rattle.uno_model.specs.Kinds.{Kind, name_of, exception_of}
use Rattle.uno_model.specs.Kinds as kd
use Rattle.uno_model.specs.NamedTypes.{type_of_text}
use Rattle.uno_model.specs.Sound.{IsSound, kind_known, elements_storable, is_namable}
use Rattle.uno_model.specs.Types.{is_type, is_formed}
use Rattle.urp_model.proofs.Utf8Laws.{are_ascii, utf8_of_ascii, name_ascii}
use Rattle.plan_model.specs.Building.{with_result, with_statement, with_root_statement, with_line, opens_method, with_field, closes, behind_statement, behind_root_statement, with_service, with_singleton, with_export, behind, behind_all}
use Rattle.plan_model.specs.Contexts.{Scoped, Context, Block, at_top, in_behaviour, in_method, in_thread, opening, behaviour_number, declared_function, kind_of_variable, kind_of_field, kind_of_word, called_function, known_variable, open_function}
use Rattle.plan_model.specs.Evaluation.{both_values}
use Rattle.plan_model.specs.Expressions.{Word, Expression, Argument}
use Rattle.plan_model.specs.Forms.{is_declared, is_word_formed, is_term, is_left_out, is_line, is_function_text, is_variable_name, is_type_text, is_export_byte, is_export_name}
use Rattle.plan_model.specs.Keeps.{has_form, reason_of, first_wrong, KeepsTheRules}
use Rattle.plan_model.specs.LinePlaces.{may_stand}
use Rattle.plan_model.specs.Lines.{Term, Declared, Line}
use Rattle.plan_model.specs.Lines as line
use Rattle.plan_model.specs.Plans.{Plan, Behaviour, Method}
use Rattle.plan_model.specs.Statements.{Statement, RootStatement}
use Rattle.plan_model.specs.Statements as s
use Rattle.plan_model.specs.TypedStatements.{face_of_text, face_of_word, call_with, declared_field, result_field, call_of, query_of, making_of, set_of, stays, result_kind_of, back_of, is_compared, test_of, statement_of, root_statement_of}
use Rattle.plan_model.specs.Typing.{only_if, expression_of, arguments_of}
use Rattle.plan_model.specs.declared.comparison.Comparison.{Comparison}
use Rattle.plan_model.specs.declared.line_reason.LineReason.{LineReason}
use Rattle.plan_typing.proofs.PlanLaws.{right_parts}
use Rattle.plan_typing.proofs.TermTypes.{text_type}
use Rattle.bridge_laws.specs.Texts.{AreSmallItems, IsWritable, IsWritableIf, IsWritableArgument, IsWritableStatement, IsWritableMethod, IsWritableBehaviour, IsWritableRootStatement, IsWritableThread, IsWritablePlan}
use Rattle.bridge_laws.proofs.TermSpelling.{IfWritable, IfArguments, term_writable, arguments_writable}
use Rattle.bridge_laws.proofs.ValueSpelling.{all_append}

-- ---- names that are exported

range_ascii : (low high c : ℕ) → high < 128 → is_in_range low high c ≡ true → nat_lt c 128 ≡ true
range_ascii low high c below is =
    let top : c ≤ high = leb-true c high (and_parts (nat_le low c) (nat_le c high) is).1 in
    lt-ltb c 128 (omega arith)

mark_ascii : (mark c : ℕ) → mark < 128 → (c == mark) ≡ true → nat_lt c 128 ≡ true
mark_ascii mark c below is = let same : c ≡ mark = eqb-true c mark is in lt-ltb c 128 (omega arith)

byte_ascii : (c : ℕ) → is_export_byte c ≡ true → nat_lt c 128 ≡ true
byte_ascii c is = elim (or_cases (is_ascii_alphanumeric c) ((c == 46) || ((c == 95) || (c == 45))) is) [
  | inl word ↦ elim (or_cases (is_in_range 48 57 c || is_in_range 65 90 c) (is_in_range 97 122 c) word) [
    | inl front ↦ elim (or_cases (is_in_range 48 57 c) (is_in_range 65 90 c) front) [ inl digit ↦ range_ascii 48 57 c (omega arith) digit | inr upper ↦ range_ascii 65 90 c (omega arith) upper ]
    | inr lower ↦ range_ascii 97 122 c (omega arith) lower
  ]
  | inr mark ↦ elim (or_cases (c == 46) ((c == 95) || (c == 45)) mark) [
    | inl point ↦ mark_ascii 46 c (omega arith) point
    | inr other ↦ elim (or_cases (c == 95) (c == 45) other) [ inl under ↦ mark_ascii 95 c (omega arith) under | inr dash ↦ mark_ascii 45 c (omega arith) dash ]
  ]
]

bytes_ascii : (name : List ℕ) → list_all is_export_byte name ≡ true → are_ascii name ≡ true
bytes_ascii [] all = refl
bytes_ascii (c ∷ cs) all =
    let parts = and_parts (is_export_byte c) (list_all is_export_byte cs) all in
    and_from (nat_lt c 128) (are_ascii cs) (byte_ascii c parts.0) (bytes_ascii cs parts.1)

export_utf8 : (name : List ℕ) → is_export_name name ≡ true → IsUtf8 name
unfolding is_export_name
export_utf8 name is = utf8_of_ascii name (bytes_ascii name (and_parts (nat_lt 0 (length name) && nat_le (length name) 64) (list_all is_export_byte name) is).1)

-- ---- words

abbrev IfStatement : Option Statement → Type 0
IfStatement None = Unit
IfStatement (Some x) = IsWritableStatement x

abbrev IfRootStatement : Option RootStatement → Type 0
IfRootStatement None = Unit
IfRootStatement (Some x) = IsWritableRootStatement x

abbrev IfCall : Option s.Call → Type 0
IfCall None = Unit
IfCall (Some x) = AllByRecursion IsWritableArgument x.arguments

abbrev IfBack : Option (Option Expression) → Type 0
IfBack None = Unit
IfBack (Some b) = IsWritableIf b

abbrev IfTest : Option s.Test → Type 0
IfTest None = Unit
IfTest (Some t) = IsWritable t.right

abbrev IfName : Option (List ℕ) → Type 0
IfName None = Unit
IfName (Some name) = IsUtf8 name

call_statement : (o : Option s.Call) → IfCall o → IfStatement (option_map s.call o)
call_statement None fine = tt
call_statement (Some x) fine = fine

call_root_statement : (o : Option s.Call) → IfCall o → IfRootStatement (option_map s.root_call o)
call_root_statement None fine = tt
call_root_statement (Some x) fine = fine

plain_statement : {X : Type 0} (mk : X → Statement) (o : Option X) → ((x : X) → IsWritableStatement (mk x)) → IfStatement (option_map mk o)
plain_statement mk None each = tt
plain_statement mk (Some x) each = each x

plain_root_statement : {X : Type 0} (mk : X → RootStatement) (o : Option X) → ((x : X) → IsWritableRootStatement (mk x)) → IfRootStatement (option_map mk o)
plain_root_statement mk None each = tt
plain_root_statement mk (Some x) each = each x

drop_statement : (b : Bool) (name : List ℕ) → IfStatement (if b then None else Some (s.drop_variable name))
drop_statement true name = tt
drop_statement false name = tt

module _ (reg : List Entity) (sound : IsSound reg) (items : AreSmallItems reg) where
  -- ---- statements

  made_statement : (mk : Expression → Statement) (o : Option Expression) → ((a : Expression) → IsWritable a → IsWritableStatement (mk a)) → IfWritable reg items o → IfStatement (option_map mk o)
  made_statement mk None each fine = tt
  made_statement mk (Some a) each fine = each a fine

  call_made : (target : Word) (f : Function) (args : Option (List Argument)) (to : Option (Option Field)) → IfArguments reg items args → IfCall (both_values args to (call_with target f))
  call_made target f None to fine = tt
  call_made target f (Some args) None fine = tt
  call_made target f (Some args) (Some to) fine = fine

  call_on : (c : Context) (to : Option Declared) (target : Word) (args : List Term) (f : Option Function) → list_all (is_term reg) args ≡ true
      → IfCall (and_then f (λ f. both_values (arguments_of reg c f.params args) (result_field reg f to) (call_with target f)))
  call_on c to target args None formed = tt
  call_on c to target args (Some f) formed =
      call_made target f (arguments_of reg c f.params args) (result_field reg f to) (arguments_writable reg items c f.params args formed)

  call_writable : (c : Context) (to : Option Declared) (target : Word) (function : List ℕ) (args : List Term) → list_all (is_term reg) args ≡ true → IfCall (call_of reg c to target function args)
  unfolding call_of
  call_writable c to target function args formed = call_on c to target args (and_then (face_of_word c target) (λ face. called_function reg face function)) formed

  let_writable : (c : Context) (t : Term) (d : Option Field) → is_term reg t ≡ true → IfStatement (and_then d (λ d. option_map (s.let_variable d) (expression_of reg c t d.kind)))
  let_writable c t None formed = tt
  let_writable c t (Some d) formed = made_statement (s.let_variable d) (expression_of reg c t d.kind) (λ a is. is) (term_writable reg items c t d.kind formed)

  set_writable : (c : Context) (mk : Expression → Statement) (k : Option Kind) (t : Term) → ((a : Expression) → IsWritable a → IsWritableStatement (mk a)) → is_term reg t ≡ true
      → IfStatement (set_of reg c mk k t)
  set_writable c mk None t each formed = tt
  set_writable c mk (Some k) t each formed = made_statement mk (expression_of reg c t k) each (term_writable reg items c t k formed)

  returned_back : (o : Option Expression) → IfWritable reg items o → IfBack (option_map Some o)
  returned_back None fine = tt
  returned_back (Some a) fine = fine

  back_writable : (c : Context) (back : Option Term) → is_left_out (is_term reg) back ≡ true → IfBack (back_of reg c back)
  back_writable c None formed = tt
  back_writable c (Some t) formed =
      returned_back (expression_of reg c t (result_kind_of (open_function c.block))) (term_writable reg items c t (result_kind_of (open_function c.block)) formed)

  return_writable : (o : Option (Option Expression)) → IfBack o → IfStatement (option_map s.return o)
  return_writable None fine = tt
  return_writable (Some b) fine = fine

  test_made : (left : Word) (comparison : Comparison) (b : Bool) (o : Option Expression) → IfWritable reg items o
      → IfTest (only_if b (option_map (λ a. record { left = left; comparison = comparison; right = a }) o))
  test_made left comparison false o fine = tt
  test_made left comparison true None fine = tt
  test_made left comparison true (Some a) fine = fine

  test_writable : (c : Context) (left : Word) (comparison : Comparison) (right : Term) (k : Option Kind) → is_term reg right ≡ true
      → IfTest (and_then k (λ k. only_if (is_compared comparison k) (option_map (λ a. record { left = left; comparison = comparison; right = a }) (expression_of reg c right k))))
  test_writable c left comparison right None formed = tt
  test_writable c left comparison right (Some k) formed =
      test_made left comparison (is_compared comparison k) (expression_of reg c right k) (term_writable reg items c right k formed)

  when_writable : (t : Option s.Test) (b : Option (Option Expression)) → IfTest t → IfBack b → IfStatement (both_values t b (λ t b. Some (s.when t b)))
  when_writable None b here there = tt
  when_writable (Some t) None here there = tt
  when_writable (Some t) (Some b) here there = (here, there)

  -- the name of an exception that is raised is that of a type
  known_name : (k : Kind) → is_type reg k ≡ true → IfName (exception_of k)
  known_name (kd.exception name) is =
      utf8_of_ascii name (name_ascii reg (kd.exception name) sound.named
      (and_parts (kind_known reg (kd.exception name)) (elements_storable (kd.exception name)) (and_parts (is_formed reg (kd.exception name)) (is_namable (kd.exception name)) is).0).0)
  known_name k is = tt

  text_name : (text : List ℕ) (k : Option Kind) → type_of_text reg text ≡ k → IfName (and_then k exception_of)
  text_name text None is = tt
  text_name text (Some k) is = known_name k (text_type reg sound text k is)

  raised_statement : (name : List ℕ) (o : Option Expression) → IsUtf8 name → IfWritable reg items o → IfStatement (option_map (s.raise name) o)
  raised_statement name None text fine = tt
  raised_statement name (Some a) text fine = (text, fine)

  raise_writable : (c : Context) (t : Term) (name : Option (List ℕ)) → IfName name → is_term reg t ≡ true
      → IfStatement (and_then name (λ name. option_map (s.raise name) (expression_of reg c t (kd.exception name))))
  raise_writable c t None text formed = tt
  raise_writable c t (Some name) text formed = raised_statement name (expression_of reg c t (kd.exception name)) text (term_writable reg items c t (kd.exception name) formed)

  call_formed : (to : Option Declared) (target : Word) (function : List ℕ) (args : List Term)
      → ((is_left_out is_declared to && is_word_formed target) && (is_function_text function && list_all (is_term reg) args)) ≡ true → list_all (is_term reg) args ≡ true
  call_formed to target function args formed =
      (and_parts (is_function_text function) (list_all (is_term reg) args)
      (and_parts (is_left_out is_declared to && is_word_formed target) (is_function_text function && list_all (is_term reg) args) formed).1).1

  line_writable : (c : Context) (l : Line) → is_line reg l ≡ true → IfStatement (statement_of reg c l)
  unfolding statement_of is_line
  line_writable c (line.let_variable d t) formed = let_writable c t (declared_field reg d) (and_parts (is_declared d) (is_term reg t) formed).1
  line_writable c (line.set_variable name t) formed =
      set_writable c (s.set_variable name) (kind_of_variable c name) t (λ a is. is) (and_parts (is_variable_name name) (is_term reg t) formed).1
  line_writable c (line.set_field name t) formed = set_writable c (s.set_field name) (kind_of_field c name) t (λ a is. is) (and_parts _ (is_term reg t) formed).1
  line_writable c (line.call to target function args) formed =
      call_statement (call_of reg c to target function args) (call_writable c to target function args (call_formed to target function args formed))
  line_writable c (line.query d target) formed = plain_statement s.query (query_of reg c d target) (λ q. tt)
  line_writable c (line.make d b) formed = plain_statement s.make (making_of reg c d b) (λ m. tt)
  line_writable c (line.drop_variable name) formed = drop_statement (stays (known_variable c name)) name
  line_writable c (line.when left comparison right back) formed =
      let parts = and_parts (is_word_formed left) (is_term reg right && is_left_out (is_term reg) back) formed in
      let terms = and_parts (is_term reg right) (is_left_out (is_term reg) back) parts.1 in
      when_writable (test_of reg c left comparison right) (back_of reg c back) (test_writable c left comparison right (kind_of_word c left) terms.0) (back_writable c back terms.1)
  line_writable c (line.return back) formed = return_writable (back_of reg c back) (back_writable c back formed)
  line_writable c (line.raise k t) formed =
      raise_writable c t (and_then (type_of_text reg k) exception_of) (text_name k (type_of_text reg k) refl) (and_parts (is_type_text k) (is_term reg t) formed).1
  line_writable c line.dispose formed = tt
  line_writable c l formed = tt

  root_line_writable : (c : Context) (l : Line) → is_line reg l ≡ true → IfRootStatement (root_statement_of reg c l)
  unfolding root_statement_of is_line
  root_line_writable c (line.ask d name) formed =
      plain_root_statement (λ wanted. s.ask d.name wanted name) (face_of_text reg d.kind) (λ wanted. export_utf8 name (and_parts (is_declared d) (is_export_name name) formed).1)
  root_line_writable c (line.ask_instance d) formed = plain_root_statement (s.ask_instance d.name) (face_of_text reg d.kind) (λ wanted. tt)
  root_line_writable c (line.call to target function args) formed =
      call_root_statement (call_of reg c to target function args) (call_writable c to target function args (call_formed to target function args formed))
  root_line_writable c (line.query d target) formed = plain_root_statement s.root_query (query_of reg c d target) (λ q. tt)
  root_line_writable c (line.make d b) formed = plain_root_statement s.root_make (making_of reg c d b) (λ m. tt)
  root_line_writable c (line.drop_variable name) formed = tt
  root_line_writable c (line.same x y) formed = tt
  root_line_writable c line.dispose formed = tt
  root_line_writable c l formed = tt

  -- ---- blocks

  abbrev BlockWritable : Block → Type 0
  BlockWritable at_top = Unit
  BlockWritable (in_behaviour b) = IsWritableBehaviour b
  BlockWritable (in_method b m f) = IsWritableBehaviour b × IsWritableMethod m
  BlockWritable (in_thread ss) = IsWritableThread ss

  record ContextWritable (c : Context) : Type 0 where
    plan : IsWritablePlan c.plan
    block : BlockWritable c.block

  abbrev context_of : Plan → Block → List Scoped → Context
  context_of p block xs = record { plan = p; block = block; variables = xs }

  result_writable : (to : Option Field) (c : Context) → ContextWritable c → ContextWritable (with_result to c)
  result_writable None c fine = fine
  result_writable (Some x) c fine = record { plan = fine.plan; block = fine.block }

  -- variables change no constants
  behind_writable : (x : Statement) (c : Context) → ContextWritable c → ContextWritable (behind_statement x c)
  behind_writable (s.let_variable d a) c fine = record { plan = fine.plan; block = fine.block }
  behind_writable (s.call x) c fine = result_writable x.to c fine
  behind_writable (s.query q) c fine = record { plan = fine.plan; block = fine.block }
  behind_writable (s.make m) c fine = record { plan = fine.plan; block = fine.block }
  behind_writable (s.drop_variable name) c fine = record { plan = fine.plan; block = fine.block }
  behind_writable x c fine = fine

  behind_root_writable : (x : RootStatement) (c : Context) → ContextWritable c → ContextWritable (behind_root_statement x c)
  behind_root_writable (s.ask to wanted name) c fine = record { plan = fine.plan; block = fine.block }
  behind_root_writable (s.ask_instance to wanted) c fine = record { plan = fine.plan; block = fine.block }
  behind_root_writable (s.root_call x) c fine = result_writable x.to c fine
  behind_root_writable (s.root_query q) c fine = record { plan = fine.plan; block = fine.block }
  behind_root_writable (s.root_make m) c fine = record { plan = fine.plan; block = fine.block }
  behind_root_writable (s.root_drop name) c fine = record { plan = fine.plan; block = fine.block }
  behind_root_writable x c fine = fine

  statement_added : (b : Behaviour) (m : Method) (f : Function) (x : Option Statement) (c : Context) → IfStatement x → IsWritableBehaviour b → IsWritableMethod m → ContextWritable c
      → ContextWritable (with_statement b m f x c)
  statement_added b m f None c is behaviour body fine = fine
  statement_added b m f (Some x) c is behaviour body fine =
      behind_writable x (record c { block = in_method b (record m { body = m.body ++ x ∷ [] }) f })
      (record { plan = fine.plan; block = (behaviour, all_append IsWritableStatement m.body (x ∷ []) body (is, tt)) })

  root_statement_added : (ss : List RootStatement) (x : Option RootStatement) (c : Context) → IfRootStatement x → IsWritableThread ss → ContextWritable c
      → ContextWritable (with_root_statement ss x c)
  root_statement_added ss None c is thread fine = fine
  root_statement_added ss (Some x) c is thread fine =
      behind_root_writable x (record c { block = in_thread (ss ++ x ∷ []) }) (record { plan = fine.plan; block = all_append IsWritableRootStatement ss (x ∷ []) thread (is, tt) })

  line_added : (l : Line) (p : Plan) (block : Block) (xs : List Scoped) → is_line reg l ≡ true → IsWritablePlan p → BlockWritable block → ContextWritable (with_line reg l (context_of p block xs))
  line_added l p (in_method b m f) xs formed plan fine =
      statement_added b m f (statement_of reg (context_of p (in_method b m f) xs) l) (context_of p (in_method b m f) xs) (line_writable (context_of p (in_method b m f) xs) l formed) fine.0 fine.1
      (record { plan = plan; block = fine })
  line_added l p (in_thread ss) xs formed plan fine =
      root_statement_added ss (root_statement_of reg (context_of p (in_thread ss) xs) l) (context_of p (in_thread ss) xs) (root_line_writable (context_of p (in_thread ss) xs) l formed) fine
      (record { plan = plan; block = fine })
  line_added l p (in_behaviour b) xs formed plan fine = record { plan = plan; block = fine }
  line_added l p at_top xs formed plan fine = record { plan = plan; block = fine }

  method_opened : (p : Plan) (block : Block) (xs : List Scoped) (face function : List ℕ) (found : Option Function) → IsWritablePlan p → BlockWritable block
      → ContextWritable (opens_method block face function found (context_of p block xs))
  method_opened p (in_behaviour b) xs face function (Some f) plan fine = record { plan = plan; block = (fine, tt) }
  method_opened p block xs face function found plan fine = record { plan = plan; block = fine }

  field_added : (p : Plan) (block : Block) (xs : List Scoped) (name : List ℕ) (k : Option Kind) → IsWritablePlan p → BlockWritable block
      → ContextWritable (with_field block name k (context_of p block xs))
  field_added p (in_behaviour b) xs name (Some k) plan fine = record { plan = plan; block = fine }
  field_added p block xs name k plan fine = record { plan = plan; block = fine }

  block_closed : (p : Plan) (block : Block) (xs : List Scoped) → IsWritablePlan p → BlockWritable block → ContextWritable (closes block (context_of p block xs))
  block_closed p (in_behaviour b) xs plan fine =
      record { plan = record { behaviours = all_append IsWritableBehaviour p.behaviours (b ∷ []) plan.behaviours (fine, tt); threads = plan.threads }; block = tt }
  block_closed p (in_method b m f) xs plan fine = record { plan = plan; block = all_append IsWritableMethod b.methods (m ∷ []) fine.0 (fine.1, tt) }
  block_closed p (in_thread ss) xs plan fine =
      record { plan = record { behaviours = plan.behaviours; threads = all_append IsWritableThread p.threads (ss ∷ []) plan.threads (fine, tt) }; block = tt }
  block_closed p at_top xs plan fine = record { plan = plan; block = tt }

  service_added : (o : Option ℕ) (name : List ℕ) (p : Plan) → IsWritablePlan p → IsWritablePlan (with_service o name p)
  service_added None name p plan = plan
  service_added (Some n) name p plan = record { behaviours = plan.behaviours; threads = plan.threads }

  singleton_added : (o : Option ℕ) (name : List ℕ) (p : Plan) → IsWritablePlan p → IsWritablePlan (with_singleton o name p)
  singleton_added None name p plan = plan
  singleton_added (Some n) name p plan = record { behaviours = plan.behaviours; threads = plan.threads }

  export_added : (o : Option ℕ) (name : List ℕ) (p : Plan) → IsWritablePlan p → IsWritablePlan (with_export o name p)
  export_added None name p plan = plan
  export_added (Some n) name p plan = record { behaviours = plan.behaviours; threads = plan.threads }

  -- ---- lines

  line_behind : (l : Line) (p : Plan) (block : Block) (xs : List Scoped) → is_line reg l ≡ true → IsWritablePlan p → BlockWritable block → ContextWritable (behind reg l (context_of p block xs))
  unfolding behind
  line_behind (line.behaviour name faces) p block xs formed plan fine = record { plan = plan; block = tt }
  line_behind (line.field d) p block xs formed plan fine = field_added p block xs d.name (type_of_text reg d.kind) plan fine
  line_behind (line.method face function) p block xs formed plan fine = method_opened p block xs face function (declared_function reg face function) plan fine
  line_behind (line.service name b) p block xs formed plan fine = record { plan = service_added (behaviour_number (context_of p block xs) b) name p plan; block = fine }
  line_behind (line.singleton name b) p block xs formed plan fine = record { plan = singleton_added (behaviour_number (context_of p block xs) b) name p plan; block = fine }
  line_behind (line.export name b) p block xs formed plan fine = record { plan = export_added (behaviour_number (context_of p block xs) b) name p plan; block = fine }
  line_behind line.thread p block xs formed plan fine = record { plan = plan; block = tt }
  line_behind line.end_line p block xs formed plan fine = block_closed p block xs plan fine
  line_behind l p block xs formed plan fine = line_added l p block xs formed plan fine

  asked_of : (b : Bool) (why : LineReason) (rest : Option LineReason) → (if not b then Some why else rest) ≡ None → b ≡ true
  asked_of true why rest is = refl
  asked_of false why rest is = absurd (cc)

  formed_line : (c : Context) (l : Line) → reason_of reg c l ≡ None → is_line reg l ≡ true
  unfolding reason_of has_form
  formed_line c l none = (and_parts (is_line reg l) (may_stand c.block l) (asked_of (has_form reg c l) _ _ none)).0

  lines_behind : (ls : List Line) (c : Context) → first_wrong reg c ls ≡ None → ContextWritable c → ContextWritable (behind_all reg ls c)
  unfolding behind_all
  lines_behind [] c right fine = fine
  lines_behind (l ∷ ls) c right fine =
      let parts = right_parts reg c l ls right in
      lines_behind ls (behind reg l c) parts.1 (line_behind l c.plan c.block c.variables (formed_line c l parts.0) fine.plan fine.block)

  nothing_written : ContextWritable opening
  nothing_written = record { plan = record { behaviours = tt; threads = tt }; block = tt }

  -- a plan that keeps the rules
  pub plan_writable : (p : Plan) → KeepsTheRules reg p → IsWritablePlan p
  plan_writable p keeps = subst IsWritablePlan keeps.made (lines_behind keeps.lines opening keeps.right nothing_written).plan
