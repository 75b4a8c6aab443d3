-- The statement that a line is, where each term, word and behaviour in it fits.
use Rattle.std.specs.Prelude.{ℕ, Bool, true, false, List, Option, None, Some, if◌then◌else◌}
use Rattle.std.specs.Option.{option_map}
use Rattle.literal_model.specs.Readings.{and_then}
use Rattle.uno_model.specs.Entities.{Entity, Field}
use Rattle.uno_model.specs.Functions.{Function}
use Rattle.uno_model.specs.Kinds.{Kind, interface_of, exception_of}
use Rattle.uno_model.specs.Kinds as kd
use Rattle.uno_model.specs.NamedTypes.{type_of_text}
use Rattle.plan_model.specs.Contexts.{Scoped, Context, behaviour_number, behaviour_named, known_variable, kind_of_variable, kind_of_field}
use Rattle.plan_model.specs.Contexts.{kind_of_word, called_function, open_function, kind_fits}
use Rattle.plan_model.specs.Evaluation.{both_values}
use Rattle.plan_model.specs.Expressions.{Word, Expression, Argument}
use Rattle.plan_model.specs.Lines.{Term, Declared, Line}
use Rattle.plan_model.specs.Lines as line
use Rattle.plan_model.specs.Plans.{Behaviour, supports}
use Rattle.plan_model.specs.Statements.{Call, Statement, RootStatement}
use Rattle.plan_model.specs.Statements as s
use Rattle.plan_model.specs.Typing.{is_whole, only_if, expression_of, arguments_of}
use Rattle.plan_model.specs.declared.comparison.Comparison.{Comparison}
use Rattle.plan_model.specs.declared.comparison.Comparison.TheVariants.{Equal, Less}

-- ---- calls, queries and new objects

abbrev pub face_of_text : List Entity → List ℕ → Option (List ℕ)
face_of_text reg text = and_then (type_of_text reg text) interface_of

-- the interface of a word
abbrev pub face_of_word : Context → Word → Option (List ℕ)
face_of_word c w = and_then (kind_of_word c w) interface_of

-- a declared name with its type
abbrev pub declared_field : List Entity → Declared → Option Field
declared_field reg d = option_map (λ k. record { name = d.name; kind = k }) (type_of_text reg d.kind)

-- the variable of a result, which the result's type has to fit
abbrev pub result_field : List Entity → Function → Option Declared → Option (Option Field)
result_field reg f None = Some None
result_field reg f (Some d) = and_then (declared_field reg d) (λ x. only_if (kind_fits reg x.kind f.result_kind) (Some (Some x)))

abbrev pub call_with : Word → Function → List Argument → Option Field → Option Call
call_with target f args to = Some (record { target = target; callee = record { owner = f.owner; name = f.name }; arguments = args; to = to })

unfoldable pub call_of : List Entity → Context → Option Declared → Word → List ℕ → List Term → Option Call
call_of reg c to target function args =
    and_then (and_then (face_of_word c target) (λ face. called_function reg face function))
    (λ f. both_values (arguments_of reg c f.params args) (result_field reg f to) (call_with target f))

unfoldable pub query_of : List Entity → Context → Declared → Word → Option s.Query
query_of reg c d target =
    both_values (face_of_word c target) (face_of_text reg d.kind) (λ face wanted. Some (record { target = target; wanted = wanted; to = d.name }))

-- the behaviour is there, and supports the interface
abbrev pub supports_named : List Entity → Option Behaviour → List ℕ → Bool
supports_named reg None wanted = false
supports_named reg (Some b) wanted = supports reg b.faces wanted

unfoldable pub making_of : List Entity → Context → Declared → List ℕ → Option s.Making
making_of reg c d name =
    both_values (behaviour_number c name) (face_of_text reg d.kind)
    (λ n face. only_if (supports_named reg (behaviour_named c name) face) (Some (record { behaviour = n; face = face; to = d.name })))

-- ---- the other statements

abbrev pub let_of : List Entity → Context → Declared → Term → Option Statement
let_of reg c d t = and_then (declared_field reg d) (λ f. option_map (s.let_variable f) (expression_of reg c t f.kind))

abbrev pub set_of : List Entity → Context → (Expression → Statement) → Option Kind → Term → Option Statement
set_of reg c mk None t = None
set_of reg c mk (Some k) t = option_map mk (expression_of reg c t k)

-- a parameter that comes out has to have a value when the method ends
abbrev pub stays : Option Scoped → Bool
stays None = false
stays (Some x) = x.comes_out

abbrev pub drop_of : Context → List ℕ → Option Statement
drop_of c name = if stays (known_variable c name) then None else Some (s.drop_variable name)

-- what is returned, at the type of the result
abbrev pub result_kind_of : Option Function → Kind
result_kind_of None = kd.void
result_kind_of (Some f) = f.result_kind

abbrev pub back_of : List Entity → Context → Option Term → Option (Option Expression)
back_of reg c None = Some None
back_of reg c (Some t) = option_map Some (expression_of reg c t (result_kind_of (open_function c.block)))

-- only numbers of a whole type are less than one another
abbrev pub is_compared : Comparison → Kind → Bool
is_compared Equal k = true
is_compared Less k = is_whole k

abbrev pub test_of : List Entity → Context → Word → Comparison → Term → Option s.Test
test_of reg c left comparison right =
    and_then (kind_of_word c left)
    (λ k. only_if (is_compared comparison k) (option_map (λ a. record { left = left; comparison = comparison; right = a }) (expression_of reg c right k)))

abbrev pub raise_of : List Entity → Context → List ℕ → Term → Option Statement
raise_of reg c k t =
    and_then (and_then (type_of_text reg k) exception_of) (λ name. option_map (s.raise name) (expression_of reg c t (kd.exception name)))

-- ---- statements

-- the statement of a method that a line is, where all that it names fits
unfoldable pub statement_of : List Entity → Context → Line → Option Statement
statement_of reg c (line.let_variable d t) = let_of reg c d t
statement_of reg c (line.set_variable name t) = set_of reg c (s.set_variable name) (kind_of_variable c name) t
statement_of reg c (line.set_field name t) = set_of reg c (s.set_field name) (kind_of_field c name) t
statement_of reg c (line.call to target function args) = option_map s.call (call_of reg c to target function args)
statement_of reg c (line.query d target) = option_map s.query (query_of reg c d target)
statement_of reg c (line.make d b) = option_map s.make (making_of reg c d b)
statement_of reg c (line.drop_variable name) = drop_of c name
statement_of reg c (line.when left comparison right back) = both_values (test_of reg c left comparison right) (back_of reg c back) (λ t b. Some (s.when t b))
statement_of reg c (line.return back) = option_map s.return (back_of reg c back)
statement_of reg c (line.raise k t) = raise_of reg c k t
statement_of reg c line.dispose = Some s.dispose
statement_of reg c l = None

-- the statement of a root that a line is
unfoldable pub root_statement_of : List Entity → Context → Line → Option RootStatement
root_statement_of reg c (line.ask d name) = option_map (λ wanted. s.ask d.name wanted name) (face_of_text reg d.kind)
root_statement_of reg c (line.ask_instance d) = option_map (s.ask_instance d.name) (face_of_text reg d.kind)
root_statement_of reg c (line.call to target function args) = option_map s.root_call (call_of reg c to target function args)
root_statement_of reg c (line.query d target) = option_map s.root_query (query_of reg c d target)
root_statement_of reg c (line.make d b) = option_map s.root_make (making_of reg c d b)
root_statement_of reg c (line.drop_variable name) = Some (s.root_drop name)
root_statement_of reg c (line.same x y) = Some (s.same x y)
root_statement_of reg c line.dispose = Some s.root_dispose
root_statement_of reg c l = None
