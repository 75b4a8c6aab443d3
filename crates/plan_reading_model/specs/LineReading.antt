-- The line that a text says: by its first word, and what stands behind that.
use Rattle.std.specs.Prelude.{ℕ, Bool, not, ◌==◌, List, [], ◌∷◌, ◌++◌, length, Option, None, Some, codes, if◌then◌else◌}
use Rattle.std.specs.Str.{bytes_eq}
use Rattle.literal_model.specs.Shapes.{run_of, behind_run}
use Rattle.uno_model.specs.Entities.{Entity}
use Rattle.plan_model.specs.Expressions.{Word, variable, field, own}
use Rattle.plan_model.specs.Expressions as expression
use Rattle.plan_model.specs.Lines.{Term, Terms, none, more, Declared, Line}
use Rattle.plan_model.specs.Lines as line
use Rattle.plan_model.specs.declared.comparison.Comparison.{Comparison}
use Rattle.plan_model.specs.declared.comparison.Comparison.TheVariants.{Equal, Less}
use Rattle.plan_reading_model.specs.Parts.{on_some, where_, behind, whole, at_end, identifier_at, path_at, paths_on, function_at, type_at, declared_at}
use Rattle.plan_reading_model.specs.Parts.{word_at, variable_at, export_name_at, behind_blank}
use Rattle.plan_reading_model.specs.TermReading.{term_at, terms_on}

-- a blank, `=` and a blank
abbrev pub equals : List ℕ
equals = codes " = "

-- the term that is all of a text
abbrev pub whole_term : List Entity → List ℕ → Option Term
whole_term reg bytes = at_end (term_at reg bytes)

abbrev pub some_line : {X : Type 0} → (X → Line) → Option X → Option Line
some_line mk None = None
some_line mk (Some x) = Some (mk x)

-- ---- lines of the top and of a behaviour

unfoldable pub behaviour_at : List ℕ → Option Line
behaviour_at bytes =
    on_some (on_some (identifier_at bytes) behind_blank) (λ x. some_line (line.behaviour x.0) (paths_on (length x.1) x.1))

abbrev pub field_of : List ℕ × List ℕ → Option Line
field_of x = some_line (λ k. line.field (record { name = x.0; kind = k })) (at_end (type_at x.1))

unfoldable pub field_at : List ℕ → Option Line
field_at bytes = on_some (on_some (identifier_at bytes) behind_blank) field_of

unfoldable pub method_at : List ℕ → Option Line
method_at bytes = on_some (on_some (path_at bytes) behind_blank) (λ x. some_line (line.method x.0) (at_end (function_at x.1)))

-- a name and a behaviour
unfoldable pub offer_at : (List ℕ → List ℕ → Line) → List ℕ → Option Line
offer_at mk bytes = on_some (on_some (path_at bytes) behind_blank) (λ x. some_line (mk x.0) (at_end (identifier_at x.1)))

unfoldable pub export_at : List ℕ → Option Line
export_at bytes = on_some (on_some (export_name_at bytes) behind_blank) (λ x. some_line (line.export x.0) (at_end (identifier_at x.1)))

-- ---- statements

unfoldable pub let_at : List Entity → List ℕ → Option Line
let_at reg bytes = on_some (declared_at equals bytes) (λ x. some_line (line.let_variable x.0) (whole_term reg x.1))

-- a variable, or a field, that gets a value
abbrev pub set_of : Word → Term → Option Line
set_of (variable name) t = Some (line.set_variable name t)
set_of (field name) t = Some (line.set_field name t)
set_of own t = None

abbrev pub set_word : List Entity → Word × List ℕ → Option Line
set_word reg x = on_some (behind equals x.1) (λ rest. on_some (whole_term reg rest) (set_of x.0))

unfoldable pub set_at : List Entity → List ℕ → Option Line
set_at reg bytes = on_some (word_at bytes) (set_word reg)

-- arguments up to the parenthesis that closes
unfoldable pub listed : Terms → List Term
listed none = []
listed (more t ts) = t ∷ listed ts

unfoldable pub arguments_at : List Entity → List ℕ → Option (List Term × List ℕ)
arguments_at reg [] = None
arguments_at reg (c ∷ cs) =
    if c == 41 then Some ([], cs) else on_some (terms_on (length (c ∷ cs)) (term_at reg) 41 (c ∷ cs)) (λ x. Some (listed x.0, x.1))

abbrev pub called : List Entity → Option Declared → Word → List ℕ × List ℕ → Option Line
called reg to target f = on_some (behind (codes "(") f.1) (λ rest. some_line (line.call to target f.0) (at_end (arguments_at reg rest)))

abbrev pub target_of : List Entity → Option Declared → Word × List ℕ → Option Line
target_of reg to x = on_some (behind (codes ".") x.1) (λ rest. on_some (function_at rest) (called reg to x.0))

unfoldable pub target_at : List Entity → Option Declared → List ℕ → Option Line
target_at reg to bytes = on_some (word_at bytes) (target_of reg to)

-- a call whose result is not named begins with its target
unfoldable pub call_at : List Entity → List ℕ → Option Line
call_at reg [] = None
call_at reg (c ∷ cs) =
    if c == 36 then target_at reg None (c ∷ cs) else on_some (declared_at equals (c ∷ cs)) (λ x. target_at reg (Some x.0) x.1)

unfoldable pub query_at : List ℕ → Option Line
query_at bytes = on_some (declared_at equals bytes) (λ x. some_line (line.query x.0) (at_end (word_at x.1)))

unfoldable pub make_at : List ℕ → Option Line
make_at bytes = on_some (declared_at equals bytes) (λ x. some_line (line.make x.0) (at_end (identifier_at x.1)))

unfoldable pub drop_at : List ℕ → Option Line
drop_at bytes = some_line line.drop_variable (at_end (variable_at bytes))

-- how a test compares, with the blanks round it
abbrev pub comparison_at : List ℕ → Option (Comparison × List ℕ)
comparison_at bytes = equal (behind (codes " == ") bytes)
  where
    less : Option (List ℕ) → Option (Comparison × List ℕ)
    less None = None
    less (Some rest) = Some (Less, rest)

    equal : Option (List ℕ) → Option (Comparison × List ℕ)
    equal None = less (behind (codes " < ") bytes)
    equal (Some rest) = Some (Equal, rest)

-- what is returned where a test holds; it may be left out
abbrev pub back_at : List Entity → List ℕ → Option (Option Term)
back_at reg [] = Some None
back_at reg (c ∷ cs) = if c == 32 then on_some (whole_term reg cs) (λ t. Some (Some t)) else None

abbrev pub when_of : List Entity → Word → Comparison → Term × List ℕ → Option Line
when_of reg left comparison x =
    on_some (behind (codes " return") x.1) (λ rest. some_line (line.when left comparison x.0) (back_at reg rest))

abbrev pub test_of : List Entity → Word × List ℕ → Option Line
test_of reg x = on_some (comparison_at x.1) (λ y. on_some (term_at reg y.1) (when_of reg x.0 y.0))

unfoldable pub when_at : List Entity → List ℕ → Option Line
when_at reg bytes = on_some (word_at bytes) (test_of reg)

unfoldable pub return_at : List Entity → List ℕ → Option Line
return_at reg bytes = some_line (λ t. line.return (Some t)) (whole_term reg bytes)

unfoldable pub raise_at : List Entity → List ℕ → Option Line
raise_at reg bytes = on_some (on_some (type_at bytes) behind_blank) (λ x. some_line (line.raise x.0) (whole_term reg x.1))

-- a name between quotes, or the instance
abbrev pub ask_of : Declared × List ℕ → Option Line
ask_of x = if bytes_eq x.1 (codes "instance") then Some (line.ask_instance x.0) else some_line (line.ask x.0) (at_end (export_name_at x.1))

unfoldable pub ask_at : List ℕ → Option Line
ask_at bytes = on_some (declared_at equals bytes) ask_of

unfoldable pub same_at : List ℕ → Option Line
same_at bytes = on_some (on_some (variable_at bytes) behind_blank) (λ x. some_line (line.same x.0) (at_end (variable_at x.1)))

-- ---- lines

-- a line of one word
unfoldable pub line_alone : List ℕ → Option Line
line_alone w =
    if bytes_eq w (codes "thread") then Some line.thread
    else (if bytes_eq w (codes "end") then Some line.end_line
    else (if bytes_eq w (codes "return") then Some (line.return None)
    else (if bytes_eq w (codes "dispose") then Some line.dispose
    else None)))

-- a line by its first word and what stands behind the blank after it
unfoldable pub line_behind : List Entity → List ℕ → List ℕ → Option Line
line_behind reg w rest =
    if bytes_eq w (codes "behaviour") then behaviour_at rest
    else (if bytes_eq w (codes "field") then field_at rest
    else (if bytes_eq w (codes "method") then method_at rest
    else (if bytes_eq w (codes "service") then offer_at line.service rest
    else (if bytes_eq w (codes "singleton") then offer_at line.singleton rest
    else (if bytes_eq w (codes "export") then export_at rest
    else (if bytes_eq w (codes "let") then let_at reg rest
    else (if bytes_eq w (codes "set") then set_at reg rest
    else (if bytes_eq w (codes "call") then call_at reg rest
    else (if bytes_eq w (codes "query") then query_at rest
    else (if bytes_eq w (codes "new") then make_at rest
    else (if bytes_eq w (codes "drop") then drop_at rest
    else (if bytes_eq w (codes "when") then when_at reg rest
    else (if bytes_eq w (codes "return") then return_at reg rest
    else (if bytes_eq w (codes "raise") then raise_at reg rest
    else (if bytes_eq w (codes "ask") then ask_at rest
    else (if bytes_eq w (codes "same") then same_at rest
    else None))))))))))))))))

abbrev pub is_not_blank : ℕ → Bool
is_not_blank c = not (c == 32)

abbrev pub line_of_words : List Entity → List ℕ → List ℕ → Option Line
line_of_words reg w [] = line_alone w
line_of_words reg w (c ∷ cs) = line_behind reg w cs

-- the line that a text says
unfoldable pub line_at : List Entity → List ℕ → Option Line
line_at reg text = line_of_words reg (run_of is_not_blank text) (behind_run is_not_blank text)
