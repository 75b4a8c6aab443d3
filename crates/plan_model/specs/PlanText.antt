-- The text of each line of a plan, and which lines a text has: blank lines, comments and the blanks in front of a line are none of them.
use Rattle.std.specs.Prelude.{ℕ, suc, Bool, true, false, ◌||◌, ◌==◌, List, [], ◌∷◌, ◌++◌, Option, None, Some, codes, if◌then◌else◌}
use Rattle.std.specs.List.{join_with_byte}
use Rattle.std.specs.Str.{bytes_eq}
use Rattle.literal_model.specs.Literals.{opens, closes, comma, square, curly, spell, quoted}
use Rattle.plan_model.specs.Expressions.{Word, variable, own}
use Rattle.plan_model.specs.Expressions as expression
use Rattle.plan_model.specs.Lines.{Term, Terms, leaf, type_named, void_any, typed, elements, members, word, operation, none, more, terms, Declared}
use Rattle.plan_model.specs.Lines.{Line, behaviour, field, method, service, singleton, export, thread, end_line, let_variable, set_variable, set_field}
use Rattle.plan_model.specs.Lines.{call, query, make, drop_variable, when, return, raise, dispose, ask, ask_instance, same}
use Rattle.plan_model.specs.declared.comparison.Comparison.{Comparison}
use Rattle.plan_model.specs.declared.comparison.Comparison.TheVariants.{Equal, Less}
use Rattle.plan_model.specs.declared.operation.Operation.{Operation}
use Rattle.plan_model.specs.declared.operation.Operation.TheVariants.{Add, Sub}

-- ---- terms

abbrev pub variable_text : List ℕ → List ℕ
variable_text name = codes "$" ++ name

abbrev pub field_text : List ℕ → List ℕ
field_text name = codes "$." ++ name

abbrev pub word_text : Word → List ℕ
word_text (variable name) = variable_text name
word_text (expression.field name) = field_text name
word_text own = codes "$self"

abbrev pub operation_text : Operation → List ℕ
operation_text Add = codes "add"
operation_text Sub = codes "sub"

unfoldable mutual
  pub term_text : Term → List ℕ
  term_text (leaf t) = spell t
  term_text (type_named k) = codes "<" ++ (k ++ codes ">")
  term_text void_any = codes "(void)"
  term_text (typed k t) = codes "(" ++ (k ++ (codes ")" ++ term_text t))
  term_text (elements ts) = spell (opens square) ++ (terms_text ts ++ spell (closes square))
  term_text (members ts) = spell (opens curly) ++ (terms_text ts ++ spell (closes curly))
  term_text (word w) = word_text w
  term_text (operation op s t) = operation_text op ++ (codes "(" ++ (term_text s ++ (spell comma ++ (term_text t ++ codes ")"))))

  pub terms_text : Terms → List ℕ
  terms_text none = []
  terms_text (more t ts) = term_text t ++ behind_comma ts

  -- a comma before each that is not the first
  pub behind_comma : Terms → List ℕ
  behind_comma none = []
  behind_comma (more t ts) = spell comma ++ (term_text t ++ behind_comma ts)

-- ---- lines

-- words with one blank between any two
abbrev pub words : List (List ℕ) → List ℕ
words ws = join_with_byte 32 ws

abbrev pub declared_words : Declared → List (List ℕ)
declared_words d = d.name ∷ (d.kind ∷ (codes "=" ∷ []))

abbrev pub call_text : Word → List ℕ → List Term → List ℕ
call_text target function args = word_text target ++ (codes "." ++ (function ++ (codes "(" ++ (terms_text (terms args) ++ codes ")"))))

abbrev pub result_words : Option Declared → List (List ℕ)
result_words None = []
result_words (Some d) = declared_words d

abbrev pub comparison_text : Comparison → List ℕ
comparison_text Equal = codes "=="
comparison_text Less = codes "<"

abbrev pub return_words : Option Term → List (List ℕ)
return_words None = codes "return" ∷ []
return_words (Some t) = codes "return" ∷ (term_text t ∷ [])

unfoldable pub line_words : Line → List (List ℕ)
line_words (behaviour name faces) = codes "behaviour" ∷ (name ∷ faces)
line_words (field d) = codes "field" ∷ (d.name ∷ (d.kind ∷ []))
line_words (method face function) = codes "method" ∷ (face ∷ (function ∷ []))
line_words (service name b) = codes "service" ∷ (name ∷ (b ∷ []))
line_words (singleton name b) = codes "singleton" ∷ (name ∷ (b ∷ []))
line_words (export name b) = codes "export" ∷ (quoted name ∷ (b ∷ []))
line_words thread = codes "thread" ∷ []
line_words end_line = codes "end" ∷ []
line_words (let_variable d t) = codes "let" ∷ (declared_words d ++ term_text t ∷ [])
line_words (set_variable name t) = codes "set" ∷ (variable_text name ∷ (codes "=" ∷ (term_text t ∷ [])))
line_words (set_field name t) = codes "set" ∷ (field_text name ∷ (codes "=" ∷ (term_text t ∷ [])))
line_words (call to target function args) = codes "call" ∷ (result_words to ++ call_text target function args ∷ [])
line_words (query d target) = codes "query" ∷ (declared_words d ++ word_text target ∷ [])
line_words (make d b) = codes "new" ∷ (declared_words d ++ b ∷ [])
line_words (drop_variable name) = codes "drop" ∷ (variable_text name ∷ [])
line_words (when left test right back) = codes "when" ∷ (word_text left ∷ (comparison_text test ∷ (term_text right ∷ return_words back)))
line_words (return back) = return_words back
line_words (raise k t) = codes "raise" ∷ (k ∷ (term_text t ∷ []))
line_words dispose = codes "dispose" ∷ []
line_words (ask d name) = codes "ask" ∷ (declared_words d ++ quoted name ∷ [])
line_words (ask_instance d) = codes "ask" ∷ (declared_words d ++ codes "instance" ∷ [])
line_words (same x y) = codes "same" ∷ (variable_text x ∷ (variable_text y ∷ []))

abbrev pub line_text : Line → List ℕ
line_text l = words (line_words l)

-- ---- the lines of a text

-- what stands between the line feeds; the last line feed begins no further line
unfoldable pub lines_of : List ℕ → List (List ℕ)
lines_of [] = []
lines_of (c ∷ cs) = if c == 10 then [] ∷ lines_of cs else in_front (lines_of cs)
  where
    in_front : List (List ℕ) → List (List ℕ)
    in_front [] = (c ∷ []) ∷ []
    in_front (l ∷ ls) = (c ∷ l) ∷ ls

-- a line without the blanks in front of it
unfoldable pub behind_blanks : List ℕ → List ℕ
behind_blanks [] = []
behind_blanks (c ∷ cs) = if (c == 32) || (c == 9) then behind_blanks cs else c ∷ cs

abbrev pub is_skipped : List ℕ → Bool
is_skipped [] = true
is_skipped (c ∷ cs) = c == 35

-- a line by its number, from 1
pub record Numbered : Type 0 where
  pub number : ℕ
  pub text : List ℕ

-- the lines from a number on that say something, without the blanks in front of them
unfoldable pub said_from : ℕ → List (List ℕ) → List Numbered
said_from n [] = []
said_from n (l ∷ ls) = if is_skipped (behind_blanks l) then said_from (suc n) ls else record { number = n; text = behind_blanks l } ∷ said_from (suc n) ls

-- the first line of a text
abbrev pub first_line : List ℕ
first_line = codes "unoplan 1"

abbrev pub begins_plan : List (List ℕ) → Bool
begins_plan [] = false
begins_plan (l ∷ ls) = bytes_eq (behind_blanks l) first_line

abbrev pub lines_behind : List (List ℕ) → List Numbered
lines_behind [] = []
lines_behind (l ∷ ls) = said_from 2 ls
