-- What stands at the front of a text, and what stands behind it: names, types, functions and the words of a plan.
use Rattle.std.specs.Prelude.{ℕ, Bool, true, false, ◌&&◌, ◌||◌, ◌==◌, zero, suc, List, [], ◌∷◌, ◌++◌, length, take, drop, Option, None, Some, codes, if◌then◌else◌}
use Rattle.std.specs.Str.{bytes_eq}
use Rattle.literal_model.specs.Shapes.{run_of, behind_run}
use Rattle.uno_model.specs.Names.{is_identifier, goes_on_identifier}
use Rattle.plan_model.specs.Expressions.{Word, variable, field, own}
use Rattle.plan_model.specs.Forms.{is_path, is_type_text, is_export_byte, is_export_name, is_function_text}
use Rattle.plan_model.specs.Lines.{Declared}

-- what there is goes on as it says, and nothing stays nothing
abbrev pub on_some : {X Y : Type 0} → Option X → (X → Option Y) → Option Y
on_some None f = None
on_some (Some x) f = f x

-- what there is, where the test holds
abbrev pub where_ : {X : Type 0} → Bool → Option X → Option X
where_ true x = x
where_ false x = None

-- what stands behind these bytes
unfoldable pub behind : List ℕ → List ℕ → Option (List ℕ)
behind front bytes = if bytes_eq (take (length front) bytes) front then Some (drop (length front) bytes) else None

-- what is read, where nothing stands behind it
abbrev pub whole : {X : Type 0} → X × List ℕ → Option X
whole (x, []) = Some x
whole (x, c ∷ cs) = None

abbrev pub at_end : {X : Type 0} → Option (X × List ℕ) → Option X
at_end x = on_some x whole

-- ---- names

abbrev pub run : (ℕ → Bool) → List ℕ → List ℕ × List ℕ
run test bytes = (run_of test bytes, behind_run test bytes)

-- letters, digits and `_` that are an identifier
abbrev pub identifier_in : List ℕ × List ℕ → Option (List ℕ × List ℕ)
identifier_in x = where_ (is_identifier x.0) (Some x)

unfoldable pub identifier_at : List ℕ → Option (List ℕ × List ℕ)
identifier_at bytes = identifier_in (run goes_on_identifier bytes)

-- words joined by points
abbrev pub is_path_byte : ℕ → Bool
is_path_byte c = goes_on_identifier c || (c == 46)

abbrev pub path_in : List ℕ × List ℕ → Option (List ℕ × List ℕ)
path_in x = where_ (is_path x.0) (Some x)

unfoldable pub path_at : List ℕ → Option (List ℕ × List ℕ)
path_at bytes = path_in (run is_path_byte bytes)

-- paths with one blank between any two, up to the end, of which there are at most so many
abbrev pub path_in_front : List ℕ → Option (List (List ℕ)) → Option (List (List ℕ))
path_in_front p None = None
path_in_front p (Some ps) = Some (p ∷ ps)

abbrev pub behind_path : (List ℕ → Option (List (List ℕ))) → List ℕ × List ℕ → Option (List (List ℕ))
behind_path more (p, []) = Some (p ∷ [])
behind_path more (p, c ∷ cs) = if c == 32 then path_in_front p (more cs) else None

unfoldable pub paths_on : ℕ → List ℕ → Option (List (List ℕ))
paths_on zero bytes = None
paths_on (suc most) bytes = on_some (path_at bytes) (behind_path (paths_on most))

-- a function: a word, or one behind `get:` or `set:`
abbrev pub function_in : List ℕ × List ℕ → Option (List ℕ × List ℕ)
function_in x = where_ (is_function_text x.0) (Some x)

-- a prefix and a run behind it as one
abbrev pub joined : List ℕ → List ℕ × List ℕ → List ℕ × List ℕ
joined front x = (front ++ x.0, x.1)

abbrev pub is_accessor_front : List ℕ → Bool
is_accessor_front bytes = bytes_eq bytes (codes "get:") || bytes_eq bytes (codes "set:")

unfoldable pub function_at : List ℕ → Option (List ℕ × List ℕ)
function_at bytes =
    if is_accessor_front (take 4 bytes) then function_in (joined (take 4 bytes) (run goes_on_identifier (drop 4 bytes)))
    else function_in (run goes_on_identifier bytes)

-- ---- types

-- a letter, digit, `_`, `.`, `[` or `]`
abbrev pub is_type_byte : ℕ → Bool
is_type_byte c = goes_on_identifier c || ((c == 46) || ((c == 91) || (c == 93)))

-- behind brackets in front, one byte each
unfoldable pub behind_brackets : List ℕ → List ℕ
behind_brackets bytes = behind_run (λ c. (c == 91) || (c == 93)) bytes

abbrev pub is_second_word : List ℕ → Bool
is_second_word w = bytes_eq w (codes "short") || (bytes_eq w (codes "long") || bytes_eq w (codes "hyper"))

-- the second word of an unsigned type, with the blank in front of it
abbrev pub with_second : List ℕ × List ℕ → List ℕ × List ℕ → List ℕ × List ℕ
with_second first second = if is_second_word second.0 then (first.0 ++ (32 ∷ second.0), second.1) else first

abbrev pub two_words : List ℕ × List ℕ → List ℕ × List ℕ
two_words (front, []) = (front, [])
two_words (front, c ∷ cs) = if c == 32 then with_second (front, c ∷ cs) (run goes_on_identifier cs) else (front, c ∷ cs)

abbrev pub type_words : List ℕ × List ℕ → List ℕ × List ℕ
type_words first = if bytes_eq (behind_brackets first.0) (codes "unsigned") then two_words first else first

abbrev pub type_in : List ℕ × List ℕ → Option (List ℕ × List ℕ)
type_in x = where_ (is_type_text x.0) (Some x)

unfoldable pub type_at : List ℕ → Option (List ℕ × List ℕ)
type_at bytes = type_in (type_words (run is_type_byte bytes))

-- ---- declared names

-- an identifier, a type, and what stands behind them and these bytes
abbrev pub typed_name : List ℕ → List ℕ × List ℕ → Option (Declared × List ℕ)
typed_name mark x = on_some (type_at x.1) (λ k. on_some (behind mark k.1) (λ rest. Some (record { name = x.0; kind = k.0 }, rest)))

abbrev pub behind_blank : List ℕ × List ℕ → Option (List ℕ × List ℕ)
behind_blank x = on_some (behind (codes " ") x.1) (λ rest. Some (x.0, rest))

-- `ID TYPE` with the bytes of a mark behind it
unfoldable pub declared_at : List ℕ → List ℕ → Option (Declared × List ℕ)
declared_at mark bytes = on_some (on_some (identifier_at bytes) behind_blank) (typed_name mark)

-- ---- words of the plan

-- `$self`, or a variable of another name
abbrev pub variable_in : List ℕ × List ℕ → Word × List ℕ
variable_in x = if bytes_eq x.0 (codes "self") then (own, x.1) else (variable x.0, x.1)

abbrev pub field_in : List ℕ × List ℕ → Word × List ℕ
field_in x = (field x.0, x.1)

abbrev pub some_word : (List ℕ × List ℕ → Word × List ℕ) → Option (List ℕ × List ℕ) → Option (Word × List ℕ)
some_word mk None = None
some_word mk (Some x) = Some (mk x)

-- what stands behind a `$`
abbrev pub behind_dollar : List ℕ → Option (Word × List ℕ)
behind_dollar [] = None
behind_dollar (c ∷ cs) = if c == 46 then some_word field_in (identifier_at cs) else some_word variable_in (identifier_at (c ∷ cs))

unfoldable pub word_at : List ℕ → Option (Word × List ℕ)
word_at [] = None
word_at (c ∷ cs) = if c == 36 then behind_dollar cs else None

-- `$ID`, where ID is not `self`
abbrev pub variable_of : Word × List ℕ → Option (List ℕ × List ℕ)
variable_of (variable name, rest) = Some (name, rest)
variable_of (w, rest) = None

unfoldable pub variable_at : List ℕ → Option (List ℕ × List ℕ)
variable_at bytes = on_some (word_at bytes) variable_of

-- ---- quoted names

abbrev pub closed_name : List ℕ × List ℕ → Option (List ℕ × List ℕ)
closed_name x = where_ (is_export_name x.0) (on_some (behind (codes "\"") x.1) (λ rest. Some (x.0, rest)))

-- the name of an export between quotes
unfoldable pub export_name_at : List ℕ → Option (List ℕ × List ℕ)
export_name_at bytes = on_some (behind (codes "\"") bytes) (λ rest. closed_name (run is_export_byte rest))
