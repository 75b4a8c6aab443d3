-- The form of a line, whatever its names stand for: how its names, types and terms are spelled, and where it may stand.
use Rattle.std.specs.Prelude.{ℕ, ℤ, pos, negsuc, Bool, true, false, not, ◌&&◌, ◌||◌, ◌==◌, nat_lt, nat_le, List, [], ◌∷◌, length, take, drop, Option, None, Some, codes, if◌then◌else◌}
use Rattle.std.specs.Char.{is_ascii_alphanumeric}
use Rattle.std.specs.List.{list_all}
use Rattle.std.specs.Str.{bytes_eq, is_utf8}
use Rattle.literal_model.specs.Literals.{Token, number, string}
use Rattle.literal_model.specs.Literals as token
use Rattle.literal_model.specs.Shapes.{largest, lowest, is_known_word, is_word}
use Rattle.uno_model.specs.Entities.{Entity}
use Rattle.uno_model.specs.Names.{is_identifier, parts_of}
use Rattle.uno_model.specs.Sound.{is_some_list}
use Rattle.plan_model.specs.Expressions.{Word, variable, own}
use Rattle.plan_model.specs.Expressions as expression
use Rattle.plan_model.specs.Lines.{Term, Terms, leaf, type_named, void_any, typed, elements, members, word, operation, none, more, Declared}
use Rattle.plan_model.specs.Lines.{Line, behaviour, field, method, service, singleton, export, thread, end_line, let_variable, set_variable, set_field}
use Rattle.plan_model.specs.Lines.{call, query, make, drop_variable, when, return, raise, dispose, ask, ask_instance, same}

-- ---- names and types

-- words joined by points: what may be the name of an entity, or of a simple type of one word
abbrev pub is_path : List ℕ → Bool
is_path s = list_all is_word (parts_of s)

abbrev pub is_plain_type : List ℕ → Bool
is_plain_type s = is_path s || (bytes_eq s (codes "unsigned short") || (bytes_eq s (codes "unsigned long") || bytes_eq s (codes "unsigned hyper")))

-- `[]` any number of times, and the name of another type
unfoldable mutual
  pub is_type_text : List ℕ → Bool
  is_type_text [] = false
  is_type_text (c ∷ cs) = if c == 91 then is_behind_bracket cs else is_plain_type (c ∷ cs)

  pub is_behind_bracket : List ℕ → Bool
  is_behind_bracket [] = false
  is_behind_bracket (c ∷ cs) = if c == 93 then is_type_text cs else false

-- a word, or that of an attribute behind `get:` or `set:`
abbrev pub is_accessor : List ℕ → Bool
is_accessor s = bytes_eq (take 4 s) (codes "get:") || bytes_eq (take 4 s) (codes "set:")

unfoldable pub is_function_text : List ℕ → Bool
is_function_text s = if is_accessor s then is_word (drop 4 s) else is_word s

-- 1 to 64 letters, digits, `.`, `_` and `-`
abbrev pub is_export_byte : ℕ → Bool
is_export_byte c = is_ascii_alphanumeric c || ((c == 46) || ((c == 95) || (c == 45)))

unfoldable pub is_export_name : List ℕ → Bool
is_export_name s = (nat_lt 0 (length s) && nat_le (length s) 64) && list_all is_export_byte s

-- `$self` is the own object, and so no variable
abbrev pub is_variable_name : List ℕ → Bool
is_variable_name name = is_identifier name && not (bytes_eq name (codes "self"))

abbrev pub is_declared : Declared → Bool
is_declared d = is_identifier d.name && is_type_text d.kind

-- ---- terms

abbrev pub is_word_formed : Word → Bool
is_word_formed (variable name) = is_variable_name name
is_word_formed (expression.field name) = is_identifier name
is_word_formed own = true

-- a number that some type has, one of the four words or the first name of an enum's number, or a text
abbrev pub is_number : ℤ → Bool
is_number (pos n) = nat_le n largest
is_number (negsuc n) = nat_lt n lowest

abbrev pub is_leaf : List Entity → Token → Bool
is_leaf reg (number n) = is_number n
is_leaf reg (token.word w) = is_word w && is_known_word reg w
is_leaf reg (string s) = is_utf8 s
is_leaf reg _ = false

-- a type that may stand before a value of it: any may not, and void has no value behind it
abbrev pub is_cast : List ℕ → Bool
is_cast k = is_type_text k && not (bytes_eq k (codes "any") || bytes_eq k (codes "void"))

abbrev pub has_members : Terms → Bool
has_members none = false
has_members (more t ts) = true

unfoldable mutual
  pub is_term : List Entity → Term → Bool
  is_term reg (leaf t) = is_leaf reg t
  is_term reg (type_named k) = is_type_text k
  is_term reg void_any = true
  is_term reg (typed k t) = is_cast k && is_term reg t
  is_term reg (elements ts) = are_terms reg ts
  is_term reg (members ts) = has_members ts && are_terms reg ts
  is_term reg (word w) = is_word_formed w
  is_term reg (operation op s t) = is_term reg s && is_term reg t

  pub are_terms : List Entity → Terms → Bool
  are_terms reg none = true
  are_terms reg (more t ts) = is_term reg t && are_terms reg ts

-- ---- lines

abbrev pub is_left_out : {X : Type 0} → (X → Bool) → Option X → Bool
is_left_out test None = true
is_left_out test (Some x) = test x

unfoldable pub is_line : List Entity → Line → Bool
is_line reg (behaviour name faces) = is_identifier name && (is_some_list faces && list_all is_path faces)
is_line reg (field d) = is_declared d
is_line reg (method face function) = is_path face && is_function_text function
is_line reg (service name b) = is_path name && is_identifier b
is_line reg (singleton name b) = is_path name && is_identifier b
is_line reg (export name b) = is_export_name name && is_identifier b
is_line reg thread = true
is_line reg end_line = true
is_line reg (let_variable d t) = is_declared d && is_term reg t
is_line reg (set_variable name t) = is_variable_name name && is_term reg t
is_line reg (set_field name t) = is_identifier name && is_term reg t
is_line reg (call to target function args) =
    (is_left_out is_declared to && is_word_formed target) && (is_function_text function && list_all (is_term reg) args)
is_line reg (query d target) = is_declared d && is_word_formed target
is_line reg (make d b) = is_declared d && is_identifier b
is_line reg (drop_variable name) = is_variable_name name
is_line reg (when left test right back) = is_word_formed left && (is_term reg right && is_left_out (is_term reg) back)
is_line reg (return back) = is_left_out (is_term reg) back
is_line reg (raise k t) = is_type_text k && is_term reg t
is_line reg dispose = true
is_line reg (ask d name) = is_declared d && is_export_name name
is_line reg (ask_instance d) = is_declared d
is_line reg (same x y) = is_variable_name x && is_variable_name y

-- ---- what a root may write: neither a field nor the own object, and no operation

abbrev pub is_root_word : Word → Bool
is_root_word (variable name) = true
is_root_word (expression.field name) = false
is_root_word own = false

unfoldable mutual
  pub is_root_term : Term → Bool
  is_root_term (typed k t) = is_root_term t
  is_root_term (elements ts) = are_root_terms ts
  is_root_term (members ts) = are_root_terms ts
  is_root_term (word w) = is_root_word w
  is_root_term (operation op s t) = false
  is_root_term t = true

  pub are_root_terms : Terms → Bool
  are_root_terms none = true
  are_root_terms (more t ts) = is_root_term t && are_root_terms ts
