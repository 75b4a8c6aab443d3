-- The headers of a text, looked through before it is read: which name is a type, of which class, on which line it stands, and whether a value under it is
-- beyond those of `long`.
use Rattle.std.specs.Prelude.{ℕ, suc, ℤ, Bool, true, false, not, ◌||◌, ◌==◌, List, [], ◌∷◌, ◌++◌, Option, None, Some, codes, if◌then◌else◌}
use Rattle.std.specs.Cmp.Lexicographic.{slice_cmp}
use Rattle.std.specs.Ordering.{nat_cmp, is_lt}
use Rattle.std.specs.Str.{bytes_eq}
use Rattle.uno_model.specs.BuiltIn.{x_interface_name, exception_name, runtime_exception_name, disposed_exception_name, factory_name}
use Rattle.uno_model.specs.Kinds.{Kind}
use Rattle.uno_model.specs.Kinds as kd
use Rattle.uno_model.specs.declared.type_class.TypeClass.{TypeClass}
use Rattle.uno_model.specs.declared.type_class.TypeClass.TheVariants as class
use Rattle.registry_text_model.specs.EnumValues.{is_long}
use Rattle.registry_reading_model.specs.Numbers.{number_of}
use Rattle.registry_reading_model.specs.Words.{on_some, word_of, identifier_of, behind}

pub record Head : Type 0 where
  pub name : List ℕ
  pub class : Option TypeClass
  pub line : ℕ
  pub beyond : Bool

-- ---- the header on a line

-- what a first word opens, where that is a type
unfoldable pub class_of_word : List ℕ → Option TypeClass
class_of_word word =
    if bytes_eq word (codes "interface") then Some class.Interface
    else (if bytes_eq word (codes "struct") then Some class.Struct
    else (if bytes_eq word (codes "exception") then Some class.Exception
    else (if bytes_eq word (codes "enum") then Some class.Enum
    else None)))

-- a first word, and what stands behind the blank after it; nothing, where there is no blank
abbrev pub or_alone : List ℕ → Option (List ℕ × List ℕ) → List ℕ × List ℕ
or_alone text None = (text, [])
or_alone text (Some x) = x

abbrev pub first_word : List ℕ → List ℕ × List ℕ
first_word text = or_alone text (word_of text)

abbrev pub or_whole : List ℕ → Option (List ℕ) → List ℕ
or_whole line None = line
or_whole line (Some words) = words

unfoldable pub head_of : ℕ → List ℕ → Head
head_of number line =
    let words = first_word (or_whole line (behind (codes "published ") line)) in
    record { name = (first_word words.1).0; class = class_of_word words.0; line = number; beyond = false }

-- ---- all of them

-- the name is above that of the last
unfoldable pub is_above_last : List Head → List ℕ → Bool
is_above_last [] name = true
is_above_last (h ∷ []) name = is_lt (slice_cmp nat_cmp h.name name)
is_above_last (h ∷ (g ∷ gs)) name = is_above_last (g ∷ gs) name

-- names rise: what is not above the last is left out
abbrev pub head_added : List Head → Head → List Head
head_added heads h = if is_above_last heads h.name then heads ++ h ∷ [] else heads

-- an item whose value is beyond those of `long`
abbrev pub is_beyond : Option ℤ → Bool
is_beyond None = false
is_beyond (Some n) = not (is_long n)

unfoldable pub beyond_long : List ℕ → Bool
beyond_long line = is_beyond (on_some (behind (codes "value ") line) (λ text. on_some (identifier_of text) (λ x. number_of x.1)))

-- the last of them is marked
unfoldable pub last_marked : List Head → List Head
last_marked [] = []
last_marked (h ∷ []) = record { name = h.name; class = h.class; line = h.line; beyond = true } ∷ []
last_marked (h ∷ (g ∷ gs)) = h ∷ last_marked (g ∷ gs)

abbrev pub one_line_on : ℕ → Bool → List Head → List ℕ → List Head
one_line_on number true heads line = head_added heads (head_of number line)
one_line_on number false heads line = if beyond_long line then last_marked heads else heads

-- the header of an entity is the line behind the first of a text, and each behind an `end`; the lines from this number on, the first of which is a header or not
unfoldable pub heads_on : ℕ → Bool → List Head → List (List ℕ) → List Head
heads_on number is_header heads [] = heads
heads_on number is_header heads (line ∷ lines) =
    heads_on (suc number) ((number == 1) || bytes_eq line (codes "end")) (one_line_on number is_header heads line) lines

abbrev pub heads_in : List (List ℕ) → List Head
heads_in lines = heads_on 1 false [] lines

-- ---- what a name stands for

unfoldable pub head_named : List ℕ → List Head → Option Head
head_named name [] = None
head_named name (h ∷ hs) = if bytes_eq name h.name then Some h else head_named name hs

abbrev pub kind_of_class : List ℕ → Option TypeClass → Kind
kind_of_class name (Some class.Interface) = kd.interface name
kind_of_class name (Some class.Exception) = kd.exception name
kind_of_class name (Some class.Enum) = kd.enum name
kind_of_class name _ = kd.struct name

abbrev pub kind_of_head : List ℕ → Option Head → Kind
kind_of_head name None = kd.struct name
kind_of_head name (Some h) = kind_of_class name h.class

-- a built-in entity, or one of the text; a name that is no type stands as a struct's, of which there is none
unfoldable pub named_in : List Head → List ℕ → Kind
named_in heads name =
    if bytes_eq name x_interface_name || bytes_eq name factory_name then kd.interface name
    else (if bytes_eq name exception_name || (bytes_eq name runtime_exception_name || bytes_eq name disposed_exception_name) then kd.exception name
    else kind_of_head name (head_named name heads))
