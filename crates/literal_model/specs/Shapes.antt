-- The tokens of a literal's text, the order in which they stand, and the verdict on a text before its type is asked.
use Rattle.std.specs.Prelude.{ℕ, zero, suc, ◌+◌, ◌-◌, ◌*◌, ◌^◌, ℤ, pos, negsuc, Bool, true, false, ◌==◌, ◌&&◌, ◌||◌, nat_le}
use Rattle.std.specs.Prelude.{List, [], ◌∷◌, length, take, drop, slice_index, is_none, Option, None, Some, Result, Ok, Err, codes, if◌then◌else◌}
use Rattle.std.specs.List.{list_all, list_any}
use Rattle.std.specs.Str.{bytes_eq}
use Rattle.uno_model.specs.Defaults.{items_of}
use Rattle.uno_model.specs.Entities.{Entity, Item}
use Rattle.uno_model.specs.Kinds.{Kind, name_of}
use Rattle.uno_model.specs.Kinds as kd
use Rattle.literal_model.specs.Literals.{Bracket, square, curly, Token, opens, closes, comma, number, word, string, named, cast, object, first_item}
use Rattle.uno_model.specs.NamedTypes.{type_of_text}
use Rattle.uno_model.specs.Names.{begins_identifier, goes_on_identifier}

-- ---- which tokens there are in a registry

-- the largest unsigned hyper, and the size of the lowest hyper
abbrev pub largest : ℕ
largest = 2 ^ 64 - 1

abbrev pub lowest : ℕ
lowest = 2 ^ 63

-- the word is this name
abbrev pub is_some_name : Option (List ℕ) → List ℕ → Bool
is_some_name None w = false
is_some_name (Some name) w = bytes_eq name w

-- the word is the name of an item that is the first of its number
abbrev pub is_first_name : List Item → List ℕ → Bool
is_first_name items w = list_any (λ i. bytes_eq i.name w && is_some_name (first_item items i.number) w) items

abbrev pub is_own_word : List ℕ → Bool
is_own_word w = (bytes_eq w (codes "true") || bytes_eq w (codes "false")) || (bytes_eq w (codes "void") || bytes_eq w (codes "null"))

-- one of the four words, or the name of the first item of its number in some enum
abbrev pub is_known_word : List Entity → List ℕ → Bool
is_known_word reg w = is_own_word w || list_any (λ e. is_first_name (items_of (Some e)) w) reg

-- letters, digits and `_`, a letter or `_` first
abbrev pub is_word : List ℕ → Bool
is_word [] = false
is_word (c ∷ cs) = begins_identifier c && list_all goes_on_identifier cs

-- ---- what stands at the front of a text: a token and what is behind it, or how many bytes are left from the first bad one on

-- the longest front of which each byte passes, and what stands behind it
unfoldable pub run_of : (ℕ → Bool) → List ℕ → List ℕ
run_of test [] = []
run_of test (c ∷ cs) = if test c then c ∷ run_of test cs else []

unfoldable pub behind_run : (ℕ → Bool) → List ℕ → List ℕ
behind_run test [] = []
behind_run test (c ∷ cs) = if test c then behind_run test cs else c ∷ cs

-- the digits behind a number, as long as it stays within a limit
unfoldable pub digits_on : ℕ → ℕ → List ℕ → Result (ℕ × List ℕ) ℕ
digits_on limit n [] = Ok (n, [])
digits_on limit n (c ∷ cs) =
    if nat_le 48 c && nat_le c 57 then (if nat_le (n * 10 + (c - 48)) limit then digits_on limit (n * 10 + (c - 48)) cs else Err (suc (length cs))) else Ok (n, c ∷ cs)

-- digits of which the first is not 0
abbrev pub digits_at : ℕ → List ℕ → Result (ℕ × List ℕ) ℕ
digits_at limit [] = Err 0
digits_at limit (c ∷ cs) = if nat_le 49 c && nat_le c 57 then digits_on limit (c - 48) cs else Err (suc (length cs))

-- what was read goes on as it says
abbrev pub on_ok : {A B E : Type 0} → Result A E → (A → Result B E) → Result B E
on_ok (Ok x) go = go x
on_ok (Err e) go = Err e

-- one byte more in front of a text that was read
abbrev pub with_byte : ℕ → Result (List ℕ × List ℕ) ℕ → Result (List ℕ × List ℕ) ℕ
with_byte c (Ok x) = Ok (c ∷ x.0, x.1)
with_byte c (Err left) = Err left

-- what a byte behind a `\` stands for
abbrev pub escape_of : ℕ → Option ℕ
escape_of c = if c == 110 then Some 10 else (if (c == 34) || (c == 92) then Some c else None)

abbrev pub with_escape : Option ℕ → ℕ → Result (List ℕ × List ℕ) ℕ → Result (List ℕ × List ℕ) ℕ
with_escape None left read = Err left
with_escape (Some c) left read = with_byte c read

-- the text behind a quote up to the next one that no `\` precedes; the flag says that a `\` was the last byte
unfoldable pub string_at : Bool → List ℕ → Result (List ℕ × List ℕ) ℕ
string_at escaped [] = Err 0
string_at true (c ∷ cs) = with_escape (escape_of c) (suc (length cs)) (string_at false cs)
string_at false (c ∷ cs) = if c == 34 then Ok ([], cs) else (if c == 92 then string_at true cs else (if c == 10 then Err (suc (length cs)) else with_byte c (string_at false cs)))

-- a letter, digit, `_`, `.`, `[`, `]` or blank
abbrev pub is_name_byte : ℕ → Bool
is_name_byte c = goes_on_identifier c || ((c == 46) || ((c == 91) || ((c == 93) || (c == 32))))

-- behind the letters in which a text and a word agree
unfoldable pub behind_letters : List ℕ → List ℕ → List ℕ
behind_letters (w ∷ ws) (c ∷ cs) = if c == w then behind_letters ws cs else c ∷ cs
behind_letters ws cs = cs

abbrev pub shorter : List ℕ → List ℕ → List ℕ
shorter xs ys = if nat_le (length xs) (length ys) then xs else ys

-- behind the second word of an unsigned type
abbrev pub behind_second : List ℕ → List ℕ
behind_second cs = shorter (behind_letters (codes "short") cs) (shorter (behind_letters (codes "long") cs) (behind_letters (codes "hyper") cs))

-- behind words with a point between any two
unfoldable mutual
  pub behind_words : List ℕ → List ℕ
  behind_words [] = []
  behind_words (c ∷ cs) = if begins_identifier c then behind_word cs else c ∷ cs

  pub behind_word : List ℕ → List ℕ
  behind_word [] = []
  behind_word (c ∷ cs) = if goes_on_identifier c then behind_word cs else (if c == 46 then behind_words cs else c ∷ cs)

abbrev pub behind_plain : List ℕ → List ℕ
behind_plain cs = if bytes_eq (take 9 cs) (codes "unsigned ") then behind_second (drop 9 cs) else behind_words cs

-- behind the longest front of a text that may begin the name of a type: `[]` any number of times, and the words of another type
unfoldable mutual
  pub behind_name : List ℕ → List ℕ
  behind_name [] = []
  behind_name (c ∷ cs) = if c == 91 then behind_bracket cs else behind_plain (c ∷ cs)

  pub behind_bracket : List ℕ → List ℕ
  behind_bracket [] = []
  behind_bracket (c ∷ cs) = if c == 93 then behind_name cs else c ∷ cs

-- the last word is whole, and the name is that of no type
abbrev pub is_misnamed : List Entity → List ℕ → Bool
is_misnamed reg name = goes_on_identifier (slice_index name (length name - 1)) && is_none (type_of_text reg name)

-- how many bytes are left from the first at which the name of no type goes on, where so many are left behind a run; where a name stands that is none, from its front on
abbrev pub name_stop : List Entity → List ℕ → ℕ → ℕ
name_stop reg run left = stop (behind_name run)
  where
    stop : List ℕ → ℕ
    stop behind =
        if (length behind + left) == 0 then 0
        else (if is_misnamed reg (take (length run - length behind) run) then length run + left else length behind + left)

-- the name of a type and the mark behind it
abbrev pub type_at : List Entity → ℕ → List ℕ → Result (Kind × List ℕ) ℕ
type_at reg mark bytes = closed (behind_run is_name_byte bytes)
  where
    of_name : Option Kind → List ℕ → Result (Kind × List ℕ) ℕ
    of_name None cs = Err (length bytes)
    of_name (Some k) cs = Ok (k, cs)

    closed : List ℕ → Result (Kind × List ℕ) ℕ
    closed [] = Err (name_stop reg (run_of is_name_byte bytes) 0)
    closed (c ∷ cs) = if c == mark then of_name (type_of_text reg (run_of is_name_byte bytes)) cs else Err (name_stop reg (run_of is_name_byte bytes) (suc (length cs)))

-- a type that is not any
abbrev pub cast_of : ℕ → Kind × List ℕ → Result (Token × List ℕ) ℕ
cast_of left (kd.any, cs) = Err left
cast_of left (k, cs) = Ok (cast k, cs)

abbrev pub word_at : List Entity → List ℕ → Result (Token × List ℕ) ℕ
word_at reg bytes = if is_known_word reg (run_of goes_on_identifier bytes) then Ok (word (run_of goes_on_identifier bytes), behind_run goes_on_identifier bytes) else Err (length bytes)

abbrev pub negative_of : ℕ → ℤ
negative_of n = negsuc (n - 1)

abbrev pub number_at : List ℕ → Result (Token × List ℕ) ℕ
number_at [] = Err 0
number_at (c ∷ cs) =
    if c == 48 then Ok (number (pos 0), cs)
    else (if c == 45 then on_ok (digits_at lowest cs) (λ x. Ok (number (negative_of x.0), x.1)) else on_ok (digits_at largest (c ∷ cs)) (λ x. Ok (number (pos x.0), x.1)))

-- the first token of a value
unfoldable pub value_at : List Entity → List ℕ → Result (Token × List ℕ) ℕ
value_at reg [] = Err 0
value_at reg (c ∷ cs) =
    if c == 91 then Ok (opens square, cs)
    else (if c == 123 then Ok (opens curly, cs)
    else (if c == 34 then on_ok (string_at false cs) (λ x. Ok (string x.0, x.1))
    else (if c == 60 then on_ok (type_at reg 62 cs) (λ x. Ok (named x.0, x.1))
    else (if c == 40 then on_ok (type_at reg 41 cs) (cast_of (length cs))
    else (if begins_identifier c then word_at reg (c ∷ cs) else number_at (c ∷ cs))))))

-- ---- the order of tokens

-- what is awaited: a value, a value or the end of a sequence without elements, or what stands behind a value
pub data Awaited : Type 0 where
  value : Awaited
  element : Awaited
  separator : Awaited

abbrev pub behind_cast : Kind → Awaited
behind_cast kd.void = separator
behind_cast _ = value

abbrev pub behind : Token → Awaited
behind (opens square) = element
behind (opens curly) = value
behind (closes b) = separator
behind comma = value
behind (number n) = separator
behind (word w) = separator
behind (string s) = separator
behind (named k) = separator
behind (cast k) = behind_cast k
behind (object oid face) = separator

-- the brackets that are open behind a token, the innermost first
abbrev pub opened : Token → List Bracket → List Bracket
opened (opens b) outer = b ∷ outer
opened (closes b) [] = []
opened (closes b) (c ∷ outer) = outer
opened _ outer = outer

abbrev pub closing : Bracket → ℕ
closing square = 93
closing curly = 125

-- behind a value: a comma or the end of what is open
abbrev pub separator_at : List Bracket → List ℕ → Result (Token × List ℕ) ℕ
separator_at outer [] = Err 0
separator_at [] (c ∷ cs) = Err (suc (length cs))
separator_at (b ∷ outer) (c ∷ cs) = if c == 44 then Ok (comma, cs) else (if c == closing b then Ok (closes b, cs) else Err (suc (length cs)))

abbrev pub element_at : List Entity → List ℕ → Result (Token × List ℕ) ℕ
element_at reg [] = Err 0
element_at reg (c ∷ cs) = if c == 93 then Ok (closes square, cs) else value_at reg (c ∷ cs)

abbrev pub token_at : List Entity → Awaited → List Bracket → List ℕ → Result (Token × List ℕ) ℕ
token_at reg value outer bytes = value_at reg bytes
token_at reg element outer bytes = element_at reg bytes
token_at reg separator outer bytes = separator_at outer bytes

-- a token, and how many bytes of the text are left from its front on
pub record Placed : Type 0 where
  pub left : ℕ
  pub token : Token

abbrev pub with_token : Placed → Result (List Placed) ℕ → Result (List Placed) ℕ
with_token p (Ok ps) = Ok (p ∷ ps)
with_token p (Err left) = Err left

-- the text ends behind a whole value
abbrev pub is_at_end : Awaited → List Bracket → List ℕ → Bool
is_at_end separator [] [] = true
is_at_end _ _ _ = false

-- the tokens of what is left of a text, of which there are at most so many, or how many bytes are left from the first bad one on
unfoldable pub tokens_at : ℕ → List Entity → Awaited → List Bracket → List ℕ → Result (List Placed) ℕ
tokens_at zero reg awaited outer bytes = Err 0
tokens_at (suc most) reg awaited outer bytes =
    if is_at_end awaited outer bytes then Ok []
    else on_ok (token_at reg awaited outer bytes) (λ x. with_token (record { left = length bytes; token = x.0 }) (tokens_at most reg (behind x.0) (opened x.0 outer) x.1))

-- the verdict on a text: its tokens, or how many bytes are left from the first one at which no literal's shape goes on
abbrev pub judge : List Entity → List ℕ → Result (List Placed) ℕ
judge reg text = tokens_at (suc (length text)) reg value [] text
