-- Literals: the tokens of each value, and their spelling.
use Rattle.std.specs.Prelude.{◌≡◌, ℕ, ◌==◌, ◌||◌, ℤ, pos, Bool, true, false, List, [], ◌∷◌, ◌++◌, Option, None, Some, codes, if◌then◌else◌}
use Rattle.std.specs.List.{flat_map}
use Rattle.std.specs.Ordering.{int_eq}
use Rattle.std.specs.Int.{w8, cast_signed}
use Rattle.std.specs.Fmt.{signed_decimal}
use Rattle.uno_model.specs.Kinds.{Kind, name_of}
use Rattle.uno_model.specs.Entities.{Entity, Item}
use Rattle.uno_model.specs.Registry.{find_entity}
use Rattle.uno_model.specs.Defaults.{items_of}
use Rattle.uno_model.specs.Fits.{Fits}
use Rattle.uno_model.specs.Values.{Ref, null, own, peer, Plain, Plains, void, char, boolean, byte, short, unsigned_short, long}
use Rattle.uno_model.specs.Values.{unsigned_long, hyper, unsigned_hyper, str, kind, any, enum, tuple, list, bytes, ref, none, more, refs}

-- in a quoted text `"` and `\` follow a `\`, and a line feed is `\n`; every other character stands for itself
abbrev pub escaped : ℕ → List ℕ
escaped c = if (c == 34) || (c == 92) then 92 ∷ (c ∷ []) else (if c == 10 then 92 ∷ (110 ∷ []) else c ∷ [])

-- a text between quotes
abbrev pub quoted : List ℕ → List ℕ
quoted s = (34 ∷ flat_map escaped s) ++ 34 ∷ []

-- the name of the first item that has a number
unfoldable pub first_item : List Item → ℤ → Option (List ℕ)
first_item [] n = None
first_item (i ∷ items) n = if int_eq i.number n then Some i.name else first_item items n

pub data Bracket : Type 0 where
  square : Bracket
  curly : Bracket

-- a bracket, a comma, a number, a word, a quoted text, a type, a type that stands before a value of it, or an object, which is not read
pub data Token : Type 0 where
  opens : Bracket → Token
  closes : Bracket → Token
  comma : Token
  number : ℤ → Token
  word : List ℕ → Token
  string : List ℕ → Token
  named : Kind → Token
  cast : Kind → Token
  object : List ℕ → List ℕ → Token

abbrev pub spell : Token → List ℕ
spell (opens square) = codes "["
spell (opens curly) = codes "{"
spell (closes square) = codes "]"
spell (closes curly) = codes "}"
spell comma = codes ","
spell (number n) = signed_decimal n
spell (word w) = w
spell (string s) = quoted s
spell (named k) = codes "<" ++ (name_of k ++ codes ">")
spell (cast k) = codes "(" ++ (name_of k ++ codes ")")
spell (object oid face) = codes "@" ++ (quoted oid ++ (codes "<" ++ (face ++ codes ">")))

abbrev pub spells : List Token → List ℕ
spells ts = flat_map spell ts

-- the name of an item, or the number where no item has it
abbrev pub item_token : Option (List ℕ) → ℤ → Token
item_token None n = number n
item_token (Some name) n = word name

-- a comma before a value that is not the first
abbrev pub comma_tokens : Bool → List Token
comma_tokens true = []
comma_tokens false = comma ∷ []

-- a byte of a sequence of bytes is the signed number that it is
unfoldable pub byte_tokens : Bool → List ℕ → List Token
byte_tokens is_first [] = []
byte_tokens is_first (b ∷ bs) = comma_tokens is_first ++ (number (cast_signed w8 b) ∷ byte_tokens false bs)

abbrev pub ref_token : Ref → Token
ref_token null = word (codes "null")
ref_token (own oid face) = object oid face
ref_token (peer oid face) = object oid face

-- the tokens of a value; in those of a struct or an exception the members of the base come first
unfoldable mutual
  pub tokens_of : List Entity → Plain → List Token
  tokens_of reg void = word (codes "void") ∷ []
  tokens_of reg (char n) = number (pos n) ∷ []
  tokens_of reg (boolean true) = word (codes "true") ∷ []
  tokens_of reg (boolean false) = word (codes "false") ∷ []
  tokens_of reg (byte n) = number n ∷ []
  tokens_of reg (short n) = number n ∷ []
  tokens_of reg (unsigned_short n) = number (pos n) ∷ []
  tokens_of reg (long n) = number n ∷ []
  tokens_of reg (unsigned_long n) = number (pos n) ∷ []
  tokens_of reg (hyper n) = number n ∷ []
  tokens_of reg (unsigned_hyper n) = number (pos n) ∷ []
  tokens_of reg (str s) = string s ∷ []
  tokens_of reg (kind t) = named t ∷ []
  tokens_of reg (any t void) = cast t ∷ []
  tokens_of reg (any t v) = cast t ∷ tokens_of reg v
  tokens_of reg (enum name n) = item_token (first_item (items_of (find_entity name reg)) n) n ∷ []
  tokens_of reg (tuple name vs) = opens curly ∷ (tokens_in reg true vs ++ closes curly ∷ [])
  tokens_of reg (list t vs) = opens square ∷ (tokens_in reg true vs ++ closes square ∷ [])
  tokens_of reg (bytes b) = opens square ∷ (byte_tokens true b ++ closes square ∷ [])
  tokens_of reg (ref r) = ref_token r ∷ []

  pub tokens_in : List Entity → Bool → Plains → List Token
  tokens_in reg is_first none = []
  tokens_in reg is_first (more v vs) = comma_tokens is_first ++ (tokens_of reg v ++ tokens_in reg false vs)

-- the text of a value
abbrev pub print : List Entity → Plain → List ℕ
print reg v = spells (tokens_of reg v)

-- the text is the literal of this value at this type
pub record IsLiteral (reg : List Entity) (k : Kind) (text : List ℕ) (v : Plain) : Type 0 where
  pub fits : Fits reg v k
  pub closed : refs v ≡ []
  pub printed : text ≡ print reg v
