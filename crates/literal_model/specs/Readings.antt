-- The value of a literal's tokens at a type, or the first value in them that is none of its type.
use Rattle.std.specs.Prelude.{ℕ, zero, suc, ◌^◌, ℤ, pos, negsuc, Bool, true, false, nat_lt, List, [], ◌∷◌}
use Rattle.std.specs.Prelude.{length, Option, None, Some, Result, Ok, Err, codes, if◌then◌else◌}
use Rattle.std.specs.Int.{w8, cast_unsigned}
use Rattle.std.specs.Str.{bytes_eq}
use Rattle.uno_model.specs.Defaults.{items_of}
use Rattle.uno_model.specs.Entities.{Entity, Item}
use Rattle.uno_model.specs.Fits.{member_kinds}
use Rattle.uno_model.specs.Kinds.{Kind}
use Rattle.uno_model.specs.Kinds as kd
use Rattle.literal_model.specs.Literals.{first_item, Token, opens, closes, comma, number, word, string, named, cast, square, curly}
use Rattle.uno_model.specs.Registry.{find_entity}
use Rattle.literal_model.specs.Shapes.{Placed, on_ok, is_some_name}
use Rattle.uno_model.specs.Types.{is_type}
use Rattle.uno_model.specs.Values.{null, Plain, Plains, plains}
use Rattle.uno_model.specs.Values as v

-- a value at which the nesting is too deep, or the bytes that are left from the front of one that is none of its type
pub data Fault : Type 0 where
  deep : Fault
  misfit : ℕ → Fault

-- what is read of tokens, and the tokens behind it
abbrev pub Reads : Type 0 → Type 0
Reads X = List Placed → Result (X × List Placed) Fault

abbrev pub left_at : List Placed → ℕ
left_at [] = 0
left_at (p ∷ ps) = p.left

-- ---- what a token is

abbrev pub number_in : Token → Option ℤ
number_in (number n) = Some n
number_in _ = None

abbrev pub word_in : Token → Option (List ℕ)
word_in (word w) = Some w
word_in _ = None

abbrev pub string_in : Token → Option (List ℕ)
string_in (string s) = Some s
string_in _ = None

abbrev pub named_in : Token → Option Kind
named_in (named k) = Some k
named_in _ = None

abbrev pub cast_in : Token → Option Kind
cast_in (cast k) = Some k
cast_in _ = None

abbrev pub and_then : {A B : Type 0} → Option A → (A → Option B) → Option B
and_then None go = None
and_then (Some x) go = go x

-- ---- the values of one token

abbrev pub unsigned_of : ℕ → ℤ → Option ℕ
unsigned_of bits (pos n) = if nat_lt n (2 ^ bits) then Some n else None
unsigned_of bits (negsuc n) = None

abbrev pub signed_of : ℕ → ℤ → Option ℤ
signed_of bits (pos n) = if nat_lt n (2 ^ bits) then Some (pos n) else None
signed_of bits (negsuc n) = if nat_lt n (2 ^ bits) then Some (negsuc n) else None

abbrev pub truth_of : List ℕ → Option Bool
truth_of w = if bytes_eq w (codes "true") then Some true else (if bytes_eq w (codes "false") then Some false else None)

-- the word that was asked
abbrev pub word_as : List ℕ → Plain → List ℕ → Option Plain
word_as asked x w = if bytes_eq w asked then Some x else None

-- the number of the first item of this name
unfoldable pub number_named : List Item → List ℕ → Option ℤ
number_named [] w = None
number_named (i ∷ items) w = if bytes_eq i.name w then Some i.number else number_named items w

-- the number, where the word is the name of the first item that has it
abbrev pub item_of_word : List Item → List ℕ → Option ℤ
item_of_word items w = and_then (number_named items w) (λ n. if is_some_name (first_item items n) w then Some n else None)

-- the number, where no item has it
abbrev pub none_of_number : Option (List ℕ) → ℤ → Option ℤ
none_of_number None n = Some n
none_of_number (Some name) n = None

abbrev pub item_of_number : List Item → ℤ → Option ℤ
item_of_number items n = and_then (signed_of 31 n) (λ m. none_of_number (first_item items m) m)

abbrev pub item_in : List Item → Token → Option ℤ
item_in items (word w) = item_of_word items w
item_in items (number n) = item_of_number items n
item_in items _ = None

abbrev pub some_as : {X : Type 0} → (X → Plain) → Option X → Option Plain
some_as mk None = None
some_as mk (Some x) = Some (mk x)

-- a value of a type of numbers
abbrev pub numeric : Kind → Token → Option Plain
numeric kd.char t = some_as v.char (and_then (number_in t) (unsigned_of 16))
numeric kd.byte t = some_as v.byte (and_then (number_in t) (signed_of 7))
numeric kd.short t = some_as v.short (and_then (number_in t) (signed_of 15))
numeric kd.unsigned_short t = some_as v.unsigned_short (and_then (number_in t) (unsigned_of 16))
numeric kd.long t = some_as v.long (and_then (number_in t) (signed_of 31))
numeric kd.unsigned_long t = some_as v.unsigned_long (and_then (number_in t) (unsigned_of 32))
numeric kd.hyper t = some_as v.hyper (and_then (number_in t) (signed_of 63))
numeric kd.unsigned_hyper t = some_as v.unsigned_hyper (and_then (number_in t) (unsigned_of 64))
numeric _ t = None

-- a value of one token; sequences, structs, exceptions and any have more
abbrev pub single : List Entity → Kind → Token → Option Plain
single reg kd.void t = and_then (word_in t) (word_as (codes "void") v.void)
single reg kd.boolean t = some_as v.boolean (and_then (word_in t) truth_of)
single reg kd.str t = some_as v.str (string_in t)
single reg kd.kind t = some_as v.kind (named_in t)
single reg (kd.enum name) t = some_as (v.enum name) (item_in (items_of (find_entity name reg)) t)
single reg (kd.interface name) t = and_then (word_in t) (word_as (codes "null") (v.ref null))
single reg k t = numeric k t

-- a value of one token, with the tokens behind it
abbrev pub of_token : {X : Type 0} → ℕ → List Placed → Option X → Result (X × List Placed) Fault
of_token left ps None = Err (misfit left)
of_token left ps (Some x) = Ok (x, ps)

abbrev pub only_token : {X : Type 0} → (Token → Option X) → Reads X
only_token get [] = Err (misfit 0)
only_token get (p ∷ ps) = of_token p.left ps (get p.token)

-- ---- values of more tokens

abbrev pub is_comma : Token → Bool
is_comma comma = true
is_comma _ = false

abbrev pub opens_square : Token → Bool
opens_square (opens square) = true
opens_square _ = false

abbrev pub opens_curly : Token → Bool
opens_curly (opens curly) = true
opens_curly _ = false

abbrev pub closes_square : Token → Bool
closes_square (closes square) = true
closes_square _ = false

abbrev pub closes_curly : Token → Bool
closes_curly (closes curly) = true
closes_curly _ = false

-- behind this token; where another one stands, the value whose front is given is none of its type
abbrev pub expect : ℕ → (Token → Bool) → List Placed → Result (List Placed) Fault
expect left test [] = Err (misfit left)
expect left test (p ∷ ps) = if test p.token then Ok ps else Err (misfit left)

abbrev pub with_first : {X : Type 0} → X → Result (List X × List Placed) Fault → Result (List X × List Placed) Fault
with_first x (Ok y) = Ok (x ∷ y.0, y.1)
with_first x (Err e) = Err e

-- the elements of a sequence from one on, of which there are at most so many
abbrev pub behind_element : {X : Type 0} → ℕ → X → List Placed → Reads (List X) → Result (List X × List Placed) Fault
behind_element left x [] more = Err (misfit left)
behind_element left x (p ∷ qs) more = if closes_square p.token then Ok (x ∷ [], qs) else (if is_comma p.token then with_first x (more qs) else Err (misfit left))

unfoldable pub elements_on : {X : Type 0} → ℕ → ℕ → Reads X → Reads (List X)
elements_on zero left read ps = Err deep
elements_on (suc most) left read ps = on_ok (read ps) (λ y. behind_element left y.0 y.1 (elements_on most left read))

-- all elements, behind the bracket in front
abbrev pub elements_in : {X : Type 0} → ℕ → Reads X → Reads (List X)
elements_in left read [] = Err (misfit left)
elements_in left read (p ∷ ps) = if closes_square p.token then Ok ([], ps) else elements_on (length (p ∷ ps)) left read (p ∷ ps)

abbrev pub sequence_of : {X : Type 0} → Reads X → Reads (List X)
sequence_of read ps = on_ok (expect (left_at ps) opens_square ps) (elements_in (left_at ps) read)

-- the members from one on; a comma stands before each but the first
abbrev pub comma_at : Bool → ℕ → List Placed → Result (List Placed) Fault
comma_at true left ps = Ok ps
comma_at false left ps = expect left is_comma ps

unfoldable pub members_on : (Kind → Reads Plain) → ℕ → Bool → List Kind → Reads (List Plain)
members_on read left is_first [] ps = on_ok (expect left closes_curly ps) (λ qs. Ok ([], qs))
members_on read left is_first (k ∷ ks) ps = on_ok (comma_at is_first left ps) (λ qs. on_ok (read k qs) (λ y. with_first y.0 (members_on read left false ks y.1)))

abbrev pub tuple_of : (Kind → Reads Plain) → List Kind → Reads (List Plain)
tuple_of read ks ps = on_ok (expect (left_at ps) opens_curly ps) (members_on read (left_at ps) true ks)

-- an any: void has no value behind the type
abbrev pub is_void : Kind → Bool
is_void kd.void = true
is_void _ = false

abbrev pub held_by : (Kind → Reads Plain) → Kind → List Placed → Result (Plain × List Placed) Fault
held_by read k ps = if is_void k then Ok (v.any kd.void v.void, ps) else on_ok (read k ps) (λ y. Ok (v.any k y.0, y.1))

abbrev pub any_of : (Kind → Reads Plain) → Reads Plain
any_of read ps = on_ok (only_token cast_in ps) (λ x. held_by read x.0 x.1)

-- a byte of a sequence of bytes, which is written as a signed number
abbrev pub bits_of : ℤ → ℕ
bits_of n = cast_unsigned w8 n

abbrev pub map_option : {A B : Type 0} → (A → B) → Option A → Option B
map_option f None = None
map_option f (Some x) = Some (f x)

abbrev pub byte_in : Token → Option ℕ
byte_in t = map_option bits_of (and_then (number_in t) (signed_of 7))

-- a value of a type, where it is one of the registry, with the values inside read one level further in
unfoldable pub value_step : List Entity → (Kind → Reads Plain) → Kind → Reads Plain
value_step reg read kd.any ps = any_of read ps
value_step reg read (kd.sequence kd.byte) ps = on_ok (sequence_of (only_token byte_in) ps) (λ y. Ok (v.bytes y.0, y.1))
value_step reg read (kd.sequence k) ps = on_ok (sequence_of (read k) ps) (λ y. Ok (v.list k (plains y.0), y.1))
value_step reg read (kd.struct name) ps = on_ok (tuple_of read (member_kinds reg name) ps) (λ y. Ok (v.tuple name (plains y.0), y.1))
value_step reg read (kd.exception name) ps = on_ok (tuple_of read (member_kinds reg name) ps) (λ y. Ok (v.tuple name (plains y.0), y.1))
value_step reg read k ps = only_token (single reg k) ps

-- the same over so many levels
unfoldable pub value_within : ℕ → List Entity → Kind → Reads Plain
value_within zero reg k ps = Err deep
value_within (suc levels) reg k ps = if is_type reg k then value_step reg (value_within levels reg) k ps else Err (misfit (left_at ps))
