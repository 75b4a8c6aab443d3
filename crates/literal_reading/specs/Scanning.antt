-- Tokens as plain data, and what a scan gives: what the verdict gives, unless memory ran out.
use Rattle.std.specs.Prelude.{◌≡◌, ℕ, ◌++◌, Bool, List, map, reverse, Result, Ok, Err}
use Rattle.uno_model.specs.Names.{goes_on_identifier}
use Rattle.literal_model.specs.Literals as plain
use Rattle.literal_model.specs.Shapes as shape
use Rattle.uno_entities.specs.TypeNames.{kind_of}
use Rattle.literal_reading.specs.declared.stop.Stop.{Stop}
use Rattle.literal_reading.specs.declared.stop.Stop.TheVariants as stop
use Rattle.literal_reading.specs.declared.order.Awaited.{Awaited}
use Rattle.literal_reading.specs.declared.order.Awaited.TheVariants as awaited
use Rattle.literal_reading.specs.declared.scan.run.Run.{Run}
use Rattle.literal_reading.specs.declared.scan.run.Run.TheVariants as run
use Rattle.literal_reading.specs.declared.token.Bracket.{Bracket}
use Rattle.literal_reading.specs.declared.token.Bracket.TheVariants as bracket
use Rattle.literal_reading.specs.declared.token.Token.{Token}
use Rattle.literal_reading.specs.declared.token.Token.TheVariants as token
use Rattle.literal_reading.specs.declared.token.Placed.{Placed}

abbrev pub bracket_of : Bracket → plain.Bracket
bracket_of bracket.Square = plain.square
bracket_of bracket.Curly = plain.curly

abbrev pub token_of : Token → plain.Token
token_of (token.Opens b) = plain.opens (bracket_of b)
token_of (token.Closes b) = plain.closes (bracket_of b)
token_of token.Comma = plain.comma
token_of (token.Number n) = plain.number n
token_of (token.Word w) = plain.word w
token_of (token.String s) = plain.string s
token_of (token.Named k) = plain.named (kind_of k)
token_of (token.Cast k) = plain.cast (kind_of k)

abbrev pub placed_of : Placed → shape.Placed
placed_of p = record { left = p.left; token = token_of p.token }

abbrev pub all_placed : List Placed → List shape.Placed
all_placed = map placed_of

abbrev pub awaited_of : Awaited → shape.Awaited
awaited_of awaited.Value = shape.value
awaited_of awaited.Element = shape.element
awaited_of awaited.Separator = shape.separator

-- brackets with the innermost last, as a list with the innermost first
abbrev pub outer_of : List Bracket → List plain.Bracket
outer_of outer = map bracket_of (reverse outer)

-- the bytes of a run
abbrev pub test_of : Run → ℕ → Bool
test_of run.Word = goes_on_identifier
test_of run.Name = shape.is_name_byte

-- tokens in front of those that are read
abbrev pub with_tokens : List shape.Placed → Result (List shape.Placed) ℕ → Result (List shape.Placed) ℕ
with_tokens xs (Ok ps) = Ok (xs ++ ps)
with_tokens xs (Err left) = Err left

-- what a stopped scan says of the verdict; want of memory says nothing
abbrev pub StoppedBy : {Y : Type 0} → Stop → Result Y ℕ → Type 0
StoppedBy stop.NoMemory verdict = Unit {0}
StoppedBy (stop.Bad left) verdict = verdict ≡ Err left

-- a scan gives what the verdict gives
abbrev pub Scans : {X Y : Type 0} → (X → Y) → Result X Stop → Result Y ℕ → Type 0
Scans view (Ok x) verdict = verdict ≡ Ok (view x)
Scans view (Err e) verdict = StoppedBy e verdict
