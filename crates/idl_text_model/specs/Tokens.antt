-- The tokens of a UNOIDL file: its words, numbers and marks, each with its place.
use Rattle.std.specs.Prelude.{◌≡◌, ℕ, ◌+◌, List, [], ◌∷◌, length, Option, None, Some, if◌then◌else◌}
use Rattle.std.specs.Option.{option_map}
use Rattle.idl_text_model.specs.Numbers.{number_of_word}
use Rattle.idl_text_model.specs.Pieces.{LineStart, Piece, blanks, new_line, line_comment, block_comment, name, numeral, start_text, text_of, is_mark, IsFile}
use Rattle.idl_text_model.specs.Pieces as piece
use Rattle.literal_model.specs.Shapes.{is_word}
use Rattle.uno_model.specs.Names.{is_identifier}

-- an identifier, a number by its value, a word that is no identifier (of the grammar, of a simple type, of a truth), a mark
pub data Word : Type 0 where
  identifier : List ℕ → Word
  number : ℕ → Word
  quoted : List ℕ → Word
  mark : List ℕ → Word

-- a word, the place of its first byte in the file, and how many bytes it has
pub record Token : Type 0 where
  pub word : Word
  pub byte : ℕ
  pub length : ℕ

-- what letters, digits and `_` say
abbrev pub word_named : List ℕ → Word
word_named w = if is_identifier w then identifier w else quoted w

-- the word that a text is as a whole
unfoldable pub word_of_text : List ℕ → Option Word
word_of_text w = if is_mark w then Some (mark w) else (if is_word w then Some (word_named w) else option_map number (number_of_word w))

-- the word that a piece is, if it is one
unfoldable pub word_of : Piece → Option Word
word_of (name w) = Some (word_named w)
word_of (numeral w) = option_map number (number_of_word w)
word_of (piece.mark m) = Some (mark m)
word_of _ = None

-- a token in front of others, if there is one
abbrev pub in_front : Option Word → (byte length : ℕ) → List Token → List Token
in_front None byte length ts = ts
in_front (Some w) byte length ts = record { word = w; byte = byte; length = length } ∷ ts

-- the words among pieces of which the first stands at this place
unfoldable pub tokens_from : ℕ → List Piece → List Token
tokens_from byte [] = []
tokens_from byte (p ∷ ps) = in_front (word_of p) byte (length (text_of p)) (tokens_from (byte + length (text_of p)) ps)

-- the words of a file
abbrev pub tokens_of : LineStart → List Piece → List Token
tokens_of first pieces = tokens_from (length (start_text first)) pieces

-- the file is made of pieces, and the tokens are its words
pub record IsTokens (text : List ℕ) (tokens : List Token) : Type 0 where
  pub first : LineStart
  pub pieces : List Piece
  pub file : IsFile first pieces text []
  pub words : tokens ≡ tokens_of first pieces
