-- The tokens of several files, each with its place, and what the grammar asks of one or two of them.
use Rattle.std.specs.Prelude.{ℕ, ◌+◌, Bool, false, ◌&&◌, ◌==◌, List, map, Option, None, Some}
use Rattle.std.specs.Str.{bytes_eq}
use Rattle.idl_model.specs.Places.{Place}
use Rattle.idl_text_model.specs.Tokens.{Word, quoted, mark, Token}

-- a word with the place of its first byte, and how many bytes it has
pub record PlacedToken : Type 0 where
  pub word : Word
  pub place : Place
  pub length : ℕ

-- the tokens of a file, under its number
abbrev pub placed_in : ℕ → Token → PlacedToken
placed_in file t = record { word = t.word; place = record { file = file; byte = t.byte }; length = t.length }

abbrev pub in_file : ℕ → List Token → List PlacedToken
in_file file tokens = map (placed_in file) tokens

-- the same word of the grammar, or the same mark
abbrev pub is_terminal : Word → Word → Bool
is_terminal (quoted w) (quoted v) = bytes_eq w v
is_terminal (mark w) (mark v) = bytes_eq w v
is_terminal _ _ = false

-- the word of the next token, if there is one, and whether it is this one
abbrev pub next_word : Option PlacedToken → Option Word
next_word None = None
next_word (Some t) = Some t.word

abbrev pub is_word : Word → Option Word → Bool
is_word w None = false
is_word w (Some v) = is_terminal w v

abbrev pub is_next : Word → Option PlacedToken → Bool
is_next w o = is_word w (next_word o)

-- the second is the same mark as the first, and begins where that one ends
abbrev pub touches : PlacedToken → PlacedToken → Bool
touches t s = is_terminal t.word s.word && ((t.place.file == s.place.file) && (t.place.byte + t.length == s.place.byte))
