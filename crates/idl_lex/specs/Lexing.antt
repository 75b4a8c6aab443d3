-- What calls of the lexer give.
use Rattle.std.specs.Prelude.{◌≡◌, ◌<◌, ◌≤◌, ℕ, zero, suc, length, Bool, true, false, not, List, Option, None, Some, option_map, take, drop, Result, Ok, Err, ◌==◌, codes}
use Rattle.std.specs.List.{list_any}
use Rattle.idl_model.specs.PlacedTokens.{PlacedToken, in_file}
use Rattle.idl_text_model.specs.LexVerdicts.{LexFault, too_long, bad_utf8, bad_token, open_comment, IsLexed}
use Rattle.idl_text_model.specs.Pieces.{Piece, mark, is_mark}
use Rattle.idl_text_model.specs.Readings.{start_at, pieces_at, piece_at, mark_at, verdict_of}
use Rattle.idl_text_model.specs.Tokens.{Word, Token, word_of}
use Rattle.idl_text_model.specs.Tokens as plain
use Rattle.idl_trees.specs.Tokens as seen
use Rattle.uno_model.specs.Names.{is_identifier}
use Rattle.idl_lex.specs.declared.error.LexError.{LexError}
use Rattle.idl_lex.specs.declared.error.LexError.TheVariants as error
use Rattle.idl_lex.specs.declared.piece.Found.{Found}

-- ---- one piece

-- the word that the piece is, if it is one, and what is behind it
abbrev pub found_of : Found → Option Word × List ℕ
found_of f = (option_map seen.word_of f.word, f.behind.now)

abbrev pub worded : Option (Piece × List ℕ) → Option (Option Word × List ℕ)
worded found = option_map (λ x. (word_of x.0, x.1)) found

unfoldable pub word_at : List ℕ → Option (Option Word × List ℕ)
word_at text = worded (piece_at text)

-- a mark of so many bytes at the front; none of 0 bytes
abbrev pub mark_in : ℕ → List ℕ → Option (Piece × List ℕ)
mark_in zero text = None
mark_in (suc n) text = Some (mark (take (suc n) text), drop (suc n) text)

-- so many bytes are the longest mark at the front; 0 where there is none
pub record IsLongestMark (text : List ℕ) (n : ℕ) : Type 0 where
  pub found : mark_at text ≡ mark_in n text
  pub within : n ≤ length text
  pub formed : 0 < n → is_mark (take n text) ≡ true

-- a byte that is a mark by itself
unfoldable pub is_single : ℕ → Bool
is_single c = list_any (λ m. c == m) (codes "{}()[]<>:;,=+-*/%~&|^")

-- ---- words that were met

-- whether a word says what its text does as letters, digits and `_`, where it is no number and no mark
abbrev pub says_its_word : Word → Bool
says_its_word (plain.identifier name) = is_identifier name
says_its_word (plain.quoted text) = not (is_identifier text)
says_its_word _ = true

abbrev pub has_its_word : PlacedToken → Bool
has_its_word t = says_its_word t.word

-- ---- a file

-- what a text comes to that is short enough and UTF-8
abbrev pub pieces_verdict : List ℕ → Result (List Token) LexFault
pieces_verdict text = verdict_of (start_at text).0 (pieces_at (start_at text).1).0 text (pieces_at (start_at text).1).1

-- the tokens of the file of this number
pub record AreLexed (file : ℕ) (text : List ℕ) (tokens : List PlacedToken) : Type 0 where
  pub plain : List Token
  pub lexed : IsLexed text (Ok plain)
  pub placed : tokens ≡ in_file file plain

-- the file of this number is refused for that; of want of memory this says nothing
abbrev pub IsRefused : (file : ℕ) → List ℕ → LexError → Type 0
IsRefused file text error.NoMemory = Unit {0}
IsRefused file text (error.BadUtf8 p) = IsLexed text (Err (bad_utf8 p.byte)) × (p.file ≡ file)
IsRefused file text (error.BadToken p) = IsLexed text (Err (bad_token p.byte)) × (p.file ≡ file)
IsRefused file text (error.OpenComment p) = IsLexed text (Err (open_comment p.byte)) × (p.file ≡ file)
IsRefused file text (error.TooLong p) = IsLexed text (Err too_long) × (p.file ≡ file) × (p.byte ≡ 4194304)

-- why no piece stands at a byte: a comment that is open, or none
abbrev pub refusal_at : (file byte : ℕ) → (opens : Bool) → LexError
refusal_at file byte true = error.OpenComment (record { file = file; byte = byte })
refusal_at file byte false = error.BadToken (record { file = file; byte = byte })
