-- What comes of a UNOIDL file: its tokens, or the first thing that is wrong with it, and where.
use Rattle.std.specs.Prelude.{◌≡◌, ℕ, ◌+◌, ◌<◌, ◌≤◌, false, true, List, length, Result, Ok, Err}
use Rattle.std.specs.Str.{IsUtf8, IsValidUpTo}
use Rattle.idl_text_model.specs.Pieces.{LineStart, Piece, Stands, IsFile, opens_comment}
use Rattle.idl_text_model.specs.Tokens.{Token, IsTokens}

-- the file goes on at byte 4,194,304; it is no UTF-8 from this byte on; no piece stands at this byte; the comment that begins at this byte is not closed
pub data LexFault : Type 0 where
  too_long : LexFault
  bad_utf8 : ℕ → LexFault
  bad_token : ℕ → LexFault
  open_comment : ℕ → LexFault

-- how many bytes a file may have
abbrev pub most_bytes : ℕ
most_bytes = 4194304

-- pieces lead up to this byte, which is in the file, and none stands there
pub record IsStuck (text : List ℕ) (byte : ℕ) (left : List ℕ) : Type 0 where
  pub first : LineStart
  pub pieces : List Piece
  pub file : IsFile first pieces text left
  pub place : byte + length left ≡ length text
  pub inside : byte < length text
  pub none : (p : Piece) (behind : List ℕ) → Stands p left behind → ⊥

-- the length of a file is judged first, then whether it is UTF-8, then its pieces one after the other
abbrev pub IsLexed : List ℕ → Result (List Token) LexFault → Type 0
IsLexed text (Ok tokens) = (length text ≤ most_bytes) × IsUtf8 text × IsTokens text tokens
IsLexed text (Err too_long) = most_bytes < length text
IsLexed text (Err (bad_utf8 byte)) = (length text ≤ most_bytes) × IsValidUpTo text byte
IsLexed text (Err (bad_token byte)) = (length text ≤ most_bytes) × IsUtf8 text × (left : List ℕ) × IsStuck text byte left × (opens_comment left ≡ false)
IsLexed text (Err (open_comment byte)) = (length text ≤ most_bytes) × IsUtf8 text × (left : List ℕ) × IsStuck text byte left × (opens_comment left ≡ true)
