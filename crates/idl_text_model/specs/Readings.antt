-- The piece at the front of a text as a function of the text, and so all pieces of a file and its verdict. They compute what `Stands` and `IsLexed` say.
use Rattle.std.specs.Prelude.{ℕ, zero, suc, ◌-◌, not, ◌==◌, nat_lt, List, [], ◌∷◌, length, is_some, take, drop, Option, None, Some, Result, Ok, Err, codes}
use Rattle.std.specs.Prelude.{if◌then◌else◌}
use Rattle.std.specs.Char.{is_ascii_digit}
use Rattle.std.specs.Option.{option_map}
use Rattle.std.specs.Str.{bytes_eq, is_utf8}
use Rattle.std.specs.Str.Lossy.{utf8_valid_len}
use Rattle.idl_text_model.specs.LexVerdicts.{LexFault, too_long, bad_utf8, bad_token, open_comment, most_bytes}
use Rattle.idl_text_model.specs.Numbers.{number_of_word}
use Rattle.idl_text_model.specs.Pieces.{LineStart, Piece, blanks, new_line, line_comment, block_comment, name, numeral, mark}
use Rattle.idl_text_model.specs.Pieces.{is_blank, is_in_line, is_mark, opens_comment}
use Rattle.idl_text_model.specs.Tokens.{Token, tokens_of}
use Rattle.literal_model.specs.Shapes.{run_of, behind_run}
use Rattle.uno_model.specs.Names.{begins_identifier, goes_on_identifier}

-- ---- one piece, and what is behind it

-- behind the blanks of a line
abbrev pub directive_at : List ℕ → Option (List ℕ) × List ℕ
directive_at [] = (None, [])
directive_at (c ∷ cs) = if c == 35 then (Some (run_of is_in_line cs), behind_run is_in_line cs) else (None, c ∷ cs)

abbrev pub start_at : List ℕ → LineStart × List ℕ
start_at text =
    (record { blanks = run_of is_blank text; directive = (directive_at (behind_run is_blank text)).0 }, (directive_at (behind_run is_blank text)).1)

-- behind `/*`: the text up to the first `*/`, and what is behind that
unfoldable pub comment_at : List ℕ → Option (List ℕ × List ℕ)
comment_at [] = None
comment_at (c ∷ cs) = if bytes_eq (take 2 (c ∷ cs)) (codes "*/") then Some ([], drop 1 cs) else option_map (λ x. (c ∷ x.0, x.1)) (comment_at cs)

abbrev pub numeral_at : List ℕ → Option (Piece × List ℕ)
numeral_at text =
    if is_some (number_of_word (run_of goes_on_identifier text)) then Some (numeral (run_of goes_on_identifier text), behind_run goes_on_identifier text) else None

-- so many bytes, if they are a mark
abbrev pub mark_of : ℕ → List ℕ → Option (Piece × List ℕ) → Option (Piece × List ℕ)
mark_of n text other = if is_mark (take n text) then Some (mark (take n text), drop n text) else other

-- the longest mark
unfoldable pub mark_at : List ℕ → Option (Piece × List ℕ)
mark_at text = mark_of 3 text (mark_of 2 text (mark_of 1 text None))

unfoldable pub piece_at : List ℕ → Option (Piece × List ℕ)
piece_at [] = None
piece_at (c ∷ cs) =
    if is_blank c then Some (blanks (run_of is_blank (c ∷ cs)), behind_run is_blank (c ∷ cs))
    else (if c == 10 then Some (new_line (start_at cs).0, (start_at cs).1)
    else (if begins_identifier c then Some (name (run_of goes_on_identifier (c ∷ cs)), behind_run goes_on_identifier (c ∷ cs))
    else (if is_ascii_digit c then numeral_at (c ∷ cs)
    else (if bytes_eq (take 2 (c ∷ cs)) (codes "//") then Some (line_comment (run_of is_in_line (drop 1 cs)), behind_run is_in_line (drop 1 cs))
    else (if opens_comment (c ∷ cs) then option_map (λ x. (block_comment x.0, x.1)) (comment_at (drop 1 cs))
    else mark_at (c ∷ cs))))))

-- ---- all pieces

-- a piece, if one is there, in front of those behind it
abbrev pub with_others : (others : List ℕ → List Piece × List ℕ) → List ℕ → Option (Piece × List ℕ) → List Piece × List ℕ
with_others others text None = ([], text)
with_others others text (Some x) = (x.0 ∷ (others x.1).0, (others x.1).1)

-- at most so many pieces of a text, and what is left of it
unfoldable pub pieces_within : ℕ → List ℕ → List Piece × List ℕ
pieces_within zero text = ([], text)
pieces_within (suc most) text = with_others (pieces_within most) text (piece_at text)

abbrev pub pieces_at : List ℕ → List Piece × List ℕ
pieces_at text = pieces_within (length text) text

-- ---- the verdict on a file

abbrev pub fault_at : List ℕ → (byte : ℕ) → LexFault
fault_at left byte = if opens_comment left then open_comment byte else bad_token byte

-- what pieces are left of a text comes to
abbrev pub verdict_of : LineStart → List Piece → (text left : List ℕ) → Result (List Token) LexFault
verdict_of first pieces text [] = Ok (tokens_of first pieces)
verdict_of first pieces text (c ∷ cs) = Err (fault_at (c ∷ cs) (length text - length (c ∷ cs)))

unfoldable pub lexed : List ℕ → Result (List Token) LexFault
lexed text =
    if nat_lt most_bytes (length text) then Err too_long
    else (if not (is_utf8 text) then Err (bad_utf8 (utf8_valid_len text))
    else verdict_of (start_at text).0 (pieces_at (start_at text).1).0 text (pieces_at (start_at text).1).1)
