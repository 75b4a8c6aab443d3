-- The pieces of a UNOIDL file: white space, directives, comments and words, and where each of them is over.
use Rattle.std.specs.Prelude.{◌≡◌, ℕ, Bool, true, false, not, ◌&&◌, ◌||◌, ◌==◌, IsTrue, List, [], ◌∷◌, ◌++◌, is_some, take, Option, None, Some, codes}
use Rattle.std.specs.List.{list_all, list_any}
use Rattle.std.specs.Str.{bytes_eq}
use Rattle.idl_text_model.specs.Numbers.{number_of_word}
use Rattle.literal_model.specs.Shapes.{is_word}
use Rattle.uno_model.specs.Names.{goes_on_identifier}
use Rattle.uno_model.specs.Sound.{is_some_list}

-- what stands before the first word of a line: blanks, and the text of a directive, where a `#` follows them
pub record LineStart : Type 0 where
  pub blanks : List ℕ
  pub directive : Option (List ℕ)

-- white space within a line, a line feed and the start of the line behind it, the text of a comment, a word, a number, a mark
pub data Piece : Type 0 where
  blanks : List ℕ → Piece
  new_line : LineStart → Piece
  line_comment : List ℕ → Piece
  block_comment : List ℕ → Piece
  name : List ℕ → Piece
  numeral : List ℕ → Piece
  mark : List ℕ → Piece

abbrev pub marks : List (List ℕ)
marks =
    codes "{" ∷ (codes "}" ∷ (codes "(" ∷ (codes ")" ∷ (codes "[" ∷ (codes "]" ∷ (codes "<" ∷ (codes ">" ∷ (codes ":" ∷ (codes "::" ∷ (codes ";" ∷ (codes ","
    ∷ (codes "=" ∷ (codes "..." ∷ (codes "+" ∷ (codes "-" ∷ (codes "*" ∷ (codes "/" ∷ (codes "%" ∷ (codes "~" ∷ (codes "&" ∷ (codes "|" ∷ (codes "^"
    ∷ []))))))))))))))))))))))

-- ---- how a piece is spelled

abbrev pub directive_text : Option (List ℕ) → List ℕ
directive_text None = []
directive_text (Some body) = codes "#" ++ body

abbrev pub start_text : LineStart → List ℕ
start_text l = l.blanks ++ directive_text l.directive

abbrev pub text_of : Piece → List ℕ
text_of (blanks bs) = bs
text_of (new_line l) = 10 ∷ start_text l
text_of (line_comment body) = codes "//" ++ body
text_of (block_comment body) = codes "/*" ++ (body ++ codes "*/")
text_of (name w) = w
text_of (numeral w) = w
text_of (mark m) = m

-- ---- which pieces there are

-- a space or a tab
abbrev pub is_blank : ℕ → Bool
is_blank c = (c == 32) || (c == 9)

-- no line feed
abbrev pub is_in_line : ℕ → Bool
is_in_line c = not (c == 10)

abbrev pub is_mark : List ℕ → Bool
is_mark m = list_any (bytes_eq m) marks

abbrev pub opens_comment : List ℕ → Bool
opens_comment text = bytes_eq (take 2 text) (codes "/*")

-- `*/` stands in the text
unfoldable pub closes_comment : List ℕ → Bool
closes_comment [] = false
closes_comment (c ∷ cs) = bytes_eq (take 2 (c ∷ cs)) (codes "*/") || closes_comment cs

abbrev pub is_directive : Option (List ℕ) → Bool
is_directive None = true
is_directive (Some body) = list_all is_in_line body

abbrev pub is_piece : Piece → Bool
is_piece (blanks bs) = is_some_list bs && list_all is_blank bs
is_piece (new_line l) = list_all is_blank l.blanks && is_directive l.directive
is_piece (line_comment body) = list_all is_in_line body
is_piece (block_comment body) = not (closes_comment body)
is_piece (name w) = is_word w
is_piece (numeral w) = is_some (number_of_word w)
is_piece (mark m) = is_mark m

-- ---- where a piece is over: each goes on as far as it can

abbrev pub next_byte : List ℕ → Option ℕ
next_byte [] = None
next_byte (c ∷ cs) = Some c

-- what comes next is none of these bytes
abbrev pub is_none_of : (ℕ → Bool) → Option ℕ → Bool
is_none_of test None = true
is_none_of test (Some c) = not (test c)

-- behind a directive the line is over, and behind blanks alone stands neither a blank nor a `#`
abbrev pub start_ends : Option (List ℕ) → Option ℕ → Bool
start_ends (Some body) next = is_none_of is_in_line next
start_ends None next = is_none_of (λ c. is_blank c || (c == 35)) next

-- a mark that neither goes on to a longer one nor opens a comment
abbrev pub goes_on_mark : List ℕ → ℕ → Bool
goes_on_mark m c = is_mark (m ++ c ∷ []) || (bytes_eq (m ++ c ∷ []) (codes "//") || bytes_eq (m ++ c ∷ []) (codes "/*"))

abbrev pub ends : Piece → Option ℕ → Bool
ends (blanks bs) next = is_none_of is_blank next
ends (new_line l) next = start_ends l.directive next
ends (line_comment body) next = is_none_of is_in_line next
ends (block_comment body) next = true
ends (name w) next = is_none_of goes_on_identifier next
ends (numeral w) next = is_none_of goes_on_identifier next
ends (mark m) next = is_none_of (goes_on_mark m) next

-- ---- pieces one behind the other

-- the piece stands at the front of a text, and is over where what is behind it begins
pub record Stands (p : Piece) (text behind : List ℕ) : Type 0 where
  pub spelled : text ≡ text_of p ++ behind
  pub formed : IsTrue (is_piece p)
  pub over : IsTrue (ends p (next_byte behind))

-- the pieces of a text up to what is left of it
unfoldable pub ArePieces : List Piece → (text left : List ℕ) → Type 0
ArePieces [] text left = text ≡ left
ArePieces (p ∷ ps) text left = (behind : List ℕ) × Stands p text behind × ArePieces ps behind left

-- a file up to what is left of it: its first line starts as each does behind a line feed, and its pieces follow
pub record IsFile (first : LineStart) (pieces : List Piece) (text left : List ℕ) : Type 0 where
  pub behind : List ℕ
  pub starts : Stands (new_line first) (10 ∷ text) behind
  pub follow : ArePieces pieces behind left
