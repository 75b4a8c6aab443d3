-- A piece that stands at the front of a text is the one that is found there.
use Rattle.std.proofs.Common.{◌≡◌, ℕ, Bool, true, false, not, ◌||◌, ◌==◌, List, [], ◌∷◌, ◌++◌, take, Option, None, Some, is_some, refl, sym, ap, subst, codes}
use Rattle.std.proofs.Common.{arith, ◌⊎◌, inl, inr}
use Rattle.std.proofs.lemmas.Bool.{and_parts, and_from, and_right, or_parts, not-true, not_from_false, false≢true}
use Rattle.std.proofs.lemmas.List.{append_assoc, append-nil}
use Rattle.std.specs.Char.{is_ascii_digit}
use Rattle.std.specs.List.{list_all}
use Rattle.std.specs.Str.{bytes_eq}
use Rattle.idl_text_model.proofs.CommentLaws.{comment_back}
use Rattle.idl_text_model.proofs.MarkLaws.{of_each, long_mark, mark_back}
use Rattle.idl_text_model.proofs.NumberLaws.{is_numeral}
use Rattle.idl_text_model.proofs.RunLaws.{run_back}
use Rattle.idl_text_model.specs.Numbers.{number_of_word}
use Rattle.idl_text_model.specs.Pieces.{LineStart, Piece, blanks, new_line, line_comment, block_comment, name, numeral, mark, directive_text, text_of}
use Rattle.idl_text_model.specs.Pieces.{is_blank, is_in_line}
use Rattle.idl_text_model.specs.Pieces.{marks, is_mark, opens_comment, closes_comment, is_directive, is_piece, next_byte, is_none_of, start_ends}
use Rattle.idl_text_model.specs.Pieces.{goes_on_mark, ends, Stands}
use Rattle.idl_text_model.specs.Readings.{directive_at, start_at, piece_at}
use Rattle.literal_model.specs.Shapes.{is_word}
use Rattle.uno_model.specs.Names.{begins_identifier, goes_on_identifier}

-- ---- the start of a line

no_hash : (next : Option ℕ) → is_none_of (λ c. is_blank c || (c == 35)) next ≡ true
    → (is_none_of is_blank next ≡ true) × (is_none_of (λ c. c == 35) next ≡ true)
no_hash None over = (refl, refl)
no_hash (Some c) over =
    let parts = or_parts (is_blank c) (c == 35) (not-true _ over) in
    (not_from_false (is_blank c) parts.0, not_from_false (c == 35) parts.1)

no_directive : (text : List ℕ) → is_none_of (λ c. c == 35) (next_byte text) ≡ true → ◌≡◌ {A = Option (List ℕ) × List ℕ} (directive_at text) (None, text)
no_directive [] other = refl
no_directive (c ∷ cs) other = rw (not-true (c == 35) other) refl

pub start_back : (bs : List ℕ) (d : Option (List ℕ)) (rest : List ℕ) → list_all is_blank bs ≡ true → is_directive d ≡ true
    → start_ends d (next_byte rest) ≡ true
    → ◌≡◌ {A = LineStart × List ℕ} (start_at ((bs ++ directive_text d) ++ rest)) (record { blanks = bs; directive = d }, rest)
start_back bs None rest blank formed over =
    let parts = no_hash (next_byte rest) over in
    let run = run_back is_blank bs rest blank parts.0 in
    let none = no_directive rest parts.1 in
    rw (append-nil bs, run.0, run.1, none) refl
start_back bs (Some body) rest blank formed over =
    let run = run_back is_blank bs (35 ∷ body ++ rest) blank refl in
    let line = run_back is_in_line body rest formed over in
    rw (append_assoc bs (35 ∷ body) rest, run.0, run.1, line.0, line.1) refl

-- ---- which tests the first byte of a piece fails

letter_is_no_blank : (c : ℕ) → begins_identifier c ≡ true → (is_blank c ≡ false) × ((c == 10) ≡ false) × (goes_on_identifier c ≡ true)
letter_is_no_blank c letter = (grind (arith, letter), grind (arith, letter), grind (arith, letter))

pub digit_is_no_letter : (c : ℕ) → is_ascii_digit c ≡ true → (is_blank c ≡ false) × ((c == 10) ≡ false) × (begins_identifier c ≡ false)
digit_is_no_letter c digit = (grind (arith, digit), grind (arith, digit), grind (arith, digit))

-- a byte with which no white space, no word and no number begins
abbrev begins_other : ℕ → Bool
begins_other c = not (is_blank c || ((c == 10) || (begins_identifier c || is_ascii_digit c)))

abbrev first_is_other : List ℕ → Bool
first_is_other [] = false
first_is_other (c ∷ cs) = begins_other c

pub mark_begins : (c : ℕ) (cs : List ℕ) → is_mark (c ∷ cs) ≡ true
    → (is_blank c ≡ false) × ((c == 10) ≡ false) × (begins_identifier c ≡ false) × (is_ascii_digit c ≡ false)
mark_begins c cs is =
    let other = not-true (is_blank c || ((c == 10) || (begins_identifier c || is_ascii_digit c))) (of_each first_is_other marks (c ∷ cs) refl is) in
    let outer = or_parts (is_blank c) _ other in
    let middle = or_parts (c == 10) _ outer.1 in
    let inner = or_parts (begins_identifier c) _ middle.1 in
    (outer.0, middle.0, inner.0, inner.1)

-- no comment begins where a mark stands that is over
no_comment : (m rest : List ℕ) → is_mark m ≡ true → is_none_of (goes_on_mark m) (next_byte rest) ≡ true
    → (bytes_eq (take 2 (m ++ rest)) (codes "//") ≡ false) × (opens_comment (m ++ rest) ≡ false)
no_comment [] rest is over = absurd (false≢true is)
no_comment (c ∷ []) [] is over = (and_right (c == 47) false refl, and_right (c == 47) false refl)
no_comment (c ∷ []) (d ∷ ds) is over =
    let longer = or_parts (is_mark (c ∷ d ∷ [])) _ (not-true _ over) in
    or_parts (bytes_eq (c ∷ d ∷ []) (codes "//")) _ longer.1
no_comment (c ∷ d ∷ cs) rest is over = by_word (long_mark c d cs is)
  where
    by_word : (c ∷ d ∷ cs ≡ codes "::") ⊎ (c ∷ d ∷ cs ≡ codes "...")
        → (bytes_eq (take 2 ((c ∷ d ∷ cs) ++ rest)) (codes "//") ≡ false) × (opens_comment ((c ∷ d ∷ cs) ++ rest) ≡ false)
    by_word (inl e) = subst (λ m. (bytes_eq (take 2 (m ++ rest)) (codes "//") ≡ false) × (opens_comment (m ++ rest) ≡ false)) (sym e) (refl, refl)
    by_word (inr e) = subst (λ m. (bytes_eq (take 2 (m ++ rest)) (codes "//") ≡ false) × (opens_comment (m ++ rest) ≡ false)) (sym e) (refl, refl)

-- ---- each piece

blanks_back : (bs rest : List ℕ) → is_piece (blanks bs) ≡ true → is_none_of is_blank (next_byte rest) ≡ true → piece_at (bs ++ rest) ≡ Some (blanks bs, rest)
unfolding piece_at
blanks_back [] rest formed over = absurd (false≢true formed)
blanks_back (c ∷ cs) rest formed over =
    let parts = and_parts (is_blank c) (list_all is_blank cs) formed in
    let run = run_back is_blank (c ∷ cs) rest formed over in
    rw (parts.0, run.0, run.1) refl

name_back : (w rest : List ℕ) → is_word w ≡ true → is_none_of goes_on_identifier (next_byte rest) ≡ true → piece_at (w ++ rest) ≡ Some (name w, rest)
unfolding piece_at
name_back [] rest formed over = absurd (false≢true formed)
name_back (c ∷ cs) rest formed over =
    let parts = and_parts (begins_identifier c) (list_all goes_on_identifier cs) formed in
    let first = letter_is_no_blank c parts.0 in
    let run = run_back goes_on_identifier (c ∷ cs) rest (and_from (goes_on_identifier c) _ first.2 parts.1) over in
    rw (first.0, first.1, parts.0, run.0, run.1) refl

numeral_here : (c : ℕ) (cs rest : List ℕ) → is_some (number_of_word (c ∷ cs)) ≡ true → is_ascii_digit c ≡ true → list_all goes_on_identifier (c ∷ cs) ≡ true
    → is_none_of goes_on_identifier (next_byte rest) ≡ true → piece_at (c ∷ (cs ++ rest)) ≡ Some (numeral (c ∷ cs), rest)
unfolding piece_at
numeral_here c cs rest formed digit letters over =
    let first = digit_is_no_letter c digit in
    let run = run_back goes_on_identifier (c ∷ cs) rest letters over in
    rw (first.0, first.1, first.2, digit, run.0, run.1, formed) refl

numeral_back : (w rest : List ℕ) → is_some (number_of_word w) ≡ true → is_none_of goes_on_identifier (next_byte rest) ≡ true
    → piece_at (w ++ rest) ≡ Some (numeral w, rest)
numeral_back w rest formed over =
    let is = is_numeral w formed in
    let some : is_some (number_of_word (is.first ∷ is.others)) ≡ true = subst (λ x. is_some (number_of_word x) ≡ true) is.word formed in
    let letters : list_all goes_on_identifier (is.first ∷ is.others) ≡ true = subst (λ x. list_all goes_on_identifier x ≡ true) is.word is.letters in
    subst (λ x. piece_at (x ++ rest) ≡ Some (numeral x, rest)) (sym is.word) (numeral_here is.first is.others rest some is.digit letters over)

mark_here : (c : ℕ) (cs rest : List ℕ) → is_mark (c ∷ cs) ≡ true → is_none_of (goes_on_mark (c ∷ cs)) (next_byte rest) ≡ true
    → piece_at (c ∷ (cs ++ rest)) ≡ Some (mark (c ∷ cs), rest)
unfolding piece_at
mark_here c cs rest is over =
    let first = mark_begins c cs is in
    let open_none = no_comment (c ∷ cs) rest is over in
    rw (first.0, first.1, first.2, first.3, open_none.0, open_none.1) (mark_back (c ∷ cs) rest is over)

new_line_back : (l : LineStart) (rest : List ℕ) → is_piece (new_line l) ≡ true → start_ends l.directive (next_byte rest) ≡ true
    → piece_at (text_of (new_line l) ++ rest) ≡ Some (new_line l, rest)
unfolding piece_at
new_line_back l rest formed over =
    let parts = and_parts (list_all is_blank l.blanks) (is_directive l.directive) formed in
    let start = start_back l.blanks l.directive rest parts.0 parts.1 over in
    ap (λ (x : LineStart × List ℕ). Some (new_line x.0, x.1)) start

line_comment_back : (body rest : List ℕ) → list_all is_in_line body ≡ true → is_none_of is_in_line (next_byte rest) ≡ true
    → piece_at (text_of (line_comment body) ++ rest) ≡ Some (line_comment body, rest)
unfolding piece_at
line_comment_back body rest formed over =
    let run = run_back is_in_line body rest formed over in
    rw (run.0, run.1) refl

block_comment_back : (body rest : List ℕ) → closes_comment body ≡ false → piece_at (text_of (block_comment body) ++ rest) ≡ Some (block_comment body, rest)
unfolding piece_at
block_comment_back body rest formed = rw (append_assoc body (codes "*/") rest, comment_back body rest formed) refl

piece_back : (p : Piece) (rest : List ℕ) → is_piece p ≡ true → ends p (next_byte rest) ≡ true → piece_at (text_of p ++ rest) ≡ Some (p, rest)
piece_back (blanks bs) rest formed over = blanks_back bs rest formed over
piece_back (new_line l) rest formed over = new_line_back l rest formed over
piece_back (line_comment body) rest formed over = line_comment_back body rest formed over
piece_back (block_comment body) rest formed over = block_comment_back body rest (not-true (closes_comment body) formed)
piece_back (name w) rest formed over = name_back w rest formed over
piece_back (numeral w) rest formed over = numeral_back w rest formed over
piece_back (mark []) rest formed over = absurd (false≢true formed)
piece_back (mark (c ∷ cs)) rest formed over = mark_here c cs rest formed over

-- what stands is found
pub stands_back : (p : Piece) (text rest : List ℕ) → Stands p text rest → piece_at text ≡ Some (p, rest)
stands_back p text rest s = subst (λ x. piece_at x ≡ Some (p, rest)) (sym s.spelled) (piece_back p rest s.formed s.over)
