-- The tokens of a file stand one behind the other, and each is its slice of the file.
use Rattle.std.proofs.Common.{◌≡◌, ℕ, ◌+◌, ◌<◌, ◌≤◌, true, false, List, [], ◌∷◌, ◌++◌, length, take, drop, Option, None, Some, refl, sym, ap, subst, ◌∙◌}
use Rattle.std.proofs.Common.{arith, length-append}
use Rattle.std.proofs.Math.Seq.{take-append_seam, drop-append_seam}
use Rattle.std.proofs.lemmas.Bool.{and_parts, both_ways, cond-true, cond-false, false_from_ne_true, false≢true}
use Rattle.std.proofs.lemmas.List.{append_assoc}
use Rattle.std.specs.Char.{is_ascii_digit}
use Rattle.std.specs.List.{AllByRecursion, list_all}
use Rattle.std.specs.Option.{option_map}
use Rattle.idl_text_model.proofs.FileLaws.{piece_long}
use Rattle.idl_text_model.proofs.NumberLaws.{is_numeral}
use Rattle.idl_text_model.proofs.PieceBackLaws.{mark_begins, digit_is_no_letter}
use Rattle.idl_text_model.specs.Numbers.{number_of_word}
use Rattle.idl_text_model.specs.Pieces.{LineStart, Piece, blanks, new_line, line_comment, block_comment, name, numeral, mark, start_text, text_of, is_mark}
use Rattle.idl_text_model.specs.Pieces.{is_piece, Stands, ArePieces}
use Rattle.idl_text_model.specs.Slices.{StandBetween, IsSlice}
use Rattle.idl_text_model.specs.Tokens.{Word, Token, number, word_named, word_of_text, word_of, in_front, tokens_from, IsTokens}
use Rattle.literal_model.specs.Shapes.{is_word}
use Rattle.uno_model.proofs.Options.{none_some}
use Rattle.uno_model.specs.Names.{begins_identifier, goes_on_identifier}

-- ---- the word of a piece is that of its text

no_mark : (c : ℕ) (cs : List ℕ) → begins_identifier c ≡ true → is_mark (c ∷ cs) ≡ false
no_mark c cs letter = false_from_ne_true (is_mark (c ∷ cs)) (λ is. both_ways (begins_identifier c) (mark_begins c cs is).2 letter)

no_mark_of_digits : (c : ℕ) (cs : List ℕ) → is_ascii_digit c ≡ true → is_mark (c ∷ cs) ≡ false
no_mark_of_digits c cs digit = false_from_ne_true (is_mark (c ∷ cs)) (λ is. both_ways (is_ascii_digit c) (mark_begins c cs is).3 digit)

no_word : (c : ℕ) (cs : List ℕ) → is_ascii_digit c ≡ true → is_word (c ∷ cs) ≡ false
no_word c cs digit = rw (digit_is_no_letter c digit).2 refl

numeral_said : (c : ℕ) (cs : List ℕ) → is_ascii_digit c ≡ true → word_of_text (c ∷ cs) ≡ option_map number (number_of_word (c ∷ cs))
unfolding word_of_text
numeral_said c cs digit = rw (no_mark_of_digits c cs digit, no_word c cs digit) refl

named_said : (w : List ℕ) → is_mark w ≡ false → is_word w ≡ true → word_of_text w ≡ Some (word_named w)
unfolding word_of_text
named_said w other is = cond-false (is_mark w) _ _ other ∙ cond-true (is_word w) _ _ is

pub word_said : (p : Piece) (w : Word) → is_piece p ≡ true → word_of p ≡ Some w → word_of_text (text_of p) ≡ Some w
unfolding word_of_text word_of
word_said (name []) w formed e = absurd (false≢true formed)
word_said (name (c ∷ cs)) w formed e =
    let parts = and_parts (begins_identifier c) (list_all goes_on_identifier cs) formed in
    named_said (c ∷ cs) (no_mark c cs parts.0) formed ∙ e
word_said (numeral ds) w formed e =
    let is = is_numeral ds formed in
    let same = numeral_said is.first is.others is.digit in
    subst (λ x. word_of_text x ≡ option_map number (number_of_word x)) (sym is.word) same ∙ e
word_said (mark m) w formed e = rw formed e
word_said (blanks bs) w formed e = absurd (none_some e)
word_said (new_line l) w formed e = absurd (none_some e)
word_said (line_comment body) w formed e = absurd (none_some e)
word_said (block_comment body) w formed e = absurd (none_some e)

-- ---- slices

cut_out : (front middle behind : List ℕ) → take (length middle) (drop (length front) (front ++ (middle ++ behind))) ≡ middle
cut_out front middle behind = ap (take (length middle)) (drop-append_seam front (middle ++ behind)) ∙ take-append_seam middle behind

slices_on : (text : List ℕ) (p : Piece) (byte : ℕ) (o : Option Word) (ts : List Token) → word_of p ≡ o
    → ((w : Word) → word_of p ≡ Some w → word_of_text (take (length (text_of p)) (drop byte text)) ≡ Some w) → AllByRecursion (IsSlice text) ts
    → AllByRecursion (IsSlice text) (in_front o byte (length (text_of p)) ts)
slices_on text p byte None ts e here others = others
slices_on text p byte (Some w) ts e here others = (here w e, others)

slices_from : (ps : List Piece) (front behind left : List ℕ) (text : List ℕ) (byte : ℕ) → ArePieces ps behind left → text ≡ front ++ behind
    → byte ≡ length front
    → AllByRecursion (IsSlice text) (tokens_from byte ps)
unfolding ArePieces tokens_from
slices_from [] front behind left text byte are whole place = tt
slices_from (p ∷ ps) front behind left text byte (rest, stands, others) whole place =
    let all : text ≡ front ++ (text_of p ++ rest) = whole ∙ ap (λ x. front ++ x) stands.spelled in
    let slice : take (length (text_of p)) (drop byte text) ≡ text_of p = rw (place, all) (cut_out front (text_of p) rest) in
    let further : byte + length (text_of p) ≡ length (front ++ text_of p) = rw place (sym (length-append front (text_of p))) in
    let inner =
    slices_from ps (front ++ text_of p) rest left text (byte + length (text_of p)) others (all ∙ sym (append_assoc front (text_of p) rest)) further in
    slices_on text p byte (word_of p) _ refl (λ w e. ap word_of_text slice ∙ word_said p w stands.formed e) inner

-- the text is the start of its first line, and what is behind it
first_whole : (first : LineStart) (text behind : List ℕ) → Stands (new_line first) (10 ∷ text) behind → text ≡ start_text first ++ behind
first_whole first text behind stands = ap (drop 1) stands.spelled

pub tokens_are_slices : (text : List ℕ) (tokens : List Token) → IsTokens text tokens → AllByRecursion (IsSlice text) tokens
tokens_are_slices text tokens is =
    let whole = first_whole is.first text is.file.behind is.file.starts in
    subst (AllByRecursion (IsSlice text)) (sym is.words)
    (slices_from is.pieces (start_text is.first) is.file.behind [] text (length (start_text is.first)) is.file.follow whole refl)

-- ---- places

stand_on : (from to byte size : ℕ) (o : Option Word) (ts : List Token) → from ≤ byte → 0 < size → ((start : ℕ) → start ≤ byte + size → StandBetween start to ts)
    → StandBetween from to (in_front o byte size ts)
unfolding StandBetween
stand_on from to byte size None ts later long inner = inner from (omega (arith, later))
stand_on from to byte size (Some w) ts later long inner = (later, long, inner (byte + size) (omega arith))

stand_from : (ps : List Piece) (behind : List ℕ) (from to byte : ℕ) → ArePieces ps behind [] → from ≤ byte → to ≡ byte + length behind
    → StandBetween from to (tokens_from byte ps)
unfolding ArePieces tokens_from StandBetween
stand_from [] behind from to byte are later end = omega (arith, later, end)
stand_from (p ∷ ps) behind from to byte (rest, stands, others) later end =
    let whole : length behind ≡ length (text_of p) + length rest = ap length stands.spelled ∙ length-append (text_of p) rest in
    let size = length (text_of p) in
    stand_on from to byte size (word_of p) _ later (piece_long p stands.formed)
    (λ start before. stand_from ps rest start to (byte + length (text_of p)) others before (omega (arith, end, whole)))

pub tokens_stand : (text : List ℕ) (tokens : List Token) → IsTokens text tokens → StandBetween 0 (length text) tokens
tokens_stand text tokens is =
    let whole = first_whole is.first text is.file.behind is.file.starts in
    let long : length text ≡ length (start_text is.first) + length is.file.behind = ap length whole ∙ length-append (start_text is.first) is.file.behind in
    subst (StandBetween 0 (length text)) (sym is.words)
    (stand_from is.pieces is.file.behind 0 (length text) (length (start_text is.first)) is.file.follow (omega arith) long)
