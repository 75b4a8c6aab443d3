-- What is known of the words of tokens that were made before.
use Rattle.std.proofs.Common.{◌≡◌, ℕ, zero, suc, ◌<◌, nat_lt, Bool, true, false, not, List, [], ◌∷◌, ◌++◌, length, get_or, Option, None, Some, option_map, IsTrue, refl, sym, ap, subst, arith}
use Rattle.std.proofs.lemmas.Bool.{and_parts, and_from, ltb-true}
use Rattle.std.specs.List.{list_all}
use Rattle.idl_model.specs.PlacedTokens.{PlacedToken, in_file}
use Rattle.idl_text_model.specs.Numbers.{number_of_word}
use Rattle.idl_text_model.specs.Pieces.{Piece, blanks, new_line, line_comment, block_comment, name, numeral}
use Rattle.idl_text_model.specs.Pieces as piece
use Rattle.idl_text_model.specs.Tokens.{Word, number, word_named, word_of, in_front}
use Rattle.idl_trees.specs.Tokens.{tokens_of}
use Rattle.idl_trees.specs.Tokens as seen
use Rattle.idl_trees.specs.declared.token.Token as seen_token
use Rattle.uno_model.proofs.AllLaws.{all_append}
use Rattle.uno_model.proofs.Options.{same_some, none_some}
use Rattle.uno_model.specs.Names.{is_identifier}
use Rattle.idl_lex.specs.Lexing.{has_its_word, says_its_word}

-- ---- each piece says what its text does

named_says : (w : List ℕ) → says_its_word (word_named w) ≡ true
named_says w = by_test (is_identifier w) refl
  where
    by_test : (b : Bool) → is_identifier w ≡ b → says_its_word (word_named w) ≡ true
    by_test true is = rw is is
    by_test false other = rw other (ap not other)

number_says : (o : Option ℕ) (w : Word) → option_map number o ≡ Some w → says_its_word w ≡ true
number_says (Some n) w is = subst (λ x. says_its_word x ≡ true) (same_some is) refl
number_says None w is = absurd (none_some is)

piece_says : (p : Piece) (w : Word) → word_of p ≡ Some w → says_its_word w ≡ true
unfolding word_of
piece_says (blanks bs) w is = absurd (none_some is)
piece_says (new_line l) w is = absurd (none_some is)
piece_says (line_comment b) w is = absurd (none_some is)
piece_says (block_comment b) w is = absurd (none_some is)
piece_says (name s) w is = subst (λ x. says_its_word x ≡ true) (same_some is) (named_says s)
piece_says (numeral s) w is = number_says (number_of_word s) w is
piece_says (piece.mark m) w is = subst (λ x. says_its_word x ≡ true) (same_some is) refl

one_says : (file : ℕ) (p : Piece) (o : Option Word) (byte size : ℕ) → word_of p ≡ o → list_all has_its_word (in_file file (in_front o byte size [])) ≡ true
one_says file p None byte size is = refl
one_says file p (Some w) byte size is = and_from (says_its_word w) true (piece_says p w is) refl

-- with the word of one piece more
pub all_say : (file : ℕ) (tokens : List PlacedToken) (p : Piece) (o : Option Word) (byte size : ℕ) → list_all has_its_word tokens ≡ true → word_of p ≡ o
    → list_all has_its_word (tokens ++ in_file file (in_front o byte size [])) ≡ true
all_say file tokens p o byte size all is = all_append has_its_word tokens (in_file file (in_front o byte size [])) all (one_says file p o byte size is)

-- ---- one of the tokens

each_says : (ts : List seen_token.Token) (i : ℕ) (t : seen_token.Token) → i < length ts → t ≡ get_or ts i t → IsTrue (list_all has_its_word (tokens_of ts))
    → says_its_word (seen.word_of t.word) ≡ true
each_says [] i t within at all = absurd (omega arith)
each_says (x ∷ xs) zero t within at all =
    subst (λ (k : seen_token.Token). says_its_word (seen.word_of k.word) ≡ true) (sym at) (and_parts (says_its_word (seen.word_of x.word)) _ all).0
each_says (x ∷ xs) (suc i) t within at all = each_says xs i t (omega arith) at (and_parts (says_its_word (seen.word_of x.word)) _ all).1

pub one_says_its : (ts : List seen_token.Token) (i : ℕ) (t : seen_token.Token) → true ≡ nat_lt i (length ts) → t ≡ get_or ts i t
    → IsTrue (list_all has_its_word (tokens_of ts)) → says_its_word (seen.word_of t.word) ≡ true
one_says_its ts i t within at all = each_says ts i t (ltb-true i (length ts) (sym within)) at all
