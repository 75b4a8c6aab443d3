-- Lines that are chunks are the text of a file, and its tokens are their words.
use Rattle.std.proofs.Common.{◌≡◌, ℕ, zero, suc, ◌+◌, ◌<◌, ◌≤◌, true, ◌||◌, ◌==◌, List, [], ◌∷◌, ◌++◌, map, length, Option, None, Some, Ok, refl, sym, ap}
use Rattle.std.proofs.Common.{subst, ◌∙◌, arith}
use Rattle.std.proofs.lemmas.Bool.{and_parts, ltb-true}
use Rattle.std.proofs.lemmas.List.{append_assoc}
use Rattle.std.proofs.lemmas.List.Elements.{filter_map-append}
use Rattle.std.proofs.lemmas.Str.{IsUtf8-from_ascii}
use Rattle.std.specs.List.{list_all, filter_map, cons_option}
use Rattle.std.specs.Prelude.{slice_index}
use Rattle.std.specs.Str.{IsAscii}
use Rattle.idl_model.specs.PlacedTokens.{in_file}
use Rattle.idl_text_model.specs.LexVerdicts.{IsLexed}
use Rattle.idl_text_model.specs.Pieces.{LineStart, Piece, new_line, text_of, is_blank, next_byte, is_none_of, ArePieces, IsFile}
use Rattle.idl_text_model.specs.Tokens.{Word, Token, word_of, in_front, tokens_from, tokens_of, IsTokens}
use Rattle.canonical_laws.proofs.Chunks.{is_seven_bits, pieces_joined, IsChunk, solid_next, all_joined}

-- ---- the words of pieces

word_in_front : (o : Option Word) (byte size : ℕ) (ts : List Token) (ws : List Word) → map (λ t. t.word) ts ≡ ws
    → map (λ t. t.word) (in_front o byte size ts) ≡ cons_option o ws
word_in_front None byte size ts ws same = same
word_in_front (Some w) byte size ts ws same = ap (λ x. w ∷ x) same

words_of_pieces : (byte : ℕ) (ps : List Piece) → map (λ t. t.word) (tokens_from byte ps) ≡ filter_map word_of ps
unfolding tokens_from
words_of_pieces byte [] = refl
words_of_pieces byte (p ∷ ps) = by_word (word_of p) (words_of_pieces (byte + length (text_of p)) ps)
  where
    by_word : (o : Option Word) → map (λ t. t.word) (tokens_from (byte + length (text_of p)) ps) ≡ filter_map word_of ps
        → map (λ t. t.word) (in_front o byte (length (text_of p)) (tokens_from (byte + length (text_of p)) ps)) ≡ cons_option o (filter_map word_of ps)
    by_word o same = word_in_front o byte (length (text_of p)) (tokens_from (byte + length (text_of p)) ps) (filter_map word_of ps) same

words_of_file : (ts : List Token) → map (λ t. t.word) (in_file 0 ts) ≡ map (λ t. t.word) ts
words_of_file [] = refl
words_of_file (t ∷ ts) = ap (λ x. t.word ∷ x) (words_of_file ts)

-- ---- lines

abbrev empty_start : LineStart
empty_start = record { blanks = []; directive = None }

-- a text of lines, and its words; each line starts with neither a blank nor a directive
pub record AreLines (text : List ℕ) (words : List Word) : Type 0 where
  pub pieces : List Piece
  pub stand : ArePieces pieces text []
  pub said : filter_map word_of pieces ≡ words
  pub start : is_none_of (λ c. is_blank c || (c == 35)) (next_byte text) ≡ true
  pub ascii : list_all is_seven_bits text ≡ true

pub no_lines : AreLines [] []
unfolding ArePieces
no_lines = record { pieces = []; stand = refl; said = refl; start = refl; ascii = refl }

pub line_in_front : (line rest : List ℕ) (ws vs : List Word) → IsChunk line ws → AreLines rest vs → AreLines ((line ++ 10 ∷ []) ++ rest) (ws ++ vs)
unfolding ArePieces word_of
line_in_front line rest ws vs a b =
    subst (λ t. AreLines t (ws ++ vs)) (sym (append_assoc line (10 ∷ []) rest)) (record {
      pieces = a.pieces ++ new_line empty_start ∷ b.pieces;
      stand =
          pieces_joined a.pieces (new_line empty_start ∷ b.pieces) (line ++ 10 ∷ rest) (10 ∷ rest) [] (a.stand 10 rest refl)
          (rest, record { spelled = refl; formed = refl; over = b.start }, b.stand);
      said = filter_map-append word_of a.pieces (new_line empty_start ∷ b.pieces) ∙ rw (a.said, b.said) refl;
      start = solid_next line (10 ∷ rest) a.solid;
      ascii = all_joined is_seven_bits line (10 ∷ rest) a.ascii b.ascii;
    })

-- ---- the verdict on the text

ascii_place : (text : List ℕ) → list_all is_seven_bits text ≡ true → IsAscii text
ascii_place [] all i = omega arith
ascii_place (c ∷ cs) all i =
    let parts = and_parts (is_seven_bits c) (list_all is_seven_bits cs) all in
    by_place i parts.0 (ascii_place cs parts.1)
  where
    by_place : (k : ℕ) → is_seven_bits c ≡ true → IsAscii cs → slice_index (c ∷ cs) k < 128
    by_place zero first others = ltb-true c 128 first
    by_place (suc k) first others = others k

pub lines_are_lexed : (text : List ℕ) (words : List Word) → AreLines text words → length text ≤ 4194304
    → (tokens : List Token) × IsLexed text (Ok tokens) × (map (λ t. t.word) (in_file 0 tokens) ≡ words)
lines_are_lexed text words lines short =
    let file : IsFile empty_start lines.pieces text [] =
    record { behind = text; starts = record { spelled = refl; formed = refl; over = lines.start }; follow = lines.stand } in
    let tokens : IsTokens text (tokens_of empty_start lines.pieces) = record { first = empty_start; pieces = lines.pieces; file = file; words = refl } in (
      tokens_of empty_start lines.pieces,
      (short, IsUtf8-from_ascii text (ascii_place text lines.ascii), tokens),
      words_of_file (tokens_of empty_start lines.pieces) ∙ words_of_pieces 0 lines.pieces ∙ lines.said,
    )
