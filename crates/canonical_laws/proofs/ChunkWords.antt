-- The printed words that are chunks: words of the grammar, marks, identifiers, numbers, and absolute names.
use Rattle.std.proofs.Common.{◌≡◌, ℕ, Bool, true, false, not, ◌&&◌, ◌==◌, List, [], ◌∷◌, ◌++◌, Some, refl, sym, ap, subst, ◌∙◌}
use Rattle.std.proofs.Common.{codes, arith}
use Rattle.std.proofs.lemmas.Bool.{and_parts, and_from, false≢true}
use Rattle.std.proofs.lemmas.List.{append_assoc}
use Rattle.std.specs.List.{list_all, list_any, flat_map, filter_map}
use Rattle.std.specs.Str.{bytes_eq}
use Rattle.idl_text_model.specs.Pieces.{Piece, name, is_mark, next_byte, is_none_of, goes_on_mark, Stands}
use Rattle.idl_text_model.specs.Pieces.{ArePieces}
use Rattle.idl_text_model.specs.Pieces as piece
use Rattle.idl_text_model.specs.Tokens.{Word, identifier, quoted, mark, word_of}
use Rattle.literal_model.specs.Shapes.{is_word}
use Rattle.registry_text_model.specs.Canonical.{colons, absolute}
use Rattle.uno_model.specs.Names.{begins_identifier, goes_on_identifier, is_identifier, is_entity_name, parts_of, reserved_words}
use Rattle.canonical_laws.proofs.Chunks.{is_solid, begins_solid, is_seven_bits, is_parting, at_parting, IsChunk, one_piece, all_joined}

-- ---- words and identifiers

letter_is_solid : (c : ℕ) → begins_identifier c ≡ true → is_solid c ≡ true
letter_is_solid c letter = grind (arith, letter)

letter_of_seven_bits : (c : ℕ) → goes_on_identifier c ≡ true → is_seven_bits c ≡ true
letter_of_seven_bits c letter = grind (arith, letter)

letter_goes_on : (c : ℕ) → begins_identifier c ≡ true → goes_on_identifier c ≡ true
letter_goes_on c letter = grind (arith, letter)

pub letters_of_seven_bits : (w : List ℕ) → list_all goes_on_identifier w ≡ true → list_all is_seven_bits w ≡ true
letters_of_seven_bits [] all = refl
letters_of_seven_bits (c ∷ cs) all =
    let parts = and_parts (goes_on_identifier c) (list_all goes_on_identifier cs) all in
    and_from (is_seven_bits c) (list_all is_seven_bits cs) (letter_of_seven_bits c parts.0) (letters_of_seven_bits cs parts.1)

word_letters : (w : List ℕ) → is_word w ≡ true → list_all goes_on_identifier w ≡ true
word_letters [] is = refl
word_letters (c ∷ cs) is =
    let parts = and_parts (begins_identifier c) (list_all goes_on_identifier cs) is in
    and_from (goes_on_identifier c) (list_all goes_on_identifier cs) (letter_goes_on c parts.0) parts.1

word_solid : (w : List ℕ) → is_word w ≡ true → begins_solid w ≡ true
word_solid [] is = is
word_solid (c ∷ cs) is = letter_is_solid c (and_parts (begins_identifier c) (list_all goes_on_identifier cs) is).0

-- a word of the grammar
pub keyword_chunk : (w : List ℕ) → is_word w ≡ true → is_identifier w ≡ false → IsChunk w (quoted w ∷ [])
unfolding word_of
keyword_chunk w word other =
    one_piece (name w) (quoted w) (word_solid w word) (letters_of_seven_bits w (word_letters w word)) word
    (at_parting (λ c. is_none_of goes_on_identifier (Some c) ≡ true) refl refl) (rw other refl)

pub identifier_is_word : (w : List ℕ) → is_identifier w ≡ true → is_word w ≡ true
identifier_is_word [] is = is
identifier_is_word (c ∷ cs) is = (and_parts (begins_identifier c && list_all goes_on_identifier cs) (not (list_any (bytes_eq (c ∷ cs)) reserved_words)) is).0

pub identifier_chunk : (w : List ℕ) → is_identifier w ≡ true → IsChunk w (identifier w ∷ [])
unfolding word_of
identifier_chunk w is =
    let word = identifier_is_word w is in
    one_piece (name w) (identifier w) (word_solid w word) (letters_of_seven_bits w (word_letters w word)) word
    (at_parting (λ c. is_none_of goes_on_identifier (Some c) ≡ true) refl refl) (rw is refl)

-- ---- marks

-- a mark that does not go on at a blank or a line feed
abbrev pub stands_alone : List ℕ → Bool
stands_alone m = is_mark m && ((not (goes_on_mark m 32) && not (goes_on_mark m 10)) && (begins_solid m && list_all is_seven_bits m))

pub mark_chunk : (m : List ℕ) → stands_alone m ≡ true → IsChunk m (mark m ∷ [])
unfolding word_of
mark_chunk m alone =
    let parts = and_parts (is_mark m) _ alone in
    let behind = and_parts (not (goes_on_mark m 32) && not (goes_on_mark m 10)) (begins_solid m && list_all is_seven_bits m) parts.1 in
    let over = and_parts (not (goes_on_mark m 32)) (not (goes_on_mark m 10)) behind.0 in
    let bytes = and_parts (begins_solid m) (list_all is_seven_bits m) behind.1 in
    one_piece (piece.mark m) (mark m) bytes.0 bytes.1 parts.0 (at_parting (λ c. is_none_of (goes_on_mark m) (Some c) ≡ true) over.0 over.1) refl

-- ---- absolute names

abbrev pub name_words : List (List ℕ) → List Word
name_words ps = flat_map (λ p. mark (codes "::") ∷ identifier p ∷ []) ps

abbrev pub name_pieces : List (List ℕ) → List Piece
name_pieces ps = flat_map (λ p. piece.mark (codes "::") ∷ name p ∷ []) ps

abbrev pub name_text : List (List ℕ) → List ℕ
name_text ps = flat_map (λ p. codes "::" ++ p) ps

-- parts with `::` between them
abbrev behind_first : List (List ℕ) → List ℕ
behind_first [] = []
behind_first (p ∷ ps) = p ++ name_text ps

pub some_parts : (full : List ℕ) → (p : List ℕ) × (ps : List (List ℕ)) × (parts_of full ≡ p ∷ ps)
unfolding parts_of
some_parts [] = ([], [], refl)
some_parts (c ∷ cs) = by_test (c == 46) refl (some_parts cs)
  where
    by_test : (b : Bool) → (c == 46) ≡ b → (p : List ℕ) × (ps : List (List ℕ)) × (parts_of cs ≡ p ∷ ps)
        → (p : List ℕ) × (ps : List (List ℕ)) × (parts_of (c ∷ cs) ≡ p ∷ ps)
    by_test true e (p, ps, same) = ([], p ∷ ps, rw (e, same) refl)
    by_test false e (p, ps, same) = (c ∷ p, ps, rw (e, same) refl)

colons_are : (full : List ℕ) → flat_map colons full ≡ behind_first (parts_of full)
unfolding parts_of
colons_are [] = refl
colons_are (c ∷ cs) =
    let some = some_parts cs in
    by_test (c == 46) refl some.0 some.1 some.2 (colons_are cs)
  where
    by_test : (b : Bool) → (c == 46) ≡ b → (p : List ℕ) (ps : List (List ℕ)) → parts_of cs ≡ p ∷ ps → flat_map colons cs ≡ behind_first (parts_of cs)
        → flat_map colons (c ∷ cs) ≡ behind_first (parts_of (c ∷ cs))
    by_test true e p ps same inner = rw (e, inner, same) refl
    by_test false e p ps same inner = rw (e, inner, same) refl

pub absolute_is : (full : List ℕ) → absolute full ≡ name_text (parts_of full)
unfolding absolute
absolute_is full =
    let some = some_parts full in
    ap (λ x. codes "::" ++ x) (colons_are full) ∙ rw some.2 refl

-- what stands behind a part: a `:`, or what parts
part_over : (ps : List (List ℕ)) (c : ℕ) (cs : List ℕ) → is_parting c ≡ true → is_none_of goes_on_identifier (next_byte (name_text ps ++ c ∷ cs)) ≡ true
part_over [] c cs parting = at_parting (λ d. is_none_of goes_on_identifier (Some d) ≡ true) refl refl c parting
part_over (p ∷ ps) c cs parting = refl

colons_over : (p x : List ℕ) → is_word p ≡ true → is_none_of (goes_on_mark (codes "::")) (next_byte (p ++ x)) ≡ true
colons_over [] x word = absurd (false≢true word)
colons_over (c ∷ cs) x word = refl

name_stands : (ps : List (List ℕ)) (c : ℕ) (cs : List ℕ) → list_all is_identifier ps ≡ true → is_parting c ≡ true
    → ArePieces (name_pieces ps) (name_text ps ++ c ∷ cs) (c ∷ cs)
unfolding ArePieces
name_stands [] c cs all parting = refl
name_stands (p ∷ ps) c cs all parting =
    let parts = and_parts (is_identifier p) (list_all is_identifier ps) all in
    let word = identifier_is_word p parts.0 in
    let behind = name_text ps ++ c ∷ cs in
    let first : Stands (piece.mark (codes "::")) ((codes "::" ++ p) ++ behind) (p ++ behind) =
    record { spelled = refl; formed = refl; over = colons_over p behind word } in
    let second : Stands (name p) (p ++ behind) behind = record { spelled = refl; formed = word; over = part_over ps c cs parting } in
    subst (λ x. ArePieces (name_pieces (p ∷ ps)) x (c ∷ cs)) (sym (append_assoc (codes "::" ++ p) (name_text ps) (c ∷ cs)))
    (p ++ behind, first, (behind, second, name_stands ps c cs parts.1 parting))

name_said : (ps : List (List ℕ)) → list_all is_identifier ps ≡ true → filter_map word_of (name_pieces ps) ≡ name_words ps
unfolding word_of
name_said [] all = refl
name_said (p ∷ ps) all =
    let parts = and_parts (is_identifier p) (list_all is_identifier ps) all in
    rw (parts.0, name_said ps parts.1) refl

name_ascii : (ps : List (List ℕ)) → list_all is_identifier ps ≡ true → list_all is_seven_bits (name_text ps) ≡ true
name_ascii [] all = refl
name_ascii (p ∷ ps) all =
    let parts = and_parts (is_identifier p) (list_all is_identifier ps) all in
    all_joined is_seven_bits (codes "::" ++ p) (name_text ps) (letters_of_seven_bits p (word_letters p (identifier_is_word p parts.0))) (name_ascii ps parts.1)

parts_chunk : (p : List ℕ) (ps : List (List ℕ)) → list_all is_identifier (p ∷ ps) ≡ true → IsChunk (name_text (p ∷ ps)) (name_words (p ∷ ps))
parts_chunk p ps all = record {
  pieces = name_pieces (p ∷ ps);
  stand = λ c cs parting. name_stands (p ∷ ps) c cs all parting;
  said = name_said (p ∷ ps) all;
  solid = refl;
  ascii = name_ascii (p ∷ ps) all;
}

pub name_chunk : (full : List ℕ) → is_entity_name full ≡ true → IsChunk (absolute full) (name_words (parts_of full))
name_chunk full named =
    let some = some_parts full in
    let all : list_all is_identifier (some.0 ∷ some.1) ≡ true = subst (λ ps. list_all is_identifier ps ≡ true) some.2 named in
    let chunk : IsChunk (name_text (parts_of full)) (name_words (parts_of full)) =
    subst (λ ps. IsChunk (name_text ps) (name_words ps)) (sym some.2) (parts_chunk some.0 some.1 all) in
    subst (λ t. IsChunk t (name_words (parts_of full))) (sym (absolute_is full)) chunk
