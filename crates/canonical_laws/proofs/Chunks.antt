-- Texts that are pieces up to the blank or the line feed behind them, and the words that they are.
use Rattle.std.proofs.Common.{◌≡◌, ℕ, Bool, true, false, not, ◌||◌, ◌==◌, nat_lt, List, [], ◌∷◌, ◌++◌, Option, None, Some, refl, sym, ap, subst, ◌∙◌}
use Rattle.std.proofs.Common.{◌⊎◌, inl, inr}
use Rattle.std.proofs.lemmas.Bool.{and_from, or_cases, or_parts, not-true, not_from_false, eqb-true, false≢true}
use Rattle.std.proofs.lemmas.List.{append_assoc, append-nil}
use Rattle.std.proofs.lemmas.List.Elements.{filter_map-append}
use Rattle.std.proofs.lemmas.List.Folds.{list_all-append}
use Rattle.std.specs.List.{list_all, filter_map}
use Rattle.idl_text_model.specs.Pieces.{Piece, blanks, text_of, is_blank, is_piece, next_byte, is_none_of, ends, ArePieces}
use Rattle.idl_text_model.specs.Tokens.{Word, word_of}
use Rattle.registry_text_model.specs.Canonical.{parted}

-- ---- the bytes at which pieces part

-- neither a blank nor the beginning of a directive
abbrev pub is_solid : ℕ → Bool
is_solid c = not (is_blank c || (c == 35))

abbrev pub begins_solid : List ℕ → Bool
begins_solid [] = false
begins_solid (c ∷ cs) = is_solid c

abbrev pub is_seven_bits : ℕ → Bool
is_seven_bits c = nat_lt c 128

-- a blank or a line feed
abbrev pub is_parting : ℕ → Bool
is_parting c = (c == 32) || (c == 10)

pub at_parting : (P : ℕ → Type 0) → P 32 → P 10 → (c : ℕ) → is_parting c ≡ true → P c
at_parting P blank feed c is = by_case (or_cases (c == 32) (c == 10) is)
  where
    by_case : ((c == 32) ≡ true) ⊎ ((c == 10) ≡ true) → P c
    by_case (inl e) = subst P (sym (eqb-true c 32 e)) blank
    by_case (inr e) = subst P (sym (eqb-true c 10 e)) feed

-- ---- pieces one behind the other

pub pieces_joined : (ps qs : List Piece) (x y z : List ℕ) → ArePieces ps x y → ArePieces qs y z → ArePieces (ps ++ qs) x z
unfolding ArePieces
pieces_joined [] qs x y z same are = subst (λ t. ArePieces qs t z) (sym same) are
pieces_joined (p ∷ ps) qs x y z (behind, stands, others) are = (behind, stands, pieces_joined ps qs behind y z others are)

-- ---- chunks

-- it is pieces wherever a blank or a line feed stands behind it, and these are their words
pub record IsChunk (text : List ℕ) (words : List Word) : Type 0 where
  pub pieces : List Piece
  pub stand : (c : ℕ) (cs : List ℕ) → is_parting c ≡ true → ArePieces pieces (text ++ c ∷ cs) (c ∷ cs)
  pub said : filter_map word_of pieces ≡ words
  pub solid : begins_solid text ≡ true
  pub ascii : list_all is_seven_bits text ≡ true

-- one chunk for each text
abbrev pub AreChunks : List (List ℕ) → List Word → Type 0
AreChunks [] words = words ≡ []
AreChunks (t ∷ ts) words = (front : List Word) × (behind : List Word) × (words ≡ front ++ behind) × IsChunk t front × AreChunks ts behind

pub chunks_joined : (ts us : List (List ℕ)) (ws vs : List Word) → AreChunks ts ws → AreChunks us vs → AreChunks (ts ++ us) (ws ++ vs)
chunks_joined [] us ws vs none are = subst (λ x. AreChunks us (x ++ vs)) (sym none) are
chunks_joined (t ∷ ts) us ws vs (front, behind, split, one, others) are =
    (front, behind ++ vs, ap (λ x. x ++ vs) split ∙ append_assoc front behind vs, one, chunks_joined ts us behind vs others are)

pub one_chunk : (t : List ℕ) (ws : List Word) → IsChunk t ws → AreChunks (t ∷ []) ws
one_chunk t ws is = (ws, [], sym (append-nil ws), is, refl)

-- one piece
pub one_piece : (p : Piece) (w : Word) → begins_solid (text_of p) ≡ true → list_all is_seven_bits (text_of p) ≡ true → is_piece p ≡ true
    → ((c : ℕ) → is_parting c ≡ true → ends p (Some c) ≡ true) → word_of p ≡ Some w → IsChunk (text_of p) (w ∷ [])
unfolding ArePieces
one_piece p w solid ascii formed over word = record {
  pieces = p ∷ [];
  stand = λ c cs parting. (c ∷ cs, record { spelled = refl; formed = formed; over = over c parting }, refl);
  said = rw word refl;
  solid = solid;
  ascii = ascii;
}

-- ---- chunks with a blank between them

pub solid_next : (u x : List ℕ) → begins_solid u ≡ true → is_none_of (λ c. is_blank c || (c == 35)) (next_byte (u ++ x)) ≡ true
solid_next [] x solid = absurd (false≢true solid)
solid_next (c ∷ cs) x solid = solid

no_blank : (next : Option ℕ) → is_none_of (λ c. is_blank c || (c == 35)) next ≡ true → is_none_of is_blank next ≡ true
no_blank None over = refl
no_blank (Some c) over = not_from_false (is_blank c) (or_parts (is_blank c) (c == 35) (not-true _ over)).0

pub solid_front : (t x : List ℕ) → begins_solid t ≡ true → begins_solid (t ++ x) ≡ true
solid_front [] x solid = absurd (false≢true solid)
solid_front (c ∷ cs) x solid = solid

pub all_joined : (p : ℕ → Bool) (t u : List ℕ) → list_all p t ≡ true → list_all p u ≡ true → list_all p (t ++ u) ≡ true
all_joined p t u first second = list_all-append p t u ∙ and_from (list_all p t) (list_all p u) first second

beside : (t u : List ℕ) (ws vs : List Word) → IsChunk t ws → IsChunk u vs → IsChunk (t ++ 32 ∷ u) (ws ++ vs)
unfolding ArePieces word_of
beside t u ws vs a b = record {
  pieces = a.pieces ++ blanks (32 ∷ []) ∷ b.pieces;
  stand = λ c cs parting.
      subst (λ x. ArePieces (a.pieces ++ blanks (32 ∷ []) ∷ b.pieces) x (c ∷ cs)) (sym (append_assoc t (32 ∷ u) (c ∷ cs)))
      (pieces_joined a.pieces (blanks (32 ∷ []) ∷ b.pieces) (t ++ 32 ∷ (u ++ c ∷ cs)) (32 ∷ (u ++ c ∷ cs)) (c ∷ cs) (a.stand 32 (u ++ c ∷ cs) refl)
      (u ++ c ∷ cs, record { spelled = refl; formed = refl; over = no_blank (next_byte (u ++ c ∷ cs)) (solid_next u (c ∷ cs) b.solid) }, b.stand c cs parting));
  said = filter_map-append word_of a.pieces (blanks (32 ∷ []) ∷ b.pieces) ∙ rw (a.said, b.said) refl;
  solid = solid_front t (32 ∷ u) a.solid;
  ascii = all_joined is_seven_bits t (32 ∷ u) a.ascii b.ascii;
}

pub parted_chunk : (t : List ℕ) (ts : List (List ℕ)) (words : List Word) → AreChunks (t ∷ ts) words → IsChunk (parted (t ∷ ts)) words
unfolding parted
parted_chunk t [] words (front, behind, split, one, none) = subst (IsChunk t) (sym (split ∙ ap (λ x. front ++ x) none ∙ append-nil front)) one
parted_chunk t (u ∷ us) words (front, behind, split, one, others) =
    subst (IsChunk (t ++ 32 ∷ parted (u ∷ us))) (sym split) (beside t (parted (u ∷ us)) front behind one (parted_chunk u us behind others))
