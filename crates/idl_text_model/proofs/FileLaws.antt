-- A text has one row of pieces up to where none stands, and it is the one that is found.
use Rattle.std.proofs.Common.{◌≡◌, ℕ, zero, suc, ◌+◌, ◌<◌, ◌≤◌, true, List, [], ◌∷◌, ◌++◌, length, Option, None, Some, refl, sym, ap, subst, ◌∙◌, arith}
use Rattle.std.proofs.Common.{length-append, codes}
use Rattle.std.proofs.lemmas.Bool.{false≢true}
use Rattle.idl_text_model.proofs.NumberLaws.{is_numeral}
use Rattle.idl_text_model.proofs.PieceBackLaws.{stands_back}
use Rattle.idl_text_model.proofs.PieceSaidLaws.{start_said, stands_said}
use Rattle.idl_text_model.specs.Pieces.{LineStart, Piece, blanks, new_line, line_comment, block_comment, name, numeral, mark, start_text, text_of, is_piece}
use Rattle.idl_text_model.specs.Pieces.{Stands, ArePieces, IsFile}
use Rattle.idl_text_model.specs.Readings.{start_at, piece_at, with_others, pieces_within, pieces_at}
use Rattle.uno_model.proofs.Options.{same_some, none_some}

-- ---- a piece has a byte

long_list : (x : ℕ) (xs : List ℕ) → 0 < length (x ∷ xs)
long_list x xs = omega arith

pub piece_long : (p : Piece) → is_piece p ≡ true → 0 < length (text_of p)
piece_long (blanks []) formed = absurd (false≢true formed)
piece_long (blanks (c ∷ cs)) formed = long_list c cs
piece_long (new_line l) formed = long_list 10 (start_text l)
piece_long (line_comment body) formed = long_list 47 (47 ∷ body)
piece_long (block_comment body) formed = long_list 47 (42 ∷ body ++ codes "*/")
piece_long (name []) formed = absurd (false≢true formed)
piece_long (name (c ∷ cs)) formed = long_list c cs
piece_long (numeral w) formed = let is = is_numeral w formed in subst (λ x. 0 < length x) (sym is.word) (long_list is.first is.others)
piece_long (mark []) formed = absurd (false≢true formed)
piece_long (mark (c ∷ cs)) formed = long_list c cs

pub behind_is_shorter : (p : Piece) (text behind : List ℕ) → Stands p text behind → length behind < length text
behind_is_shorter p text behind s =
    let some = piece_long p s.formed in
    let whole : length text ≡ length (text_of p) + length behind = ap length s.spelled ∙ length-append (text_of p) behind in
    omega (arith, some, whole)

-- ---- where no piece stands

pub none_found : (left : List ℕ) → ((p : Piece) (behind : List ℕ) → Stands p left behind → ⊥) → piece_at left ≡ None
none_found left none = by_found (piece_at left) refl
  where
    by_found : (o : Option (Piece × List ℕ)) → piece_at left ≡ o → piece_at left ≡ None
    by_found None e = e
    by_found (Some x) e = absurd (none x.0 x.1 (stands_said left x.0 x.1 e))

pub none_stands : (left : List ℕ) → piece_at left ≡ None → (p : Piece) (behind : List ℕ) → Stands p left behind → ⊥
none_stands left none p behind s = let e : None ≡ Some (p, behind) = sym none ∙ stands_back p left behind s in none_some e

pub none_at_end : piece_at [] ≡ None
unfolding piece_at
none_at_end = refl

-- ---- pieces are found

first_found : (others : List ℕ → List Piece × List ℕ) (text : List ℕ) (p : Piece) (behind : List ℕ) → piece_at text ≡ Some (p, behind)
    → ◌≡◌ {A = List Piece × List ℕ} (with_others others text (piece_at text)) (p ∷ (others behind).0, (others behind).1)
first_found others text p behind e = rw e refl

pub pieces_back : (most : ℕ) (ps : List Piece) (text left : List ℕ) → ArePieces ps text left → piece_at left ≡ None → length text ≤ most
    → ◌≡◌ {A = List Piece × List ℕ} (pieces_within most text) (ps, left)
unfolding ArePieces pieces_within
pieces_back zero [] text left are none long = ap (λ x. ([], x)) are
pieces_back (suc most) [] text left are none long = let here : piece_at text ≡ None = ap piece_at are ∙ none in rw here (ap (λ x. ([], x)) are)
pieces_back zero (p ∷ ps) text left (behind, stands, others) none long =
    let shorter = behind_is_shorter p text behind stands in let bad : ⊥ = omega (arith, shorter, long) in absurd bad
pieces_back (suc most) (p ∷ ps) text left (behind, stands, others) none long =
    let shorter = behind_is_shorter p text behind stands in
    let inner = pieces_back most ps behind left others none (omega (arith, shorter, long)) in
    first_found (pieces_within most) text p behind (stands_back p text behind stands) ∙ ap (λ (x : List Piece × List ℕ). (p ∷ x.0, x.1)) inner

-- what is found are pieces, up to where none stands
abbrev pub AreAll : (text : List ℕ) → List Piece × List ℕ → Type 0
AreAll text x = ArePieces x.0 text x.1 × (piece_at x.1 ≡ None)

all_behind : (most : ℕ) (text : List ℕ) (o : Option (Piece × List ℕ)) → piece_at text ≡ o → length text ≤ suc most
    → ((behind : List ℕ) → length behind ≤ most → AreAll behind (pieces_within most behind)) → AreAll text (with_others (pieces_within most) text o)
unfolding ArePieces
all_behind most text None e long inner = (refl, e)
all_behind most text (Some x) e long inner =
    let stands = stands_said text x.0 x.1 e in
    let shorter = behind_is_shorter x.0 text x.1 stands in
    let others = inner x.1 (omega (arith, shorter, long)) in
    ((x.1, stands, others.0), others.1)

pub pieces_said : (most : ℕ) (text : List ℕ) → length text ≤ most → AreAll text (pieces_within most text)
unfolding ArePieces pieces_within
pieces_said zero [] long = (refl, none_at_end)
pieces_said zero (c ∷ cs) long = let bad : ⊥ = omega arith in absurd bad
pieces_said (suc most) text long = all_behind most text (piece_at text) refl long (pieces_said most)

-- ---- a file

line_of : Piece → LineStart → LineStart
line_of (new_line l) other = l
line_of _ other = other

start_found : (text : List ℕ) → piece_at (10 ∷ text) ≡ Some (new_line (start_at text).0, (start_at text).1)
unfolding piece_at
start_found text = refl

pub first_back : (first : LineStart) (text behind : List ℕ) → Stands (new_line first) (10 ∷ text) behind
    → ◌≡◌ {A = LineStart × List ℕ} (start_at text) (first, behind)
unfolding line_of
first_back first text behind stands =
    let found = stands_back (new_line first) (10 ∷ text) behind stands in
    let same : ◌≡◌ {A = Piece × List ℕ} (new_line (start_at text).0, (start_at text).1) (new_line first, behind) = same_some (sym (start_found text) ∙ found) in
    ap (λ (x : Piece × List ℕ). (line_of x.0 first, x.1)) same

-- the pieces that are found in a file
abbrev pub found_first : List ℕ → LineStart
found_first text = (start_at text).0

abbrev pub found_pieces : List ℕ → List Piece × List ℕ
found_pieces text = pieces_at (start_at text).1

pub file_back : (first : LineStart) (ps : List Piece) (text left : List ℕ) → IsFile first ps text left → piece_at left ≡ None
    → (found_first text ≡ first) × ◌≡◌ {A = List Piece × List ℕ} (found_pieces text) (ps, left)
file_back first ps text left file none =
    let start = first_back first text file.behind file.starts in
    let behind = ap (λ (x : LineStart × List ℕ). x.1) start in
    let found = pieces_back (length file.behind) ps file.behind left file.follow none (omega arith) in
    (ap (λ (x : LineStart × List ℕ). x.0) start, ap pieces_at behind ∙ found)

pub file_said : (text : List ℕ) → IsFile (found_first text) (found_pieces text).0 text (found_pieces text).1 × (piece_at (found_pieces text).1 ≡ None)
file_said text =
    let all = pieces_said (length (start_at text).1) (start_at text).1 (omega arith) in
    (record { behind = (start_at text).1; starts = start_said text; follow = all.0 }, all.1)

-- ---- one piece, and one place at which none stands

pub one_stands : (text : List ℕ) (p q : Piece) (behind other : List ℕ) → Stands p text behind → Stands q text other → (p ≡ q) × (behind ≡ other)
one_stands text p q behind other first second =
    let found : Some (p, behind) ≡ Some (q, other) = sym (stands_back p text behind first) ∙ stands_back q text other second in
    let same : ◌≡◌ {A = Piece × List ℕ} (p, behind) (q, other) = same_some found in
    (ap (λ (x : Piece × List ℕ). x.0) same, ap (λ (x : Piece × List ℕ). x.1) same)
