-- How far a file is lexed: the tokens so far, and what is left of the file, make up its tokens.
use Rattle.std.proofs.Common.{◌≡◌, ℕ, zero, suc, ◌+◌, ◌-◌, ◌<◌, ◌≤◌, ◌==◌, Bool, true, false, List, [], ◌∷◌, ◌++◌, length, Option, None, Some, option_map}
use Rattle.std.proofs.Common.{Result, Ok, Err, IfOk, IsTrue, refl, sym, ap, subst, ◌∙◌, arith}
use Rattle.std.proofs.lemmas.Bool.{le-ltb, eqb-true}
use Rattle.std.proofs.lemmas.Str.{is_utf8-from_IsUtf8}
use Rattle.std.proofs.lemmas.List.{append_assoc, append-nil, length-append}
use Rattle.std.specs.List.{list_all}
use Rattle.std.specs.Str.{IsUtf8}
use Rattle.idl_model.specs.PlacedTokens.{PlacedToken, in_file}
use Rattle.idl_text_model.proofs.FileLaws.{pieces_back, pieces_said, piece_long}
use Rattle.idl_text_model.proofs.PieceSaidLaws.{stands_said, start_said}
use Rattle.idl_text_model.proofs.TokenLaws.{tokens_stand}
use Rattle.idl_text_model.proofs.VerdictLaws.{verdict_said}
use Rattle.idl_text_model.specs.LexVerdicts.{IsLexed, most_bytes, bad_token, open_comment}
use Rattle.idl_text_model.specs.Pieces.{Piece, LineStart, ArePieces, opens_comment, text_of, start_text}
use Rattle.idl_text_model.specs.Readings.{lexed, piece_at, pieces_at, pieces_within, start_at, fault_at, verdict_of}
use Rattle.idl_text_model.specs.Slices.{StandBetween}
use Rattle.idl_text_model.specs.Tokens.{Word, Token, word_of, tokens_of, tokens_from, in_front}
use Rattle.uno_model.proofs.Options.{same_some, none_some}
use Rattle.idl_trees.specs.Tokens.{EndInFile}
use Rattle.idl_trees.specs.Tokens as seen
use Rattle.idl_trees.specs.declared.token.Token as seen_token
use Rattle.std.specs.declared.alloc.Global.{Global}
use Rattle.std.specs.declared.vec.Vec.{Vec}
use Rattle.idl_lex.proofs.GuessLemmas.{all_say}
use Rattle.idl_lex.specs.Lexing.{found_of, has_its_word, refusal_at, word_at, worded, pieces_verdict, AreLexed, IsRefused}
use Rattle.idl_lex.specs.declared.error.LexError.{LexError}
use Rattle.idl_lex.specs.declared.piece.Found.{Found}

-- ---- a piece in front of the others

-- the piece of this word stands at the front
record HasPiece (text : List ℕ) (word : Option Word) (behind : List ℕ) : Type 0 where
  piece : Piece
  found : piece_at text ≡ Some (piece, behind)
  says : word_of piece ≡ word

piece_of : (text : List ℕ) (o : Option (Piece × List ℕ)) (word : Option Word) (behind : List ℕ) → piece_at text ≡ o → worded o ≡ Some (word, behind)
    → HasPiece text word behind
piece_of text None word behind found is = absurd (none_some is)
piece_of text (Some x) word behind found is =
    let same : ◌≡◌ {A = Option Word × List ℕ} (word_of x.0, x.1) (word, behind) = same_some is in
    let rest : x.1 ≡ behind = ap (λ (k : Option Word × List ℕ). k.1) same in
    record {
      piece = x.0;
      found = found ∙ ap (λ b. Some (x.0, b)) rest;
      says = ap (λ (k : Option Word × List ℕ). k.0) same;
    }

has_piece : (text : List ℕ) (word : Option Word) (behind : List ℕ) → word_at text ≡ Some (word, behind) → HasPiece text word behind
unfolding word_at
has_piece text word behind is = piece_of text (piece_at text) word behind refl is

-- all pieces: the first, and those behind it
pieces_on : (text : List ℕ) (p : Piece) (behind : List ℕ) → piece_at text ≡ Some (p, behind)
    → ◌≡◌ {A = List Piece × List ℕ} (pieces_at text) (p ∷ (pieces_at behind).0, (pieces_at behind).1)
unfolding ArePieces
pieces_on text p behind found =
    let all = pieces_said (length behind) behind (omega arith) in
    pieces_back (length text) (p ∷ (pieces_at behind).0) text (pieces_at behind).1 (behind, stands_said text p behind found, all.0) all.1 (omega arith)

none_from : (text : List ℕ) (most : ℕ) → piece_at text ≡ None → ◌≡◌ {A = List Piece × List ℕ} (pieces_within most text) ([], text)
unfolding pieces_within
none_from text zero none = refl
none_from text (suc most) none = rw none refl

none_worded : (o : Option (Piece × List ℕ)) → worded o ≡ None → o ≡ None
none_worded None is = refl
none_worded (Some x) is = absurd (none_some (sym is))

none_here : (text : List ℕ) → word_at text ≡ None → piece_at text ≡ None
unfolding word_at
none_here text is = none_worded (piece_at text) is

-- ---- the tokens

pub record IsLexing (file : ℕ) (text : List ℕ) (tokens : List PlacedToken) (left : List ℕ) : Type 0 where
  pub same : tokens ++ in_file file (tokens_from (length text - length left) (pieces_at left).0) ≡ in_file file (tokens_of (start_at text).0 (pieces_at (start_at text).1).0)
  pub rest : (pieces_at left).1 ≡ (pieces_at (start_at text).1).1
  pub short : length left ≤ length text
  pub words : IsTrue (list_all has_its_word tokens)

start_length : (text : List ℕ) → length text ≡ length (start_text (start_at text).0) + length (start_at text).1
start_length text =
    let spelled : 10 ∷ text ≡ (10 ∷ start_text (start_at text).0) ++ (start_at text).1 = (start_said text).spelled in
    let whole : length (10 ∷ text) ≡ length (10 ∷ start_text (start_at text).0) + length (start_at text).1 =
    ap length spelled ∙ length-append (10 ∷ start_text (start_at text).0) (start_at text).1 in
    omega (arith, whole)

lexing_begins : (file : ℕ) (text : List ℕ) → IsLexing file text [] (start_at text).1
lexing_begins file text =
    let whole = start_length text in
    let byte : length text - length (start_at text).1 ≡ length (start_text (start_at text).0) = omega (arith, whole) in
    record {
      same = ap (λ n. in_file file (tokens_from n (pieces_at (start_at text).1).0)) byte;
      rest = refl;
      short = omega (arith, whole);
      words = refl;
    }

pub lexing_starts : (file : ℕ) (text left : List ℕ) (tokens : List PlacedToken) → tokens ≡ [] → left ≡ (start_at text).1 → IsLexing file text tokens left
lexing_starts file text left tokens none start =
    subst (λ ts. IsLexing file text ts left) (sym none) (subst (λ x. IsLexing file text [] x) (sym start) (lexing_begins file text))

-- a piece has as many bytes as it takes from what is left
piece_length : (text : List ℕ) (p : Piece) (behind : List ℕ) → piece_at text ≡ Some (p, behind)
    → (length (text_of p) + length behind ≡ length text) × (0 < length (text_of p))
piece_length text p behind found =
    let stands = stands_said text p behind found in
    (sym (ap length stands.spelled ∙ length-append (text_of p) behind), piece_long p stands.formed)

piece_shorter : (text : List ℕ) (word : Option Word) (behind : List ℕ) → word_at text ≡ Some (word, behind) → length behind < length text
piece_shorter text word behind is =
    let has = has_piece text word behind is in
    let long = piece_length text has.piece behind has.found in
    omega (arith, long.0, long.1)

in_front_placed : (file : ℕ) (o : Option Word) (byte size : ℕ) (ts : List Token) → in_file file (in_front o byte size ts) ≡ in_file file (in_front o byte size []) ++ in_file file ts
in_front_placed file None byte size ts = refl
in_front_placed file (Some w) byte size ts = refl

tokens_on : (file byte : ℕ) (p : Piece) (word : Option Word) (ps : List Piece) → word_of p ≡ word
    → in_file file (tokens_from byte (p ∷ ps)) ≡ in_file file (in_front word byte (length (text_of p)) []) ++ in_file file (tokens_from (byte + length (text_of p)) ps)
unfolding tokens_from
tokens_on file byte p word ps says =
    ap (λ o. in_file file (in_front o byte (length (text_of p)) (tokens_from (byte + length (text_of p)) ps))) says
    ∙ in_front_placed file word byte (length (text_of p)) (tokens_from (byte + length (text_of p)) ps)

-- one piece more, with its word, if it is one
lexing_on : (file : ℕ) (text : List ℕ) (tokens : List PlacedToken) (left : List ℕ) (word : Option Word) (behind : List ℕ)
    → IsLexing file text tokens left → word_at left ≡ Some (word, behind)
    → IsLexing file text (tokens ++ in_file file (in_front word (length text - length left) (length left - length behind) [])) behind
lexing_on file text tokens left word behind far is =
    let has = has_piece left word behind is in
    let p = has.piece in
    let byte = length text - length left in
    let long = piece_length left p behind has.found in
    let pieces = pieces_on left p behind has.found in
    let size : length (text_of p) ≡ length left - length behind = omega (arith, long.0) in
    let next : byte + length (text_of p) ≡ length text - length behind = omega (arith, long.0, far.short) in
    let all = ap (λ (x : List Piece × List ℕ). x.0) pieces in
    let front = in_file file (in_front word byte (length (text_of p)) []) in
    let parts : in_file file (tokens_from byte (pieces_at left).0) ≡ front ++ in_file file (tokens_from (length text - length behind) (pieces_at behind).0) =
    ap (λ ps. in_file file (tokens_from byte ps)) all
    ∙ tokens_on file byte p word (pieces_at behind).0 has.says ∙ ap (λ n. front ++ in_file file (tokens_from n (pieces_at behind).0)) next in
    let sized : in_file file (in_front word byte (length left - length behind) []) ≡ front =
    ap (λ n. in_file file (in_front word byte n [])) (sym size) in
    let others = in_file file (tokens_from (length text - length behind) (pieces_at behind).0) in
    record {
      same = ap (λ x. (tokens ++ x) ++ others) sized ∙ append_assoc tokens front others ∙ ap (λ x. tokens ++ x) (sym parts) ∙ far.same;
      rest = sym (ap (λ (x : List Piece × List ℕ). x.1) pieces) ∙ far.rest;
      short = omega (arith, long.0, far.short);
      words = all_say file tokens p word byte (length left - length behind) far.words has.says;
    }

-- ---- the end

pieces_end : ◌≡◌ {A = List Piece × List ℕ} (pieces_at []) ([], [])
unfolding pieces_within
pieces_end = refl

lexed_pieces : (text : List ℕ) → length text ≤ most_bytes → IsUtf8 text → lexed text ≡ pieces_verdict text
unfolding lexed
lexed_pieces text short utf8 = rw (le-ltb most_bytes (length text) short, is_utf8-from_IsUtf8 text utf8) refl

lexing_ends : (file : ℕ) (text : List ℕ) (tokens : List PlacedToken) → length text ≤ most_bytes → IsUtf8 text → IsLexing file text tokens []
    → AreLexed file text tokens
unfolding tokens_from
lexing_ends file text tokens short utf8 far =
    let ts = tokens_of (start_at text).0 (pieces_at (start_at text).1).0 in
    let left : (pieces_at (start_at text).1).1 ≡ [] = sym far.rest ∙ ap (λ (x : List Piece × List ℕ). x.1) pieces_end in
    let comes : lexed text ≡ Ok ts = lexed_pieces text short utf8 ∙ ap (λ l. verdict_of (start_at text).0 (pieces_at (start_at text).1).0 text l) left in
    let none : tokens ++ in_file file (tokens_from (length text - 0) (pieces_at []).0) ≡ tokens =
    ap (λ (x : List Piece × List ℕ). tokens ++ in_file file (tokens_from (length text - 0) x.0)) pieces_end ∙ no_tokens file text tokens in
    record { plain = ts; lexed = subst (IsLexed text) comes (verdict_said text); placed = sym none ∙ far.same }
  where
    no_tokens : (file : ℕ) (text : List ℕ) (tokens : List PlacedToken) → tokens ++ in_file file (tokens_from (length text - 0) []) ≡ tokens
    no_tokens file text tokens = append-nil tokens

pub lexing_over : (file : ℕ) (text left : List ℕ) (tokens : List PlacedToken) → length text ≤ most_bytes → IsUtf8 text → IsLexing file text tokens left
    → (length left == 0) ≡ true → AreLexed file text tokens
lexing_over file text [] tokens short utf8 far none = lexing_ends file text tokens short utf8 far
lexing_over file text (c ∷ cs) tokens short utf8 far none =
    let empty : length (c ∷ cs) ≡ 0 = eqb-true (length (c ∷ cs)) 0 none in
    let bad : ⊥ = omega (arith, empty) in
    absurd bad

-- a place at which no piece stands
lexing_stops : (file : ℕ) (text : List ℕ) (tokens : List PlacedToken) (left : List ℕ) → length text ≤ most_bytes → IsUtf8 text → IsLexing file text tokens left
    → 0 < length left → word_at left ≡ None → IsLexed text (Err (fault_at left (length text - length left)))
lexing_stops file text tokens left short utf8 far some none =
    let here : (pieces_at left).1 ≡ left = ap (λ (x : List Piece × List ℕ). x.1) (none_from left (length left) (none_here left none)) in
    let rest : (pieces_at (start_at text).1).1 ≡ left = sym far.rest ∙ here in
    let comes : lexed text ≡ verdict_of (start_at text).0 (pieces_at (start_at text).1).0 text left =
    lexed_pieces text short utf8 ∙ ap (λ l. verdict_of (start_at text).0 (pieces_at (start_at text).1).0 text l) rest in
    subst (IsLexed text) (comes ∙ stops (start_at text).0 (pieces_at (start_at text).1).0 text left some) (verdict_said text)
  where
    stops : (first : LineStart) (ps : List Piece) (text left : List ℕ) → 0 < length left → verdict_of first ps text left ≡ Err (fault_at left (length text - length left))
    stops first ps text [] some = let bad : ⊥ = omega (arith, some) in absurd bad
    stops first ps text (c ∷ cs) some = refl

refused_at : (file : ℕ) (text left : List ℕ) (byte : ℕ) (opens : Bool) → opens_comment left ≡ opens → IsLexed text (Err (fault_at left byte))
    → IsRefused file text (refusal_at file byte opens)
refused_at file text left byte true is stops =
    let same : fault_at left byte ≡ open_comment byte = rw is refl in
    (subst (λ f. IsLexed text (Err f)) same stops, refl)
refused_at file text left byte false is stops =
    let same : fault_at left byte ≡ bad_token byte = rw is refl in
    (subst (λ f. IsLexed text (Err f)) same stops, refl)

pub lexing_refused : (file : ℕ) (text left : List ℕ) (tokens : List PlacedToken) (o : Option Found) (e : LexError) → length text ≤ most_bytes → IsUtf8 text
    → IsLexing file text tokens left → (length left == 0) ≡ false → option_map found_of o ≡ word_at left → o ≡ None
    → e ≡ refusal_at file (length text - length left) (opens_comment left) → IsRefused file text e
lexing_refused file text left tokens o e short utf8 far some found none is =
    let stops = lexing_stops file text tokens left short utf8 far (some_left left some) (sym found ∙ ap (λ x. option_map found_of x) none) in
    subst (IsRefused file text) (sym is) (refused_at file text left (length text - length left) (opens_comment left) refl stops)
  where
    some_left : (left : List ℕ) → (length left == 0) ≡ false → 0 < length left
    some_left [] some = let bad : true ≡ false = some in absurd cc
    some_left (c ∷ cs) some = omega arith

-- ---- the piece as it is found

pub found_shorter : (left : List ℕ) (o : Option Found) (f : Found) → option_map found_of o ≡ word_at left → o ≡ Some f → length f.behind.now < length left
found_shorter left o f found is =
    piece_shorter left (option_map seen.word_of f.word) f.behind.now (sym found ∙ ap (λ x. option_map found_of x) is)

pub lexing_found : (file : ℕ) (text left : List ℕ) (tokens now : List PlacedToken) (o : Option Found) (f : Found) → IsLexing file text tokens left
    → option_map found_of o ≡ word_at left → o ≡ Some f
    → now ≡ tokens ++ in_file file (in_front (option_map seen.word_of f.word) (length text - length left) (length left - length f.behind.now) [])
    → IsLexing file text now f.behind.now
lexing_found file text left tokens now o f far found is pushed =
    subst (λ ts. IsLexing file text ts f.behind.now) (sym pushed)
    (lexing_on file text tokens left (option_map seen.word_of f.word) f.behind.now far (sym found ∙ ap (λ x. option_map found_of x) is))

-- ---- tokens end in the file

ends_in : (file to from : ℕ) (ts : List Token) → to ≤ most_bytes → StandBetween from to ts → (from ≤ to) × EndInFile (in_file file ts)
unfolding StandBetween
ends_in file to from [] small stand = (stand, tt)
ends_in file to from (t ∷ ts) small stand =
    let others = ends_in file to (t.byte + t.length) ts small stand.2 in
    (omega (arith, stand.0, stand.1, others.0), (omega (arith, others.0, small), others.1))

tokens_end : (file : ℕ) (text : List ℕ) (ts : List Token) → IsLexed text (Ok ts) → EndInFile (in_file file ts)
tokens_end file text ts is = (ends_in file (length text) 0 ts is.0 (tokens_stand text ts is.2)).1

lexed_end : (file : ℕ) (text : List ℕ) (tokens : List PlacedToken) → AreLexed file text tokens → EndInFile tokens
lexed_end file text tokens are = subst EndInFile (sym are.placed) (tokens_end file text are.plain are.lexed)

pub all_end : (file : ℕ) (text : List ℕ) (r : Result (Vec seen_token.Token Global) LexError) → IfOk r (λ ts. AreLexed file text (seen.tokens_of ts.items))
    → IfOk r (λ ts. EndInFile (seen.tokens_of ts.items))
all_end file text (Ok ts) are = lexed_end file text (seen.tokens_of ts.items) are
all_end file text (Err e) are = tt
