-- A file has one verdict, and it is the one that is computed.
use Rattle.std.proofs.Common.{◌≡◌, ℕ, zero, suc, ◌+◌, ◌-◌, ◌<◌, ◌≤◌, Bool, true, false, List, [], ◌∷◌, length, take, None, Result, Ok, Err, if◌then◌else◌}
use Rattle.std.proofs.Common.{refl, sym, ap, subst, ◌∙◌, arith, ◌⊎◌, inl, inr}
use Rattle.std.proofs.Math.Seq.{take-length}
use Rattle.std.proofs.lemmas.Bool.{lt-ltb, le-ltb, false_from_ne_true, false≢true, cases_lt}
use Rattle.std.proofs.lemmas.Str.{IsUtf8-nil, IsUtf8-from_is_utf8, is_utf8-from_IsUtf8, utf8_valid_len-IsValidUpTo}
use Rattle.std.specs.Str.{IsUtf8, is_utf8, IsValidUpTo}
use Rattle.std.specs.Str.Lossy.{utf8_valid_len}
use Rattle.idl_text_model.proofs.FileLaws.{none_found, none_stands, none_at_end, behind_is_shorter, file_back, file_said, found_first, found_pieces}
use Rattle.idl_text_model.specs.LexVerdicts.{LexFault, too_long, bad_utf8, bad_token, open_comment, most_bytes, IsStuck, IsLexed}
use Rattle.idl_text_model.specs.Pieces.{LineStart, Piece, new_line, ArePieces, IsFile, opens_comment}
use Rattle.idl_text_model.specs.Readings.{piece_at, fault_at, verdict_of, lexed}
use Rattle.idl_text_model.specs.Tokens.{Token, tokens_of, IsTokens}

-- ---- tokens of a file

pub tokens_back : (text : List ℕ) (tokens : List Token) → IsTokens text tokens → tokens ≡ tokens_of (found_first text) (found_pieces text).0
tokens_back text tokens is =
    let found = file_back is.first is.pieces text [] is.file none_at_end in
    is.words ∙ ap (λ first. tokens_of first is.pieces) (sym found.0) ∙ ap (λ (x : List Piece × List ℕ). tokens_of (found_first text) x.0) (sym found.1)

pub tokens_have_one : (text : List ℕ) (tokens others : List Token) → IsTokens text tokens → IsTokens text others → tokens ≡ others
tokens_have_one text tokens others is are = tokens_back text tokens is ∙ sym (tokens_back text others are)

-- ---- each verdict is the one that is computed

long_back : (text : List ℕ) → most_bytes < length text → Err too_long ≡ lexed text
unfolding lexed
long_back text long = rw (lt-ltb most_bytes (length text) long) refl

utf8_back : (text : List ℕ) (byte : ℕ) → length text ≤ most_bytes → IsValidUpTo text byte → Err (bad_utf8 byte) ≡ lexed text
unfolding lexed
utf8_back text byte short valid =
    let whole : ¬ (IsUtf8 text) = subst (λ x. ¬ (IsUtf8 x)) (take-length text) (valid.longest (length text) valid.short) in
    let not_utf8 : is_utf8 text ≡ false = false_from_ne_true (is_utf8 text) (λ e. whole (IsUtf8-from_is_utf8 text e)) in
    rw (le-ltb most_bytes (length text) short, not_utf8, utf8_valid_len-IsValidUpTo text byte valid) refl

pieces_verdict : (text : List ℕ) → length text ≤ most_bytes → IsUtf8 text
    → lexed text ≡ verdict_of (found_first text) (found_pieces text).0 text (found_pieces text).1
unfolding lexed
pieces_verdict text short utf8 = rw (le-ltb most_bytes (length text) short, is_utf8-from_IsUtf8 text utf8) refl

verdict_found : (first : LineStart) (ps : List Piece) (text left : List ℕ) → IsFile first ps text left → piece_at left ≡ None
    → verdict_of (found_first text) (found_pieces text).0 text (found_pieces text).1 ≡ verdict_of first ps text left
verdict_found first ps text left file none =
    let found = file_back first ps text left file none in
    ap (λ l. verdict_of l (found_pieces text).0 text (found_pieces text).1) found.0 ∙ ap (λ (x : List Piece × List ℕ). verdict_of first x.0 text x.1) found.1

tokens_verdict : (text : List ℕ) (tokens : List Token) → length text ≤ most_bytes → IsUtf8 text → IsTokens text tokens → Ok tokens ≡ lexed text
tokens_verdict text tokens short utf8 is =
    ap Ok is.words ∙ sym (verdict_found is.first is.pieces text [] is.file none_at_end) ∙ sym (pieces_verdict text short utf8)

stuck_at : (first : LineStart) (ps : List Piece) (text left : List ℕ) (byte : ℕ) → byte + length left ≡ length text → byte < length text
    → verdict_of first ps text left ≡ Err (fault_at left byte)
stuck_at first ps text [] byte place inside = let bad : ⊥ = omega (arith, place, inside) in absurd bad
stuck_at first ps text (c ∷ cs) byte place inside =
    let same : length text - length (c ∷ cs) ≡ byte = omega (arith, place) in
    ap (λ n. Err (fault_at (c ∷ cs) n)) same

stuck_verdict : (text : List ℕ) (byte : ℕ) (left : List ℕ) → length text ≤ most_bytes → IsUtf8 text → IsStuck text byte left
    → Err (fault_at left byte) ≡ lexed text
stuck_verdict text byte left short utf8 stuck =
    sym (stuck_at stuck.first stuck.pieces text left byte stuck.place stuck.inside)
    ∙ sym (verdict_found stuck.first stuck.pieces text left stuck.file (none_found left stuck.none)) ∙ sym (pieces_verdict text short utf8)

pub verdict_back : (text : List ℕ) (out : Result (List Token) LexFault) → IsLexed text out → out ≡ lexed text
verdict_back text (Ok tokens) is = tokens_verdict text tokens is.0 is.1 is.2
verdict_back text (Err too_long) is = long_back text is
verdict_back text (Err (bad_utf8 byte)) is = utf8_back text byte is.0 is.1
verdict_back text (Err (bad_token byte)) is =
    let fault : fault_at is.2 byte ≡ bad_token byte = rw is.4 refl in
    ap Err (sym fault) ∙ stuck_verdict text byte is.2 is.0 is.1 is.3
verdict_back text (Err (open_comment byte)) is =
    let fault : fault_at is.2 byte ≡ open_comment byte = rw is.4 refl in
    ap Err (sym fault) ∙ stuck_verdict text byte is.2 is.0 is.1 is.3

pub verdicts_have_one : (text : List ℕ) (out other : Result (List Token) LexFault) → IsLexed text out → IsLexed text other → out ≡ other
verdicts_have_one text out other is also = verdict_back text out is ∙ sym (verdict_back text other also)

-- ---- a file has a verdict

-- the longest front that is UTF-8, among those of at most so many bytes: no longer one of the text is
abbrev HasFront : List ℕ → Type 0
HasFront text = (n : ℕ) × (n ≤ length text) × IsUtf8 (take n text) × ((m : ℕ) → n < m → m ≤ length text → ¬ (IsUtf8 (take m text)))

front_from : (text : List ℕ) (n : ℕ) → n ≤ length text → ((m : ℕ) → n < m → m ≤ length text → ¬ (IsUtf8 (take m text))) → HasFront text
front_from text zero within none = (zero, within, IsUtf8-nil, none)
front_from text (suc n) within none = by_test (is_utf8 (take (suc n) text)) refl (front_from text n (omega (arith, within)))
  where
    below : ¬ (IsUtf8 (take (suc n) text)) → (m : ℕ) → n < m → m ≤ length text → ¬ (IsUtf8 (take m text))
    below not_here m more inside utf8 = by_order (cases_lt (suc n) m)
      where
        by_order : (suc n < m) ⊎ (m ≤ suc n) → ⊥
        by_order (inl later) = none m later inside utf8
        by_order (inr equal) = let same : m ≡ suc n = omega (arith, more, equal) in not_here (subst (λ k. IsUtf8 (take k text)) same utf8)

    by_test : (b : Bool) → is_utf8 (take (suc n) text) ≡ b → (((m : ℕ) → n < m → m ≤ length text → ¬ (IsUtf8 (take m text))) → HasFront text) → HasFront text
    by_test true e inner = (suc n, within, IsUtf8-from_is_utf8 (take (suc n) text) e, none)
    by_test false e inner = inner (below (λ utf8. let wrong : false ≡ true = sym e ∙ is_utf8-from_IsUtf8 (take (suc n) text) utf8 in false≢true wrong))

past_end : (text : List ℕ) (m : ℕ) → length text ≤ m → take m text ≡ text
past_end [] zero long = refl
past_end [] (suc m) long = refl
past_end (c ∷ cs) zero long = let bad : ⊥ = omega (arith, long) in absurd bad
past_end (c ∷ cs) (suc m) long = ap (λ x. c ∷ x) (past_end cs m (omega (arith, long)))

some_front : (text : List ℕ) → is_utf8 text ≡ false → IsValidUpTo text (utf8_valid_len text)
some_front text e = as_computed (found (front_from text (length text) (omega arith) (λ m more inside. let bad : ⊥ = omega (arith, more, inside) in absurd bad)))
  where
    not_whole : ¬ (IsUtf8 text)
    not_whole utf8 = let wrong : false ≡ true = sym e ∙ is_utf8-from_IsUtf8 text utf8 in false≢true wrong

    found : HasFront text → (n : ℕ) × IsValidUpTo text n
    found (n, within, front, none) = (n, record { short = short; front = front; longest = longest })
      where
        all : ¬ (length text ≤ n)
        all long = not_whole (subst IsUtf8 (past_end text n long) front)

        short : n < length text
        short = by_order (cases_lt n (length text))
          where
            by_order : (n < length text) ⊎ (length text ≤ n) → n < length text
            by_order (inl less) = less
            by_order (inr long) = absurd (all long)

        longest : (m : ℕ) → n < m → ¬ (IsUtf8 (take m text))
        longest m more utf8 = by_order (cases_lt (length text) m)
          where
            by_order : (length text < m) ⊎ (m ≤ length text) → ⊥
            by_order (inl past) = not_whole (subst IsUtf8 (past_end text m (omega (arith, past))) utf8)
            by_order (inr inside) = none m more inside utf8

    as_computed : (n : ℕ) × IsValidUpTo text n → IsValidUpTo text (utf8_valid_len text)
    as_computed (n, valid) = subst (IsValidUpTo text) (sym (utf8_valid_len-IsValidUpTo text n valid)) valid

-- what is left of pieces is no longer than the text
left_short : (ps : List Piece) (text left : List ℕ) → ArePieces ps text left → length left ≤ length text
unfolding ArePieces
left_short [] text left are = omega (arith, ap length are)
left_short (p ∷ ps) text left (behind, stands, others) =
    let inner = left_short ps behind left others in
    let shorter = behind_is_shorter p text behind stands in
    omega (arith, inner, shorter)

file_left_short : (first : LineStart) (ps : List Piece) (text left : List ℕ) → IsFile first ps text left → length left ≤ length text
file_left_short first ps text left file =
    let inner = left_short ps file.behind left file.follow in
    let shorter = behind_is_shorter (new_line first) (10 ∷ text) file.behind file.starts in
    omega (arith, inner, shorter)

stuck_said : (text : List ℕ) (first : LineStart) (ps : List Piece) (c : ℕ) (cs : List ℕ) → IsFile first ps text (c ∷ cs) → piece_at (c ∷ cs) ≡ None
    → IsStuck text (length text - length (c ∷ cs)) (c ∷ cs)
stuck_said text first ps c cs file none =
    let short = file_left_short first ps text (c ∷ cs) file in
    record {
      first = first;
      pieces = ps;
      file = file;
      place = omega (arith, short);
      inside = omega (arith, short);
      none = none_stands (c ∷ cs) none;
    }

fault_said : (text : List ℕ) (byte : ℕ) (left : List ℕ) (opens : Bool) → opens_comment left ≡ opens → length text ≤ most_bytes → IsUtf8 text
    → IsStuck text byte left
    → IsLexed text (Err (if opens then open_comment byte else bad_token byte))
fault_said text byte left true opens short utf8 stuck = (short, utf8, left, stuck, opens)
fault_said text byte left false opens short utf8 stuck = (short, utf8, left, stuck, opens)

pieces_said : (text : List ℕ) (first : LineStart) (ps : List Piece) (left : List ℕ) → length text ≤ most_bytes → IsUtf8 text → IsFile first ps text left
    → piece_at left ≡ None → IsLexed text (verdict_of first ps text left)
pieces_said text first ps [] short utf8 file none = (short, utf8, record { first = first; pieces = ps; file = file; words = refl })
pieces_said text first ps (c ∷ cs) short utf8 file none =
    fault_said text (length text - length (c ∷ cs)) (c ∷ cs) (opens_comment (c ∷ cs)) refl short utf8 (stuck_said text first ps c cs file none)

pub verdict_said : (text : List ℕ) → IsLexed text (lexed text)
verdict_said text = by_length (cases_lt most_bytes (length text))
  where
    by_utf8 : (b : Bool) → is_utf8 text ≡ b → length text ≤ most_bytes → IsLexed text (lexed text)
    by_utf8 true e short =
        let utf8 = IsUtf8-from_is_utf8 text e in
        let file = file_said text in
        subst (IsLexed text) (sym (pieces_verdict text short utf8))
        (pieces_said text (found_first text) (found_pieces text).0 (found_pieces text).1 short utf8 file.0 file.1)
    by_utf8 false e short = let valid = some_front text e in subst (IsLexed text) (utf8_back text (utf8_valid_len text) short valid) (short, valid)

    by_length : (most_bytes < length text) ⊎ (length text ≤ most_bytes) → IsLexed text (lexed text)
    by_length (inl long) = subst (IsLexed text) (long_back text long) long
    by_length (inr short) = by_utf8 (is_utf8 text) refl short

-- ---- the order of faults

pub stuck_once : (text : List ℕ) (byte other : ℕ) (left rest : List ℕ) → IsStuck text byte left → IsStuck text other rest → (byte ≡ other) × (left ≡ rest)
stuck_once text byte other left rest here there =
    let first = file_back here.first here.pieces text left here.file (none_found left here.none) in
    let second = file_back there.first there.pieces text rest there.file (none_found rest there.none) in
    let same : left ≡ rest = sym (ap (λ (x : List Piece × List ℕ). x.1) first.1) ∙ ap (λ (x : List Piece × List ℕ). x.1) second.1 in
    let long : length left ≡ length rest = ap length same in
    (omega (arith, long, here.place, there.place), same)

pub length_first : (text : List ℕ) (out : Result (List Token) LexFault) → most_bytes < length text → IsLexed text out → out ≡ Err too_long
length_first text out long is = verdict_back text out is ∙ sym (long_back text long)

pub utf8_first : (text : List ℕ) (byte : ℕ) (out : Result (List Token) LexFault) → length text ≤ most_bytes → IsValidUpTo text byte → IsLexed text out
    → out ≡ Err (bad_utf8 byte)
utf8_first text byte out short valid is = verdict_back text out is ∙ sym (utf8_back text byte short valid)
