-- A mark that goes on to no longer one is the mark that is found at the front of a text, and what is found there is one.
use Rattle.std.proofs.Common.{◌≡◌, ℕ, Bool, true, false, ◌||◌, List, [], ◌∷◌, ◌++◌, take, drop, Option, None, Some, refl, sym, subst, codes, ◌⊎◌, inl, inr}
use Rattle.std.proofs.lemmas.Bool.{and_parts, or_cases, or_parts, or_from, not-true, not_from_false, both_ways}
use Rattle.std.proofs.lemmas.List.{take-append-drop}
use Rattle.std.proofs.lemmas.Slice.Eq.{bytes_eq-Decides}
use Rattle.std.specs.List.{list_all, list_any}
use Rattle.std.specs.Str.{bytes_eq}
use Rattle.idl_text_model.proofs.Choices.{chosen, came}
use Rattle.idl_text_model.specs.Pieces.{Piece, mark, Stands, marks, is_mark, opens_comment, next_byte, is_none_of, goes_on_mark}
use Rattle.idl_text_model.specs.Readings.{mark_at}
use Rattle.uno_model.proofs.Options.{none_some}

-- what each word of a list passes, a word of the list passes
pub of_each : (test : List ℕ → Bool) (ws : List (List ℕ)) (m : List ℕ) → list_all test ws ≡ true → list_any (bytes_eq m) ws ≡ true → test m ≡ true
of_each test [] m all there = let bad : ⊥ = cc in absurd bad
of_each test (w ∷ ws) m all there =
    by_first (or_cases (bytes_eq m w) (list_any (bytes_eq m) ws) there) (and_parts (test w) (list_all test ws) all) (of_each test ws m)
  where
    by_first : (bytes_eq m w ≡ true) ⊎ (list_any (bytes_eq m) ws ≡ true) → (test w ≡ true) × (list_all test ws ≡ true)
        → (list_all test ws ≡ true → list_any (bytes_eq m) ws ≡ true → test m ≡ true) → test m ≡ true
    by_first (inl here) parts inner = subst (λ x. test x ≡ true) (sym ((bytes_eq-Decides m w).0 here)) parts.0
    by_first (inr later) parts inner = inner parts.1 later

-- a mark of more than one byte is one of two
abbrev is_short : List ℕ → Bool
is_short [] = false
is_short (c ∷ []) = true
is_short (c ∷ d ∷ cs) = bytes_eq (c ∷ d ∷ cs) (codes "::") || bytes_eq (c ∷ d ∷ cs) (codes "...")

pub long_mark : (c d : ℕ) (cs : List ℕ) → is_mark (c ∷ d ∷ cs) ≡ true → (c ∷ d ∷ cs ≡ codes "::") ⊎ (c ∷ d ∷ cs ≡ codes "...")
long_mark c d cs is =
    by_word (or_cases (bytes_eq (c ∷ d ∷ cs) (codes "::")) (bytes_eq (c ∷ d ∷ cs) (codes "...")) (of_each is_short marks (c ∷ d ∷ cs) refl is))
  where
    by_word : (bytes_eq (c ∷ d ∷ cs) (codes "::") ≡ true) ⊎ (bytes_eq (c ∷ d ∷ cs) (codes "...") ≡ true)
        → (c ∷ d ∷ cs ≡ codes "::") ⊎ (c ∷ d ∷ cs ≡ codes "...")
    by_word (inl e) = inl ((bytes_eq-Decides (c ∷ d ∷ cs) (codes "::")).0 e)
    by_word (inr e) = inr ((bytes_eq-Decides (c ∷ d ∷ cs) (codes "...")).0 e)

-- no three bytes of which the first is a mark are one
three_none : (c d e : ℕ) → is_mark (c ∷ []) ≡ true → is_mark (c ∷ d ∷ e ∷ []) ≡ false
three_none c d e one = by_test (is_mark (c ∷ d ∷ e ∷ [])) refl
  where
    by_word : (c ∷ d ∷ e ∷ [] ≡ codes "::") ⊎ (c ∷ d ∷ e ∷ [] ≡ codes "...") → ⊥
    by_word (inl same) = let bad : ⊥ = cc in bad
    by_word (inr same) =
        let first : c ≡ 46 = cc in
        let dot : is_mark (codes ".") ≡ true = subst (λ x. is_mark (x ∷ []) ≡ true) first one in
        both_ways (is_mark (codes ".")) refl dot

    by_test : (b : Bool) → is_mark (c ∷ d ∷ e ∷ []) ≡ b → is_mark (c ∷ d ∷ e ∷ []) ≡ false
    by_test false is = is
    by_test true is = absurd (by_word (long_mark c d (e ∷ []) is))

colons_back : (rest : List ℕ) → mark_at (58 ∷ 58 ∷ rest) ≡ Some (mark (codes "::"), rest)
unfolding mark_at
colons_back [] = refl
colons_back (c ∷ cs) = refl

dots_back : (rest : List ℕ) → mark_at (46 ∷ 46 ∷ 46 ∷ rest) ≡ Some (mark (codes "..."), rest)
unfolding mark_at
dots_back rest = refl

-- a mark of one byte
one_back : (c : ℕ) (rest : List ℕ) → is_mark (c ∷ []) ≡ true → is_none_of (goes_on_mark (c ∷ [])) (next_byte rest) ≡ true
    → mark_at (c ∷ rest) ≡ Some (mark (c ∷ []), rest)
unfolding mark_at
one_back c [] is over = rw is refl
one_back c (d ∷ []) is over =
    let two : is_mark (c ∷ d ∷ []) ≡ false = (or_parts (is_mark (c ∷ d ∷ [])) _ (not-true _ over)).0 in
    rw (two, is) refl
one_back c (d ∷ e ∷ es) is over =
    let two : is_mark (c ∷ d ∷ []) ≡ false = (or_parts (is_mark (c ∷ d ∷ [])) _ (not-true _ over)).0 in
    rw (three_none c d e is, two, is) refl

pub mark_back : (m rest : List ℕ) → is_mark m ≡ true → is_none_of (goes_on_mark m) (next_byte rest) ≡ true → mark_at (m ++ rest) ≡ Some (mark m, rest)
mark_back [] rest is over = let bad : ⊥ = cc in absurd bad
mark_back (c ∷ []) rest is over = one_back c rest is over
mark_back (c ∷ d ∷ cs) rest is over = by_word (long_mark c d cs is)
  where
    by_word : (c ∷ d ∷ cs ≡ codes "::") ⊎ (c ∷ d ∷ cs ≡ codes "...") → mark_at ((c ∷ d ∷ cs) ++ rest) ≡ Some (mark (c ∷ d ∷ cs), rest)
    by_word (inl e) = subst (λ m. mark_at (m ++ rest) ≡ Some (mark m, rest)) (sym e) (colons_back rest)
    by_word (inr e) = subst (λ m. mark_at (m ++ rest) ≡ Some (mark m, rest)) (sym e) (dots_back rest)

-- ---- what is found is a mark that is over

long_over : (m : List ℕ) (next : Option ℕ) → (m ≡ codes "::") ⊎ (m ≡ codes "...") → is_none_of (goes_on_mark m) next ≡ true
long_over m next (inl e) = subst (λ x. is_none_of (goes_on_mark x) next ≡ true) (sym e) (by_next next)
  where
    by_next : (next : Option ℕ) → is_none_of (goes_on_mark (codes "::")) next ≡ true
    by_next None = refl
    by_next (Some c) = refl
long_over m next (inr e) = subst (λ x. is_none_of (goes_on_mark x) next ≡ true) (sym e) (by_next next)
  where
    by_next : (next : Option ℕ) → is_none_of (goes_on_mark (codes "...")) next ≡ true
    by_next None = refl
    by_next (Some c) = refl

-- so many bytes stand in front of the others, as a mark where they are one
front_stands : (n : ℕ) (text : List ℕ) → is_mark (take n text) ≡ true → is_none_of (goes_on_mark (take n text)) (next_byte (drop n text)) ≡ true
    → Stands (mark (take n text)) text (drop n text)
front_stands n text is over = record { spelled = sym (take-append-drop n text); formed = is; over = over }

-- three bytes that are a mark, or all bytes of a text
three_over : (text : List ℕ) → is_mark (take 3 text) ≡ true → is_none_of (goes_on_mark (take 3 text)) (next_byte (drop 3 text)) ≡ true
three_over [] is = refl
three_over (c ∷ []) is = refl
three_over (c ∷ d ∷ []) is = refl
three_over (c ∷ d ∷ e ∷ es) is = long_over (c ∷ d ∷ e ∷ []) (next_byte es) (long_mark c d (e ∷ []) is)

two_over : (text : List ℕ) → is_mark (take 2 text) ≡ true → is_none_of (goes_on_mark (take 2 text)) (next_byte (drop 2 text)) ≡ true
two_over [] is = refl
two_over (c ∷ []) is = refl
two_over (c ∷ d ∷ ds) is = long_over (c ∷ d ∷ []) (next_byte ds) (long_mark c d [] is)

one_over : (text : List ℕ) → is_mark (take 2 text) ≡ false → bytes_eq (take 2 text) (codes "//") ≡ false → opens_comment text ≡ false
    → is_none_of (goes_on_mark (take 1 text)) (next_byte (drop 1 text)) ≡ true
one_over [] two line block = refl
one_over (c ∷ []) two line block = refl
one_over (c ∷ d ∷ ds) two line block = not_from_false _ (or_from (is_mark (c ∷ d ∷ [])) _ two (or_from (bytes_eq (c ∷ d ∷ []) (codes "//")) _ line block))

pub mark_said : (text : List ℕ) (p : Piece) (behind : List ℕ) → bytes_eq (take 2 text) (codes "//") ≡ false → opens_comment text ≡ false
    → mark_at text ≡ Some (p, behind) → Stands p text behind
unfolding mark_at
mark_said text p behind line block read =
    chosen (is_mark (take 3 text)) _ _ (p, behind) read (λ is e. came (λ x. Stands x.0 text x.1) e (front_stands 3 text is (three_over text is)))
    (λ three later.
    chosen (is_mark (take 2 text)) _ _ (p, behind) later (λ is e. came (λ x. Stands x.0 text x.1) e (front_stands 2 text is (two_over text is)))
    (λ two later.
    chosen (is_mark (take 1 text)) _ _ (p, behind) later (λ is e. came (λ x. Stands x.0 text x.1) e (front_stands 1 text is (one_over text two line block)))
    (λ one e. absurd (none_some e))))
