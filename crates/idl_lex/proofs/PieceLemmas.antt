-- The word that the piece at the front of a text is, and what is behind it, by the first byte of the text.
use Rattle.std.proofs.Common.{◌≡◌, ℕ, true, false, ◌==◌, List, [], ◌∷◌, take, drop, Option, None, Some, option_map, length, refl, sym, ap, subst, ◌∙◌, arith, codes}
use Rattle.std.proofs.lemmas.Bool.{eq-eqb, ne_eqb, eqb-true}
use Rattle.std.specs.Char.{is_ascii_digit}
use Rattle.std.specs.Str.{bytes_eq}
use Rattle.idl_text_model.specs.Numbers.{number_of_word}
use Rattle.idl_text_model.specs.Pieces.{is_blank, is_in_line, block_comment}
use Rattle.idl_text_model.specs.Readings.{piece_at, start_at, comment_at, mark_at, numeral_at}
use Rattle.idl_text_model.specs.Tokens.{number, word_named, word_of}
use Rattle.literal_model.specs.Shapes.{run_of, behind_run}
use Rattle.uno_model.specs.Names.{begins_identifier, goes_on_identifier}
use Rattle.idl_lex.specs.Lexing.{word_at, worded}

none_at_end : word_at [] ≡ None
unfolding word_at piece_at
none_at_end = refl

blank_at : (c : ℕ) (cs : List ℕ) → is_blank c ≡ true → word_at (c ∷ cs) ≡ Some (None, behind_run is_blank (c ∷ cs))
unfolding word_at piece_at word_of
blank_at c cs here = rw here refl

feed_at : (c : ℕ) (cs : List ℕ) → is_blank c ≡ false → (c == 10) ≡ true → word_at (c ∷ cs) ≡ Some (None, (start_at cs).1)
unfolding word_at piece_at word_of
feed_at c cs blank here = rw (blank, here) refl

name_at : (c : ℕ) (cs : List ℕ) → is_blank c ≡ false → (c == 10) ≡ false → begins_identifier c ≡ true
    → word_at (c ∷ cs) ≡ Some (Some (word_named (run_of goes_on_identifier (c ∷ cs))), behind_run goes_on_identifier (c ∷ cs))
unfolding word_at piece_at word_of
name_at c cs blank feed here = rw (blank, feed, here) refl

number_here : (text : List ℕ) (o : Option ℕ) → number_of_word (run_of goes_on_identifier text) ≡ o
    → worded (numeral_at text) ≡ option_map (λ n. (Some (number n), behind_run goes_on_identifier text)) o
unfolding word_of
number_here text (Some n) is = rw is (rw is refl)
number_here text None is = rw is refl

numeral_here : (c : ℕ) (cs : List ℕ) → is_blank c ≡ false → (c == 10) ≡ false → begins_identifier c ≡ false → is_ascii_digit c ≡ true
    → word_at (c ∷ cs) ≡ option_map (λ n. (Some (number n), behind_run goes_on_identifier (c ∷ cs))) (number_of_word (run_of goes_on_identifier (c ∷ cs)))
unfolding word_at piece_at
numeral_here c cs blank feed letter here =
    rw (blank, feed, letter, here) (number_here (c ∷ cs) (number_of_word (run_of goes_on_identifier (c ∷ cs))) refl)

line_at : (c : ℕ) (cs : List ℕ) → is_blank c ≡ false → (c == 10) ≡ false → begins_identifier c ≡ false → is_ascii_digit c ≡ false
    → bytes_eq (take 2 (c ∷ cs)) (codes "//") ≡ true → word_at (c ∷ cs) ≡ Some (None, behind_run is_in_line (drop 1 cs))
unfolding word_at piece_at word_of
line_at c cs blank feed letter digit here = rw (blank, feed, letter, digit, here) refl

comment_here : (o : Option (List ℕ × List ℕ)) → worded (option_map (λ x. (block_comment x.0, x.1)) o) ≡ option_map (λ x. (None, x.1)) o
unfolding word_of
comment_here (Some x) = refl
comment_here None = refl

comment_word : (c : ℕ) (cs : List ℕ) → is_blank c ≡ false → (c == 10) ≡ false → begins_identifier c ≡ false → is_ascii_digit c ≡ false
    → bytes_eq (take 2 (c ∷ cs)) (codes "//") ≡ false → bytes_eq (take 2 (c ∷ cs)) (codes "/*") ≡ true
    → word_at (c ∷ cs) ≡ option_map (λ x. (None, x.1)) (comment_at (drop 1 cs))
unfolding word_at piece_at
comment_word c cs blank feed letter digit line here = rw (blank, feed, letter, digit, line, here) (comment_here (comment_at (drop 1 cs)))

mark_word : (c : ℕ) (cs : List ℕ) → is_blank c ≡ false → (c == 10) ≡ false → begins_identifier c ≡ false → is_ascii_digit c ≡ false
    → bytes_eq (take 2 (c ∷ cs)) (codes "//") ≡ false → bytes_eq (take 2 (c ∷ cs)) (codes "/*") ≡ false → word_at (c ∷ cs) ≡ worded (mark_at (c ∷ cs))
unfolding word_at piece_at
mark_word c cs blank feed letter digit line block = rw (blank, feed, letter, digit, line, block) refl

-- ---- the same of a text that begins with that byte

pub none_word : (text : List ℕ) → length text ≡ 0 → None ≡ word_at text
none_word [] none = sym none_at_end
none_word (c ∷ cs) none = let bad : ⊥ = omega (arith, none) in absurd bad

pub blank_word : (text : List ℕ) (c : ℕ) (cs : List ℕ) → text ≡ c ∷ cs → is_blank c ≡ true → word_at text ≡ Some (None, behind_run is_blank text)
blank_word text c cs is here = subst (λ x. word_at x ≡ Some (None, behind_run is_blank x)) (sym is) (blank_at c cs here)

pub feed_word : (text : List ℕ) (c : ℕ) (cs : List ℕ) → text ≡ c ∷ cs → is_blank c ≡ false → c ≡ 10 → word_at text ≡ Some (None, (start_at cs).1)
feed_word text c cs is blank here =
    subst (λ x. word_at x ≡ Some (None, (start_at cs).1)) (sym is) (feed_at c cs blank (eq-eqb c 10 here))

pub name_word : (text : List ℕ) (c : ℕ) (cs : List ℕ) → text ≡ c ∷ cs → is_blank c ≡ false → ¬ (c ≡ 10) → begins_identifier c ≡ true
    → word_at text ≡ Some (Some (word_named (run_of goes_on_identifier text)), behind_run goes_on_identifier text)
name_word text c cs is blank feed here =
    subst (λ x. word_at x ≡ Some (Some (word_named (run_of goes_on_identifier x)), behind_run goes_on_identifier x)) (sym is)
    (name_at c cs blank (ne_eqb c 10 feed) here)

pub numeral_word : (text : List ℕ) (c : ℕ) (cs : List ℕ) → text ≡ c ∷ cs → is_blank c ≡ false → ¬ (c ≡ 10) → begins_identifier c ≡ false → is_ascii_digit c ≡ true
    → word_at text ≡ option_map (λ n. (Some (number n), behind_run goes_on_identifier text)) (number_of_word (run_of goes_on_identifier text))
numeral_word text c cs is blank feed letter here =
    subst (λ x. word_at x ≡ option_map (λ n. (Some (number n), behind_run goes_on_identifier x)) (number_of_word (run_of goes_on_identifier x))) (sym is)
    (numeral_here c cs blank (ne_eqb c 10 feed) letter here)

-- behind the tests of the first byte
pub record BeginsOther (text : List ℕ) : Type 0 where
  pub first : ℕ
  pub others : List ℕ
  pub is : text ≡ first ∷ others
  pub blank : is_blank first ≡ false
  pub feed : ¬ (first ≡ 10)
  pub letter : begins_identifier first ≡ false
  pub digit : is_ascii_digit first ≡ false

pub begins_other : (text : List ℕ) (c : ℕ) (cs : List ℕ) → text ≡ c ∷ cs → is_blank c ≡ false → ¬ (c ≡ 10) → begins_identifier c ≡ false → is_ascii_digit c ≡ false
    → BeginsOther text
begins_other text c cs is blank feed letter digit = record { first = c; others = cs; is = is; blank = blank; feed = feed; letter = letter; digit = digit }

pub line_word : (text : List ℕ) → BeginsOther text → bytes_eq (take 2 text) (codes "//") ≡ true → word_at text ≡ Some (None, behind_run is_in_line (drop 2 text))
line_word text b here =
    subst (λ x. word_at x ≡ Some (None, behind_run is_in_line (drop 2 x))) (sym b.is)
    (line_at b.first b.others b.blank (ne_eqb b.first 10 b.feed) b.letter b.digit (subst (λ x. bytes_eq (take 2 x) (codes "//") ≡ true) b.is here))

pub block_word : (text : List ℕ) → BeginsOther text → bytes_eq (take 2 text) (codes "//") ≡ false → bytes_eq (take 2 text) (codes "/*") ≡ true
    → word_at text ≡ option_map (λ x. (None, x.1)) (comment_at (drop 2 text))
block_word text b line here =
    subst (λ x. word_at x ≡ option_map (λ x. (None, x.1)) (comment_at (drop 2 x))) (sym b.is)
    (comment_word b.first b.others b.blank (ne_eqb b.first 10 b.feed) b.letter b.digit (subst (λ x. bytes_eq (take 2 x) (codes "//") ≡ false) b.is line)
    (subst (λ x. bytes_eq (take 2 x) (codes "/*") ≡ true) b.is here))

pub other_word : (text : List ℕ) → BeginsOther text → bytes_eq (take 2 text) (codes "//") ≡ false → bytes_eq (take 2 text) (codes "/*") ≡ false
    → word_at text ≡ worded (mark_at text)
other_word text b line block =
    subst (λ x. word_at x ≡ worded (mark_at x)) (sym b.is)
    (mark_word b.first b.others b.blank (ne_eqb b.first 10 b.feed) b.letter b.digit (subst (λ x. bytes_eq (take 2 x) (codes "//") ≡ false) b.is line)
    (subst (λ x. bytes_eq (take 2 x) (codes "/*") ≡ false) b.is block))

-- ---- the loop over a comment

-- what is behind a comment
abbrev pub end_of : List ℕ → Option (List ℕ)
end_of text = option_map (λ x. x.1) (comment_at text)

here_ends : (text : List ℕ) → bytes_eq (take 2 text) (codes "*/") ≡ true → end_of text ≡ Some (drop 2 text)
unfolding comment_at
here_ends [] here = absurd cc
here_ends (c ∷ cs) here = rw here refl

pub end_here : (rest text behind : List ℕ) → bytes_eq (take 2 rest) (codes "*/") ≡ true → behind ≡ drop 2 rest → end_of rest ≡ end_of text
    → Some behind ≡ end_of text
end_here rest text behind here back same = ap Some back ∙ (sym (here_ends rest here) ∙ same)

second_of : (c : ℕ) (o : Option (List ℕ × List ℕ)) → option_map (λ x. x.1) (option_map {U = List ℕ × List ℕ} (λ (x : List ℕ × List ℕ). (c ∷ x.0, x.1)) o) ≡ option_map (λ x. x.1) o
second_of c (Some x) = refl
second_of c None = refl

pub end_later : (text : List ℕ) → bytes_eq (take 2 text) (codes "*/") ≡ false → end_of (drop 1 text) ≡ end_of text
unfolding comment_at
end_later [] other = refl
end_later (c ∷ cs) other = rw other (sym (second_of c (comment_at cs)))

no_end : end_of [] ≡ None
unfolding comment_at
no_end = refl

pub end_past : (rest text : List ℕ) → (length rest == 0) ≡ true → end_of rest ≡ end_of text → None ≡ end_of text
end_past [] text none same = sym no_end ∙ same
end_past (c ∷ cs) text none same =
    let empty : length (c ∷ cs) ≡ 0 = eqb-true (length (c ∷ cs)) 0 none in
    let bad : ⊥ = omega (arith, empty) in
    absurd bad
