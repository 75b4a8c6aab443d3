-- The piece that is found at the front of a text stands there.
use Rattle.std.proofs.Common.{◌≡◌, ℕ, Bool, true, false, ◌==◌, List, [], ◌∷◌, ◌++◌, take, drop, Option, None, Some, is_some, refl, sym, ap, subst, ◌∙◌, codes}
use Rattle.std.proofs.Common.{arith}
use Rattle.std.proofs.lemmas.Bool.{and_from, or_from, eqb-true, not-true, not_from_false}
use Rattle.std.proofs.lemmas.List.{append_assoc, take-append-drop}
use Rattle.std.proofs.lemmas.Slice.Eq.{bytes_eq-Decides}
use Rattle.std.specs.Char.{is_ascii_digit}
use Rattle.std.specs.List.{list_all}
use Rattle.std.specs.Option.{option_map}
use Rattle.std.specs.Str.{bytes_eq}
use Rattle.idl_text_model.proofs.Choices.{chosen, came}
use Rattle.idl_text_model.proofs.CommentLaws.{comment_said}
use Rattle.idl_text_model.proofs.MarkLaws.{mark_said}
use Rattle.idl_text_model.proofs.RunLaws.{run_whole, run_passes, run_over}
use Rattle.idl_text_model.specs.Numbers.{number_of_word}
use Rattle.idl_text_model.specs.Pieces.{Piece, blanks, new_line, line_comment, block_comment, name, directive_text, is_blank, is_in_line}
use Rattle.idl_text_model.specs.Pieces.{opens_comment, closes_comment, is_directive, next_byte, is_none_of, start_ends, Stands}
use Rattle.idl_text_model.specs.Readings.{directive_at, start_at, comment_at, numeral_at, piece_at}
use Rattle.literal_model.specs.Shapes.{is_word, run_of, behind_run}
use Rattle.uno_model.proofs.Options.{none_some}
use Rattle.uno_model.specs.Names.{begins_identifier, goes_on_identifier}
use Rattle.uno_model.specs.Sound.{is_some_list}

-- ---- the start of a line

-- what stands behind the blanks of a line: a directive up to the line's end, or neither a blank nor a `#`
abbrev HasDirective : (text : List ℕ) → Option (List ℕ) × List ℕ → Type 0
HasDirective text x = (text ≡ directive_text x.0 ++ x.1) × (is_directive x.0 ≡ true) × (start_ends x.0 (next_byte x.1) ≡ true)

directive_said : (text : List ℕ) → is_none_of is_blank (next_byte text) ≡ true → HasDirective text (directive_at text)
directive_said [] over = (refl, refl, refl)
directive_said (c ∷ cs) over = by_test (c == 35) refl
  where
    by_test : (b : Bool) → (c == 35) ≡ b → HasDirective (c ∷ cs) (directive_at (c ∷ cs))
    by_test true e =
        let hash : c ≡ 35 = eqb-true c 35 e in
        let body : HasDirective (35 ∷ cs) (Some (run_of is_in_line cs), behind_run is_in_line cs) =
        (ap (λ x. 35 ∷ x) (run_whole is_in_line cs), run_passes is_in_line cs, run_over is_in_line cs) in
        rw e (subst (λ h. HasDirective (h ∷ cs) (Some (run_of is_in_line cs), behind_run is_in_line cs)) (sym hash) body)
    by_test false e = rw e (refl, refl, not_from_false _ (or_from (is_blank c) (c == 35) (not-true (is_blank c) over) e))

pub start_said : (text : List ℕ) → Stands (new_line (start_at text).0) (10 ∷ text) (start_at text).1
start_said text =
    let line = directive_said (behind_run is_blank text) (run_over is_blank text) in
    let front = run_of is_blank text in
    let found = directive_at (behind_run is_blank text) in
    let whole : text ≡ (front ++ directive_text found.0) ++ found.1 =
    run_whole is_blank text ∙ ap (λ x. front ++ x) line.0 ∙ sym (append_assoc front (directive_text found.0) found.1) in
    record { spelled = ap (λ x. 10 ∷ x) whole; formed = and_from (list_all is_blank front) _ (run_passes is_blank text) line.1; over = line.2 }

-- ---- each piece

-- a run that begins is not empty
some_run : (test : ℕ → Bool) (c : ℕ) (cs : List ℕ) → test c ≡ true → run_of test (c ∷ cs) ≡ c ∷ run_of test cs
unfolding run_of
some_run test c cs here = rw here refl

blanks_said : (c : ℕ) (cs : List ℕ) → is_blank c ≡ true → Stands (blanks (run_of is_blank (c ∷ cs))) (c ∷ cs) (behind_run is_blank (c ∷ cs))
blanks_said c cs here =
    let some : is_some_list (run_of is_blank (c ∷ cs)) ≡ true = rw (some_run is_blank c cs here) refl in
    record { spelled = run_whole is_blank (c ∷ cs); formed = and_from _ _ some (run_passes is_blank (c ∷ cs)); over = run_over is_blank (c ∷ cs) }

letter_goes_on : (c : ℕ) → begins_identifier c ≡ true → goes_on_identifier c ≡ true
letter_goes_on c letter = grind (arith, letter)

name_said : (c : ℕ) (cs : List ℕ) → begins_identifier c ≡ true
    → Stands (name (run_of goes_on_identifier (c ∷ cs))) (c ∷ cs) (behind_run goes_on_identifier (c ∷ cs))
name_said c cs letter =
    let first = some_run goes_on_identifier c cs (letter_goes_on c letter) in
    let word : is_word (run_of goes_on_identifier (c ∷ cs)) ≡ true = rw first (and_from (begins_identifier c) _ letter (run_passes goes_on_identifier cs)) in
    record { spelled = run_whole goes_on_identifier (c ∷ cs); formed = word; over = run_over goes_on_identifier (c ∷ cs) }

numeral_said : (text : List ℕ) (p : Piece) (behind : List ℕ) → numeral_at text ≡ Some (p, behind) → Stands p text behind
numeral_said text p behind read =
    chosen (is_some (number_of_word (run_of goes_on_identifier text))) _ _ (p, behind) read
    (λ is e. came (λ x. Stands x.0 text x.1) e (record { spelled = run_whole goes_on_identifier text; formed = is; over = run_over goes_on_identifier text }))
    (λ other e. absurd (none_some e))

-- behind two bytes
behind_two : (c d : ℕ) (text : List ℕ) → bytes_eq (take 2 text) (c ∷ d ∷ []) ≡ true → text ≡ c ∷ d ∷ drop 2 text
behind_two c d text here = sym (take-append-drop 2 text) ∙ ap (λ x. x ++ drop 2 text) ((bytes_eq-Decides (take 2 text) (c ∷ d ∷ [])).0 here)

line_comment_said : (text : List ℕ) → bytes_eq (take 2 text) (codes "//") ≡ true
    → Stands (line_comment (run_of is_in_line (drop 2 text))) text (behind_run is_in_line (drop 2 text))
line_comment_said text here = record {
  spelled = behind_two 47 47 text here ∙ ap (λ x. 47 ∷ 47 ∷ x) (run_whole is_in_line (drop 2 text));
  formed = run_passes is_in_line (drop 2 text);
  over = run_over is_in_line (drop 2 text);
}

block_comment_said : (text : List ℕ) (p : Piece) (behind : List ℕ) (o : Option (List ℕ × List ℕ)) → opens_comment text ≡ true → comment_at (drop 2 text) ≡ o
    → option_map {U = Piece × List ℕ} (λ (x : List ℕ × List ℕ). (block_comment x.0, x.1)) o ≡ Some (p, behind) → Stands p text behind
block_comment_said text p behind None here read e = absurd (none_some e)
block_comment_said text p behind (Some x) here read e =
    let comment = comment_said (drop 2 text) x.0 x.1 read in
    let whole : text ≡ 47 ∷ 42 ∷ ((x.0 ++ codes "*/") ++ x.1) =
    behind_two 47 42 text here ∙ ap (λ y. 47 ∷ 42 ∷ y) (comment.0 ∙ sym (append_assoc x.0 (codes "*/") x.1)) in
    came (λ (y : Piece × List ℕ). Stands y.0 text y.1) e (record { spelled = whole; formed = not_from_false (closes_comment x.0) comment.1; over = refl })

feed_said : (c : ℕ) (cs : List ℕ) → (c == 10) ≡ true → Stands (new_line (start_at cs).0) (c ∷ cs) (start_at cs).1
feed_said c cs feed = subst (λ y. Stands (new_line (start_at cs).0) (y ∷ cs) (start_at cs).1) (sym (eqb-true c 10 feed)) (start_said cs)

-- what is found stands
pub stands_said : (text : List ℕ) (p : Piece) (behind : List ℕ) → piece_at text ≡ Some (p, behind) → Stands p text behind
unfolding piece_at
stands_said [] p behind read = absurd (none_some read)
stands_said (c ∷ cs) p behind read =
    chosen (is_blank c) _ _ (p, behind) read (λ here e. came (λ x. Stands x.0 (c ∷ cs) x.1) e (blanks_said c cs here))
    (λ not_blank later.
    chosen (c == 10) _ _ (p, behind) later (λ here e. came (λ x. Stands x.0 (c ∷ cs) x.1) e (feed_said c cs here))
    (λ not_feed later.
    chosen (begins_identifier c) _ _ (p, behind) later (λ here e. came (λ x. Stands x.0 (c ∷ cs) x.1) e (name_said c cs here))
    (λ not_letter later.
    chosen (is_ascii_digit c) _ _ (p, behind) later (λ here e. numeral_said (c ∷ cs) p behind e)
    (λ not_digit later.
    chosen (bytes_eq (take 2 (c ∷ cs)) (codes "//")) _ _ (p, behind) later (λ here e. came (λ x. Stands x.0 (c ∷ cs) x.1) e (line_comment_said (c ∷ cs) here))
    (λ not_line later.
    chosen (opens_comment (c ∷ cs)) _ _ (p, behind) later (λ here e. block_comment_said (c ∷ cs) p behind (comment_at (drop 1 cs)) here refl e)
    (λ not_block e. mark_said (c ∷ cs) p behind not_line not_block e))))))
