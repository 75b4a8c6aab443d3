-- The lines of a text, both ways.
use Rattle.std.proofs.Common.{◌≡◌, ℕ, Bool, true, false, not, ◌&&◌, ◌==◌, List, [], ◌∷◌, ◌++◌, Result, Ok, Err, if◌then◌else◌, refl, ap, ap₂, ◌∙◌}
use Rattle.std.proofs.lemmas.Bool.{and_parts, and_from, not-true, not_from_false, eqb-true}
use Rattle.std.proofs.lemmas.List.{append_assoc}
use Rattle.std.proofs.lemmas.List.Concat.{flat_map-append}
use Rattle.std.specs.List.{list_all}
use Rattle.std.specs.Prelude.{nat_lt}
use Rattle.registry_text_model.specs.Lines.{text_of}
use Rattle.registry_text_model.specs.Reading.{is_one_line}
use Rattle.registry_reading_model.proofs.ChangedVerdictLaws.{run_before}
use Rattle.registry_reading_model.proofs.TextLaws.{line_is_text}
use Rattle.registry_reading_model.specs.Changes.{Change, same}
use Rattle.registry_reading_model.specs.States.{State, unread, Wrong, step, run, on_read}
use Rattle.registry_reading_model.specs.TextLines.{lines_in, in_first, is_plain, all_plain}

-- ---- lines of texts

pub text_of_append : (xs ys : List (List ℕ)) → text_of (xs ++ ys) ≡ text_of xs ++ text_of ys
unfolding text_of
text_of_append xs ys = flat_map-append (λ (line : List ℕ). line ++ 10 ∷ []) xs ys

pub one_more_line : (here behind : List ℕ) → is_one_line here ≡ true → lines_in (here ++ 10 ∷ behind) ≡ here ∷ lines_in behind
unfolding lines_in is_one_line
one_more_line [] behind one = refl
one_more_line (c ∷ cs) behind one =
    let parts = and_parts (not (c == 10)) (is_one_line cs) one in
    rw (not-true (c == 10) parts.0, one_more_line cs behind parts.1) refl

pub no_line : (rest : List ℕ) → is_one_line rest ≡ true → lines_in rest ≡ []
unfolding lines_in is_one_line
no_line [] one = refl
no_line (c ∷ cs) one =
    let parts = and_parts (not (c == 10)) (is_one_line cs) one in
    rw (not-true (c == 10) parts.0, no_line cs parts.1) refl

-- lines that end, and what stands behind the last of them
pub lines_and_rest : (lines : List (List ℕ)) (rest : List ℕ) → list_all is_one_line lines ≡ true → is_one_line rest ≡ true
    → lines_in (text_of lines ++ rest) ≡ lines
unfolding text_of
lines_and_rest [] rest all one = no_line rest one
lines_and_rest (line ∷ lines) rest all one =
    let parts = and_parts (is_one_line line) (list_all is_one_line lines) all in
    ap lines_in (append_assoc (line ++ 10 ∷ []) (text_of lines) rest ∙ append_assoc line (10 ∷ []) (text_of lines ++ rest))
    ∙ one_more_line line (text_of lines ++ rest) parts.0 ∙ ap (λ ls. line ∷ ls) (lines_and_rest lines rest parts.1 one)

pub lines_back : (lines : List (List ℕ)) → list_all is_one_line lines ≡ true → lines_in (text_of lines) ≡ lines
unfolding text_of lines_in
lines_back [] all = refl
lines_back (line ∷ lines) all =
    let parts = and_parts (is_one_line line) (list_all is_one_line lines) all in
    ap lines_in (append_assoc line (10 ∷ []) (text_of lines)) ∙ one_more_line line (text_of lines) parts.0
    ∙ ap (λ ls. line ∷ ls) (lines_back lines parts.1)

-- each text is its lines, and what stands behind the last of them
pub text_split : (text : List ℕ) → (rest : List ℕ) × (text ≡ text_of (lines_in text) ++ rest) × (is_one_line rest ≡ true) × (list_all is_one_line (lines_in text) ≡ true)
unfolding text_of lines_in is_one_line
text_split [] = ([], refl, refl, refl)
text_split (c ∷ cs) = by_test (c == 10) refl (lines_in cs) (text_split cs)
  where
    Split : List ℕ → List (List ℕ) → Type 0
    Split text lines = (rest : List ℕ) × (text ≡ text_of lines ++ rest) × (is_one_line rest ≡ true) × (list_all is_one_line lines ≡ true)

    by_test : (t : Bool) → (c == 10) ≡ t → (lines : List (List ℕ)) → Split cs lines → Split (c ∷ cs) (if t then [] ∷ lines else in_first c lines)
    by_test true feed lines split = (split.0, ap₂ (λ d ds. d ∷ ds) (eqb-true c 10 feed) split.1, split.2, split.3)
    by_test false other [] split = (c ∷ split.0, ap (λ ds. c ∷ ds) split.1, and_from (not (c == 10)) _ (not_from_false (c == 10) other) split.2, refl)
    by_test false other (line ∷ lines) split =
        let parts = and_parts (is_one_line line) (list_all is_one_line lines) split.3 in (
          split.0,
          ap (λ ds. c ∷ ds) split.1,
          split.2,
          and_from (is_one_line (c ∷ line)) _ (and_from (not (c == 10)) (is_one_line line) (not_from_false (c == 10) other) parts.0) parts.1,
        )

-- ---- lines that are read

both_parts : (line : List ℕ) → list_all (λ c. nat_lt c 128 && not (c == 10)) line ≡ true → (is_one_line line ≡ true) × (is_plain line ≡ true)
unfolding is_one_line is_plain
both_parts [] all = (refl, refl)
both_parts (c ∷ cs) all =
    let parts = and_parts (nat_lt c 128 && not (c == 10)) (list_all (λ d. nat_lt d 128 && not (d == 10)) cs) all in
    let own = and_parts (nat_lt c 128) (not (c == 10)) parts.0 in
    let rest = both_parts cs parts.1 in
    (and_from (not (c == 10)) _ own.1 rest.0, and_from (nat_lt c 128) _ own.0 rest.1)

text_from : (o : Bool) (st st' : State) (lines : List (List ℕ)) → run o same st lines ≡ Ok st'
    → (list_all is_one_line lines ≡ true) × (all_plain lines ≡ true)
unfolding run
text_from o st st' [] read = (refl, refl)
text_from o st st' (line ∷ lines) read = by_step (step o same st line) refl read (λ next. text_from o next st' lines)
  where
    by_step : (r : Result State Wrong) → step o same st line ≡ r → on_read r (λ next. run o same next lines) ≡ Ok st'
        → ((next : State) → run o same next lines ≡ Ok st' → (list_all is_one_line lines ≡ true) × (all_plain lines ≡ true))
        → (list_all is_one_line (line ∷ lines) ≡ true) × (all_plain (line ∷ lines) ≡ true)
    by_step (Err w) is has rest = let worse : ⊥ = cc in absurd worse
    by_step (Ok next) is has rest =
        let one = both_parts line (line_is_text o st next line is) in
        let more = rest next has in
        (and_from (is_one_line line) _ one.0 more.0, and_from (is_plain line) _ one.1 more.1)

pub lines_are_text : (o : Bool) (c : Change) (lines : List (List ℕ)) (st : State) → run o c unread lines ≡ Ok st
    → (list_all is_one_line lines ≡ true) × (all_plain lines ≡ true)
lines_are_text o c lines st read = let was = run_before o c lines st read in text_from o unread was.0 lines was.1
