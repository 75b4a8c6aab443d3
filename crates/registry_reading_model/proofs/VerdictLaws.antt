-- The line at which the reading of a text stops is the first wrong one, and a text that is read is that of entities whose names rise.
use Rattle.std.proofs.Common.{◌≡◌, ◌≢◌, ℕ, suc, true, false, not, ◌==◌, List, [], ◌∷◌, ◌++◌, length, map, Ok, Err, refl, sym, ap, subst, ◌∙◌}
use Rattle.std.proofs.lemmas.Bool.{and_parts}
use Rattle.std.proofs.lemmas.List.{append-nil, append_assoc}
use Rattle.std.proofs.lemmas.List.Concat.{flat_map-append}
use Rattle.std.proofs.lemmas.List.Folds.{list_all-append}
use Rattle.std.specs.List.{flat_map, list_all}
use Rattle.uno_model.specs.Entities.{Entity}
use Rattle.uno_model.specs.Registry.{IsRising}
use Rattle.registry_text_model.specs.Lines.{text_of}
use Rattle.registry_text_model.specs.Reading.{are_writable, text_lines, Begin, BeginInOrder, is_one_line, IsBadLine, IsOutOfOrder}
use Rattle.registry_reading_model.proofs.BeginLaws.{entities_of, left_of, text_of_entities, begins}
use Rattle.registry_reading_model.proofs.StateRunLaws.{first_part, run_more, run_unordered, bad_unordered, fits_unordered}
use Rattle.registry_reading_model.proofs.RunsLaws.{runs}
use Rattle.registry_reading_model.specs.Changes.{same, entity_changed}
use Rattle.registry_reading_model.specs.Kept.{unresolved}
use Rattle.registry_reading_model.specs.States.{State, unread, between, bad, out_of_order, step, run}

-- ---- texts in lines

pub text_more : (before : List (List ℕ)) (here behind : List ℕ) → text_of (before ++ here ∷ []) ++ behind ≡ text_of before ++ (here ++ 10 ∷ behind)
unfolding text_of
text_more before here behind =
    let ended : (line : List ℕ) → List ℕ = λ line. line ++ 10 ∷ [] in
    ap (λ cs. cs ++ behind) (flat_map-append ended before (here ∷ []) ∙ ap (λ cs. flat_map ended before ++ cs) (append-nil (here ++ 10 ∷ [])))
    ∙ append_assoc (flat_map ended before) (here ++ 10 ∷ []) behind ∙ ap (λ cs. flat_map ended before ++ cs) (append_assoc here (10 ∷ []) behind)

-- a line ends at the first line feed
pub first_line : (x y u v : List ℕ) → is_one_line x ≡ true → is_one_line y ≡ true → x ++ 10 ∷ u ≡ y ++ 10 ∷ v → x ≡ y
unfolding is_one_line
first_line [] [] u v one two e = refl
first_line [] (d ∷ y) u v one two e =
    let front : 10 ≡ d = cc in
    let not_ten : not (d == 10) ≡ true = (and_parts (not (d == 10)) (is_one_line y) two).0 in
    let ten : not (10 == 10) ≡ true = subst (λ c. not (c == 10) ≡ true) (sym front) not_ten in
    let worse : ⊥ = cc in
    absurd worse
first_line (c ∷ x) [] u v one two e =
    let front : c ≡ 10 = cc in
    let not_ten : not (c == 10) ≡ true = (and_parts (not (c == 10)) (is_one_line x) one).0 in
    let ten : not (10 == 10) ≡ true = subst (λ d. not (d == 10) ≡ true) front not_ten in
    let worse : ⊥ = cc in
    absurd worse
first_line (c ∷ x) (d ∷ y) u v one two e =
    let heads : c ≡ d = cc in
    let tails : x ++ 10 ∷ u ≡ y ++ 10 ∷ v = cc in
    let rest = first_line x y u v (and_parts (not (c == 10)) (is_one_line x) one).1 (and_parts (not (d == 10)) (is_one_line y) two).1 tails in
    cc

one_line_only : (x y v : List ℕ) → is_one_line x ≡ true → x ≢ y ++ 10 ∷ v
unfolding is_one_line
one_line_only x y v one e =
    let all : list_all (λ c. not (c == 10)) (y ++ 10 ∷ v) ≡ true = subst (λ z. is_one_line z ≡ true) e one in
    let parts = and_parts (list_all (λ c. not (c == 10)) y) (list_all (λ c. not (c == 10)) (10 ∷ v)) (sym (list_all-append (λ c. not (c == 10)) y (10 ∷ v)) ∙ all) in
    let worse : false ≡ true = parts.1 in
    cc

nothing_left : (y v : List ℕ) → [] ≢ y ++ 10 ∷ v
nothing_left [] v e = cc
nothing_left (c ∷ y) v e = cc

-- ---- lines that begin a text

begun_in_order : (before : List (List ℕ)) (st : State) → run true same unread before ≡ Ok st → BeginInOrder before
begun_in_order before st read =
    let back = begins true st before read in
    record {
      entities = entities_of st;
      behind = left_of st;
      writable = back.1.writable;
      rising = back.1.rising refl;
      split = text_of_entities st ∙ ap (λ ls. ls ++ left_of st) back.0;
    }

-- what stands at the front of a text is read
front_read : (lines : List (List ℕ)) → Begin lines → (st : State) × (run false same unread lines ≡ Ok st)
front_read lines begun =
    let read = runs false begun.entities begun.writable (λ ordered. let worse : ⊥ = cc in absurd worse) in
    first_part false same unread (between (map (entity_changed unresolved) begun.entities)) lines begun.behind
    (subst (λ ls. run false same unread ls ≡ Ok (between (map (entity_changed unresolved) begun.entities))) begun.split read)

front_read_in_order : (lines : List (List ℕ)) → BeginInOrder lines → (st : State) × (run true same unread lines ≡ Ok st)
front_read_in_order lines begun =
    let read = runs true begun.entities begun.writable (λ ordered. begun.rising) in
    first_part true same unread (between (map (entity_changed unresolved) begun.entities)) lines begun.behind
    (subst (λ ls. run true same unread ls ≡ Ok (between (map (entity_changed unresolved) begun.entities))) begun.split read)

-- a line that may not stand there begins no text with those before it
begins_none : (before : List (List ℕ)) (here : List ℕ) (st : State) → run true same unread before ≡ Ok st → step true same st here ≡ Err bad
    → ¬ Begin (before ++ here ∷ [])
begins_none before here st read wrong begun =
    let front = front_read (before ++ here ∷ []) begun in
    let one : run false same unread (before ++ here ∷ []) ≡ step false same st here = run_more false same unread st before here (run_unordered same unread st before read) in
    let both : Err bad ≡ Ok front.0 = sym (bad_unordered same st here wrong) ∙ sym one ∙ front.1 in
    cc

-- ---- the first wrong line

pub bad_here : (bytes : List ℕ) (before : List (List ℕ)) (here behind : List ℕ) (st : State) → bytes ≡ text_of (before ++ here ∷ []) ++ behind
    → is_one_line here ≡ true
    → run true same unread before ≡ Ok st → step true same st here ≡ Err bad → IsBadLine bytes (suc (length before))
bad_here bytes before here behind st split one read wrong =
    record {
      before = before;
      rest = here ++ 10 ∷ behind;
      split = split ∙ text_more before here behind;
      place = refl;
      begun = begun_in_order before st read;
      wrong = λ line rest same_rest one_line begun.
          begins_none before here st read wrong (subst (λ l. Begin (before ++ l ∷ [])) (sym (first_line here line behind rest one one_line same_rest)) begun);
      unfinished = λ none es writable all. nothing_left here behind (sym none);
    }

pub cut_line : (bytes : List ℕ) (before : List (List ℕ)) (rest : List ℕ) (st : State) → bytes ≡ text_of before ++ rest → rest ≢ []
    → is_one_line rest ≡ true
    → run true same unread before ≡ Ok st → IsBadLine bytes (suc (length before))
cut_line bytes before rest st split some one read =
    record {
      before = before;
      rest = rest;
      split = split;
      place = refl;
      begun = begun_in_order before st read;
      wrong = λ line behind same_rest one_line begun. one_line_only rest line behind one same_rest;
      unfinished = λ none es writable all. some none;
    }

pub unfinished : (bytes : List ℕ) (before : List (List ℕ)) (st : State) → bytes ≡ text_of before → run true same unread before ≡ Ok st
    → ((es : List Entity) → st ≢ between es) → IsBadLine bytes (suc (length before))
unfinished bytes before st split read owed =
    record {
      before = before;
      rest = [];
      split = split ∙ sym (append-nil (text_of before));
      place = refl;
      begun = begun_in_order before st read;
      wrong = λ line behind same_rest one_line begun. nothing_left line behind same_rest;
      unfinished = λ none es writable all. whole es writable all;
    }
  where
    whole : (es : List Entity) → are_writable es ≡ true → before ≢ text_lines es
    whole es writable all =
        let ended = runs false es writable (λ ordered. let worse : ⊥ = cc in absurd worse) in
        let front : run false same unread before ≡ Ok st = run_unordered same unread st before read in
        let both = sym front ∙ ap (run false same unread) all ∙ ended in
        owed (map (entity_changed unresolved) es) cc

pub out_of_order_here : (bytes : List ℕ) (before : List (List ℕ)) (here behind : List ℕ) (st : State)
    → bytes ≡ text_of (before ++ here ∷ []) ++ behind → is_one_line here ≡ true
    → run true same unread before ≡ Ok st → step true same st here ≡ Err out_of_order → IsOutOfOrder bytes (suc (length before))
out_of_order_here bytes before here behind st split one read wrong =
    let next = fits_unordered same st here wrong in
    let more : run false same unread (before ++ here ∷ []) ≡ Ok next.0 = run_more false same unread st before here (run_unordered same unread st before read) ∙ next.1 in
    let back = begins false next.0 (before ++ here ∷ []) more in
    record {
      before = before;
      here = here;
      behind = behind;
      split = split;
      place = refl;
      begun = begun_in_order before st read;
      fits = record {
        entities = entities_of next.0;
        behind = left_of next.0;
        writable = back.1.writable;
        split = text_of_entities next.0 ∙ ap (λ ls. ls ++ left_of next.0) back.0;
      };
      falls = λ begun. falls begun;
    }
  where
    falls : ¬ BeginInOrder (before ++ here ∷ [])
    falls begun =
        let front = front_read_in_order (before ++ here ∷ []) begun in
        let both : Err out_of_order ≡ Ok front.0 = sym wrong ∙ sym (run_more true same unread st before here read) ∙ front.1 in
        cc

-- ---- a whole text

pub whole_text : (bytes : List ℕ) (lines : List (List ℕ)) (es : List Entity) → bytes ≡ text_of lines → run true same unread lines ≡ Ok (between es)
    → (bytes ≡ text_of (text_lines es)) × (are_writable es ≡ true) × IsRising es
whole_text bytes lines es split read =
    let back = begins true (between es) lines read in
    (split ∙ ap text_of (sym back.0), back.1.writable, back.1.rising refl)
