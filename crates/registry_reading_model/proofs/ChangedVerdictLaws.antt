-- The same of a reading that changes types and numbers on the way in.
use Rattle.std.proofs.Common.{◌≡◌, ◌≢◌, ℕ, suc, Bool, true, List, [], ◌∷◌, ◌++◌, length, map, Result, Ok, Err, refl, sym, ap, ◌∙◌}
use Rattle.uno_model.specs.Entities.{Entity}
use Rattle.uno_model.specs.Registry.{IsRising}
use Rattle.registry_text_model.specs.Lines.{text_of}
use Rattle.registry_text_model.specs.Reading.{are_writable, text_lines, is_one_line, IsBadLine, IsOutOfOrder}
use Rattle.registry_reading_model.proofs.ChangeLaws.{state_changed, result_map, step_changed, run_changed}
use Rattle.registry_reading_model.proofs.VerdictLaws.{bad_here, cut_line, unfinished, out_of_order_here, whole_text}
use Rattle.registry_reading_model.specs.Changes.{Change, same, entity_changed}
use Rattle.registry_reading_model.specs.States.{State, unread, between, within, Wrong, bad, out_of_order, step, run}

-- what was read, before it was changed
pub run_before : (o : Bool) (c : Change) (lines : List (List ℕ)) (st : State) → run o c unread lines ≡ Ok st
    → (before : State) × (run o same unread lines ≡ Ok before) × (st ≡ state_changed c before)
run_before o c lines st read = by_run (run o same unread lines) refl
  where
    by_run : (r : Result State Wrong) → run o same unread lines ≡ r
        → (before : State) × (run o same unread lines ≡ Ok before) × (st ≡ state_changed c before)
    by_run (Err w) is =
        let both : Err w ≡ Ok st = ap (result_map (state_changed c)) (sym is) ∙ sym (run_changed o c lines) ∙ read in
        let worse : ⊥ = cc in
        absurd worse
    by_run (Ok before) is =
        let both : Ok (state_changed c before) ≡ Ok st = ap (result_map (state_changed c)) (sym is) ∙ sym (run_changed o c lines) ∙ read in
        (before, is, cc)

pub wrong_before : (o : Bool) (c : Change) (st before : State) (line : List ℕ) (w : Wrong) → st ≡ state_changed c before → step o c st line ≡ Err w
    → step o same before line ≡ Err w
wrong_before o c st before line w is wrong = by_step (step o same before line) refl
  where
    all : result_map (state_changed c) (step o same before line) ≡ Err w
    all = sym (step_changed o c before line) ∙ ap (λ s. step o c s line) (sym is) ∙ wrong

    by_step : (r : Result State Wrong) → step o same before line ≡ r → step o same before line ≡ Err w
    by_step (Err v) now = let both : Err v ≡ Err w = ap (result_map (state_changed c)) (sym now) ∙ all in let alike : v ≡ w = cc in now ∙ ap Err alike
    by_step (Ok next) now = let both : Ok (state_changed c next) ≡ Err w = ap (result_map (state_changed c)) (sym now) ∙ all in let worse : ⊥ = cc in absurd worse

pub bad_here_changed : (c : Change) (bytes : List ℕ) (before : List (List ℕ)) (here behind : List ℕ) (st : State)
    → bytes ≡ text_of (before ++ here ∷ []) ++ behind
    → is_one_line here ≡ true → run true c unread before ≡ Ok st → step true c st here ≡ Err bad → IsBadLine bytes (suc (length before))
bad_here_changed c bytes before here behind st split one read wrong =
    let was = run_before true c before st read in
    bad_here bytes before here behind was.0 split one was.1 (wrong_before true c st was.0 here bad was.2 wrong)

pub cut_line_changed : (c : Change) (bytes : List ℕ) (before : List (List ℕ)) (rest : List ℕ) (st : State) → bytes ≡ text_of before ++ rest
    → rest ≢ []
    → is_one_line rest ≡ true → run true c unread before ≡ Ok st → IsBadLine bytes (suc (length before))
cut_line_changed c bytes before rest st split some one read =
    let was = run_before true c before st read in
    cut_line bytes before rest was.0 split some one was.1

pub unfinished_changed : (c : Change) (bytes : List ℕ) (before : List (List ℕ)) (st : State) → bytes ≡ text_of before
    → run true c unread before ≡ Ok st
    → ((es : List Entity) → st ≢ between es) → IsBadLine bytes (suc (length before))
unfinished_changed c bytes before st split read owed =
    let was = run_before true c before st read in
    unfinished bytes before was.0 split was.1 (λ es is. owed (map (entity_changed c) es) (was.2 ∙ ap (state_changed c) is))

pub out_of_order_here_changed : (c : Change) (bytes : List ℕ) (before : List (List ℕ)) (here behind : List ℕ) (st : State)
    → bytes ≡ text_of (before ++ here ∷ []) ++ behind → is_one_line here ≡ true → run true c unread before ≡ Ok st
    → step true c st here ≡ Err out_of_order
    → IsOutOfOrder bytes (suc (length before))
out_of_order_here_changed c bytes before here behind st split one read wrong =
    let was = run_before true c before st read in
    out_of_order_here bytes before here behind was.0 split one was.1 (wrong_before true c st was.0 here out_of_order was.2 wrong)

pub whole_text_changed : (c : Change) (bytes : List ℕ) (lines : List (List ℕ)) (ks : List Entity) → bytes ≡ text_of lines
    → run true c unread lines ≡ Ok (between ks)
    → (es : List Entity) × (ks ≡ map (entity_changed c) es) × (bytes ≡ text_of (text_lines es)) × (are_writable es ≡ true) × IsRising es
whole_text_changed c bytes lines ks split read =
    let was = run_before true c lines (between ks) read in
    by_state was.0 was.1 was.2
  where
    by_state : (st : State) → run true same unread lines ≡ Ok st → between ks ≡ state_changed c st
        → (es : List Entity) × (ks ≡ map (entity_changed c) es) × (bytes ≡ text_of (text_lines es)) × (are_writable es ≡ true) × IsRising es
    by_state unread has is = let worse : ⊥ = cc in absurd worse
    by_state (within es e) has is = let worse : ⊥ = cc in absurd worse
    by_state (between es) has is =
        let whole = whole_text bytes lines es split has in
        (es, cc, whole.0, whole.1, whole.2)
