-- What is known of a text that was read up to a line, and what follows from the next line or from the end.
use Rattle.std.proofs.Common.{◌≡◌, ◌≢◌, ℕ, suc, ◌+◌, ◌≤◌, true, false, List, [], ◌∷◌, ◌++◌, length, map, Result, Ok, Err, refl, sym, ap, subst}
use Rattle.std.proofs.Common.{◌∙◌, arith}
use Rattle.std.proofs.lemmas.List.{append-nil, length-append}
use Rattle.std.specs.Str.{IsUtf8}
use Rattle.uno_model.specs.Entities.{Entity}
use Rattle.uno_model.specs.Registry.{IsRising}
use Rattle.registry_text_model.specs.Lines.{text_of}
use Rattle.registry_text_model.specs.Reading.{are_writable, text_lines, is_one_line, IsBadLine, IsOutOfOrder}
use Rattle.registry_reading_model.proofs.ChangedVerdictLaws.{run_before, bad_here_changed, cut_line_changed, unfinished_changed}
use Rattle.registry_reading_model.proofs.ChangedVerdictLaws.{out_of_order_here_changed, whole_text_changed}
use Rattle.registry_reading_model.proofs.RunsLaws.{runs}
use Rattle.registry_reading_model.proofs.StateRunLaws.{run_more, fits_unordered}
use Rattle.registry_reading_model.proofs.TextLaws.{line_is_utf8}
use Rattle.registry_reading_model.proofs.TextLinesLaws.{lines_back, lines_are_text}
use Rattle.registry_reading_model.proofs.VerdictLaws.{text_more, bad_here}
use Rattle.registry_reading_model.specs.Changes.{Change, same, entity_changed}
use Rattle.registry_reading_model.specs.Heads.{heads_in}
use Rattle.registry_reading_model.specs.States.{State, unread, between, Wrong, bad, out_of_order, step, run}
use Rattle.registry_reading_model.specs.TextLines.{lines_in, all_plain}

-- these lines stand in front of the rest, and were read so far
pub record ReadSoFar (bytes rest : List ℕ) (number : ℕ) (c : Change) (st : State) : Type 0 where
  pub before : List (List ℕ)
  pub split : bytes ≡ text_of before ++ rest
  pub place : number ≡ suc (length before)
  pub read : run true c unread before ≡ Ok st
  pub room : number + length rest ≤ suc (length bytes)

pub nothing_read : (bytes : List ℕ) (c : Change) → ReadSoFar bytes bytes 1 c unread
unfolding text_of run
nothing_read bytes c = record { before = []; split = refl; place = refl; read = refl; room = omega arith }

module _ (bytes rest : List ℕ) (number : ℕ) (c : Change) (st : State) (far : ReadSoFar bytes rest number c st) where
  -- the lines so far, the next one and what is behind it
  next_line : (here behind : List ℕ) → rest ≡ here ++ 10 ∷ behind → bytes ≡ text_of (far.before ++ here ∷ []) ++ behind
  next_line here behind cut = far.split ∙ ap (λ cs. text_of far.before ++ cs) cut ∙ sym (text_more far.before here behind)

  all_lines : rest ≡ [] → bytes ≡ text_of far.before
  all_lines none = far.split ∙ ap (λ cs. text_of far.before ++ cs) none ∙ append-nil (text_of far.before)

  bad_at : IsBadLine bytes (suc (length far.before)) → IsBadLine bytes number
  bad_at is = subst (IsBadLine bytes) (sym far.place) is

  -- ---- one line more

  pub one_read : (here behind : List ℕ) (next : State) → rest ≡ here ++ 10 ∷ behind → step true c st here ≡ Ok next
      → ReadSoFar bytes behind (number + 1) c next
  one_read here behind next cut read =
      let long : length rest ≡ length here + length (10 ∷ behind) = ap length cut ∙ length-append here (10 ∷ behind) in
      let more : length (far.before ++ here ∷ []) ≡ length far.before + 1 = length-append far.before (here ∷ []) in
      record {
        before = far.before ++ here ∷ [];
        split = next_line here behind cut;
        place = omega (arith, far.place, more);
        read = run_more true c unread st far.before here far.read ∙ read;
        room = omega (arith, far.room, long);
      }

  pub bad_read : (here behind : List ℕ) → rest ≡ here ++ 10 ∷ behind → is_one_line here ≡ true → step true c st here ≡ Err bad → IsBadLine bytes number
  bad_read here behind cut one wrong = bad_at (bad_here_changed c bytes far.before here behind st (next_line here behind cut) one far.read wrong)

  pub order_read : (here behind : List ℕ) → rest ≡ here ++ 10 ∷ behind → is_one_line here ≡ true → step true c st here ≡ Err out_of_order
      → IsOutOfOrder bytes number
  order_read here behind cut one wrong =
      subst (IsOutOfOrder bytes) (sym far.place)
      (out_of_order_here_changed c bytes far.before here behind st (next_line here behind cut) one far.read wrong)

  -- a line that is no text is bad in every state
  pub no_text_read : (here behind : List ℕ) → rest ≡ here ++ 10 ∷ behind → is_one_line here ≡ true → ¬ IsUtf8 here → IsBadLine bytes number
  no_text_read here behind cut one no_text =
      let was = run_before true c far.before st far.read in
      bad_at (bad_here bytes far.before here behind was.0 (next_line here behind cut) one was.1 (is_bad was.0))
    where
      is_bad : (before : State) → step true same before here ≡ Err bad
      is_bad before = by_step (step true same before here) refl
        where
          by_step : (r : Result State Wrong) → step true same before here ≡ r → r ≡ Err bad
          by_step (Ok next) is = absurd (no_text (line_is_utf8 true before next here is))
          by_step (Err bad) is = refl
          by_step (Err out_of_order) is =
              let fits = fits_unordered same before here is in
              absurd (no_text (line_is_utf8 false before fits.0 here fits.1))

  -- ---- the end

  pub cut_read : is_one_line rest ≡ true → rest ≢ [] → IsBadLine bytes number
  cut_read one some = bad_at (cut_line_changed c bytes far.before rest st far.split some one far.read)

  pub unfinished_read : rest ≡ [] → ((es : List Entity) → st ≢ between es) → IsBadLine bytes number
  unfinished_read none owed = bad_at (unfinished_changed c bytes far.before st (all_lines none) far.read owed)

  module _ (ks : List Entity) (none : rest ≡ []) (is : st ≡ between ks) where
    pub whole_read : (es : List Entity) × (ks ≡ map (entity_changed c) es) × (bytes ≡ text_of (text_lines es)) × (are_writable es ≡ true) × IsRising es
    whole_read = whole_text_changed c bytes far.before ks (all_lines none) (far.read ∙ ap Ok is)

    pub lines_read : (lines_in bytes ≡ far.before) × (all_plain (lines_in bytes) ≡ true)
    lines_read =
        let text = lines_are_text true c far.before st far.read in
        let lines : lines_in bytes ≡ far.before = ap lines_in (all_lines none) ∙ lines_back far.before text.0 in
        (lines, ap all_plain lines ∙ text.1)

-- the lines of the text of entities are theirs, and so are the headers
pub lines_of_entities : (es : List Entity) → are_writable es ≡ true → lines_in (text_of (text_lines es)) ≡ text_lines es
lines_of_entities es writable =
    lines_back (text_lines es) (lines_are_text false same (text_lines es) _ (runs false es writable (λ ordered. let worse : ⊥ = cc in absurd worse))).0

pub heads_read : (bytes : List ℕ) (es : List Entity) → bytes ≡ text_of (text_lines es) → are_writable es ≡ true
    → heads_in (lines_in bytes) ≡ heads_in (text_lines es)
heads_read bytes es text writable = ap heads_in (ap lines_in text ∙ lines_of_entities es writable)
