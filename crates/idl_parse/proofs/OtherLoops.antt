-- A loop that reads others behind separators, where a last separator may stand with none behind it.
use Rattle.std.proofs.Common.{◌≡◌, ℕ, zero, suc, ◌<◌, ◌≤◌, Bool, true, false, List, [], ◌∷◌, ◌++◌, length, Option, None, Some, Result, Ok, Err}
use Rattle.std.proofs.Common.{refl, sym, ap, subst, ◌∙◌, append_assoc, append-nil, le_refl, arith, drop, codes}
use Rattle.grammar_model.proofs.Choices.{chosen_first, chosen_other}
use Rattle.grammar_model.specs.Readings.{Reads, next, ◌>>=◌, others_at, others, joined, image, seq, optional, empty}
use Rattle.grammar_model.specs.declared.fault.Fault.{Fault}
use Rattle.idl_model.specs.Grammar.{Tokens}
use Rattle.idl_model.specs.GrammarReading.{is_identifier, is_mark, mark}
use Rattle.idl_model.specs.PlacedTokens.{PlacedToken}
use Rattle.idl_text_model.specs.Tokens as token
use Rattle.idl_parse.proofs.TokenLemmas.{next_left, one_shorter, terminal_read}
use Rattle.idl_parse.specs.Reading.{Fails}
use Rattle.idl_parse.specs.declared.stop.Stop.{Stop}
use Rattle.idl_parse.specs.declared.stop.Stop.TheVariants.{NoMemory, At}

module _ {T X Y : Type 0} (c d : Option T → Bool) (r : Reads T X) (s : Reads T Y) where
  abbrev Others : Type 0
  Others = Result ((List X × Option Y) × List T) Fault

  -- the items of others, with those before them in front
  abbrev pub items_behind : List X → Others → Result (List X × List T) Fault
  items_behind front read = read >>= λ z. Ok (front ++ z.0.0, z.1)

  -- these were read, and what is left goes on to the whole
  pub record OthersTo (total : Result (List X × List T) Fault) (front : List X) (rest : List T) : Type 0 where
    pub fuel : ℕ
    pub enough : length rest ≤ fuel
    pub same : items_behind front (others_at fuel c d r s rest) ≡ total

  pub others_begin : (front : List X) (toks : List T) → OthersTo (image (λ z. front ++ z.0) (others c d r s) toks) front toks
  others_begin front toks = record { fuel = length toks; enough = le_refl (length toks); same = refl }

  abbrev item_part : ℕ → Reads T (X × (List X × Option Y))
  item_part fuel = seq r (others_at fuel c d r s)

  abbrev with_separator : ℕ → Reads T (List X × Option Y)
  with_separator fuel = image joined (seq s (optional d (item_part fuel)))

  no_more : (fuel : ℕ) (rest : List T) → c (next rest) ≡ false → others_at fuel c d r s rest ≡ Ok (([], None), rest)
  unfolding others_at
  no_more zero rest off = refl
  no_more (suc fuel) rest off = chosen_other c (with_separator fuel) (empty ([], None)) rest off

  -- no separator: what was read is all
  pub others_done : (total : Result (List X × List T) Fault) (front : List X) (rest : List T) → OthersTo total front rest → c (next rest) ≡ false
      → total ≡ Ok (front, rest)
  others_done total front rest to off =
      sym to.same ∙ ap (items_behind front) (no_more to.fuel rest off) ∙ ap (λ k. Ok (k, rest)) (append-nil front)

  -- a part in front of what is read, and what is made of what is read
  abbrev with_first : {A B : Type 0} → A → Result (B × List T) Fault → Result ((A × B) × List T) Fault
  with_first a read = read >>= λ z. Ok ((a, z.0), z.1)

  abbrev imaged : {A B : Type 0} → (A → B) → Result (A × List T) Fault → Result (B × List T) Fault
  imaged g read = read >>= λ z. Ok (g z.0, z.1)

  abbrev Last : Type 0
  Last = Option (X × (List X × Option Y))

  abbrev joined_to : Y → Last → List X × Option Y
  joined_to y last = joined (y, last)

  -- behind a separator
  abbrev behind_separator : ℕ → Y → List T → Others
  behind_separator fuel y between = imaged (joined_to y) (optional d (item_part fuel) between)

  regrouped : (y : Y) (read : Result (Last × List T) Fault) → imaged joined (with_first y read) ≡ imaged (joined_to y) read
  regrouped y (Ok z) = refl
  regrouped y (Err e) = refl

  one_separator : (fuel : ℕ) (rest between : List T) (y : Y) → c (next rest) ≡ true → s rest ≡ Ok (y, between)
      → others_at (suc fuel) c d r s rest ≡ behind_separator fuel y between
  unfolding others_at
  one_separator fuel rest between y on is =
      chosen_first c (with_separator fuel) (empty ([], None)) rest on
      ∙ ap (λ (k : Result (Y × List T) Fault). imaged joined (k >>= λ z. with_first z.0 (optional d (item_part fuel) z.1))) is
      ∙ regrouped y (optional d (item_part fuel) between)

  fuel_left : (total : Result (List X × List T) Fault) (front : List X) (rest between : List T) (y : Y) → OthersTo total front rest → c (next rest) ≡ true
      → s rest ≡ Ok (y, between) → length between < length rest
      → (fuel : ℕ) × (length between ≤ fuel) × (items_behind front (behind_separator fuel y between) ≡ total)
  fuel_left total front rest between y to on is shorter = of_fuel to.fuel to.enough to.same
    where
      of_fuel : (fuel : ℕ) → length rest ≤ fuel → items_behind front (others_at fuel c d r s rest) ≡ total
          → (fuel : ℕ) × (length between ≤ fuel) × (items_behind front (behind_separator fuel y between) ≡ total)
      of_fuel zero short same = let bad : ⊥ = omega (arith, short, shorter) in absurd bad
      of_fuel (suc fuel) short same = (fuel, omega (arith, short, shorter), ap (items_behind front) (sym (one_separator fuel rest between y on is)) ∙ same)

  -- a last separator
  pub others_last : (total : Result (List X × List T) Fault) (front : List X) (rest between : List T) (y : Y) → OthersTo total front rest → c (next rest) ≡ true
      → s rest ≡ Ok (y, between) → length between < length rest → d (next between) ≡ false → total ≡ Ok (front, between)
  others_last total front rest between y to on is shorter off =
      let left = fuel_left total front rest between y to on is shorter in
      let none : optional d (item_part left.0) between ≡ Ok (None, between) = chosen_other d (image Some (item_part left.0)) (empty None) between off in
      sym left.2 ∙ ap (λ (k : Result (Last × List T) Fault). items_behind front (imaged (joined_to y) k)) none
      ∙ ap (λ k. Ok (k, between)) (append-nil front)

  with_item : (front : List X) (y : Y) (x : X) (read : Others)
      → items_behind front (imaged (joined_to y) (imaged Some (with_first x read))) ≡ items_behind (front ++ (x ∷ [])) read
  with_item front y x (Ok z) = ap (λ k. Ok (k, z.1)) (sym (append_assoc front (x ∷ []) z.0.0))
  with_item front y x (Err e) = refl

  -- what comes of an item that is read
  abbrev with_one : ℕ → List X → Y → Result (X × List T) Fault → Result (List X × List T) Fault
  with_one fuel front y k = items_behind front (imaged (joined_to y) (imaged Some (k >>= λ z. with_first z.0 (others_at fuel c d r s z.1))))

  -- a separator and an item
  pub others_on : (total : Result (List X × List T) Fault) (front : List X) (rest between behind : List T) (y : Y) (x : X) → OthersTo total front rest
      → c (next rest) ≡ true → s rest ≡ Ok (y, between) → length between < length rest → d (next between) ≡ true → r between ≡ Ok (x, behind)
      → length behind < length between → OthersTo total (front ++ (x ∷ [])) behind
  others_on total front rest between behind y x to on is shorter item found less =
      let left = fuel_left total front rest between y to on is shorter in
      let first : optional d (item_part left.0) between ≡ (image Some (item_part left.0)) between = chosen_first d (image Some (item_part left.0)) (empty None)
      between item in
      record {
        fuel = left.0;
        enough = omega (arith, left.1, less);
        same = sym (with_item front y x (others_at left.0 c d r s behind))
            ∙ ap (with_one left.0 front y) (sym found) ∙ ap (λ (k : Result (Last × List T) Fault). items_behind front (imaged (joined_to y) k)) (sym first)
            ∙ left.2;
      }

  -- an item goes wrong, and so does all
  pub others_wrong : (total : Result (List X × List T) Fault) (front : List X) (rest between : List T) (y : Y) (e : Fault) → OthersTo total front rest
      → c (next rest) ≡ true → s rest ≡ Ok (y, between) → length between < length rest → d (next between) ≡ true → r between ≡ Err e → total ≡ Err e
  others_wrong total front rest between y e to on is shorter item wrong =
      let left = fuel_left total front rest between y to on is shorter in
      let first : optional d (item_part left.0) between ≡ (image Some (item_part left.0)) between = chosen_first d (image Some (item_part left.0)) (empty None)
      between item in
      sym left.2 ∙ ap (λ (k : Result (Last × List T) Fault). items_behind front (imaged (joined_to y) k)) first ∙ ap (with_one left.0 front y) wrong

-- ---- the same in the parser, behind commas
module _ {X : Type 0} (r : Reads PlacedToken X) where
  -- the items of others, behind those before them
  abbrev pub behind_commas : List X → Reads PlacedToken (List X)
  behind_commas before = image (λ z. before ++ z.0) (others (is_mark (codes ",")) is_identifier r (mark (codes ",")))

  pub record HasItems (before : List X) (start : Tokens) (now : List X) (left : Tokens) : Type 0 where
    pub far : OthersTo (is_mark (codes ",")) is_identifier r (mark (codes ",")) (behind_commas before start) now left
    pub shorter : length left ≤ length start

  pub begin_items : (before : List X) (start : Tokens) → HasItems before start before start
  begin_items before start = record
      { far = others_begin (is_mark (codes ",")) is_identifier r (mark (codes ",")) before start; shorter = le_refl (length start) }

  comma_read : (left between : Tokens) → true ≡ is_mark (codes ",") (next left) → between ≡ drop 1 left → mark (codes ",") left ≡ Ok (tt, between)
  comma_read left between on skipped = terminal_read (token.mark (codes ",")) left (sym on) ∙ ap (λ k. Ok (tt, k)) (sym skipped)

  comma_less : (left between : Tokens) → true ≡ is_mark (codes ",") (next left) → between ≡ drop 1 left → length between < length left
  comma_less left between on skipped =
      let less = one_shorter left (next_left (token.mark (codes ",")) left (sym on)) in
      subst (λ k. length k < length left) (sym skipped) less

  pub more_items : (before : List X) (start : Tokens) (now later : List X) (left between behind : Tokens) (x : X) → HasItems before start now left
      → true ≡ is_mark (codes ",") (next left) → between ≡ drop 1 left → true ≡ is_identifier (next between) → r between ≡ Ok (x, behind)
      → length behind < length between → later ≡ now ++ (x ∷ []) → HasItems before start later behind
  more_items before start now later left between behind x has on skipped item found less pushed =
      let first = comma_less left between on skipped in
      record {
        far = subst (λ (k : List X). OthersTo (is_mark (codes ",")) is_identifier r (mark (codes ",")) (behind_commas before start) k behind) (sym pushed)
            (others_on (is_mark (codes ",")) is_identifier r (mark (codes ",")) (behind_commas before start) now left between behind tt x has.far (sym on)
            (comma_read left between on skipped) first (sym item) found less);
        shorter = let within = has.shorter in omega (arith, within, first, less);
      }

  pub last_comma : (before : List X) (start : Tokens) (now : List X) (left between : Tokens) → HasItems before start now left
      → true ≡ is_mark (codes ",") (next left) → between ≡ drop 1 left → false ≡ is_identifier (next between) → behind_commas before start ≡ Ok (now, between)
  last_comma before start now left between has on skipped none =
      others_last (is_mark (codes ",")) is_identifier r (mark (codes ",")) (behind_commas before start) now left between tt has.far (sym on)
      (comma_read left between on skipped) (comma_less left between on skipped) (sym none)

  pub all_items : (before : List X) (start : Tokens) (now : List X) (left : Tokens) → HasItems before start now left → false ≡ is_mark (codes ",") (next left)
      → behind_commas before start ≡ Ok (now, left)
  all_items before start now left has off =
      others_done (is_mark (codes ",")) is_identifier r (mark (codes ",")) (behind_commas before start) now left has.far (sym off)

  pub lost_items : (before : List X) (start : Tokens) (now : List X) (left between : Tokens) (stop : Stop) → HasItems before start now left
      → true ≡ is_mark (codes ",") (next left) → between ≡ drop 1 left → true ≡ is_identifier (next between) → Fails stop (r between)
      → Fails stop (behind_commas before start)
  lost_items before start now left between NoMemory has on skipped item wrong = tt
  lost_items before start now left between (At f) has on skipped item wrong =
      others_wrong (is_mark (codes ",")) is_identifier r (mark (codes ",")) (behind_commas before start) now left between tt f has.far (sym on)
      (comma_read left between on skipped) (comma_less left between on skipped) (sym item) wrong
